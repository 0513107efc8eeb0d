-- What a call says of its own, beside what `run` says.
use Rattle.std.specs.Prelude.{◌++◌, codes}
use Rattle.hack_base.specs.Names.{Name}
use Rattle.hack_base.specs.PathTexts.{under_of}
use Rattle.hack_recovery.specs.declared.fault.CallFault.{CallFault}
use Rattle.hack_recovery.specs.declared.fault.CallFault.TheVariants.{Memory, Busy, Unlocked}

-- ---- why a call isn't performed

-- the text of an error
abbrev pub text_of_fault : CallFault → Name
text_of_fault Memory = codes "out of memory"
text_of_fault Busy = codes "another call is editing the manifests of this workspace"
text_of_fault Unlocked = codes "there is a journal of edited manifests, and the folder of the workspace can't be locked"

-- this path can't be looked at
abbrev pub unseen_text : Name → Name
unseen_text path = codes "failed to read from file `" ++ (path ++ codes "`")

-- the same, where the call goes on
abbrev pub unsure_text : Name → Name
unsure_text path = codes "failed to read from file `" ++ (path ++ codes "`: edits of an interrupted call may stand")

-- another call edits manifests meanwhile
abbrev pub beside_text : Name
beside_text = codes "another call is editing the manifests of this workspace: this one sees its edits"

-- edits may stand of an interrupted call, and nobody restores them
abbrev pub unlocked_text : Name
unlocked_text = codes "edits of an interrupted call may stand: the folder of the workspace can't be locked"

-- why nothing is restored: another call has what is left, or nothing is left
abbrev pub unrestored_text : Name
unrestored_text = codes "another call is editing the manifests of this workspace, and restores them"

abbrev pub nothing_left_text : Name
nothing_left_text = codes "nothing is left to restore"

-- nobody restores the manifests where the call ends early
abbrev pub unwatched_text : Name
unwatched_text = codes "no guard could be started: where this call is interrupted, the next one restores the manifests"

-- ---- what an interrupted call left

-- a file was restored; paths are shown from the current folder
abbrev pub restored_text : Name → Name → Name
restored_text dir path = codes "restored `" ++ (under_of path dir ++ codes "` after an interrupted call")

-- a lockfile isn't what its copy is
abbrev pub left_text : Name → Name → Name
left_text dir path = codes "left `" ++ (under_of path dir ++ codes "` as it is: in the interrupted call cargo may have changed it")

-- what somebody has to know who puts back by hand what a journal tells
abbrev pub row_text : Name
row_text = codes "a journal goes on in files that are named as it is, with `~1`, `~2` and so on behind that, which are to be removed with it"

-- a journal tells of a file that no call edits
abbrev pub stranger_text : Name → Name → Name
stranger_text journal path = codes "`" ++ (journal ++ (codes "` tells of `" ++ (path ++ codes "`, which no call edits; put back by hand what it tells, and remove it")))

-- a lockfile or its copy can't be read or written
abbrev pub unsettled_text : Name → Name
unsettled_text path = codes "failed to read or write file `" ++ (path ++ codes "`")

-- ---- what stays

-- a path stays, and what comes of it
abbrev pub stay_text : Name → Name → Name
stay_text path how = codes "`" ++ (path ++ how)

abbrev pub journal_stays : Name
journal_stays = codes "` stays: the next call brings back what it tells"

abbrev pub journal_may_stay : Name
journal_may_stay = codes "` may stay: then the next call brings back what it tells"

abbrev pub copy_left : Name
copy_left = codes "` stays: the next call removes it"

abbrev pub copy_keeps : Name
copy_keeps = codes "` stays: it has what the lockfile held, and the next call removes it"

abbrev pub copy_may_keep : Name
copy_may_keep = codes "` may stay: then it has what the lockfile held, and the next call removes it"

-- an edit was refused for the journal
abbrev pub unkept_text : Name → Name
unkept_text journal = codes "an edit was refused, since what it replaces can't be kept in `" ++ (journal ++ codes "`")
