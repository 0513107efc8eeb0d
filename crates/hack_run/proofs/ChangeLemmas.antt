-- Changes of a call, put together from those of its stages.
use Rattle.std.proofs.Common.{◌≡◌, ◌⊎◌, ◌<◌, ◌∙◌, inl, inr, refl, sym, subst, ap, arith, string_bytes, ℕ, Bool, true, false, List, [], ◌∷◌, ◌++◌, cond, get_or, length, map, Option, Some, None, Result, Ok, Err, OnOk, IfOk, IsTrue}
use Rattle.std.specs.Prelude.{◌||◌, IfSome, MatchBool, MatchOption, MatchResult, not}
use Rattle.std.specs.List.{find}
use Rattle.std.specs.Result.{is_err, result_unwrap_or}
use Rattle.std.specs.Str.{bytes_eq}
use Rattle.std.proofs.lemmas.List.{length-append, map-append}
use Rattle.hack_base.specs.Names.{Name}
use Rattle.hack_base.specs.Notes.{Note}
use Rattle.hack_files.specs.Files.{Change, Contents, KeepsAll, Makes, after, after_change}
use Rattle.hack_files.specs.Restore.{AreSafe, Brings, ComesBackBut, Kept, Tried, failed, is_kept, made_and_failed, none, paths, registered_files, write_of, written}
use Rattle.hack_files.specs.declared.fs.Files.{Ghosts as Filing}
use Rattle.hack_files.specs.declared.restore.Manager.{Manager}
use Rattle.hack_files.specs.TraceLaws.{makes_more, makes_still}
use Rattle.hack_load.specs.Answers.{AreAnswers, IsAskFault, IsLoaded, LoadsFromMetadata, LoadsTo}
use Rattle.hack_load.specs.ContextOf.{IsContextFrom}
use Rattle.hack_load.specs.Contexts.{ContextRecord}
use Rattle.hack_load.specs.declared.answers.Answers.{Answers}
use Rattle.hack_load.specs.declared.fault.ContextFault.{ContextFault}
use Rattle.hack_load.specs.declared.fault.ContextFault.TheVariants as faults
use Rattle.hack_load.specs.declared.loaded.Loaded.{Loaded}
use Rattle.hack_metadata.specs.QuestionCalls.{EndsSo, Stage, WroteWhereKnown, taken}
use Rattle.hack_metadata.specs.Requests.{question}
use Rattle.hack_metadata.specs.declared.ask.fault.AskFault.{AskFault}
use Rattle.hack_metadata.specs.declared.metadata.Metadata.{Metadata}
use Rattle.hack_prepare.specs.EditSteps.{KeepsInOrder, KeepsOnly}
use Rattle.hack_prepare.specs.Prepared.{MemberManifest, edits_root, is_root}
use Rattle.hack_prepare.specs.PreparedView.{AreWritesIn, IsTouchedIn, edits_in, member_manifests_in, wanted_in}
use Rattle.hack_prepare.specs.Writes.{IsOneIf, MakesSome, WritesRoot}
use Rattle.hack_process.specs.Calls.{Call}
use Rattle.hack_process.specs.CommandTexts.{Command}
use Rattle.hack_term.specs.declared.term.Term.{Term}
use Rattle.hack_versions.specs.declared.rustup.Rustup.{Rustup}
use Rattle.hack_words.specs.ParseAnswers.{AnswersCommandLine as IsAnswer, around_of}
use Rattle.hack_words.specs.CommandLine.{ComesTo}
use Rattle.hack_words.specs.Start.{wants_rustup}
use Rattle.hack_words.specs.declared.cli.args.Args.{Args}
use Rattle.hack_words.specs.declared.cli.env.Env.{Env}
use Rattle.hack_words.specs.declared.cli.parse.Parsed.{Parsed}
use Rattle.hack_words.specs.declared.cli.parse.Parsed.TheVariants as parsed
use Rattle.hack_run.specs.CallChanges.{AreChanges, AreKept, EditsAndBack, IsChangeTrace, LoadsAndChanges, ObeysAndChanges, TriesToUndo, UndoesEdits}
use Rattle.hack_run.specs.CallTrace.{PerformsPlan, warned_by}
use Rattle.hack_run.specs.Internal.{EditsAndPerforms, EditsDone, KeepsAsMade}
use Rattle.hack_run.specs.Questions.{AsksRustup}
use Rattle.hack_files.specs.View.{FilesView}
use Rattle.hack_run.specs.Worlds.{HostView, World, host_at, world_at}
use Rattle.hack_run.proofs.BackLemmas.{brings_none, none_told}
use Rattle.hack_run.proofs.TraceLemmas.{on_ok, plan_told, quiet_before}

-- ---- writes that put files back

-- where none failed, all were made
tried_whole : {files : List Kept} {made : List Change} {k : ℕ} → Tried files made k → k ≡ 0 → made ≡ map write_of files
tried_whole none z = refl
tried_whole (written {files} file t) z = ap (λ cs. cs ++ write_of file ∷ []) (tried_whole t z) ∙ sym (map-append write_of files (file ∷ []))
tried_whole (failed file t) z = absurd (omega (arith, z))
tried_whole (made_and_failed file t) z = absurd (omega (arith, z))

-- the same changes of files that hold the same leave the same
after_same : (cs : List Change) (m n : Contents) → KeepsAll m n → KeepsAll (after cs m) (after cs n)
after_same [] m n same = same
after_same (c ∷ cs) m n same = after_same cs (after_change c m) (after_change c n) (λ q. ap (λ v. cond (bytes_eq c.path q) c.bytes v) (same q))

-- what a path holds after these changes
after_held : (cs : List Change) (first asked prepared : Contents) → KeepsAll first asked → prepared ≡ after cs asked → (q : Name) → prepared q ≡ after cs first q
after_held cs first asked prepared same is q = ap (λ (f : Contents). f q) is ∙ after_same cs first asked same q

-- files that are kept are those of the start, where nothing was changed before
safe_first : (files : List Kept) (cs : List Change) (first asked prepared : Contents) → KeepsAll first asked → prepared ≡ after cs asked → AreSafe files asked prepared → AreSafe files first (after cs first)
safe_first files cs first asked prepared same is safe = record {
  distinct = safe.distinct;
  held = λ k d lt. sym (same (get_or files k d).path) ∙ safe.held k d lt;
  others = λ q free. sym (after_held cs first asked prepared same is q) ∙ safe.others q free ∙ same q;
}

-- no file is kept at first
kept_later : (P : Name → Type 0) (before now : List Kept) → before ≡ [] → ((q : Name) → is_kept now q ≡ true → (is_kept before q ≡ true) ⊎ P q) → (q : Name) → is_kept now q ≡ true → P q
kept_later P before now empty only q kept = go (only q kept)
  where
    none_at : (files : List Kept) → files ≡ [] → is_kept files q ≡ true → P q
    none_at [] e h = let no : false ≡ true = h in absurd (cc)
    none_at (f ∷ files) e h = absurd (cc)

    go : (is_kept before q ≡ true) ⊎ P q → P q
    go (inl was) = none_at before empty was
    go (inr p) = p

-- ---- the edits, where nothing was changed before

one_if : (asked : Bool) (P Q : Change → Type 0) (made : List Change) → ((c : Change) → P c → Q c) → IsOneIf asked P made → IsOneIf asked Q made
one_if true P Q made f h = (h.0, f h.0 h.1, h.2)
one_if false P Q made f h = h

read_root : (tells : Type 0) (a b : Contents) (q text : Name) (member : Option MemberManifest) → (tells → KeepsAll a b) → MatchOption member (tells → b q ≡ Some text) (λ m. text ≡ m.text) → MatchOption member (tells → a q ≡ Some text) (λ m. text ≡ m.text)
read_root tells a b q text None same h = λ t. sym (same t q) ∙ h t
read_root tells a b q text (Some m) same h = h

writes_first : (tells : Type 0) (cx : ContextRecord) (a b : Contents) (made : List Change) → (tells → KeepsAll a b) → AreWritesIn cx tells b made → AreWritesIn cx tells a made
writes_first tells cx a b made same h =
    let w = wanted_in cx in
    let ms = member_manifests_in cx in
    record {
      alone = h.alone;
      root = h.root;
      members = h.members;
      ends = one_if (edits_root w ms) (WritesRoot tells w ms b) (WritesRoot tells w ms a) h.root
          (λ c r. record { text = r.text; turned = r.turned; read = read_root tells a b w.root r.text (find (is_root w) ms) same r.read; edit = r.edit; is = r.is }) h.ends;
      is = h.is;
    }

-- ---- the questions

module _ (tells : Type 0) (args : Args) (env : Env) (held : Contents) (before now later : ℕ) where
  -- what was loaded says nothing of calls that failed
  loaded_at : (m : Metadata) (mid new : List Call) (r : Result Loaded ContextFault) (l : Loaded) → r ≡ Ok l → LoadsFromMetadata tells args env held before now m mid new r → LoadsFromMetadata tells args env held before later m mid new r
  loaded_at m mid new (Ok x) l is h = h
  loaded_at m mid new (Err e) l is h = absurd (cc)

  -- where all was loaded, of the writes of the questions something weaker holds
  loads_by : (V W : Stage → List Change → Type 0) (minor : ℕ) (host : Option Name) (old new : List Call) (r : Result Loaded ContextFault) (l : Loaded) → r ≡ Ok l
      → ((c : Command) (text : Name) (n : ℕ) (made : List Change) → V (taken c text n) made → W (taken c text n) made)
      → LoadsTo tells args env held before now V minor host old new r → LoadsTo tells args env held before later W minor host old new r
  loads_by V W minor host old new r l is f h = go h.asked h.ends h.follows
    where
      go : (asked : Result Metadata AskFault) → EndsSo tells (question args env minor host) held old h.mid V asked
          → MatchResult asked (λ m. LoadsFromMetadata tells args env held before now m h.mid new r) (λ e. (new ≡ h.mid) × (fault : ContextFault) × IsAskFault e fault × (r ≡ Err fault))
          → LoadsTo tells args env held before later W minor host old new r
      go (Ok m) e k = record { asked = Ok m; mid = h.mid; ends = (e.0, e.1, e.2, e.3, e.4, f e.0 e.1 e.2 e.3 e.5, e.6); follows = loaded_at m h.mid new r l is k }
      go (Err x) e k = let no : ◌≡◌ {A = Result Loaded ContextFault} (Err k.1) (Ok l) = sym k.3 ∙ is in absurd (cc)

  answers_by : (V W : Stage → List Change → Type 0) (old new : List Call) (a : Answers) (l : Loaded) → a.loaded ≡ Ok l
      → ((c : Command) (text : Name) (n : ℕ) (made : List Change) → V (taken c text n) made → W (taken c text n) made)
      → AreAnswers tells V args env held before now old new a → AreAnswers tells W args env held before later old new a
  answers_by V W old new a l is f (inl h) = inl (record { host = h.host; mid = h.mid; own = h.own; loads = loads_by V W (result_unwrap_or a.cargo_version 0) h.host h.mid new a.loaded l is f h.loads })
  answers_by V W old new a l is f (inr h) = let no : ◌≡◌ {A = Result Loaded ContextFault} (Err faults.Memory) (Ok l) = sym h.0 ∙ is in absurd (cc)

-- ---- all changes

pub by_bool : (b : Bool) (X Y : Type 0) → (b ≡ true → X) → (b ≡ false → Y) → MatchBool b X Y
by_bool true X Y x y = x refl
by_bool false X Y x y = y refl

held_lockfile : (before now : Option (List ℕ)) (P : Type 0) → before ≡ now → IfSome before (λ _. P) → IfSome now (λ _. P)
held_lockfile before now P same h = subst (λ (o : Option (List ℕ)). IfSome o (λ _. P)) same h

-- the files that are kept after edits, where they are to come back
kept_after : (tells : Type 0) (args : Args) (cx : ContextRecord) (first asked prepared : Contents) (before now : Manager) (edits : List Change)
    → (tells → KeepsAll first asked) → prepared ≡ after edits asked → registered_files before ≡ [] → before.needs_restore ≡ not args.remove_dev_deps → KeepsAsMade cx edits before now → args.remove_dev_deps ≡ false
    → (tells → args.remove_dev_deps ≡ false → AreSafe (registered_files now) asked prepared) → KeepsOnly (IsTouchedIn cx) before now
    → (tells → before.needs_restore ≡ true → edits_in cx ≡ true → IfSome (prepared (wanted_in cx).lockfile) (λ _. is_kept (registered_files now) (wanted_in cx).lockfile ≡ true))
    → AreKept tells cx first edits (registered_files now)
kept_after tells args cx first asked prepared before now edits same is empty needs order returns safe only lockfile =
    let path = (wanted_in cx).lockfile in
    record {
      order = subst (λ (files : List Kept). KeepsInOrder path edits (paths files) (paths (registered_files now))) empty (order (needs ∙ ap not returns));
      safe = λ t. safe_first (registered_files now) edits first asked prepared (same t) is (safe t returns);
      lockfile = λ t edited. held_lockfile (prepared path) (after edits first path) (is_kept (registered_files now) path ≡ true) (after_held edits first asked prepared (same t) is path) (lockfile t (needs ∙ ap not returns) edited);
      only = kept_later (IsTouchedIn cx) (registered_files before) (registered_files now) empty only;
    }

-- what is written back undoes the edits, unless these stay
undone : (tells : Type 0) (args : Args) (cx : ContextRecord) (first asked prepared : Contents) (before now : Manager) (edits back : List Change)
    → cx.args ≡ args → (tells → KeepsAll first asked) → prepared ≡ after edits asked → back ≡ map write_of (registered_files now) → registered_files before ≡ [] → before.needs_restore ≡ not args.remove_dev_deps → KeepsAsMade cx edits before now
    → (args.remove_dev_deps ≡ true → registered_files now ≡ []) → (tells → args.remove_dev_deps ≡ false → AreSafe (registered_files now) asked prepared) → KeepsOnly (IsTouchedIn cx) before now
    → (tells → before.needs_restore ≡ true → edits_in cx ≡ true → IfSome (prepared (wanted_in cx).lockfile) (λ _. is_kept (registered_files now) (wanted_in cx).lockfile ≡ true))
    → MatchBool cx.args.remove_dev_deps (back ≡ []) (UndoesEdits tells cx first edits back)
undone tells args cx first asked prepared before now edits back of same is wrote empty needs order unkept safe only lockfile =
    by_bool cx.args.remove_dev_deps (back ≡ []) (UndoesEdits tells cx first edits back)
    (λ stay. wrote ∙ ap (map write_of) (unkept (ap (λ (a : Args). a.remove_dev_deps) (sym of) ∙ stay)))
    (λ back. record {
      files = registered_files now;
      writes = wrote;
      kept = kept_after tells args cx first asked prepared before now edits same is empty needs order (ap (λ (a : Args). a.remove_dev_deps) (sym of) ∙ back) safe only lockfile;
    })

-- the changes of the questions, the edits, and what is written back
made_all : (tells : Type 0) (cx : ContextRecord) (first asked prepared last : FilesView) (made edits back : List Change) → (tells → KeepsAll first.held asked.held) → AreWritesIn cx tells asked.held edits
    → MatchBool cx.args.remove_dev_deps (back ≡ []) (UndoesEdits tells cx first.held edits back) → Makes made first.trace asked.trace first.held asked.held → Makes edits asked.trace prepared.trace asked.held prepared.held
    → Makes back prepared.trace last.trace prepared.held last.held → AreChanges tells cx made first last
made_all tells cx first asked prepared last made edits back same wrote un a b d = record {
  edits = edits;
  back = back;
  edited = writes_first tells cx first.held asked.held edits same wrote;
  undone = un;
  are = makes_more made (edits ++ back) first.trace asked.trace last.trace first.held asked.held last.held a
      (makes_more edits back asked.trace prepared.trace last.trace asked.held prepared.held last.held b d);
}

-- the edits of a context, and its plan
pub follows_changes : {T E : Type 0} (tells told whole quiet : Type 0) (r : Result T E) (args : Args) (answers : Answers) (rustup : Name) (before now : Manager) (old new : World) (cx : ContextRecord) → IsContextFrom args answers cx
    → (whole → MakesSome (λ made. AreWritesIn cx told old.files.held made × KeepsAsMade cx made before now) old.files.trace new.files.trace old.files.held new.files.held) → KeepsOnly (IsTouchedIn cx) before now
    → (told → before.needs_restore ≡ true → edits_in cx ≡ true → IfSome (new.files.held (wanted_in cx).lockfile) (λ _. is_kept (registered_files now) (wanted_in cx).lockfile ≡ true))
    → OnOk r (quiet → tells → PerformsPlan true cx rustup (is_err answers.cargo_version || old.host.term.warn) old.host new.host) → OnOk r (quiet → tells → whole → EditsAndPerforms told args answers rustup before now old new)
follows_changes tells told whole quiet r args answers rustup before now old new cx context edited only lockfile planned =
    on_ok (quiet → tells → PerformsPlan true cx rustup (is_err answers.cargo_version || old.host.term.warn) old.host new.host) (quiet → tells → whole → EditsAndPerforms told args answers rustup before now old new) r
    (λ plan q t w. record { cx = cx; context = context; performed = plan q t; edited = edited w; only = only; lockfile = lockfile }) planned

-- a call whose questions were answered, whose edits were made and whose files were written back
pub changes : {T E : Type 0} (tells told whole : Type 0) (r : Result T E) (args : Args) (env : Env) (first asked prepared last : FilesView) (begun ended : HostView) (mid : List Call) (term : Term) (answers : Answers) (before now : Manager) (count : ℕ)
    → term.warn ≡ ended.term.warn
    → (tells → AreAnswers told (WroteWhereKnown whole told first.trace asked.trace first.held asked.held) args env first.held first.failed asked.failed begun.calls mid answers)
    → (IsTrue ended.term.error ⊎ (0 < count) → IsTrue term.error) → OnOk answers.loaded (told → KeepsAll first.held asked.held)
    → registered_files before ≡ [] → before.needs_restore ≡ not args.remove_dev_deps → (args.remove_dev_deps ≡ true → registered_files now ≡ [])
    → (told → IfOk answers.loaded (IsLoaded told asked.held env) → args.remove_dev_deps ≡ false → AreSafe (registered_files now) asked.held prepared.held) → IfOk answers.loaded (IsLoaded told asked.held env)
    → (whole → (made : List Change) × Tried (registered_files now) made count × Makes made prepared.trace last.trace prepared.held last.held)
    → OnOk r (ended.term.error ≡ false → tells → whole → EditsAndPerforms told args answers (string_bytes env.rustup) before now (record { files = asked; host = host_at mid begun }) (record { files = prepared; host = ended }))
    → OnOk r (term.error ≡ false → tells → whole → LoadsAndChanges told args env begun.term.warn (record { files = first; host = begun }) (record { files = last; host = record ended { term = term } }))
changes tells told whole r args env first asked prepared last begun ended mid term answers before now count same_warn answered noted kept empty needs unkept safe read tried follows =
    on_ok (ended.term.error ≡ false → tells → whole → EditsAndPerforms told args answers (string_bytes env.rustup) before now (record { files = asked; host = host_at mid begun }) (record { files = prepared; host = ended }))
    (term.error ≡ false → tells → whole → LoadsAndChanges told args env begun.term.warn (record { files = first; host = begun }) (record { files = last; host = record ended { term = term } })) r
    (λ f quiet t w.
    let e = f (quiet_before (0 < count) ended.term.error term.error noted quiet) t w in
    let same : told → KeepsAll first.held asked.held = subst (λ (a : Result Loaded ContextFault). OnOk a (told → KeepsAll first.held asked.held)) e.context.1 kept in
    let back = tried w in
    let wrote = tried_whole back.1 (none_told term.error count (λ some. noted (inr some)) quiet) in
    record {
      answers = answers;
      mid = mid;
      cx = e.cx;
      asked = answers_by told args env first.held first.failed asked.failed last.failed (WroteWhereKnown whole told first.trace asked.trace first.held asked.held) (λ stage made. AreChanges told e.cx made first last) begun.calls mid answers e.context.0 e.context.1
          (λ c text n made v. made_all told e.cx first asked prepared last made e.edited.0 back.0 same e.edited.1.0
          (undone told args e.cx first.held asked.held prepared.held before now e.edited.0 back.0 e.context.2.args same e.edited.2.holds wrote empty needs e.edited.1.1 unkept (λ u. safe u read) e.only e.lockfile) (v w) e.edited.2 back.2)
          (answered t);
      context = e.context;
      performed = plan_told true e.cx (string_bytes env.rustup) (is_err answers.cargo_version || begun.term.warn) (host_at mid begun) ended begun.term term (λ d. same_warn) e.performed;
    }) follows

not_empty : {X : Type 0} (files : List Kept) (file : Kept) → files ++ file ∷ [] ≡ [] → X
not_empty files file empty = let none = ap length empty in let long = length-append files (file ∷ []) in absurd (omega (arith, none, long))

-- nothing is written back where nothing is kept
tried_none : {files : List Kept} {made : List Change} {k : ℕ} → Tried files made k → files ≡ [] → made ≡ []
tried_none none empty = refl
tried_none (written {files} file t) empty = not_empty files file empty
tried_none (failed {files} file t) empty = not_empty files file empty
tried_none (made_and_failed {files} file t) empty = not_empty files file empty

-- a call whose edits were made and whose files were written back, whatever came of its plan
pub edits_back : {F : Type 0} (f : Filing F) (args : Args) (answers : Answers) (env : Env) (before now : Manager) (loaded edited last : F) (count : ℕ)
    → registered_files before ≡ [] → before.needs_restore ≡ not args.remove_dev_deps → (args.remove_dev_deps ≡ true → registered_files now ≡ [])
    → (f.tells → args.remove_dev_deps ≡ false → AreSafe (registered_files now) (f.bytes_at loaded) (f.bytes_at edited)) → IfOk answers.loaded (IsLoaded f.tells (f.bytes_at loaded) env)
    → (f.whole → (made : List Change) × Tried (registered_files now) made count × Makes made (f.trace edited) (f.trace last) (f.bytes_at edited) (f.bytes_at last))
    → ComesBackBut (f.refuses edited last) f.tells (registered_files now) (f.bytes_at edited) (f.bytes_at last) count → (f.tells → Brings (registered_files now) (f.bytes_at edited) (f.bytes_at last) count)
    → EditsDone f args answers env before now loaded edited → (cx : ContextRecord) × IsContextFrom args answers cx × EditsAndBack f cx (registered_files now) loaded edited last
edits_back f args answers env before now loaded edited last count empty needs unkept safe read tried refused restored done =
    let same_args : args.remove_dev_deps ≡ done.cx.args.remove_dev_deps = ap (λ (a : Args). a.remove_dev_deps) (sym done.context.2.args) in (
      done.cx,
      done.context,
      record {
        prepared = λ t. done.prepared t read;
        stay = λ stays t. brings_none (registered_files now) (f.bytes_at edited) (f.bytes_at last) count (unkept (same_args ∙ stays)) (restored t);
        changes = λ w.
            let made = done.edited w in
            let back = tried w in
            record {
              edits = made.0;
              back = back.0;
              writes = made.1.0;
              made = made.2;
              undone = by_bool done.cx.args.remove_dev_deps (back.0 ≡ []) (TriesToUndo f done.cx (registered_files now) made.0 back.0 loaded edited last)
                  (λ stays. tried_none back.1 (unkept (same_args ∙ stays)))
                  (λ returns. record {
                    spoilt = refused.spoilt;
                    refused = refused.refused;
                    tried = subst (λ (n : ℕ). Tried (registered_files now) back.0 n) (sym refused.number) back.1;
                    kept = kept_after f.tells args done.cx (f.bytes_at loaded) (f.bytes_at loaded) (f.bytes_at edited) before now made.0 (λ t q. refl) made.2.holds empty needs made.1.1 (same_args ∙ returns) safe done.only done.lockfile;
                  });
              last = back.2;
            };
      },
    )

-- ---- what was reported before doesn't matter, nor after it where no more is warned of

told_changes : (tells : Type 0) (args : Args) (env : Env) (warned : Bool) (old new : World) (was now : Term) → now.warn ≡ new.host.term.warn → LoadsAndChanges tells args env warned old new
    → LoadsAndChanges tells args env warned (record old { host = record old.host { term = was } }) (record new { host = record new.host { term = now } })
told_changes tells args env warned old new was now same h = record {
  answers = h.answers;
  mid = h.mid;
  cx = h.cx;
  asked = h.asked;
  context = h.context;
  performed = plan_told true h.cx (string_bytes env.rustup) (is_err h.answers.cargo_version || warned) (host_at h.mid old.host) new.host was now (λ d. same) h.performed;
}

-- what arguments ask for was done after their notices
pub obeys_changes : {T E : Type 0} (tells told whole quiet : Type 0) (r : Result T E) (args : Args) (answer : Parsed) (env : Env) (warned : Bool) (old new : World) (was : Term) → answer ≡ parsed.Args args → was.warn ≡ warned
    → OnOk r (quiet → tells → whole → LoadsAndChanges told args env was.warn (record old { host = record old.host { term = was } }) new) → OnOk r (quiet → tells → whole → ObeysAndChanges told answer env warned old new)
obeys_changes tells told whole quiet r args answer env warned old new was is same performed =
    on_ok (quiet → tells → whole → LoadsAndChanges told args env was.warn (record old { host = record old.host { term = was } }) new) (quiet → tells → whole → ObeysAndChanges told answer env warned old new) r
    (λ f q t w. subst (λ (a : Parsed). ObeysAndChanges told a env warned old new) (sym is)
    (subst (λ (b : Bool). LoadsAndChanges told args env b old new) same (told_changes told args env was.warn (record old { host = record old.host { term = was } }) new old.host.term new.host.term refl (f q t w)))) performed

-- where nothing is loaded, nothing is changed
pub obeys_unloaded : {T E : Type 0} (tells told whole quiet : Type 0) (r : Result T E) (answer : Parsed) (env : Env) (warned : Bool) (old new : World) → ((args : Args) → answer ≡ parsed.Args args → ⊥)
    → Makes [] old.files.trace new.files.trace old.files.held new.files.held → OnOk r (quiet → tells → whole → ObeysAndChanges told answer env warned old new)
obeys_unloaded tells told whole quiet r answer env warned old new unloaded same = ok r
  where
    go : (a : Parsed) → answer ≡ a → ObeysAndChanges told a env warned old new
    go (parsed.Args args) is = absurd (unloaded args is)
    go (parsed.Print text) is = same
    go parsed.List is = same

    ok : {T E : Type 0} (r : Result T E) → OnOk r (quiet → tells → whole → ObeysAndChanges told answer env warned old new)
    ok (Ok v) = λ q t w. go answer refl
    ok (Err e) = tt

-- the command line was parsed, and what it asks for was done
pub traces : {T E : Type 0} (tells told whole quiet : Type 0) (r : Result T E) (words : List Name) (env : Env) (old new : World) (mid : List Call) (rustup : Rustup) (answer : Parsed) (notes : List Note)
    → IsAnswer (around_of env rustup) (ComesTo (around_of env rustup) words) answer notes → (tells → AsksRustup (wants_rustup words) (string_bytes env.rustup) rustup old.host.calls mid)
    → OnOk r (quiet → tells → whole → ObeysAndChanges told answer env (warned_by answer notes old.host.term.warn) (world_at mid old) new) → OnOk r (quiet → tells → whole → IsChangeTrace told words env old new)
traces tells told whole quiet r words env old new mid rustup answer notes read asked obeyed =
    on_ok (quiet → tells → whole → ObeysAndChanges told answer env (warned_by answer notes old.host.term.warn) (world_at mid old) new) (quiet → tells → whole → IsChangeTrace told words env old new) r
    (λ f q t w. record { mid = mid; rustup = rustup; answer = answer; notes = notes; told = asked t; read = read; obeyed = f q t w }) obeyed

-- ---- files that are changed no more

all_on : (tells : Type 0) (cx : ContextRecord) (asked : List Change) (old new later : FilesView) → Makes [] new.trace later.trace new.held later.held → AreChanges tells cx asked old new → AreChanges tells cx asked old later
all_on tells cx asked old new later still h = record {
  edits = h.edits;
  back = h.back;
  edited = h.edited;
  undone = h.undone;
  are = makes_still (asked ++ (h.edits ++ h.back)) old.trace new.trace later.trace old.held new.held later.held h.are still;
}

obeys_on : (tells : Type 0) (answer : Parsed) (env : Env) (warned : Bool) (old new : World) (later : FilesView) → Makes [] new.files.trace later.trace new.files.held later.held
    → ObeysAndChanges tells answer env warned old new → ObeysAndChanges tells answer env warned old (record new { files = later })
obeys_on tells (parsed.Args args) env warned old new later still h = record {
  answers = h.answers;
  mid = h.mid;
  cx = h.cx;
  asked = answers_by tells args env old.files.held old.files.failed new.files.failed later.failed (λ stage asked. AreChanges tells h.cx asked old.files new.files) (λ stage asked. AreChanges tells h.cx asked old.files later) old.host.calls h.mid h.answers h.context.0 h.context.1
      (λ c text n made are. all_on tells h.cx made old.files new.files later still are) h.asked;
  context = h.context;
  performed = h.performed;
}
obeys_on tells (parsed.Print text) env warned old new later still h = makes_still [] old.files.trace new.files.trace later.trace old.files.held new.files.held later.held h still
obeys_on tells parsed.List env warned old new later still h = makes_still [] old.files.trace new.files.trace later.trace old.files.held new.files.held later.held h still

pub changes_on : (tells : Type 0) (words : List Name) (env : Env) (old new : World) (later : FilesView) → Makes [] new.files.trace later.trace new.files.held later.held
    → IsChangeTrace tells words env old new → IsChangeTrace tells words env old (record new { files = later })
changes_on tells words env old new later still h = record {
  mid = h.mid;
  rustup = h.rustup;
  answer = h.answer;
  notes = h.notes;
  told = h.told;
  read = h.read;
  obeyed = obeys_on tells h.answer env (warned_by h.answer h.notes old.host.term.warn) (world_at h.mid old) new later still h.obeyed;
}
