-- Questions that follow one another.
use Rattle.std.proofs.Common.{◌≡◌, inl, inr, ℕ, List, [], ◌∷◌, ◌++◌, Ok, Err, Result, sym, length, map, ◌∙◌}
use Rattle.std.specs.Prelude.{IfOk}
use Rattle.std.proofs.lemmas.List.{length-map}
use Rattle.std.proofs.lemmas.Slice.Zip.{AllZip-long}
use Rattle.hack_files.specs.Files.{Change, Contents, Makes, Trace}
use Rattle.hack_files.specs.declared.fs.Files.{Ghosts as Filing}
use Rattle.hack_process.specs.Calls.{Call}
use Rattle.hack_metadata.specs.FailedQuestions.{EndsQuestion, WroteTo}
use Rattle.hack_metadata.specs.QuestionCalls.{EndsSo, Stage, Wrote, WroteWhereKnown, begun, first, locked, missing, newer, taken, to_cargo, versioned}
use Rattle.hack_metadata.specs.FilesAfterAsking.{Whole}
use Rattle.hack_metadata.specs.Requests.{Question}
use Rattle.hack_metadata.specs.RecordViews.{place_at}
use Rattle.hack_metadata.specs.MetadataView.{metadata_view}
use Rattle.hack_metadata.specs.declared.ask.fault.AskFault.{AskFault}
use Rattle.hack_metadata.specs.declared.metadata.Metadata.{Metadata}
use Rattle.hack_manifest.specs.declared.manifest.Manifest.{Manifest}
use Rattle.hack_words.specs.declared.cli.args.Args.{Args}
use Rattle.hack_words.specs.declared.cli.env.Env.{Env}
use Rattle.hack_load.specs.Answers.{LoadsFromMetadata, IsLoaded}
use Rattle.hack_load.specs.Internal.{ReadsOnly}
use Rattle.hack_load.specs.CargoQuestions.{AreOfMembers, IsOfMember}
use Rattle.hack_load.specs.declared.fault.ContextFault.{ContextFault}
use Rattle.hack_load.specs.declared.loaded.Loaded.{Loaded}
use Rattle.hack_files.specs.TraceLaws.{makes_still}
use Rattle.hack_load.proofs.MemberLemmas.{each-earlier, member-fault-earlier}

-- one manifest for each member
pub members-long : (tells : Type 0) (held : Contents) (m : Metadata) (xs : List Manifest) → AreOfMembers tells held (metadata_view m) xs → length xs ≡ length m.workspace_members.items
members-long tells held m xs are = AllZip-long (IsOfMember tells held (metadata_view m)) (map place_at m.workspace_members.items) xs are ∙ length-map m.workspace_members.items place_at

wrote-by : (tells : Type 0) (held : Contents) (P Q : List Change → Type 0) → ((cs : List Change) → P cs → Q cs) → (stage : Stage) (made : List Change) → Wrote tells held P stage made → Wrote tells held Q stage made
wrote-by tells held P Q f begun made h = f made h
wrote-by tells held P Q f (versioned minor) made h = f made h
wrote-by tells held P Q f to_cargo made h = f made h
wrote-by tells held P Q f (newer minor) made h = f made h
wrote-by tells held P Q f (first minor text) made h = f made h
wrote-by tells held P Q f (missing minor text) made h = f made h
wrote-by tells held P Q f (locked minor text) made (inl h) = inl (f made h)
wrote-by tells held P Q f (locked minor text) made (inr h) = inr (h.0, h.1, f (made ++ h.0 ∷ []) h.2)
wrote-by tells held P Q f (taken by text minor) made h = f made h

-- just these writes were made, where no change follows them
pub wrote-still : (whole tells : Type 0) (before mid now : Trace) (held later last : Contents) → (whole → Makes [] mid now later last) → (stage : Stage) (made : List Change)
    → WroteWhereKnown whole tells before mid held later stage made → WroteWhereKnown whole tells before now held last stage made
wrote-still whole tells before mid now held later last still stage made wrote = λ w.
    wrote-by tells held (λ cs. Makes cs before mid held later) (λ cs. Makes cs before now held last) (λ cs h. makes_still cs before mid now held later last h (still w)) stage made (wrote w)

-- of the writes of a question that ended, something weaker holds
pub ends-map : (tells : Type 0) (q : Question) (held : Contents) (old new : List Call) (V W : Stage → List Change → Type 0) → ((stage : Stage) (made : List Change) → V stage made → W stage made)
    → (r : Result Metadata AskFault) → EndsSo tells q held old new V r → EndsSo tells q held old new W r
ends-map tells q held old new V W f (Ok m) h = (h.0, h.1, h.2, h.3, h.4, f (taken h.0 h.1 h.2) h.3 h.5, h.6)
ends-map tells q held old new V W f (Err e) h = (h.0, h.1, h.2, h.3, h.4, f h.0 h.2 h.5)

-- the calls and writes of a question that ended
pub ends-so : {F : Type 0} (f : Filing F) (q : Question) (a b : F) (old new : List Call) (r : Result Metadata AskFault) → EndsQuestion f a b q old new r → EndsSo f.tells q (f.bytes_at a) old new (WroteTo f a b) r
ends-so f q a b old new (Ok m) h = h.0
ends-so f q a b old new (Err e) h = (h.0, h.1, h.2, h.3, h.4, h.5)

-- a question was answered, and calls followed that changed nothing
pub ended-later : {F : Type 0} (f : Filing F) (q : Question) (a b c : F) (old new : List Call) (m : Metadata) → EndsQuestion f a b q old new (Ok m) → (f.whole → Makes [] (f.trace b) (f.trace c) (f.bytes_at b) (f.bytes_at c)) → EndsSo f.tells q (f.bytes_at a) old new (WroteTo f a c) (Ok m)
ended-later f q a b c old new m h still =
    ends-map f.tells q (f.bytes_at a) old new (WroteTo f a b) (WroteTo f a c) (wrote-still f.whole f.tells (f.trace a) (f.trace b) (f.trace c) (f.bytes_at a) (f.bytes_at b) (f.bytes_at c) still) (Ok m) h.0

-- what was loaded still agrees with the files after calls that changed nothing
pub loaded-later : (tells : Type 0) (b c : Contents) (y z : ℕ) (env : Env) (r : Result Loaded ContextFault) → ReadsOnly tells b c y z r → IfOk r (IsLoaded tells b env) → IfOk r (IsLoaded tells c env)
loaded-later tells b c y z env (Ok l) whole h = record {
  cargo = h.cargo;
  folder = h.folder;
  manifests = each-earlier tells tells c b (λ t. t) (λ t q. sym (whole.1 t q)) (metadata_view l.metadata) (map place_at l.metadata.workspace_members.items) l.manifests.items h.manifests;
}
loaded-later tells b c y z env (Err e) whole h = tt

-- what follows the metadata agrees with the files before them, where nothing was changed
pub follows-earlier : (tells : Type 0) (args : Args) (env : Env) (a b : Contents) (x y z : ℕ) (m : Metadata) (mid new : List Call) (r : Result Loaded ContextFault) → Whole tells a b x y
    → LoadsFromMetadata tells args env b y z m mid new r → LoadsFromMetadata tells args env a x z m mid new r
follows-earlier tells args env a b x y z m mid new (Ok l) whole h = (
  h.0,
  h.1,
  record {
    cargo = h.2.cargo;
    folder = h.2.folder;
    manifests = each-earlier tells tells a b (λ t. t) (λ t. whole.1 t) (metadata_view l.metadata) (map place_at l.metadata.workspace_members.items) l.manifests.items h.2.manifests;
  },
)
follows-earlier tells args env a b x y z m mid new (Err e) whole (inl h) =
    inl (h.0, member-fault-earlier tells tells a b (λ t. t) (λ t. whole.1 t) (metadata_view m) x y z whole.0 e h.1)
follows-earlier tells args env a b x y z m mid new (Err e) whole (inr h) =
    inr (h.0, each-earlier tells tells a b (λ t. t) (λ t. whole.1 t) (metadata_view m) (map place_at m.workspace_members.items) h.0 h.1, h.2)
