-- What a call leaves in files, whatever comes of it.
use Rattle.std.proofs.Common.{◌≡◌, ◌∙◌, ℕ, List, [], ◌∷◌, OnOk, Result, ap, arith, get_or, inl, inr, refl, subst, sym, true, zero}
use Rattle.std.specs.Prelude.{IfOk, string_bytes}
use Rattle.hack_base.specs.Names.{Name}
use Rattle.hack_base.specs.Notes.{Note}
use Rattle.hack_files.specs.Files.{Contents, KeepsAll, KeepsAllBut}
use Rattle.hack_load.specs.Answers.{IsLoaded}
use Rattle.hack_load.specs.Contexts.{ContextRecord}
use Rattle.hack_load.specs.declared.answers.Answers.{Answers}
use Rattle.hack_load.specs.declared.fault.ContextFault.{ContextFault}
use Rattle.hack_load.specs.declared.loaded.Loaded.{Loaded}
use Rattle.hack_prepare.specs.FailureCounts.{WriteFails}
use Rattle.hack_prepare.specs.Prepared.{IsPartlyPrepared, IsRootEdit, MemberManifest, TurnsOrStays, Wanted, drops_at_root, gone_manifests}
use Rattle.hack_prepare.specs.PreparedView.{IsPartlyPreparedIn, KeepsUneditedIn, member_manifests_in, wanted_in}
use Rattle.hack_process.specs.Calls.{Call}
use Rattle.hack_versions.specs.declared.rustup.Rustup.{Rustup}
use Rattle.hack_words.specs.CommandLine.{ComesTo}
use Rattle.hack_words.specs.ParseAnswers.{AnswersCommandLine as IsAnswer, around_of}
use Rattle.hack_words.specs.Start.{wants_rustup}
use Rattle.hack_words.specs.declared.cli.args.Args.{Args}
use Rattle.hack_words.specs.declared.cli.env.Env.{Env}
use Rattle.hack_words.specs.declared.cli.parse.Parsed.{Parsed}
use Rattle.hack_words.specs.declared.cli.parse.Parsed.TheVariants as parsed
use Rattle.hack_run.specs.Internal.{FollowsAndLeaves}
use Rattle.hack_run.specs.LastingEdits.{IsSpoilt, LeavesAtMost, LeavesAtMostEdits, LeavesEdits, ObeysAndLeaves}
use Rattle.hack_run.specs.Loading.{AreLoaded}
use Rattle.hack_run.specs.Questions.{AsksRustup}

-- a path that stays or turns, of files that hold the same before and afterwards
turns_moved : (P Q : Type 0) (R : Name → Name → Type 0) (path : Name) (first old new last : Contents) → (P → Q) → old path ≡ first path → last path ≡ new path → TurnsOrStays P R path old new → TurnsOrStays Q R path first last
turns_moved P Q R path first old new last f same stay (inl kept) = inl (stay ∙ kept ∙ same)
turns_moved P Q R path first old new last f same stay (inr (inl t)) = inr (inl (t.0, t.1, sym same ∙ t.2, stay ∙ t.3, t.4))
turns_moved P Q R path first old new last f same stay (inr (inr bad)) = inr (inr (f bad))

partly_moved : (w : Wanted) (ms : List MemberManifest) (P Q : Name → Type 0) (first old new last : Contents) → ((path : Name) → P path → Q path) → KeepsAll first old → KeepsAll new last → IsPartlyPrepared w ms P old new → IsPartlyPrepared w ms Q first last
partly_moved w ms P Q first old new last f same stay h = record {
  alone = λ k d lt is. let m : MemberManifest = get_or ms k d in turns_moved (P m.path) (Q m.path) _ m.path first old new last (f m.path) (same m.path) (stay m.path) (h.alone k d lt is);
  root = λ asked. turns_moved (P w.root) (Q w.root) (IsRootEdit w.folder (drops_at_root w ms) (gone_manifests w ms)) w.root first old new last (f w.root) (same w.root) (stay w.root) (h.root asked);
}

edits_moved : (R S : List Name → Type 0) (tells : Type 0) (cx : ContextRecord) (first old new last : Contents) → ((path : Name) → IsSpoilt R path → IsSpoilt S path) → (tells → KeepsAll first old) → (tells → KeepsAll new last) → LeavesEdits R tells cx old new → LeavesEdits S tells cx first last
edits_moved R S tells cx first old new last f same stay h = record {
  edited = λ t. partly_moved (wanted_in cx) (member_manifests_in cx) (IsSpoilt R) (IsSpoilt S) first old new last f (same t) (stay t) (h.edited t);
  others = λ t q free. stay t q ∙ h.others t q free ∙ same t q;
}

-- a manifest whose write failed is one whose own write was refused
pub edits_left : (R : List Name → Type 0) (tells : Type 0) (cx : ContextRecord) (old new : Contents) (before now : ℕ) → (tells → IsPartlyPreparedIn cx (WriteFails R before now) old new) → (tells → KeepsUneditedIn cx old new) → LeavesEdits R tells cx old new
edits_left R tells cx old new before now edited others = record {
  edited = λ t. partly_moved (wanted_in cx) (member_manifests_in cx) (WriteFails R before now) (IsSpoilt R) old old new new (λ path bad. (path ∷ [], bad.1, (zero, omega arith, refl))) (λ q. refl) (λ q. refl) (edited t);
  others = others;
}

-- where edits stay, nothing is done to files but what the questions leave, and at most the edits
pub left_behind : (S T : List Name → Type 0) (tells talks : Type 0) (args : Args) (answers : Answers) (env : Env) (calls mid : List Call) (first asked at last : Contents) → ((path : Name) → IsSpoilt S path → IsSpoilt T path)
    → ((tells → KeepsAll asked last) → KeepsAllBut T tells first last) → OnOk answers.loaded (tells → KeepsAll first asked) → (tells → KeepsAll at last) → (talks → AreLoaded tells args env first calls mid answers)
    → IfOk answers.loaded (IsLoaded tells asked env) → args.remove_dev_deps ≡ true → FollowsAndLeaves S tells args answers env asked at → LeavesAtMost T tells talks args env calls first last
left_behind S T tells talks args answers env calls mid first asked at last spoilt spares whole stay loaded read stays (inl same) = inl (spares (λ t q. stay t q ∙ ap (λ (m : Contents). m q) same))
left_behind S T tells talks args answers env calls mid first asked at last spoilt spares whole stay loaded read stays (inr h) =
    let kept : tells → KeepsAll first asked = subst (λ (a : Result Loaded ContextFault). OnOk a (tells → KeepsAll first asked)) h.1.1 whole in
    inr (record { answers = answers; mid = mid; cx = h.0; asked = loaded; context = h.1; stay = stays; edits = edits_moved S T tells h.0 first asked at last spoilt kept stay (h.2 read) })

-- the same of a parsed command line
pub obeys_left : (R : List Name → Type 0) (tells talks : Type 0) (args : Args) (answer : Parsed) (env : Env) (calls : List Call) (old new : Contents) → answer ≡ parsed.Args args → LeavesAtMost R tells talks args env calls old new → ObeysAndLeaves R tells talks answer env calls old new
obeys_left R tells talks args answer env calls old new is (inl kept) = inl kept
obeys_left R tells talks args answer env calls old new is (inr h) = inr (args, is, h)

-- and of one that is read first
pub reads_left : (R : List Name → Type 0) (tells talks : Type 0) (words : List Name) (env : Env) (calls mid : List Call) (old new : Contents) (rustup : Rustup) (answer : Parsed) (notes : List Note)
    → (talks → AsksRustup (wants_rustup words) (string_bytes env.rustup) rustup calls mid) → IsAnswer (around_of env rustup) (ComesTo (around_of env rustup) words) answer notes → ObeysAndLeaves R tells talks answer env mid old new → LeavesAtMostEdits R tells talks words env calls old new
reads_left R tells talks words env calls mid old new rustup answer notes told read (inl kept) = inl kept
reads_left R tells talks words env calls mid old new rustup answer notes told read (inr h) =
    inr (record {
      mid = mid;
      rustup = rustup;
      args = h.0;
      notes = notes;
      told = told;
      read = subst (λ (p : Parsed). IsAnswer (around_of env rustup) (ComesTo (around_of env rustup) words) p notes) h.1 read;
      left = h.2;
    })

-- what is left where other words say which paths were refused
pub leaves_by : (R S : List Name → Type 0) (tells talks : Type 0) (words : List Name) (env : Env) (calls : List Call) (old new : Contents) → ((paths : List Name) → R paths → S paths) → LeavesAtMostEdits R tells talks words env calls old new → LeavesAtMostEdits S tells talks words env calls old new
leaves_by R S tells talks words env calls old new f (inl kept) = inl (record { spoilt = kept.spoilt; refused = f kept.spoilt kept.refused; others = kept.others })
leaves_by R S tells talks words env calls old new f (inr h) =
    inr (record {
      mid = h.mid;
      rustup = h.rustup;
      args = h.args;
      notes = h.notes;
      told = h.told;
      read = h.read;
      left = record {
        answers = h.left.answers;
        mid = h.left.mid;
        cx = h.left.cx;
        asked = h.left.asked;
        context = h.left.context;
        stay = h.left.stay;
        edits = edits_moved R S tells h.left.cx old old new new (λ path bad. (bad.0, f bad.0 bad.1, bad.2)) (λ t q. refl) (λ t q. refl) h.left.edits;
      };
    })
