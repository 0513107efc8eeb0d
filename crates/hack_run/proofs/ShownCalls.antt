-- What a whole call says.
use Rattle.std.proofs.Common.{◌≡◌, ◌⊎◌, ◌∙◌, ◌+◌, ◌∷◌, ℕ, zero, suc, Bool, Err, Global, IsOk, List, Ok, OnErr, OnOk, Result, String, ap, arith, drop, false, get_or, length, inl, lt-ltb, inr, map, refl, subst, string_bytes, sym, true}
use Rattle.std.specs.Prelude.{◌<◌, ◌↔◌, ◌||◌, IsTrue, nat_lt}
use Rattle.std.specs.Result.{is_err}
use Rattle.std.proofs.lemmas.List.{drop_more}
use Rattle.hack_base.specs.Names.{Name}
use Rattle.hack_base.specs.Notes.{Note}
use Rattle.hack_base.specs.Streams.{Stream, WritesAll, WritesText}
use Rattle.hack_drive.specs.Answered.{NeedsAnswer}
use Rattle.hack_drive.specs.Warnings.{after_notes}
use Rattle.hack_files.specs.FailedCalls.{NoneFailed}
use Rattle.hack_files.specs.declared.fs.Files.{Ghosts as Filing}
use Rattle.hack_load.specs.CargoQuestions.{told_version}
use Rattle.hack_load.specs.ContextOf.{IsContextFrom, warnings_of}
use Rattle.hack_load.specs.Contexts.{ContextRecord}
use Rattle.hack_load.specs.declared.answers.Answers.{Answers}
use Rattle.hack_prepare.specs.PreparedView.{notes_in}
use Rattle.hack_process.specs.Calls.{Call}
use Rattle.hack_session.specs.StepEffects.{Scene}
use Rattle.hack_term.specs.Lines.{info_line}
use Rattle.hack_term.specs.declared.term.Coloring.{Coloring}
use Rattle.hack_term.specs.declared.term.Term.{Term}
use Rattle.hack_planner.specs.declared.stable.Stable.{Stable}
use Rattle.hack_planner.specs.declared.stable.Stable.TheVariants.{Unasked}
use Rattle.hack_words.specs.declared.cli.args.Args.{Args}
use Rattle.hack_words.specs.declared.cli.env.Env.{Env}
use Rattle.hack_words.specs.declared.cli.parse.Parsed.{Parsed}
use Rattle.hack_words.specs.declared.cli.parse.Parsed.TheVariants as parsed
use Rattle.hack_run.specs.CallTrace.{colored_by}
use Rattle.hack_run.specs.Questions.{AsksStable, MayAskStable, TellsStableReason}
use Rattle.hack_run.specs.Shown.{Looks, SaysAfterLoading, SaysItsPlan, SaysLoaded, SaysNotes, SaysParsed, dressed_by, looks_of, planned, reported_on, scene_with, unasked}
use Rattle.hack_run.specs.declared.fault.RunFault.{RunFault}
use Rattle.hack_run.specs.declared.fault.RunFault.TheVariants as fault

-- what follows the questions: the notices, and the plan
pub follows_said : {F : Type 0} (f : Filing F) (loaded edited : F) (came : Result (Unit {0}) RunFault) (tells : Type 0) (args : Args) (answers : Answers) (rustup : Name) (a b d : Term) (now : Looks) (cx : ContextRecord) (stable : Stable) (calls : List Call) (warned noted : Stream) (old new : Scene)
    → b ≡ after_notes a (warnings_of (told_version answers.cargo_version)) → d ≡ after_notes b (notes_in cx) → IsContextFrom args answers cx
    → SaysNotes a.coloring (warnings_of (told_version answers.cargo_version)) old.streams.err warned → SaysNotes b.coloring (notes_in cx) warned noted → NoneFailed f loaded edited → AsksStable rustup stable old.calls calls → TellsStableReason d.verbose rustup stable old.calls calls → (¬ NeedsAnswer args → stable ≡ Unasked)
    → SaysItsPlan came tells cx stable rustup (looks_of d) now (scene_with calls noted old) new → SaysAfterLoading f loaded edited came tells args answers rustup (looks_of a) now old new
follows_said f loaded edited came tells args answers rustup a b d now cx stable calls warned noted old new first second context told edits none asked reason unneeded plan =
    planned cx warned noted stable calls context told (subst (λ (t : Term). SaysNotes t.coloring (notes_in cx) warned noted) first edits) none asked
    (subst (λ (verbose : Bool). TellsStableReason verbose rustup stable old.calls calls) (ap (λ (t : Term). t.verbose) second ∙ ap (λ (t : Term). t.verbose) first) reason) unneeded
    (subst (λ (looks : Looks). SaysItsPlan came tells cx stable rustup looks now (scene_with calls noted old) new) (ap looks_of second ∙ ap looks_of first) plan)

-- memory was refused between the notices and the plan
pub edits_said : {F : Type 0} (f : Filing F) (loaded edited : F) (came : Result (Unit {0}) RunFault) (tells : Type 0) (args : Args) (answers : Answers) (rustup : Name) (a b d : Term) (cx : ContextRecord) (warned noted : Stream) (old new : Scene)
    → came ≡ Err fault.Memory → b ≡ after_notes a (warnings_of (told_version answers.cargo_version)) → d ≡ after_notes b (notes_in cx) → IsContextFrom args answers cx
    → SaysNotes a.coloring (warnings_of (told_version answers.cargo_version)) old.streams.err warned → SaysNotes b.coloring (notes_in cx) warned noted → NoneFailed f loaded edited → MayAskStable rustup old.calls new.calls → (¬ NeedsAnswer args → new.calls ≡ old.calls)
    → new ≡ scene_with new.calls noted old → SaysAfterLoading f loaded edited came tells args answers rustup (looks_of a) (looks_of d) old new
edits_said f loaded edited came tells args answers rustup a b d cx warned noted old new is first second context told edits none may unneeded same =
    unasked cx warned noted context told (subst (λ (t : Term). SaysNotes t.coloring (notes_in cx) warned noted) first edits) none may unneeded is (ap looks_of second ∙ ap looks_of first) same

-- lines look the same after these notices
pub looks_followed : (a b d last : Term) (first second : List Note) → b ≡ after_notes a first → d ≡ after_notes b second → looks_of last ≡ record (looks_of d) { reported = last.error }
    → looks_of last ≡ record (looks_of a) { reported = last.error }
looks_followed a b d last first second one other later = later ∙ ap (λ (t : Term). record (looks_of t) { reported = last.error }) other ∙ ap (λ (t : Term). record (looks_of t) { reported = last.error }) one

pub by_success : {T E : Type 0} (P : Type 0) (r : Result T E) → OnOk r P → IsOk r → P
by_success P (Ok v) p ok = p
by_success P (Err e) p ok = absurd (cc)

-- an error was reported just where one was before, or a write was refused
error_of : (a b : Bool) (n : ℕ) → (IsTrue b ↔ (IsTrue a ⊎ (0 < n))) → b ≡ (a || nat_lt 0 n)
error_of true b n iff = iff.1 (inl refl)
error_of false b (suc n) iff = iff.1 (inr (omega arith)) ∙ sym (lt-ltb 0 (suc n) (omega arith))
error_of false false zero iff = refl
error_of false true zero iff = elim (iff.0 refl) [
  | inl before ↦ absurd (cc)
  | inr some ↦ absurd (omega (arith, some))
]

pub looks_back : (a b : Term) (n : ℕ) → b ≡ record a { error = b.error } → (IsTrue b.error ↔ (IsTrue a.error ⊎ (0 < n))) → looks_of b ≡ reported_on (a.error || nat_lt 0 n) (looks_of a)
looks_back a b n term noted = ap looks_of term ∙ ap (λ (e : Bool). reported_on e (looks_of a)) (error_of a.error b.error n noted)

-- what arguments ask for was said after their notices
pub args_said : {F : Type 0} (f : Filing F) (before after : F) (came : Result (Unit {0}) RunFault) (tells : Type 0) (answer : Parsed) (args : Args) (notes : List Note) (env : Env) (a b d : Term) (now : Looks) (noted : Stream) (old new : Scene)
    → answer ≡ parsed.Args args → b.error ≡ a.error → b.verbose ≡ args.verbose → b.coloring ≡ colored_by args.coloring a.coloring → d ≡ after_notes b notes
    → SaysNotes b.coloring notes old.streams.err noted → SaysLoaded f before after came tells args env (looks_of d) now (scene_with old.calls noted old) new
    → SaysParsed f before after came tells answer notes env (looks_of a) now old new
args_said f before after came tells answer args notes env a b d now noted old new is error verbose coloring told notes_said loaded =
    let dressed : looks_of d ≡ dressed_by args (looks_of a) = ap looks_of told ∙ ap (λ (x : Coloring). record { coloring = x; verbose = b.verbose; reported = b.error }) coloring
    ∙ ap (λ (x : Bool). record { coloring = colored_by args.coloring a.coloring; verbose = x; reported = b.error }) verbose ∙ ap (λ (x : Bool). record { coloring = colored_by args.coloring a.coloring; verbose = args.verbose; reported = x }) error in
    subst (λ (p : Parsed). SaysParsed f before after came tells p notes env (looks_of a) now old new) (sym is) (
      noted,
      subst (λ (x : Coloring). SaysNotes x notes old.streams.err noted) coloring notes_said,
      subst (λ (l : Looks). SaysLoaded f before after came tells args env l now (scene_with old.calls noted old) new) dressed loaded,
    )

-- an error was reported where one ended the call
pub none_ended : {T E : Type 0} (r : Result T E) (now : Bool) → OnErr r (now ≡ true) → now ≡ false → IsOk r
none_ended (Ok v) now told quiet = cc
none_ended (Err e) now told quiet = let e : true ≡ false = sym told ∙ quiet in absurd (cc)

-- once the error is told, if there is one
pub looks_ended : {E : Type 0} (r : Result (Unit {0}) E) (before now : Term) → OnOk r (now ≡ before) → OnErr r (now.error ≡ true) → now ≡ record before { error = now.error } → looks_of now ≡ reported_on (is_err r || before.error) (looks_of before)
looks_ended (Ok done) before now same told term = ap looks_of same
looks_ended (Err e) before now same told term = ap looks_of term ∙ ap (λ (b : Bool). reported_on b (looks_of before)) told

-- one text more
pub infos_more : (coloring : Coloring) (texts : List (String Global)) (k : ℕ) (d one : String Global) (old mid end : Stream) → k < length texts → one ≡ get_or texts k d
    → WritesText (info_line coloring (string_bytes one)) old mid → WritesAll (map (info_line coloring) (map string_bytes (drop (k + 1) texts))) mid end
    → WritesAll (map (info_line coloring) (map string_bytes (drop k texts))) old end
infos_more coloring texts k d one old mid end lt is wrote more =
    subst (λ l. WritesAll (map (info_line coloring) (map string_bytes l)) old end) (sym (drop_more texts k d lt))
    (subst (λ n. WritesAll (map (info_line coloring) (map string_bytes (n ∷ drop (k + 1) texts))) old end) is (mid, wrote, more))
