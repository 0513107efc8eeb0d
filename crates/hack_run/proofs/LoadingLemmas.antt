-- What a call asked while it loaded, whichever error ended that.
use Rattle.std.proofs.Common.{◌≡◌, inl, inr, refl, sym, subst, ap, ℕ, List, Result, Ok, Err, Global, String, string_bytes, true}
use Rattle.std.specs.Prelude.{MatchResult}
use Rattle.std.specs.Result.{is_err, result_ok, result_unwrap_or}
use Rattle.hack_base.specs.Names.{Name}
use Rattle.hack_files.specs.Files.{Change, Contents}
use Rattle.hack_process.specs.Calls.{Call, MayAdd}
use Rattle.hack_process.specs.CommandTexts.{Command}
use Rattle.hack_process.specs.Commands.{asked_of}
use Rattle.hack_metadata.specs.QuestionCalls.{EndsSo, MayAsk, Stage, StopsQuestion}
use Rattle.hack_metadata.specs.Requests.{Question, question}
use Rattle.hack_metadata.specs.declared.ask.fault.AskFault.{AskFault}
use Rattle.hack_metadata.specs.declared.ask.fault.AskFault.TheVariants as ask
use Rattle.hack_metadata.specs.declared.metadata.Metadata.{Metadata}
use Rattle.hack_words.specs.declared.cli.args.Args.{Args}
use Rattle.hack_words.specs.declared.cli.env.Env.{Env}
use Rattle.hack_load.specs.Answers.{AreAnswers, IsAskFault, LoadsFromMetadata}
use Rattle.hack_load.specs.CargoQuestions.{FailsLocate, locate, told_version}
use Rattle.hack_load.proofs.AnswerLemmas.{ends-map}
use Rattle.hack_load.specs.ContextOf.{warnings_of}
use Rattle.hack_load.specs.declared.answers.Answers.{Answers}
use Rattle.hack_load.specs.declared.fault.ContextFault.{ContextFault}
use Rattle.hack_load.specs.declared.fault.ContextFault.TheVariants as faults
use Rattle.hack_load.specs.declared.loaded.Loaded.{Loaded}
use Rattle.hack_run.specs.Loading.{AnswersMetadata, AreLoaded, Loads, at_location, at_manifests, at_metadata}
use Rattle.hack_drive.specs.Warnings.{have_warning}
use Rattle.hack_run.proofs.CallLemmas.{fault_may}

-- a version of cargo that can't be read warns
pub warns_unknown : (version : Result ℕ (String Global)) → have_warning (warnings_of (told_version version)) ≡ is_err version
warns_unknown (Ok minor) = refl
warns_unknown (Err warning) = refl

-- a question that ended asked at most for one thing more
stops : (q : Question) (stage : Stage) (mid new : List Call) (e : AskFault) → StopsQuestion q stage mid new e → MayAsk q stage mid new
stops q stage mid new ask.Memory h = h
stops q stage mid new ask.NoHost h = inl h.2
stops q stage mid new (ask.Process p) h = inr (h.1.0, h.1.1, fault_may (Unit {0}) _ _ mid new p h.1.2 tt)
stops q stage mid new (ask.Files f) h = elim h.4 [ inl same ↦ inl same.0 | inr made ↦ made.0 ]
stops q stage mid new (ask.Output shown) h = inl h.0
stops q stage mid new (ask.Field name) h = inl h.0

-- cargo was asked for the current manifest at most
located : (c : Command) (dir : Name) (old new : List Call) (e : ContextFault) → FailsLocate (Unit {0}) c dir old new e → MayAdd (asked_of true c) old new
located c dir old new faults.Memory h = h tt
located c dir old new (faults.Process e) h = fault_may (Unit {0}) _ _ old new e h.0 tt
located c dir old new _ h = absurd h

-- how a question ended, whatever was written
abbrev QuestionEndsWith : Type 0 → Question → Contents → List Call → List Call → Result Metadata AskFault → Type 0
QuestionEndsWith tells q held old new r = EndsSo tells q held old new (λ stage made. Unit {0}) r

-- the metadata are those of an answer
answered : (tells : Type 0) (args : Args) (env : Env) (held : Contents) (q : Question) (m : Metadata) (old new : List Call) → QuestionEndsWith tells q held old new (Ok m) → AnswersMetadata tells args env held q old new m
answered tells args env held q m old new e = (e.0, e.1, e.2, e.3, e.4, e.6)

-- what followed the metadata
from_metadata : (tells : Type 0) (args : Args) (env : Env) (held : Contents) (before now : ℕ) (q : Question) (m : Metadata) (old mid new : List Call) (r : Result Loaded ContextFault)
    → QuestionEndsWith tells q held old mid (Ok m) → LoadsFromMetadata tells args env held before now m mid new r → Loads tells args env held q old new (result_ok r)
from_metadata tells args env held before now q m old mid new (Ok l) e h =
    (mid, subst (AnswersMetadata tells args env held q old mid) (sym h.0) (answered tells args env held q m old mid e), h.1.reads, h.2)
from_metadata tells args env held before now q m old mid new (Err f) e (inl h) =
    at_manifests m (answered tells args env held q m old new (subst (λ (calls : List Call). QuestionEndsWith tells q held old calls (Ok m)) (sym h.0) e))
from_metadata tells args env held before now q m old mid new (Err f) e (inr h) =
    at_location m mid h.0 (answered tells args env held q m old mid e) h.1 (located (locate args env) (string_bytes env.current_dir) mid new f h.2)

-- the questions after that for the version
loads : (tells : Type 0) (args : Args) (env : Env) (held : Contents) (before now : ℕ) (q : Question) (old mid new : List Call) (r : Result Loaded ContextFault) (asked : Result Metadata AskFault)
    → QuestionEndsWith tells q held old mid asked
    → MatchResult asked (λ m. LoadsFromMetadata tells args env held before now m mid new r) (λ e. (new ≡ mid) × (fault : ContextFault) × IsAskFault e fault × (r ≡ Err fault))
    → Loads tells args env held q old new (result_ok r)
loads tells args env held before now q old mid new r (Ok m) e f = from_metadata tells args env held before now q m old mid new r e f
loads tells args env held before now q old mid new r (Err x) e f =
    subst (λ (r : Result Loaded ContextFault). Loads tells args env held q old new (result_ok r)) (sym f.3)
    (at_metadata e.0 e.1 e.2 e.3 (stops q e.0 e.1 new x (subst (λ (calls : List Call). StopsQuestion q e.0 e.1 calls x) (sym f.0) e.4)))

-- the questions of a call, whichever error ended them, and whatever they wrote
pub loaded : (tells : Type 0) (W : Stage → List Change → Type 0) (args : Args) (env : Env) (held : Contents) (before now : ℕ) (old new : List Call) (a : Answers) → AreAnswers tells W args env held before now old new a → AreLoaded tells args env held old new a
loaded tells W args env held before now old new a (inl h) =
    let q = question args env (result_unwrap_or a.cargo_version 0) h.host in
    inl (record {
      host = h.host;
      mid = h.mid;
      own = h.own;
      loads = loads tells args env held before now q h.mid h.loads.mid new a.loaded h.loads.asked (ends-map tells q held h.mid h.loads.mid W (λ stage made. Unit {0}) (λ stage made w. tt) h.loads.asked h.loads.ends) h.loads.follows;
    })
loaded tells W args env held before now old new a (inr h) = inr (ap result_ok h.0, h.2)
