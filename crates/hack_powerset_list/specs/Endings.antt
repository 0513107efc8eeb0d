-- How a call of the program `powerset-list` ends.
use Rattle.std.specs.Prelude.{◌≡◌, ℕ, List, Option, IsTrue, false, true, map, drop, string_bytes, MatchResult, Result, String}
use Rattle.std.proofs.Common.{Global}
use Rattle.std.specs.Vec.Iter.{into_iter_items}
use Rattle.std.specs.IoError.{error_kind}
use Rattle.std.specs.Io.KnownBytes.{Appends}
use Rattle.std.specs.declared.vec.IntoIter.{IntoIter}
use Rattle.std.specs.declared.io.Error.{Error}
use Rattle.hack_base.specs.Streams.{Stream}
use Rattle.hack_base.specs.Writes.{AppendsFront, HasFailed}
use Rattle.hack_base.specs.Names.{Name}
use Rattle.hack_powerset_list.specs.declared.fault.ListFault.{ListFault}
use Rattle.hack_powerset_list.specs.declared.fault.ListFault.TheVariants.{NotText}
use Rattle.hack_powerset_list.specs.declared.call.Ending.{Ending}
use Rattle.hack_powerset_list.specs.Faults.{told_as, fault_line}
use Rattle.hack_powerset_list.specs.CommandList.{WritesList, RefusesList}

-- the arguments of a call as the system gives them, the program's name first; or why it doesn't
abbrev pub Arguments : Type 0
Arguments = Result (IntoIter (String Global) Global) Error

-- the words of a call: its arguments after the program's name
abbrev pub words_in : IntoIter (String Global) Global → List Name
words_in arguments = map string_bytes (drop 1 (into_iter_items arguments))

-- there are arguments, and the list that they ask for was written
abbrev pub WritesForCall : Arguments → Option (List ℕ) → Option (List ℕ) → Option (List ℕ) → Type 0
WritesForCall arguments left old new = MatchResult arguments (λ all. WritesList (words_in all) left old new) (λ e. ⊥)

-- why a call fails: its arguments are not UTF-8, or memory is refused for them, and nothing was
-- written; or `powerset_list` returns an error for them
abbrev pub RefusesCall : Arguments → Option (List ℕ) → Option (List ℕ) → Option (List ℕ) → ListFault → Type 0
RefusesCall arguments left old new fault = MatchResult arguments (λ all. RefusesList (words_in all) left old new fault) (λ e. (fault ≡ told_as (error_kind e) NotText) × (new ≡ old))

-- the list is written, and nothing is reported
pub record EndsWithList (arguments : Arguments) (left old new : Option (List ℕ)) (err_old err_new : Stream) (ending : Ending) : Type 0 where
  pub status : ending.status ≡ 0
  pub list : WritesForCall arguments left old new
  pub told : ending.told ≡ true
  pub silent : err_new ≡ err_old

-- there is an error of which this holds, and its line was written, or a front if a write failed
pub record EndsWithError (arguments : Arguments) (left old new : Option (List ℕ)) (IsTold : ListFault → Type 0) (err_old err_new : Stream) (ending : Ending) : Type 0 where
  pub status : ending.status ≡ 1
  pub fault : ListFault
  pub why : RefusesCall arguments left old new fault
  pub told : IsTold fault
  pub line : IsTrue ending.told → Appends err_old.bytes err_new.bytes (fault_line fault)
  pub front : AppendsFront err_old.bytes err_new.bytes (fault_line fault)
  pub counted : ending.told ≡ false → HasFailed err_old.failed err_new.failed
