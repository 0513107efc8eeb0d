-- What counts of failures say of errors, if failures are counted.
use Rattle.std.specs.Prelude.{◌≡◌, ℕ, Option, Result, Ok, Err, ⊤, false}
use Rattle.std.specs.declared.io.Error.{Error}
use Rattle.std.specs.IoError.{error_kind}
use Rattle.hack_base.specs.Writes.{HasFailed, NoFewer}
use Rattle.hack_powerset_list.specs.Faults.{is_memory_kind}
use Rattle.hack_powerset_list.specs.declared.fault.ListFault.{ListFault}
use Rattle.hack_powerset_list.specs.declared.fault.ListFault.TheVariants.{Usage, Number, Group, NotText, Input, Read, Write, Memory}

-- an error counts a failure, unless its kind is out of memory; no failure is forgotten
abbrev pub CountsUnlessMemory : {T : Type 0} → Option ℕ → Option ℕ → Result T Error → Type 0
CountsUnlessMemory old new (Ok done) = NoFewer old new
CountsUnlessMemory old new (Err error) = (is_memory_kind (error_kind error) ≡ false → HasFailed old new) × NoFewer old new

-- an error of reading comes only if the reader failed, one of writing only if the writer did
abbrev pub IsCounted : Option ℕ → Option ℕ → Option ℕ → Option ℕ → ListFault → Type 0
IsCounted read_old read_new write_old write_new Read = HasFailed read_old read_new
IsCounted read_old read_new write_old write_new Write = HasFailed write_old write_new
IsCounted read_old read_new write_old write_new Usage = ⊤
IsCounted read_old read_new write_old write_new (Number text) = ⊤
IsCounted read_old read_new write_old write_new (Group option) = ⊤
IsCounted read_old read_new write_old write_new NotText = ⊤
IsCounted read_old read_new write_old write_new Input = ⊤
IsCounted read_old read_new write_old write_new Memory = ⊤
