-- The texts of errors, and which error of the list an error of a reader or a writer becomes.
use Rattle.std.specs.Prelude.{ℕ, List, ◌++◌, Bool, true, false, codes, string_bytes, if◌then◌else◌}
use Rattle.std.specs.declared.io.ErrorKind.{ErrorKind}
use Rattle.std.specs.declared.io.ErrorKind.TheVariants.{OutOfMemory}
use Rattle.hack_powerset_list.specs.declared.fault.ListFault.{ListFault}
use Rattle.hack_powerset_list.specs.declared.fault.ListFault.TheVariants.{Usage, Number, Group, NotText, Input, Read, Write, Memory}

-- the text of an error
abbrev pub list_fault_text : ListFault → List ℕ
list_fault_text Usage = codes "usage: powerset-list [--depth N] [--at-least-one-of LIST]... [--mutually-exclusive-features LIST]..."
list_fault_text (Number text) = codes "invalid number `" ++ string_bytes text ++ codes "`"
list_fault_text (Group option) = option.now ++ codes " requires a list of two or more features separated by space or comma"
list_fault_text NotText = codes "the words must be UTF-8"
list_fault_text Input = codes "features must be an object of arrays of texts"
list_fault_text Read = codes "failed to read the features"
list_fault_text Write = codes "failed to write the command list"
list_fault_text Memory = codes "out of memory"

-- the line that reports an error
abbrev pub fault_line : ListFault → List ℕ
fault_line fault = codes "error: " ++ list_fault_text fault ++ codes "\n"

-- the kind says that memory was refused
abbrev pub is_memory_kind : ErrorKind → Bool
is_memory_kind OutOfMemory = true
is_memory_kind _ = false

-- an error of this kind as an error of the list: out of memory, or else the other one
abbrev pub told_as : ErrorKind → ListFault → ListFault
told_as kind other = if is_memory_kind kind then Memory else other
