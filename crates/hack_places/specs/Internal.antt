-- What only private functions of the crate promise each other.
use Rattle.std.specs.Prelude.{string_bytes}
use Rattle.hack_places.specs.declared.workspace.Said.{Said}
use Rattle.hack_places.specs.declared.workspace.Said.TheVariants as said
use Rattle.hack_places.specs.Folders.{At, Here, Nothing, Out, Saying}

-- ---- as the code has it
-- what is said in a folder
abbrev pub saying : Said → Saying
saying said.Here = Here
saying said.Out = Out
saying (said.At path) = At (string_bytes path)
saying said.Nothing = Nothing
