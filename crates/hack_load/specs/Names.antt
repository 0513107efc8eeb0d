-- Names of packages as they are shown.
use Rattle.std.specs.Prelude.{option_copied}
use Rattle.hack_base.specs.Names.{Name}
use Rattle.hack_load.specs.Contexts.{shown_name}
use Rattle.hack_load.specs.declared.name.VerboseName.{VerboseName}

-- the text that a name shows
abbrev pub name_text : VerboseName → Name
name_text v = shown_name v.name.now (option_copied v.folder)
