-- The fields of the arguments, as uses of options ask for them.
use Rattle.std.specs.Prelude.{ℕ, ◌&&◌, not, ◌++◌, ◌-◌, List, [], ◌∷◌, Bool, false, if◌then◌else◌, Option, Some, option_and_then, codes, nat_lt, bytes_eq}
use Rattle.std.specs.List.{list_any, repeat}
use Rattle.std.specs.Option.{option_map_or, option_or, unwrap_or}
use Rattle.std.specs.Result.{result_ok}
use Rattle.hack_options.specs.declared.opt.Opt.TheVariants as opt
use Rattle.hack_lexopt.specs.Cuts.{LongFlag}
use Rattle.hack_rules.specs.Uses.{Use, Unknown, is_given}
use Rattle.hack_rules.specs.Values.{from_value, value_given}
use Rattle.hack_versions.specs.Readings.{at_dots, is_old, range_of}
use Rattle.hack_versions.specs.declared.version.VersionRange.{VersionRange}
use Rattle.hack_versions.specs.declared.version.MaybeVersion.TheVariants.{Msrv}
use Rattle.hack_term.specs.Groups.{log_group_of}
use Rattle.hack_term.specs.Lines.{coloring_of}
use Rattle.hack_term.specs.declared.term.Coloring.{Coloring}
use Rattle.hack_term.specs.declared.term.Coloring.TheVariants.{Auto}
use Rattle.hack_term.specs.declared.log_group.LogGroup.{LogGroup}
use Rattle.hack_term.specs.declared.log_group.LogGroup.TheVariants as group

-- the colouring: that of the command line, or without one that of the environment; auto where this
-- names none
abbrev pub coloring_asked : Option (List ℕ) → List Use → Coloring
coloring_asked term_color us =
    unwrap_or (option_and_then coloring_of (option_or (value_given opt.Color us) term_color)) Auto

-- the range of versions: each package's own under --rust-version
abbrev pub range_asked : List Use → Option VersionRange
range_asked us =
    if is_given opt.RustVersion us then Some (record { start_inclusive = Msrv; end_inclusive = Msrv })
    else from_value opt.VersionRange (λ text. result_ok (range_of text)) us

-- the given range is in the old form
abbrev pub is_old_asked : List Use → Bool
is_old_asked us = option_map_or (λ s. is_old s.back) (from_value opt.VersionRange at_dots us) false

-- an option --message-format, which belongs to cargo
abbrev pub is_message_format : Use → Bool
is_message_format (Unknown (LongFlag name) value) = bytes_eq name (codes "message-format")
is_message_format u = false

-- how lines are grouped: not at all in a list of commands, else by the option, else by the
-- environment, unless cargo's messages are formatted
abbrev pub log_group_asked : Bool → List Use → LogGroup
log_group_asked github us =
    if is_given opt.PrintCommandList us then group.None
    else unwrap_or (from_value opt.LogGroup log_group_of us)
    (if github && not (list_any is_message_format us) then group.GithubActions else group.None)

-- -v is passed on once less than it is given
abbrev pub verbose_words : ℕ → List (List ℕ)
verbose_words count = if nat_lt 1 count then (codes "-" ++ repeat (count - 1) (codes "v")) ∷ [] else []
