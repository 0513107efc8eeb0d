-- The features that a call gives to each command.
use Rattle.std.specs.Prelude.{◌++◌, [], ℕ, Bool, false, not, List, Option, Some, None, codes, filter, map, option_map, unwrap_or, if◌then◌else◌}
use Rattle.std.specs.List.{list_any}
use Rattle.std.specs.Str.{bytes_eq}
use Rattle.hack_base.specs.Names.{Name, names_of}
use Rattle.hack_base.specs.Notes.{Note}
use Rattle.hack_base.specs.declared.notice.NoticeKind.TheVariants.{Info}
use Rattle.hack_load.specs.Contexts.{ContextRecord, package_at, features_at}
use Rattle.hack_load.specs.Features.{candidate_names_in}

-- a member has a feature of this name
abbrev pub knows : ContextRecord → ℕ → Name → Bool
knows cx id name = unwrap_or (option_map (λ fs. list_any (bytes_eq name) (candidate_names_in fs)) (features_at cx id)) false

-- the name of a package
abbrev pub name_or_empty_at : ContextRecord → ℕ → Name
name_or_empty_at cx id = unwrap_or (option_map (λ p. p.name) (package_at cx id)) (codes "")

-- the features of `--features`
abbrev pub given_features : ContextRecord → List Name
given_features cx = names_of cx.args.features.items

-- the features that a command gets: where it is for a package, unknown ones may be left out
abbrev pub passed_for : ContextRecord → Option ℕ → List Name
passed_for cx None = given_features cx
passed_for cx (Some id) = if cx.args.ignore_unknown_features then filter (knows cx id) (given_features cx) else given_features cx

-- the notice that a feature is left out
abbrev pub left_out : Name → Name → Note
left_out of name = record { kind = Info; text = codes "skipped applying unknown `" ++ (name ++ (codes "` feature to " ++ of)) }

-- the notices on those that are left out
abbrev pub left_out_for : ContextRecord → Option ℕ → List Note
left_out_for cx None = []
left_out_for cx (Some id) = if cx.args.ignore_unknown_features then map (left_out (name_or_empty_at cx id)) (filter (λ f. not (knows cx id f)) (given_features cx)) else []
