-- The notices about the packages that a call runs on.
use Rattle.std.specs.Prelude.{◌≡◌, ◌==◌, ◌++◌, List, Bool, Option, not, map, filter, length, string_bytes}
use Rattle.hack_base.specs.Names.{Name, names_of}
use Rattle.hack_base.specs.Notes.{Note, info_note, warning_note}
use Rattle.hack_words.specs.declared.cli.args.Args.{Args}
use Rattle.hack_planner.specs.Members.{Member, AreRemaining, Collects, MatchesSome, is_called, is_skipped}
use Rattle.hack_planner.specs.Texts.{exclusion_text, lift_text, private_text}

-- whether exactly one package is left after exclusions, where private ones that are skipped count
-- too; and the notices: about exclusions that match no member, package names of
-- `--allow-together` that no member has, and private packages that are skipped
pub record AreListNotes (args : Args) (current : Option Name) (root : Name) (members : List Member)
    (is_single : Bool) (notes : List Note) : Type 0 where
  pub remaining : List Member
  pub on_exclusions : List Note
  pub left : AreRemaining args current members remaining
  pub single : is_single ≡ (length remaining == 1)
  pub unmatched : Collects (λ spec. ¬ MatchesSome members spec)
      (λ spec. warning_note (exclusion_text root spec)) (names_of args.exclude.items) on_exclusions
  pub told : notes ≡ on_exclusions ++ (map (λ owner. warning_note (lift_text root owner))
      (filter (λ owner. not (is_called members owner))
      (map (λ lift. string_bytes lift.0) args.allow_together.items))
      ++ map (λ m. info_note (private_text args.verbose m.pkg))
      (filter (is_skipped args) remaining))
