use Rattle.std.proofs.Common.{◌≡◌, ℕ, List, length, Option, map, subst, MatchOption, BTreeMap, String, Vec, Global}
use Rattle.std.specs.IoError.{error_kind}
use Rattle.std.specs.Io.KnownBytes.{Appends}
use Rattle.hack_base.specs.Writes.{AppendsFront}
use Rattle.hack_features.specs.declared.feature.Feature.{Feature}
use Rattle.hack_base.specs.Names.{names_of}
use Rattle.hack_features.specs.Feature.{name_of}
use Rattle.hack_routes.specs.FeatureMap.{FeatureMap, feature_map}
use Rattle.hack_features.specs.View.{choice_of, size_of}
use Rattle.hack_plan.specs.Runs.{runs_from}
use Rattle.hack_powerset_list.specs.Input.{IsMapText, IsNoMapText}
use Rattle.hack_powerset_list.specs.Lines.{run_lines}
use Rattle.hack_powerset_list.specs.ListRuns.{options_from}
use Rattle.hack_powerset_list.specs.Internal.{AreListRuns, chosen_from}
use Rattle.hack_powerset_list.specs.Walks.{listed_in}
use Rattle.hack_powerset_list.proofs.WalkListing.{walk_runs}
use Rattle.hack_powerset_list.specs.CommandList.{WritesFront}
use Rattle.hack_powerset_list.proofs.ListLemmas.{list_for, refused-writing}
use Rattle.hack_powerset_list.proofs.StreamLemmas.{counted-writing}
use Rattle.hack_powerset_list.proofs.list.powerset_list.Goals as goal

-- which map was found, or why none was
abbrev Found : List ℕ → Option (BTreeMap (String Global) (Vec (String Global) Global)) → Type 0
Found bytes found = MatchOption found (IsNoMapText bytes) (λ m. IsMapText bytes (feature_map m))

pub returns-in-Ok-write_lines-clause-ok : goal.returns-in-Ok-write_lines-clause-ok
returns-in-Ok-write_lines-clause-ok g c =
    let w = c.in_ok-wishes.wishes in
    let m : FeatureMap = feature_map c.in-Some.map in
    let bytes = c.in-Ok.bytes.items in
    let fs = c.in_ok-features.features.items in
    let r = c.in_ok-rules.rules in
    let runs = runs_from (options_from w fs) (listed_in r) in
    let made : AreListRuns w fs m runs =
    walk_runs w fs m r
    (subst (λ (l : List Feature). choice_of r ≡ chosen_from w l m) c.as_slice-3.ensures.value c.in_ok-rules.ensures.choice)
    (subst (λ (l : List Feature). size_of r ≡ length l) c.as_slice-3.ensures.value c.in_ok-rules.ensures.size) in
    let read : IsMapText bytes m = subst (Found bytes) c.in-Some.is (subst (λ b. Found b c.in_ok-map.field-0) c.as_slice.ensures.value c.in_ok-map.ensures) in
    record {
      text = run_lines (map name_of fs) runs;
      list = list_for (names_of c.args.words.now) (g.R.Source.remaining c.args.input.now) w bytes fs m runs c.in_ok-wishes.ensures.ok c.in-Ok.ensures.bytes read made c.in_ok-features.ensures.names c.in_ok-features.ensures.groups;
      written = subst (λ (l : List Feature). Appends (g.W.Sink.contents c.args.out.now) (g.W.Sink.contents c.write_lines.new.out) (run_lines (map name_of l) (runs_from (options_from w l) (listed_in r)))) c.as_slice-5.ensures.value c.in-Ok-write_lines.ensures.all;
    }

pub returns-clause-err : goal.returns-clause-err
returns-clause-err g c =
    let words = names_of c.args.words.now in
    let left = g.R.Source.remaining c.args.input.now in
    let w = c.in_ok-wishes.wishes in
    let m : FeatureMap = feature_map c.in-Some.map in
    let bytes = c.in-Ok.bytes.items in
    let fs = c.in_ok-features.features.items in
    let r = c.in_ok-rules.rules in
    let runs = runs_from (options_from w fs) (listed_in r) in
    let made : AreListRuns w fs m runs =
    walk_runs w fs m r
    (subst (λ (l : List Feature). choice_of r ≡ chosen_from w l m) c.as_slice-3.ensures.value c.in_ok-rules.ensures.choice)
    (subst (λ (l : List Feature). size_of r ≡ length l) c.as_slice-3.ensures.value c.in_ok-rules.ensures.size) in
    let read : IsMapText bytes m = subst (Found bytes) c.in-Some.is (subst (λ b. Found b c.in_ok-map.field-0) c.as_slice.ensures.value c.in_ok-map.ensures) in
    let front : WritesFront words left (g.W.Sink.contents c.args.out.now) (g.W.Sink.contents c.write_lines.new.out) = record {
      text = run_lines (map name_of fs) runs;
      list = list_for words left w bytes fs m runs c.in_ok-wishes.ensures.ok c.in-Ok.ensures.bytes read made c.in_ok-features.ensures.names c.in_ok-features.ensures.groups;
      written = subst (λ (l : List Feature). AppendsFront (g.W.Sink.contents c.args.out.now) (g.W.Sink.contents c.write_lines.new.out) (run_lines (map name_of l) (runs_from (options_from w l) (listed_in r)))) c.as_slice-5.ensures.value c.in-Err-write_lines.ensures.front;
    } in
    rw c.of_error-in-Err-write_lines.ensures (refused-writing words left _ _ (error_kind c.in-Err-write_lines.error) front)

pub returns-clause-counted : goal.returns-clause-counted
returns-clause-counted g c =
    rw c.of_error-in-Err-write_lines.ensures (counted-writing _ _ _ _ (error_kind c.in-Err-write_lines.error) c.in-Err-write_lines.ensures.counted.0)
