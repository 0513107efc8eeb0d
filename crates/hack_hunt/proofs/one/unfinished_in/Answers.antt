use Rattle.std.proofs.Common.{◌≡◌, ◌<◌, ◌∙◌, [], arith, ap, get_or, length, subst, sym}
use Rattle.std.proofs.lemmas.List.{get_or-map, length-map}
use Rattle.std.proofs.lemmas.List.Elements.{All-contains}
use Rattle.std.specs.Prelude.{Bool, List}
use Rattle.hack_closures.specs.Closures.{IsBuildFor}
use Rattle.hack_closures.specs.View.{alone_in, choice_in, has_all, search_of}
use Rattle.hack_conflicts.specs.Rules.{IsChoice}
use Rattle.hack_conflicts.specs.Runs.{Run, finding_of, run_of, runs_in}
use Rattle.hack_conflicts.specs.Sets.{rows_of}
use Rattle.hack_conflicts.specs.declared.tried.BuildOutcome.TheVariants.{Broken, Failed}
use Rattle.hack_conflicts.proofs.OpenLemmas.{open_least}
use Rattle.hack_hunt.proofs.SetLemmas.{failed_at}
use Rattle.hack_hunt.proofs.one.unfinished_in.Goals as goal

pub returns-in_ok-build_of-in-Some : goal.returns-in_ok-build_of-in-Some
returns-in_ok-build_of-in-Some c =
    let finding = c.requires.1 in
    let closures = c.args.closures.now in
    let tried = c.args.found.now.runs.items in
    let runs = runs_in tried in
    let conflicts = rows_of c.args.found.now.conflicts.items in
    let place = c.in-Some.place in
    let left = c.in-Some.ensures in
    let none : Run = record { set = []; outcome = Broken } in
    let low : place < length tried = omega (arith, left.0, length-map tried run_of) in
    let one = get_or runs place none in
    let here : one.set ≡ c.as_slice-set.result.now = ap (λ (r : Run). r.set) (get_or-map run_of tried place c.index.result.now none low ∙ ap run_of (sym c.index.ensures)) ∙ sym c.as_slice-set.ensures.value in
    let failed = failed_at runs conflicts place none left.0 left.1 in
    let may = All-contains (λ (run : Run). IsChoice (search_of closures) run.set) runs (record { set = one.set; outcome = Failed }) finding.course.chosen failed in (
      one.set,
      failed,
      left.1.1,
      open_least (search_of closures) c.requires.0 (finding_of c.args.found.now) finding place left,
      subst (λ (s : List Bool). IsBuildFor (choice_in closures) (alone_in closures) (has_all closures) (search_of closures) s c.in_ok-build_of-in-Some.field-0) (sym here) (c.in_ok-build_of-in-Some.ensures (subst (IsChoice (search_of closures)) here may)),
    )
