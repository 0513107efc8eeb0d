use Rattle.std.proofs.Common.{◌≡◌, ◌<◌, ◌∙◌, [], arith, ap, get_or, length, subst, sym}
use Rattle.std.proofs.lemmas.List.{get_or-map, length-map}
use Rattle.hack_closures.specs.View.{search_of}
use Rattle.hack_conflicts.specs.Rules.{IsChoice}
use Rattle.hack_conflicts.specs.Runs.{Run, run_of, runs_in}
use Rattle.hack_conflicts.specs.declared.tried.BuildOutcome.TheVariants.{Broken}
use Rattle.hack_hunt.proofs.listed.first_build.Goals as goal

pub returns : goal.returns
returns c =
    let tried = c.args.found.now.runs.items in
    let none : Run = record { set = []; outcome = Broken } in
    let low : 0 < length tried = omega (arith, c.if-len-eq0.false, c.len.ensures) in
    let many : 0 < length (runs_in tried) = omega (arith, low, length-map tried run_of) in
    let here : (get_or (runs_in tried) 0 none).set ≡ c.as_slice-set.result.now = ap (λ (r : Run). r.set) (get_or-map run_of tried 0 c.index.result.now none low ∙ ap run_of (sym c.index.ensures)) ∙ sym c.as_slice-set.ensures.value in
    let may = subst (IsChoice (search_of c.args.closures.now)) here (c.requires 0 none many) in
    (c.as_slice-set.result.now, may, c.in_ok-build_of.ensures may)
