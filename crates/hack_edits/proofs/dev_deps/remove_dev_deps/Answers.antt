use Rattle.std.proofs.Common.{◌≡◌, ◌||◌, Some, true, sym, ap, ◌∙◌}
use Rattle.std.proofs.lemmas.Bool.{false≢true}
use Rattle.toml.specs.View.{table_view}
use Rattle.toml.specs.Parse.{parse_document}
use Rattle.hack_manifest.specs.PieceView.{slice_view, pieces_view}
use Rattle.hack_edits.specs.DevDeps.{some_dev}
use Rattle.hack_edits.specs.Lookup.{has_dev}
use Rattle.hack_edits.proofs.AgainLemmas.{no-work}
use Rattle.hack_edits.proofs.dev_deps.remove_dev_deps.Goals as goal

pub returns-clause-unchanged : goal.returns-clause-unchanged
returns-clause-unchanged c h =
    let old = table_view c.in-Some.old in
    let read : parse_document c.args.text.now ≡ Some old = sym (rw c.in-Some.is at c.in_ok-old.ensures) in
    let none = no-work c.args.text.now c.in_ok-cut.cut.tail.now old (pieces_view c.in_ok-cut.cut) read c.in_ok-cut.ensures h in
    let work : (has_dev old || some_dev (pieces_view c.in_ok-cut.cut)) ≡ true =
    ap (λ xs. has_dev old || some_dev (slice_view xs)) (sym c.deref.ensures.value) ∙ sym c.has_work.ensures ∙ c.if-not-has_work.false in
    absurd (false≢true (sym none ∙ work))
