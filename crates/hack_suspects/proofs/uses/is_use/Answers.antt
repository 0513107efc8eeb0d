use Rattle.std.proofs.Common.{◌∙◌, ◌&&◌, sym, ap, subst, Bool}
use Rattle.std.specs.Prelude.{MatchBool}
use Rattle.std.specs.List.{list_all}
use Rattle.hack_samples.specs.Samples.{RowShows}
use Rattle.hack_suspects.specs.Uses.{shows_setting}
use Rattle.hack_suspects.proofs.UseLemmas.{shows-told}
use Rattle.hack_suspects.proofs.uses.is_use.Goals as goal

pub returns-then-run : goal.returns-then-run
returns-then-run c =
    let row = c.args.run.now.on.items in
    shows-told c.row_shows.result row c.args.pattern.now (subst (λ r. MatchBool c.row_shows.result (RowShows r c.args.pattern.now) (RowShows r c.args.pattern.now → ⊥)) c.as_slice.ensures.value c.row_shows.ensures)
    ∙ sym (ap (λ (b : Bool). b && list_all (shows_setting row) c.args.pattern.now) c.if-run.true)
