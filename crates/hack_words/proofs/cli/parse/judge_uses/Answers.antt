use Rattle.std.proofs.Common.{ap, subst, ◌∙◌}
use Rattle.std.specs.Prelude.{IfSome, Option}
use Rattle.std.specs.Option.{option_map_or}
use Rattle.hack_base.specs.Names.{names_of}
use Rattle.hack_rules.specs.LateView.{IsLate}
use Rattle.hack_rules.specs.Uses.{views}
use Rattle.hack_rules.specs.declared.late.Late.{Late}
use Rattle.hack_words.specs.CommandLine.{Listing, Parsed}
use Rattle.hack_words.specs.Internal.{around_in}
use Rattle.hack_words.proofs.AskedLemmas.{asked_by}
use Rattle.hack_words.proofs.cli.parse.judge_uses.Goals as goal

pub returns-clause-ok : goal.returns-clause-ok
returns-clause-ok c =
    let us = views c.args.uses.now in
    let around = around_in c.args.around in
    let judged = c.in_ok-early.ensures in
    let is = c.in-Some.is in
    let late = subst (λ (o : Option Late). IfSome o (IsLate around.github_actions us)) is judged.4 in (
      judged.0 ∙ ap (λ (o : Option Late). option_map_or (λ late. Parsed c.args.behavior (names_of c.args.trailing.items) us) o (Listing us)) is,
      asked_by around.term_color around.github_actions us _ c.in_ok-of.field-0 c.in_ok-of.ensures.flags c.in_ok-of.ensures.texts c.in_ok-of.ensures.carries judged.1 judged.2 late,
      c.in_ok-notices.ensures,
    )
