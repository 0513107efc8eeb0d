use Rattle.std.proofs.Common.{length, sym, ◌∙◌, subst}
use Rattle.hack_sets.specs.Sets.{IsSelection}
use Rattle.hack_features.specs.View.{choice_of}
use Rattle.hack_features.proofs.CandidateLemmas.{length-candidates_of}
use Rattle.hack_features.proofs.RuleLemmas.{tables_of, placed_of, wanted_iff, false_from}
use Rattle.hack_features.proofs.rules.Rules.covering.Goals as goal

pub returns-then-not-is_wanted : goal.returns-then-not-is_wanted
returns-then-not-is_wanted c =
    let choice = choice_of c.args.self.now in
    let sel : IsSelection (length choice.candidates) c.args.positions.now = subst (λ n. IsSelection n c.args.positions.now) (sym (length-candidates_of c.args.self.now.given.features.now)) c.requires in
    false_from _ (wanted_iff choice _ _ _ (tables_of c.args.self.now) c.args.positions.now sel) (sym c.is_wanted.ensures ∙ c.if-not-is_wanted.true)

pub returns : goal.returns
returns c =
    let choice = choice_of c.args.self.now in
    let sel : IsSelection (length choice.candidates) c.args.positions.now = subst (λ n. IsSelection n c.args.positions.now) (sym (length-candidates_of c.args.self.now.given.features.now)) c.requires in
    let wanted = (wanted_iff choice _ _ _ (tables_of c.args.self.now) c.args.positions.now sel).0 (sym c.is_wanted.ensures ∙ c.if-not-is_wanted.false) in
    (wanted, c.in_ok-first_cover.ensures choice (placed_of c.args.self.now) sel wanted)
