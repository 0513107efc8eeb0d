use Rattle.std.proofs.Common.{◌≡◌, ◌<◌, ℕ, [], get_or, length, ap, ◌∙◌, arith}
use Rattle.std.proofs.lemmas.Bool.{lt-ltb, ltb-true}
use Rattle.hack_samples.specs.Sets.{rows_of}
use Rattle.hack_features.specs.Tables.{count_at}
use Rattle.hack_features.specs.View.{choice_of}
use Rattle.hack_features.proofs.CandidateLemmas.{length-candidates_of}
use Rattle.hack_features.proofs.RuleLemmas.{tables_of}
use Rattle.hack_features.proofs.rules.Rules.reaches.Goals as goal

pub returns : goal.returns
returns c =
    let r = c.args.self.now in
    let n : ℕ = count_at (get_or (rows_of r.tables.hits.items) c.args.group []) c.args.candidate in
    let is : c.count.result ≡ n =
    c.count.ensures ∙ ap (λ row. count_at row c.args.candidate) (c.row_at.ensures ∙ ap (λ rows. get_or (rows_of rows) c.args.group []) c.as_slice.ensures.value) in
    let low : c.args.candidate < length (choice_of r).candidates = omega (arith, c.requires.candidate, length-candidates_of r.given.features.now) in
    let iff = (tables_of r).reached c.args.group c.args.candidate c.requires.group low in (
      λ t. iff.0 (omega (arith, ltb-true 0 c.count.result t)),
      λ w. lt-ltb 0 c.count.result (omega (arith, iff.1 w)),
    )
