use Rattle.std.proofs.Common.{rules, tests}
use Rattle.std.proofs.lemmas.Iterator.{YieldsList-from_slice, cases_from_any}
use Rattle.hack_samples.specs.Samples.{RowShows}
use Rattle.hack_samples.proofs.ShowLemmas.{any-told}
use Rattle.hack_suspects.proofs.counts.shows_one_of.Goals as goal

pub returns : goal.returns
returns c =
    let P = RowShows c.args.row.now in
    any-told (λ v. v.items) P c.args.patterns.now (λ p among shows. record { fault = p; among = among; shows = shows }) (λ h. (h.fault, h.among, h.shows)) c.any.result
    (cases_from_any _ _ _ (λ v. P v.items) (λ v. P v.items → ⊥) c.any.ensures.ran (YieldsList-from_slice c.args.patterns.now cc) (λ x q k. search (rules, tests)) (λ x q k. search (rules, tests)))
