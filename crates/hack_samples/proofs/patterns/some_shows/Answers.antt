use Rattle.std.proofs.Common.{rules, tests}
use Rattle.std.proofs.lemmas.Iterator.{YieldsList-from_slice, cases_from_any}
use Rattle.hack_samples.specs.Sets.{tables_of}
use Rattle.hack_samples.specs.Samples.{Shows}
use Rattle.hack_samples.proofs.ShowLemmas.{any-told}
use Rattle.hack_samples.proofs.patterns.some_shows.Goals as goal

pub returns : goal.returns
returns c =
    let P = Shows (tables_of c.args.providers.now) c.args.pattern.now in
    any-told (λ v. v.items) P c.args.sets.now (λ s chosen shows. record { by = s; chosen = chosen; shows = shows }) (λ h. (h.by, h.chosen, h.shows)) c.any.result
    (cases_from_any _ _ _ (λ v. P v.items) (λ v. P v.items → ⊥) c.any.ensures.ran (YieldsList-from_slice c.args.sets.now cc) (λ x q k. search (rules, tests)) (λ x q k. search (rules, tests)))
