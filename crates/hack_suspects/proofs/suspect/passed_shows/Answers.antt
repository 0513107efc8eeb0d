use Rattle.std.proofs.Common.{◌≡◌, rules, tests, false}
use Rattle.std.specs.Prelude.{slice_get, Some}
use Rattle.std.proofs.lemmas.Iterator.{YieldsList-from_slice, cases_from_any}
use Rattle.std.proofs.lemmas.List.Elements.{All-append}
use Rattle.hack_samples.specs.Samples.{RowShows}
use Rattle.hack_samples.proofs.ShowLemmas.{any-told, all-left}
use Rattle.hack_suspects.specs.Suspects.{RunOutcome}
use Rattle.hack_suspects.proofs.CountLemmas.{plain}
use Rattle.hack_suspects.proofs.PatternLemmas.{all-right}
use Rattle.hack_suspects.proofs.suspect.passed_shows.Goals as goal

pub returns : goal.returns
returns c =
    let front = c.args.front.now in
    let rest = c.args.rest.now in
    let P : RunOutcome → Type 0 = λ r. (r.failed ≡ false) × RowShows r.on front × RowShows r.on rest in
    any-told plain P c.args.outcomes.now
    (λ r among p. record { by = r; among = among; ended = p.0; shows = All-append (λ s. slice_get r.on s.candidate ≡ Some s.on) front rest p.1 p.2 })
    (λ h. (h.by, h.among, (h.ended, all-left (λ s. slice_get h.by.on s.candidate ≡ Some s.on) front rest h.shows, all-right (λ s. slice_get h.by.on s.candidate ≡ Some s.on) front rest h.shows))) c.any.result
    (cases_from_any _ _ _ (λ r. P (plain r)) (λ r. P (plain r) → ⊥) c.any.ensures.ran (YieldsList-from_slice c.args.outcomes.now cc) (λ x q k. search (rules, tests)) (λ x q k. search (rules, tests)))
