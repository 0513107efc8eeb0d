use Rattle.std.proofs.Common.{◌+◌, ◌<◌, ◌∷◌, [], arith, List, ℕ, length, All, get_or, length-drop, ap, subst}
use Rattle.std.proofs.lemmas.List.{length-map}
use Rattle.hack_sets.specs.Links.{places_in}
use Rattle.hack_sets.specs.Forest.{sets_of, picked_sets}
use Rattle.hack_sets.proofs.ForestLemmas.{length-grown}
use Rattle.hack_sets.proofs.forest.FeatureSets.read.Goals as goal

pub overflow_add-rank : goal.overflow_add-rank
overflow_add-rank c =
    let all : List (List ℕ) = sets_of c.args.self.now.forest in
    let links = c.args.self.now.forest.links in
    omega (arith, c.requires, ap (λ p. length (picked_sets p all)) c.in-None.is, length-drop 1 all, length-grown ([] ∷ []) links.items, links.ok.0, links.ok.1, links.small)

pub read-requires-in-Some : goal.read-requires-in-Some
read-requires-in-Some c =
    let all : List (List ℕ) = sets_of c.args.self.now.forest in
    let n : ℕ = length c.args.self.now.forest.links.items + 1 in
    let places : List ℕ = c.in-Some.places.items in
    let inside : All (λ p. p < n) places = subst (λ p. All (λ q. q < n) (places_in p)) c.in-Some.is c.args.self.now.inside in
    let within : c.args.rank < length places = omega (arith, c.requires, ap (λ p. length (picked_sets p all)) c.in-Some.is, length-map places (λ p. get_or all p [])) in
    omega (arith, inside c.args.rank c.index.result.now within, c.index.ensures, length-grown ([] ∷ []) c.args.self.now.forest.links.items)
