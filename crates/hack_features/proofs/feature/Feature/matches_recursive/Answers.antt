use Rattle.std.proofs.Common.{◌↔◌, Any, Contains, IsTrue, subst}
use Rattle.hack_features.specs.Feature.{group_of}
use Rattle.hack_base.proofs.NameLemmas.{shown-any, any-shown}
use Rattle.hack_features.proofs.feature.Feature.matches_recursive.Goals as goal

pub returns : goal.returns
returns c =
    let group = group_of c.args.self.now in
    let found : IsTrue c.matches_one_of.result ↔ Any (λ ref. Contains group ref.now) c.in_ok-found.found.items =
    subst (λ refs. IsTrue c.matches_one_of.result ↔ Any (λ ref. Contains group ref.now) refs) c.as_slice.ensures.value c.matches_one_of.ensures in (
      λ t. let w = shown-any (λ n. Contains group n) c.in_ok-found.found.items (found.0 t) in
          (w.0, w.2, (c.in_ok-found.ensures.exact w.0).0 w.1),
      λ r. found.1 (any-shown (λ n. Contains group n) c.in_ok-found.found.items r.0 ((c.in_ok-found.ensures.exact r.0).1 r.2) r.1),
    )
