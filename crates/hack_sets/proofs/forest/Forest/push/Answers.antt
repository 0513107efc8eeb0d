use Rattle.std.proofs.Common.{◌∷◌, [], ◌∙◌, ap, arith}
use Rattle.hack_sets.specs.Links.{grown_sets}
use Rattle.hack_sets.proofs.ForestLemmas.{length-grown, grown-push, back-tried}
use Rattle.hack_sets.proofs.forest.Forest.push.Goals as goal

pub invariant_of-self : goal.invariant_of-self
invariant_of-self c = record {
  back = back-tried _ c.args.self.now.links.items c.push.new.self.items (record { earlier = c.args.earlier; last = c.args.last }) c.push.ensures.items c.args.self.now.back
      (omega (arith, c.requires, length-grown ([] ∷ []) c.args.self.now.links.items));
}

pub returns : goal.returns
returns c =
    let old = c.args.self.now.links.items in
    ap (grown_sets ([] ∷ [])) c.in_ok-push.ensures.items
    ∙ grown-push ([] ∷ []) old (record { earlier = c.args.earlier; last = c.args.last })
