use Rattle.std.proofs.Common.{◌≡◌, ◌-◌, ◌∷◌, [], ◌++◌, List, ℕ, get_or, arith, sym, ◌∙◌, ap, append-nil}
use Rattle.std.specs.Prelude.{reverse}
use Rattle.hack_sets.specs.declared.forest.Link.{Link}
use Rattle.hack_sets.specs.Forest.{sets_of}
use Rattle.hack_sets.proofs.ForestLemmas.{length-grown, grown-keeps, set-at, read-step}
use Rattle.hack_sets.proofs.forest.Forest.read.Goals as goal

pub loop-at-init : goal.loop-at-init
loop-at-init c =
    let all : List (List ℕ) = sets_of c.args.self.now in
    record {
      inside = omega (arith, length-grown ([] ∷ []) c.args.self.now.links.items);
      read = sym (append-nil (get_or all c.args.place [])) ∙ ap (λ l. get_or all c.args.place [] ++ reverse l) (sym c.clear.ensures.items);
    }

pub loop-at-preserved : goal.loop-at-preserved
loop-at-preserved c =
    let all : List (List ℕ) = sets_of c.args.self.now in
    let links : List Link = c.args.self.now.links.items in
    let link : Link = c.index-link.result.now in
    let is : get_or links (c.loop-at.at - 1) link ≡ link = sym c.index-link.ensures in
    let back = c.args.self.now.back (c.loop-at.at - 1) link (omega (arith, c.loop-at.invariant.inside, c.loop-at-test.true)) in
    record {
      inside = omega (arith, back, ap (λ (l : Link). l.earlier) is, c.loop-at.invariant.inside);
      read = read-step (get_or all c.args.place []) (get_or all c.loop-at.at []) c.loop-at.set.items link.last (get_or all link.earlier [])
          c.loop-at.invariant.read
          (set-at links c.loop-at.at link c.args.self.now.back (omega (arith, c.loop-at-test.true)) c.loop-at.invariant.inside
          ∙ ap (λ (l : Link). get_or all l.earlier [] ++ l.last ∷ []) is)
          ∙ ap (λ l. get_or all link.earlier [] ++ reverse l) (sym c.in_ok-push.ensures.items);
    }

pub returns : goal.returns
returns c =
    let all : List (List ℕ) = sets_of c.args.self.now in
    let links : List Link = c.args.self.now.links.items in
    let end : c.loop-at.at ≡ 0 = omega arith in
    c.reverse.ensures.items
    ∙ sym (c.loop-at.invariant.read ∙ ap (λ n. get_or all n [] ++ reverse c.loop-at.set.items) end ∙ ap (λ l. l ++ reverse c.loop-at.set.items) (grown-keeps ([] ∷ []) links 0 (omega arith)))
