use Rattle.std.proofs.Common.{◌∙◌, ◌++◌, ◌∷◌, [], ℕ, List, length, sym, ap, arith, length-append, append-nil, append_assoc}
use Rattle.std.proofs.lemmas.List.{take_more}
use Rattle.std.specs.List.{slice_index_or}
use Rattle.std.proofs.Math.Seq.{get_or-append_seam}
use Rattle.hack_sets.specs.Forest.{sets_of}
use Rattle.hack_sets.proofs.ForestLemmas.{grown-keeps, length-grown}
use Rattle.hack_sets.proofs.forest.Forest.push_set.Goals as goal

pub loop-position-init : goal.loop-position-init
loop-position-init c = record {
  within = omega (arith, length-grown ([] ∷ []) c.args.self.now.links.items);
  set = grown-keeps ([] ∷ []) c.args.self.now.links.items 0 (omega arith);
  kept = ([], sym (append-nil (sets_of c.args.self.now)));
}

pub loop-position-preserved : goal.loop-position-preserved
loop-position-preserved c =
    let old : List (List ℕ) = sets_of c.loop-position.self in
    let k = c.loop-position.position-index in
    let p = slice_index_or c.args.set.now c.loop-position.position-index 0 in
    let s = c.args.set.now in
    let set : List ℕ = slice_index_or old c.loop-position.at [] ++ p ∷ [] in
    record {
      within = omega (arith, c.len-next.ensures.same, ap length c.in_ok-push.ensures, length-append old (set ∷ []));
      set = ap (λ l. slice_index_or l c.len-next.result []) c.in_ok-push.ensures
          ∙ ap (λ n. slice_index_or (old ++ set ∷ []) n []) c.len-next.ensures.same
          ∙ get_or-append_seam old set [] []
          ∙ ap (λ l. l ++ p ∷ []) c.loop-position.invariant.set
          ∙ sym (take_more s k 0 c.loop-position-test.true);
      kept = let more = c.loop-position.invariant.kept in
          (more.0 ++ set ∷ [], c.in_ok-push.ensures ∙ ap (λ l. l ++ set ∷ []) more.1 ∙ append_assoc (sets_of c.args.self.now) more.0 (set ∷ []));
    }
