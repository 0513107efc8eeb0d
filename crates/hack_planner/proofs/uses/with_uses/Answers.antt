use Rattle.std.proofs.Common.{◌≡◌, ◌∙◌, ◌↔◌, ◌+◌, [], ◌∷◌, ◌++◌, List, length, map, get_or, sym, ap, subst, arith, All, IsTrue, vec_len, length-append}
use Rattle.std.proofs.lemmas.List.{get_or_default, map-append, take_all}
use Rattle.std.proofs.lemmas.List.Elements.{All-push}
use Rattle.hack_metadata.specs.RecordViews.{place_at}
use Rattle.hack_metadata.specs.declared.metadata.resolve.PackageId.{PackageId}
use Rattle.hack_planner.specs.InternalUses.{InGroups, IsRight, id_of}
use Rattle.hack_planner.specs.declared.uses.Chosen.{Chosen}
use Rattle.hack_planner.proofs.ChosenLemmas.{at-more}
use Rattle.hack_planner.proofs.NoteLemmas.{place-of}
use Rattle.hack_planner.proofs.UseLemmas.{right-more}
use Rattle.hack_planner.proofs.uses.with_uses.Goals as goal

pub loop-id-init : goal.loop-id-init
loop-id-init c = record {
  count = ap length c.in_ok-chosen.ensures.items;
  same = ap (map id_of) c.in_ok-chosen.ensures.items;
  right = λ cx of_call. subst (All (IsRight cx c.args.input.now c.args.versions.now.stable)) (sym c.in_ok-chosen.ensures.items) (λ k d lt. absurd (omega (arith, lt)));
}

pub loop-id-preserved : goal.loop-id-preserved
loop-id-preserved c =
    let ids : List PackageId = c.args.ids.now in
    let i = c.loop-id.id-index in
    let lt = c.loop-id-test.true in
    let id : PackageId = get_or ids i (record { index = 0 }) in
    let is : id ≡ get_or ids i id = get_or_default ids i (record { index = 0 }) id lt in
    let one : Chosen = record { id = id; is_used = c.is_used-is_used.result } in
    let counted : vec_len c.loop-id.chosen ≡ i = omega (arith, c.loop-id.chosen.ok.0, c.loop-id.invariant.count) in
    let pushed = c.in_ok-push.ensures.items in
    let input = c.args.input.now in
    let versions = c.args.versions.now in
    record {
      count = ap length pushed ∙ length-append c.loop-id.chosen.items (one ∷ []) ∙ ap (λ n. n + 1) c.loop-id.invariant.count;
      same = ap (map id_of) pushed ∙ map-append id_of c.loop-id.chosen.items (one ∷ []) ∙ ap (λ l. l ++ id.index ∷ []) c.loop-id.invariant.same ∙ sym (at-more place_at ids i (record { index = 0 }) lt);
      right = λ cx of_call. subst (All (IsRight cx input versions.stable)) (sym pushed) (All-push (IsRight cx input versions.stable) c.loop-id.chosen.items one (c.loop-id.invariant.right cx of_call)
          (right-more cx (map place_at ids) input versions i one of_call (place-of ids i id lt is) c.requires
          (subst (λ p. IsTrue c.is_used-is_used.result ↔ InGroups input.range versions.groups.items p) (c.len.ensures ∙ counted) c.is_used-is_used.ensures)));
    }

pub returns-clause-same : goal.returns-clause-same
returns-clause-same c = c.loop-id.invariant.same ∙ ap (map place_at) (take_all c.loop-id.id-index c.args.ids.now c.loop-id-test.false)

pub returns-clause-right : goal.returns-clause-right
returns-clause-right c = c.loop-id.invariant.right
