use Rattle.std.proofs.Common.{◌≡◌, ℕ, ◌+◌, ◌-◌, ◌∷◌, ◌++◌, [], arith, List, Bool, true, replicate, sym, subst, ap, ◌∙◌, inl, inr}
use Rattle.hack_conflicts.specs.Sets.{rows_of, IsInside}
use Rattle.hack_conflicts.specs.Rules.{size_of}
use Rattle.hack_conflicts.specs.Internal.{IsQueue, IsSteady}
use Rattle.hack_conflicts.proofs.QueueLemmas.{queue_full, inside_full, settled_later, none_left, queue_size}
use Rattle.hack_conflicts.proofs.SearchLemmas.{steady_less}
use Rattle.hack_conflicts.proofs.search.search_all.Goals as goal

pub loop-done-init : goal.loop-done-init
loop-done-init g c =
    let r = c.args.rules.now in
    let n : ℕ = size_of r in
    let t : List Bool = replicate n true in
    let same : c.len-n.result ≡ n = omega (arith, c.len-n.ensures, r.enables.ok.0) in
    let full : c.in_ok-vec.field-0.items ≡ t = c.in_ok-vec.ensures.items_if_clones_equal (λ y e. e) ∙ ap (λ m. replicate m true) same in
    let one : rows_of c.push.new.self.items ≡ t ∷ [] =
    ap rows_of (c.in_ok-push.ensures.items ∙ ap (λ l. l ++ c.in_ok-vec.field-0 ∷ []) c.new-left.ensures.items) ∙ ap (λ s. s ∷ []) full in
    record {
      sound = c.requires.sound;
      grows = λ a h. h;
      ran = λ start h. h;
      steady = steady_less r n (n - 0) c.args.known.now (omega arith) c.requires.steady;
      queue = subst (IsQueue r (n - 0 + 1)) (sym one) (queue_full r (n - 0 + 1) c.requires.order (omega arith));
      leaves = λ s choice. inr (subst (λ l. IsInside l s) (sym one) (inside_full r s choice.closed));
    }

pub search_level-requires-clause-steady : goal.search_level-requires-clause-steady
search_level-requires-clause-steady g c =
    let r = c.args.rules.now in
    subst (λ n. IsSteady r n c.loop-done.known) (let same : c.len-n.result ≡ size_of r = omega (arith, c.len-n.ensures, r.enables.ok.0) in omega arith) c.loop-done.invariant.steady

pub search_level-requires-clause-queue : goal.search_level-requires-clause-queue
search_level-requires-clause-queue g c =
    let r = c.args.rules.now in
    let e : size_of r - c.loop-done.done + 1 ≡ c.len-n.result - c.loop-done.done + 1 = let same : c.len-n.result ≡ size_of r = omega (arith, c.len-n.ensures, r.enables.ok.0) in omega arith in
    subst (λ l. IsQueue r (c.len-n.result - c.loop-done.done + 1) (rows_of l)) (sym c.as_slice.ensures.value) (subst (λ n. IsQueue r n (rows_of c.loop-done.left.items)) e c.loop-done.invariant.queue)

pub loop-done-preserved : goal.loop-done-preserved
loop-done-preserved g c =
    let r = c.args.rules.now in
    let n : ℕ = size_of r in
    let done : ℕ = c.loop-done.done in
    let i = c.loop-done.invariant in
    let e = c.in_ok-left.ensures in
    let k = c.loop-done.known in
    let m = c.search_level.new.known in
    let same : c.len-n.result ≡ n = omega (arith, c.len-n.ensures, r.enables.ok.0) in
    let size : c.len-n.result - done ≡ n - (done + 1) + 1 = omega arith in
    record {
      sound = e.sound;
      grows = λ a h. e.grows a (i.grows a h);
      ran = λ start h. e.ran start (i.ran start h);
      steady = steady_less r (c.len-n.result - done) (n - (done + 1)) m (omega arith) e.steady;
      queue = queue_size r (c.len-n.result - done) (n - (done + 1) + 1) (rows_of c.in_ok-left.left.items) size e.queue;
      leaves = λ s choice. elim (i.leaves s choice) [
        | inl settled ↦ inl (settled_later k m e.grows s settled)
        | inr inside ↦ e.leaves s choice (subst (λ l. IsInside (rows_of l) s) (sym c.as_slice.ensures.value) inside)
      ];
    }

pub returns-clause-settled : goal.returns-clause-settled
returns-clause-settled g c = λ s choice.
    let r = c.args.rules.now in
    let i = c.loop-done.invariant in
    let e = c.in_ok-_none.ensures in
    let k = c.loop-done.known in
    let m = c.search_level-2.new.known in
    elim (i.leaves s choice) [
      | inl settled ↦ settled_later k m e.grows s settled
      | inr inside ↦ elim (e.leaves s choice (subst (λ l. IsInside (rows_of l) s) (sym c.as_slice-2.ensures.value) inside)) [
        | inl settled ↦ settled
        | inr left ↦ absurd (none_left r (rows_of c.in_ok-_none._none.items) s e.queue left)
      ]
    ]
