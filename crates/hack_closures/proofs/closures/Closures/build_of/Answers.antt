use Rattle.std.proofs.Common.{◌≡◌, List, Bool, ℕ, sym, ap, ◌∙◌, subst, length, IsTrue, arith}
use Rattle.std.proofs.lemmas.Bool.{false≢true}
use Rattle.hack_conflicts.specs.Sets.{Has, mark}
use Rattle.hack_sets.specs.Sets.{IsSelection}
use Rattle.hack_features.specs.Rules.{IsWanted, IsFirstCover}
use Rattle.hack_features.proofs.CandidateLemmas.{length-candidates_of}
use Rattle.hack_closures.specs.declared.closures.Closures.{Closures}
use Rattle.hack_closures.specs.View.{choice_in, alone_in, has_all, search_of}
use Rattle.hack_closures.specs.Internal.{AreGreatest, candidates_of}
use Rattle.hack_closures.proofs.MemberLemmas.{candidates_selection}
use Rattle.hack_closures.proofs.BuildLemmas.{told_order, told_selection, told_all, told_last, told_stands, told_empty}
use Rattle.hack_closures.proofs.TopLemmas.{tops_of}
use Rattle.hack_closures.proofs.closures.Closures.build_of.Goals as goal
use Rattle.hack_closures.proofs.closures.Closures.build_of.Goals.{else-self-via-then-self+else-has, else-self-via-else-self}

-- the mark behind those of the candidates
last_mark : (k : Closures) (s : List Bool) (n : ℕ) (b : Bool) → n ≡ k.alone.len → b ≡ mark s n → b ≡ mark s (length (alone_in k))
last_mark k s n b e h = let same : n ≡ length (alone_in k) = omega (arith, k.alone.ok.0) in h ∙ ap (mark s) same

pub returns-then-has : goal.returns-then-has
returns-then-has c = λ may.
    let k = c.args.self.now in
    let s : List Bool = c.args.set.now in
    let has : Has s (length (alone_in k)) = sym (last_mark k s c.len.result c.has.result c.len.ensures c.has.ensures) ∙ c.if-has.true in
    (c.if-self.true, has, told_all (choice_in k) (alone_in k) (has_all k) (search_of k) k.told s may c.if-self.true has)

pub greatest-requires : goal.greatest-requires
greatest-requires c = let k = c.args.self.now in told_order (choice_in k) (alone_in k) (has_all k) (search_of k) k.told

pub covering-requires : goal.covering-requires
covering-requires c =
    let k = c.args.self.now in
    let kept : List Bool = c.as_slice-2.result.now in
    let n : ℕ = length (choice_in k).candidates in
    let sel : IsSelection n (candidates_of (alone_in k) kept) = candidates_selection n (alone_in k) kept (told_selection (choice_in k) (alone_in k) (has_all k) (search_of k) k.told) in
    let is : candidates_of (alone_in k) kept ≡ c.as_slice-3.result.now = sym (c.as_slice-3.ensures.value ∙ c.in_ok-candidates.ensures ∙ ap (λ l. candidates_of l kept) c.as_slice.ensures.value) in
    subst (λ m. IsSelection m c.as_slice-3.result.now) (length-candidates_of k.rules.now.given.features.now) (subst (IsSelection n) is sel)

pub returns-in-Some : goal.returns-in-Some
returns-in-Some c = λ may.
    let k = c.args.self.now in
    let s : List Bool = c.args.set.now in
    let plain : IsTrue (has_all k) → ¬ Has s (length (alone_in k)) = λ t has. elim c.else-self.branch [
      | else-self-via-then-self+else-has w ↦ false≢true (sym w.if-has.false ∙ last_mark k s w.len.result w.has.result w.len.ensures w.has.ensures ∙ has)
      | else-self-via-else-self w ↦ false≢true (sym w.if-self.false ∙ t)
    ] in
    let left : List Bool = c.in_ok-kept.kept.items in
    let g : AreGreatest (search_of k) s left = c.in_ok-kept.ensures may.closed in
    let is : c.as_slice-3.result.now ≡ candidates_of (alone_in k) left =
    c.as_slice-3.ensures.value ∙ c.in_ok-candidates.ensures ∙ ap (λ l. candidates_of l c.as_slice-2.result.now) c.as_slice.ensures.value ∙ ap (candidates_of (alone_in k)) c.as_slice-2.ensures.value in
    let cover = rw c.in-Some.is at c.in_ok-listed.ensures in
    let first = subst (λ l. IsFirstCover (choice_in k) l c.in-Some.listed.items) is cover.1 in (
      told_last (choice_in k) (alone_in k) (has_all k) (search_of k) k.told s may plain,
      told_stands (choice_in k) (alone_in k) (has_all k) (search_of k) k.told s may plain left g c.in-Some.listed.items first,
      (candidates_of (alone_in k) left, tops_of (choice_in k) (alone_in k) (search_of k) s left g.tops, first),
    )

pub returns : goal.returns
returns c = λ may.
    let k = c.args.self.now in
    let s : List Bool = c.args.set.now in
    let plain : IsTrue (has_all k) → ¬ Has s (length (alone_in k)) = λ t has. elim c.else-self.branch [
      | else-self-via-then-self+else-has w ↦ false≢true (sym w.if-has.false ∙ last_mark k s w.len.result w.has.result w.len.ensures w.has.ensures ∙ has)
      | else-self-via-else-self w ↦ false≢true (sym w.if-self.false ∙ t)
    ] in
    let left : List Bool = c.in_ok-kept.kept.items in
    let g : AreGreatest (search_of k) s left = c.in_ok-kept.ensures may.closed in
    let is : c.as_slice-3.result.now ≡ candidates_of (alone_in k) left =
    c.as_slice-3.ensures.value ∙ c.in_ok-candidates.ensures ∙ ap (λ l. candidates_of l c.as_slice-2.result.now) c.as_slice.ensures.value ∙ ap (candidates_of (alone_in k)) c.as_slice-2.ensures.value in
    let unwanted = rw c.in-None.is at c.in_ok-listed.ensures in
    told_empty (choice_in k) (alone_in k) (has_all k) (search_of k) k.told s may plain left g (subst (λ l. ¬ IsWanted (choice_in k) l) is unwanted)
