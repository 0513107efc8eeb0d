-- Sets that are left for later.
use Rattle.std.proofs.Common.{◌≡◌, ◌<◌, ◌≤◌, ℕ, ◌+◌, List, [], ◌∷◌, ◌++◌, replicate, arith, Bool, true, false, sym, ◌∙◌, subst, inl, inr, Contains}
use Rattle.std.specs.Prelude.{Vec}
use Rattle.std.proofs.lemmas.Bool.{false≢true}
use Rattle.std.proofs.lemmas.List.{map-append}
use borrow.Author.Count.{below_more}
use Rattle.std.proofs.lemmas.List.Elements.{All-nil, All-cons, All-push, All-contains, Contains-push}
use Rattle.hack_conflicts.specs.Sets.{Has, mark, IsWithin, IsInside, rows_of}
use Rattle.hack_conflicts.specs.Rules.{IsPreorder, IsClosed, IsRequired, size_of}
use Rattle.hack_conflicts.specs.Runs.{IsPassed}
use Rattle.hack_conflicts.specs.Internal.{members, Grows, IsLater, IsQueue, AreCovered, Avoids, Leaves, IsSettled, told, conflicts_of}
use Rattle.hack_conflicts.specs.declared.rules.Rules.{Rules}
use Rattle.hack_conflicts.specs.declared.known.Known.{Known}
use Rattle.hack_conflicts.proofs.SetLemmas.{inside_left, within_or}
use Rattle.hack_conflicts.proofs.ShrinkLemmas.{required_more, later_none}
use Rattle.hack_conflicts.proofs.KnownLemmas.{passed_later, passed_less}
use Rattle.hack_conflicts.proofs.RuleLemmas.{full_closed, full_around, members_most}

-- a list with one more vector behind, by items
pub rows-push : {X Z : Type 0} (lists : List (Vec X Z)) (v : Vec X Z) → rows_of (lists ++ v ∷ []) ≡ rows_of lists ++ v.items ∷ []
rows-push lists v = map-append (λ (l : Vec _ _). l.items) lists (v ∷ [])

pub queue_none : (r : Rules) (size : ℕ) → IsQueue r size []
queue_none r size = record { closed = All-nil (IsClosed r); small = All-nil (λ s. members (size_of r) s < size) }

pub queue_push : (r : Rules) (size : ℕ) (sets : List (List Bool)) (s : List Bool) → IsClosed r s → members (size_of r) s < size → IsQueue r size sets → IsQueue r size (sets ++ s ∷ [])
queue_push r size sets s closed less q = record {
  closed = All-push (IsClosed r) sets s q.closed closed;
  small = All-push (λ t. members (size_of r) t < size) sets s q.small less;
}

pub covered_push : (sets : List (List Bool)) (s : List Bool) → AreCovered sets (sets ++ s ∷ [])
covered_push sets s = λ t inside. inside_left sets (s ∷ []) t inside

pub inside_push : (sets : List (List Bool)) (s : List Bool) → IsInside (sets ++ s ∷ []) s
inside_push sets s = (s, Contains-push sets s, λ p has. has)

pub inside_less : (sets : List (List Bool)) (s t : List Bool) → IsWithin s t → IsInside sets t → IsInside sets s
inside_less sets s t w (u, there, v) = (u, there, λ p has. v p (w p has))

-- the members of the conflict below n were gone through
pub record Spreads (r : Rules) (set conflict : List Bool) (n : ℕ) (old new : List (List Bool)) : Type 0 where
  pub queue : (size : ℕ) → members (size_of r) set ≤ size → IsQueue r size old → IsQueue r size new
  pub covered : AreCovered old new
  pub avoids : (x : ℕ) → x < n → Has conflict x → Avoids r set x new

module _ (r : Rules) (set conflict : List Bool) (n : ℕ) (old mid : List (List Bool)) (h : Spreads r set conflict n old mid) where
  pub spread_skip : mark conflict n ≡ false → Spreads r set conflict (n + 1) old mid
  spread_skip e = record {
    queue = h.queue;
    covered = h.covered;
    avoids = below_more (λ x. Has conflict x → Avoids r set x mid) n h.avoids (λ has. absurd (false≢true (sym e ∙ has)));
  }

  pub spread_add : (new : List (List Bool)) → ((size : ℕ) → members (size_of r) set ≤ size → IsQueue r size mid → IsQueue r size new) → AreCovered mid new → Avoids r set n new
      → Spreads r set conflict (n + 1) old new
  spread_add new queue covered avoids = record {
    queue = λ size le q. queue size le (h.queue size le q);
    covered = λ s inside. covered s (h.covered s inside);
    avoids = below_more (λ x. Has conflict x → Avoids r set x new) n (λ x lt has s closed within lacks. covered s (h.avoids x lt has s closed within lacks)) (λ has. avoids);
  }

pub settled_later : (k m : Known) → Grows k m → (s : List Bool) → IsSettled k s → IsSettled m s
settled_later k m grows s settled =
    let later : IsLater k m = grows k (later_none k) in
    elim settled [
      | inl (t, there, w) ↦ inl (t, later.conflicts t there, w)
      | inr passed ↦ inr (passed_later (told k) (told m) later.runs s passed)
    ]

-- what is left of the sets inside a set

pub leaves_none : (r : Rules) (k : Known) (set : List Bool) (left : List (List Bool)) → (IsRequired r set → ⊥) → Leaves r k set left
leaves_none r k set left none = λ s choice w. absurd (none (required_more r s set w choice.required))

pub leaves_passed : (r : Rules) (k : Known) (set : List Bool) (left : List (List Bool)) → IsPassed (told k) set → Leaves r k set left
leaves_passed r k set left passed = λ s choice w. inl (inr (passed_less (told k) s set w passed))

pub leaves_conflict : (r : Rules) (k : Known) (set conflict : List Bool) (left : List (List Bool)) → Contains (conflicts_of k) conflict → ((x : ℕ) → Has conflict x → Avoids r set x left) → Leaves r k set left
leaves_conflict r k set conflict left there avoids = λ s choice w. elim (within_or conflict s) [
  | inl inside ↦ inl (inl (conflict, there, inside))
  | inr (x, has, lacks) ↦ inr (avoids x has s choice.closed w lacks)
]

pub leaves_later : (r : Rules) (k m : Known) (set : List Bool) (old new : List (List Bool)) → Grows k m → AreCovered old new → Leaves r k set old → Leaves r m set new
leaves_later r k m set old new grows covered leaves = λ s choice w. elim (leaves s choice w) [
  | inl settled ↦ inl (settled_later k m grows s settled)
  | inr inside ↦ inr (covered s inside)
]

-- a queue of sets with fewer than no members is empty
pub none_left : (r : Rules) (sets : List (List Bool)) (s : List Bool) → IsQueue r 0 sets → ¬ IsInside sets s
none_left r sets s q (t, there, w) = let less : members (size_of r) t < 0 = All-contains (λ u. members (size_of r) u < 0) sets t q.small there in absurd (omega arith)

pub queue_size : (r : Rules) (a b : ℕ) (sets : List (List Bool)) → a ≡ b → IsQueue r a sets → IsQueue r b sets
queue_size r a b sets e q = subst (λ n. IsQueue r n sets) e q

-- the set of all positions
pub queue_full : (r : Rules) (size : ℕ) → IsPreorder r → size_of r < size → IsQueue r size (replicate (size_of r) true ∷ [])
queue_full r size o less = record {
  closed = All-cons (IsClosed r) (replicate (size_of r) true) [] (full_closed r o) (All-nil (IsClosed r));
  small = All-cons (λ s. members (size_of r) s < size) (replicate (size_of r) true) [] (let most : members (size_of r) (replicate (size_of r) true) ≤ size_of r = members_most (size_of r) (replicate (size_of r) true) in omega arith) (All-nil (λ s. members (size_of r) s < size));
}

pub inside_full : (r : Rules) (s : List Bool) → IsClosed r s → IsInside (replicate (size_of r) true ∷ []) s
inside_full r s closed = (replicate (size_of r) true, Contains-push [] (replicate (size_of r) true), full_around r s closed)
