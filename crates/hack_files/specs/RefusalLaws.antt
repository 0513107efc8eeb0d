-- What the laws of refused writes and unseen paths are proved by.
use Rattle.std.proofs.Common.{ℕ, List, [], ◌+◌, ◌++◌, inl, inr, length, length-append, arith}
use Rattle.hack_files.specs.Files.{Grows, GrowsAtLeastBy, IsOwnOr}

pub at_least_none : (n : ℕ) → GrowsAtLeastBy 0 n n
at_least_none n = λ low. (omega (arith, low), low)

pub at_least_more : (ps qs : List (List ℕ)) (a b c : ℕ) → GrowsAtLeastBy (length ps) a b → GrowsAtLeastBy (length qs) b c → GrowsAtLeastBy (length (ps ++ qs)) a c
at_least_more ps qs a b c f g = λ low. let one = f low in let two = g one.1 in (omega (arith, length-append ps qs, one.0, two.0), two.1)

pub at_least_some : (a b : ℕ) → Grows a b → (ps : List (List ℕ)) × GrowsAtLeastBy (length ps) a b
at_least_some a b grown = ([], λ low. let now = grown.1 low in (omega (arith, now), omega (arith, now)))

-- some calls failed, and then some
pub grow_more : (x y z : ℕ) → Grows x y → Grows y z → Grows x z
grow_more x y z f g = (f.0 + g.0, λ low. let first = f.1 low in let second = g.1 (omega (arith, first)) in omega (arith, first, second))

pub own_none : (B : Type 0) (n : ℕ) → B → IsOwnOr B n n
own_none B n b = record { grown = (0, λ low. omega (arith, low)); why = inl b }

pub own_more : (B C D : Type 0) (x y z : ℕ) → (B → C → D) → IsOwnOr B x y → IsOwnOr C y z → IsOwnOr D x z
own_more B C D x y z more f g = record {
  grown = grow_more x y z f.grown g.grown;
  why = elim f.why [
    | inl b ↦ elim g.why [
      | inl c ↦ inl (more b c)
      | inr own ↦ inr (λ low. let first = f.grown.1 low in let second = own (omega (arith, first)) in (omega (arith, first, second.0), second.1))
    ]
    | inr own ↦ inr (λ low. let first = own low in let second = g.grown.1 first.1 in (omega (arith, first.0, second), omega (arith, first.0, second)))
  ];
}
