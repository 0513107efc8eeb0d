-- Arguments have one outcome.
use Rattle.std.proofs.Common.{◌≡◌, ℕ, List, [], ◌∷◌, ◌++◌, append-nil, append_assoc, Ok, Err, Some, None, ◌∙◌, ap, sym, refl, subst, Result, Option, IfSome}
use Rattle.hack_lexopt.specs.Cuts.{LeftArguments}
use Rattle.hack_lexopt.specs.Parsers.{start}
use Rattle.hack_rules.specs.declared.uses.cut.Cuts.{Cuts}
use Rattle.hack_rules.specs.declared.uses.cut.Cuts.TheVariants as cuts
use Rattle.hack_rules.specs.declared.uses.fault.CutFault.{CutFault}
use Rattle.hack_rules.specs.Faults.{ArgumentFault, argument_fault_of}
use Rattle.hack_rules.specs.Uses.{Use, views}
use Rattle.hack_rules.specs.UseReading.{Reading, Met, End, Prints, Fails, read_of, Reads, ReadsUsesThen, IsLast, GivesUses, GivesNoOther}

-- the reading of a use is never the last
met-last : (u : Use) (l : LeftArguments) (r : Reading) → Met u l ≡ r → IsLast r → ⊥
met-last u l r e last = subst (λ x. IsLast x → ⊥) e (λ h. h) last

-- after the same earlier uses, reading from one state has one result
pub reads-one : (before : List Use) (old : LeftArguments) (us vs : List Use) (l m : LeftArguments) (r s : Reading) → Reads before old us l → read_of (before ++ us) l ≡ r → IsLast r → Reads before old vs m → read_of (before ++ vs) m ≡ s → IsLast s → (us ≡ vs) × (r ≡ s)
reads-one before old [] [] l m r s a x p b y q = (refl, sym x ∙ ap (λ (z : LeftArguments). read_of (before ++ []) z) (a ∙ sym b) ∙ y)
reads-one before old [] (v ∷ vs) l m r s a x p b y q = absurd (met-last v b.0 r (sym b.1 ∙ at-old) p)
  where
    at-old : read_of before old ≡ r
    at-old = subst (λ (z : LeftArguments). read_of before z ≡ r) a (rw append-nil at x)
reads-one before old (u ∷ us) [] l m r s a x p b y q = absurd (met-last u a.0 s (sym a.1 ∙ at-old) q)
  where
    at-old : read_of before old ≡ s
    at-old = subst (λ (z : LeftArguments). read_of before z ≡ s) b (rw append-nil at y)
reads-one before old (u ∷ us) (v ∷ vs) l m r s a x p b y q = joined (reads-one (before ++ u ∷ []) a.0 us vs l m r s a.2 (rw append_assoc x) p behind (rw append_assoc end) q)
  where
    both : Met u a.0 ≡ Met v b.0
    both = sym a.1 ∙ b.1

    one : u ≡ v
    one = cc

    mid : a.0 ≡ b.0
    mid = cc

    behind : Reads (before ++ u ∷ []) a.0 vs m
    behind = subst (λ (w : Use). Reads (before ++ w ∷ []) a.0 vs m) (sym one) (subst (λ (z : LeftArguments). Reads (before ++ v ∷ []) z vs m) (sym mid) b.2)

    end : read_of (before ++ u ∷ vs) m ≡ s
    end = subst (λ (w : Use). read_of (before ++ w ∷ vs) m ≡ s) (sym one) y

    joined : (us ≡ vs) × (r ≡ s) → (u ∷ us ≡ v ∷ vs) × (r ≡ s)
    joined rest = (ap (λ w. w ∷ us) one ∙ ap (λ ws. v ∷ ws) rest.0, rest.1)

-- arguments have one outcome
pub ends-one : (words : List (List ℕ)) (us vs : List Use) (r s : Reading) → ReadsUsesThen words us r → IsLast r → ReadsUsesThen words vs s → IsLast s → (us ≡ vs) × (r ≡ s)
ends-one words us vs r s a p b q = reads-one [] (start words) us vs a.0 b.0 r s a.1 a.2 p b.1 b.2 q

-- the answer that the arguments lead to excludes any other
pub gives-no-other : (answer : Result Cuts CutFault) (words : List (List ℕ)) → GivesUses answer words → GivesNoOther answer words
gives-no-other (Ok (cuts.Uses us)) words gives vs s ends last = let one = ends-one words (views us.items) vs End s gives tt ends last in (one.0, sym one.1)
gives-no-other (Ok (cuts.Asks print)) words gives vs s ends last = sym (ends-one words gives.0 vs (Prints print) s gives.1 tt ends last).1
gives-no-other (Err e) words gives vs s ends last = by-fault (argument_fault_of e) gives
  where
    by-fault : (f : Option ArgumentFault) → IfSome f (λ fault. (us : List Use) × ReadsUsesThen words us (Fails fault)) → IfSome f (λ fault. s ≡ Fails fault)
    by-fault (Some f) g = sym (ends-one words g.0 vs (Fails f) s g.1 tt ends last).1
    by-fault None g = tt
