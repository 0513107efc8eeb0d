-- What only private functions of the crate promise each other.
use Rattle.std.specs.Prelude.{◌≡◌, ◌<◌, ◌≤◌, ◌+◌, ◌*◌, ℕ, zero, suc, List, length, Bool, cond, not, ◌&&◌, All, AllPairs, Contains, ◌⊎◌, Option}
use Rattle.hack_conflicts.specs.Sets.{rows_of, mark, Has, IsWithin, IsInside, HasInside, AreApart}
use Rattle.hack_conflicts.specs.Rules.{IsChoice, IsClosed, IsPlain, HasAbove, enables, size_of}
use Rattle.hack_conflicts.specs.Runs.{Run, runs_in, HasFailed, HasPassed, IsPassed, IsCourse, IsLeast, AreBlamed, IsUnfinished, AreWhole, IsSpent}
use Rattle.hack_conflicts.specs.declared.rules.Rules.{Rules}
use Rattle.hack_conflicts.specs.declared.known.Known.{Known}
use Rattle.hack_conflicts.specs.declared.fault.End.{End}
use Rattle.hack_conflicts.specs.declared.fault.End.TheVariants.{Memory, Broken as BrokenEnd, Spent}
use Rattle.hack_conflicts.specs.declared.tried.BuildOutcome.TheVariants.{Broken}

-- the runs so far
abbrev pub told : Known → List Run
told k = runs_in k.runs.items

abbrev pub conflicts_of : Known → List (List Bool)
conflicts_of k = rows_of k.conflicts.items

abbrev pub passing_of : Known → List (List Bool)
passing_of k = rows_of k.passing.items

-- t is s without x and without all that enable x
abbrev pub IsWithout : Rules → ℕ → List Bool → List Bool → Type 0
IsWithout r x s t = (p : ℕ) → mark t p ≡ (mark s p && not (enables r p x))

-- two members of which no member enables both, and which are of one exclusion group
pub record Clashes (r : Rules) (s : List Bool) (p q : ℕ) : Type 0 where
  pub group : List Bool
  pub excludes : Contains (rows_of r.exclusive.items) group
  pub first : Has s p
  pub second : Has s q
  pub first_in : Has group p
  pub second_in : Has group q
  pub apart : ¬ HasAbove r s p q

-- no set that passed is greater
abbrev pub IsWidest : List Run → List Bool → Type 0
IsWidest runs q = (t : List Bool) → HasPassed runs t → IsWithin q t → IsWithin t q

-- what is known comes from the runs so far
pub record IsSound (r : Rules) (most : Option ℕ) (k : Known) : Type 0 where
  pub course : IsCourse r most (told k)
  pub failed : All (HasFailed (told k)) (conflicts_of k)
  pub passed : All (HasPassed (told k)) (passing_of k)
  pub least : All (IsLeast r (told k)) (conflicts_of k)
  pub widest : All (IsWidest (told k)) (passing_of k)
  pub conflicts_apart : AllPairs AreApart (conflicts_of k)
  pub passing_apart : AllPairs AreApart (passing_of k)

-- what was known stays known
pub record IsLater (old new : Known) : Type 0 where
  pub conflicts : (s : List Bool) → Contains (conflicts_of old) s → Contains (conflicts_of new) s
  pub runs : (run : Run) → Contains (told old) run → Contains (told new) run

-- what was known at any time before stays known
abbrev pub Grows : Known → Known → Type 0
Grows old new = (a : Known) → IsLater a old → IsLater a new

-- a conflict lies inside the set, or the set lies inside one that passed
abbrev pub IsSettled : Known → List Bool → Type 0
IsSettled k s = HasInside (conflicts_of k) s ⊎ IsPassed (told k) s

-- some set may be chosen, and isn't settled
abbrev pub IsUnsettled : Rules → Known → Type 0
IsUnsettled r k = (s : List Bool) × IsChoice r s × ¬ IsSettled k s

-- no run was broken
abbrev pub IsGoing : Known → Type 0
IsGoing k = AreWhole (told k)

-- the runs are used up while some set isn't settled, and no run was broken
pub record IsCutOff (r : Rules) (most : Option ℕ) (k : Known) : Type 0 where
  pub spent : IsSpent most (length k.runs.items)
  pub unsettled : IsUnsettled r k
  pub going : IsGoing k
  pub blamed : AreBlamed (told k) (conflicts_of k) ⊎ IsUnfinished r (told k) (conflicts_of k)

-- why a search ends before it is done
abbrev pub IsEnd : Rules → Option ℕ → Known → End → Type 0
IsEnd r most k Memory = IsGoing k
IsEnd r most k BrokenEnd = (s : List Bool) × Contains (told k) (record { set = s; outcome = Broken })
IsEnd r most k Spent = IsCutOff r most k

-- no known set is inside the set: neither one that failed, nor a conflict, nor a passing one
pub record IsClear (k : Known) (s : List Bool) : Type 0 where
  pub going : IsGoing k
  pub failed : (t : List Bool) → HasFailed (told k) t → ¬ IsWithin t s
  pub conflicts : ¬ HasInside (conflicts_of k) s
  pub passing : ¬ HasInside (passing_of k) s

-- the set may be chosen, and what is known doesn't settle it
pub record IsNext (r : Rules) (k : Known) (s : List Bool) : Type 0 where
  pub choice : IsChoice r s
  pub fresh : ¬ IsPassed (told k) s
  pub clear : IsClear k s
  pub blamed : AreBlamed (told k) (conflicts_of k) ⊎ IsUnfinished r (told k) (conflicts_of k)

-- a set that failed, inside which no conflict is known, but which is inside each such set
pub record IsFailing (r : Rules) (k : Known) (s : List Bool) : Type 0 where
  pub choice : IsChoice r s
  pub going : IsGoing k
  pub failed : HasFailed (told k) s
  pub fresh : ¬ IsPassed (told k) s
  pub conflicts : ¬ HasInside (conflicts_of k) s
  pub passing : ¬ HasInside (passing_of k) s
  pub blamed : (t : List Bool) → HasFailed (told k) t → HasInside (conflicts_of k) t ⊎ IsWithin s t

-- small lies inside large, and lacks a member of it
pub record IsPart (small large : List Bool) : Type 0 where
  pub within : IsWithin small large
  pub member : ℕ
  pub has : Has large member
  pub lacks : ¬ Has small member

-- the set is a part of some set that fails
abbrev pub IsPartOfFailing : Rules → Known → List Bool → Type 0
IsPartOfFailing r k s = (large : List Bool) × IsPart s large × IsFailing r k large

-- how many positions below n the set has
abbrev pub members : ℕ → List Bool → ℕ
members zero s = 0
members (suc n) s = cond (mark s n) (suc (members n s)) (members n s)

-- so many runs are accounted for: one a passing set, and for each conflict one and two a position
abbrev pub worth : ℕ → Known → ℕ
worth n k = length k.passing.items + length k.conflicts.items * (2 * n + 1)

-- no set is being made smaller, and no passing set has fewer members than so many
pub record IsSteady (r : Rules) (size : ℕ) (k : Known) : Type 0 where
  pub going : IsGoing k
  pub blamed : AreBlamed (told k) (conflicts_of k)
  pub large : All (λ s. size ≤ members (size_of r) s) (passing_of k)
  pub paid : IsPlain r → length k.runs.items ≤ worth (size_of r) k

-- the sets are closed, and have fewer members than so many
pub record IsQueue (r : Rules) (size : ℕ) (sets : List (List Bool)) : Type 0 where
  pub closed : All (IsClosed r) sets
  pub small : All (λ s. members (size_of r) s < size) sets

-- what lies inside one of the first sets lies inside one of the second
abbrev pub AreCovered : List (List Bool) → List (List Bool) → Type 0
AreCovered old new = (s : List Bool) → IsInside old s → IsInside new s

-- each closed set inside the set that lacks x lies inside one of the sets
abbrev pub Avoids : Rules → List Bool → ℕ → List (List Bool) → Type 0
Avoids r set x sets = (s : List Bool) → IsClosed r s → IsWithin s set → ¬ Has s x → IsInside sets s

-- each choice inside the set is settled, or lies inside one of the sets that are left
abbrev pub Leaves : Rules → Known → List Bool → List (List Bool) → Type 0
Leaves r k set left = (s : List Bool) → IsChoice r s → IsWithin s set → IsSettled k s ⊎ IsInside left s

-- the greatest of the sets of runs that passed, but for those inside one of the first sets
pub record AreOthers (first : List (List Bool)) (runs : List Run) (others : List (List Bool)) : Type 0 where
  pub passed : All (HasPassed runs) others
  pub outside : All (λ s. ¬ IsInside first s) others
  pub covers : (s : List Bool) → HasPassed runs s → IsInside first s ⊎ IsInside others s
  pub apart : AllPairs AreApart others

-- those of the sets that don't lie inside the set
pub record KeepsOthers (set : List Bool) (old new : List (List Bool)) : Type 0 where
  pub among : All (Contains old) new
  pub outside : All (λ s. ¬ IsWithin s set) new
  pub kept : (s : List Bool) → Contains old s → Contains new s ⊎ IsWithin s set
  pub apart : AllPairs AreApart new
