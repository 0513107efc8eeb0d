-- What the files hold after several calls.
use Rattle.std.proofs.Common.{inl, inr, ℕ, [], ◌∷◌, Result, Ok, Err, sym, ◌∙◌, arith}
use Rattle.hack_base.specs.Names.{Name}
use Rattle.hack_files.specs.Files.{Contents, Grows, KeepsAll}
use Rattle.hack_base.specs.Counters.{GrowsBy}
use Rattle.hack_metadata.specs.FilesAfterAsking.{Whole, Spoilt, LeftBy}
use Rattle.hack_metadata.specs.declared.ask.fault.AskFault.{AskFault}
use Rattle.hack_metadata.specs.declared.ask.fault.AskFault.TheVariants as ask
use Rattle.hack_load.specs.FilesAfterLoading.{LeavesFew}
use Rattle.hack_load.specs.Internal.{MayFail, ReadsOnly}

-- a count that stays, and then grows
pub count-more : (k x y z : ℕ) → GrowsBy 0 x y → GrowsBy k y z → GrowsBy k x z
count-more k x y z f g = λ low. let first = f low in let second = g (omega (arith, first)) in omega (arith, first, second)

pub whole-more : (tells : Type 0) (a b c : Contents) (x y z : ℕ) → Whole tells a b x y → Whole tells b c y z → Whole tells a c x z
whole-more tells a b c x y z f g = (count-more 0 x y z f.0 g.0, λ t q. g.1 t q ∙ f.1 t q)

pub may-more : (tells : Type 0) (a b c : Contents) (x y z : ℕ) → Whole tells a b x y → MayFail tells b c y z → MayFail tells a c x z
may-more tells a b c x y z f (inl g) = inl (whole-more tells a b c x y z f g)
may-more tells a b c x y z f (inr g) = inr (count-more 1 x y z f.0 g.0, λ t q. g.1 t q ∙ f.1 t q)

-- ---- as many paths as calls that failed

pub few-whole : (tells : Type 0) (a b : Contents) (x y : ℕ) → Whole tells a b x y → LeavesFew tells a b x y
few-whole tells a b x y h = record { spoilt = []; failed = h.0; others = λ t q no. h.1 t q }

pub few-spoilt : (path : Name) (tells : Type 0) (a b : Contents) (x y : ℕ) → Spoilt path tells a b x y → LeavesFew tells a b x y
few-spoilt path tells a b x y h = record { spoilt = path ∷ []; failed = h.0; others = λ t q no. h.1 t q (λ is. no (0, omega arith, sym is)) }

-- what a question for metadata leaves
pub few-left : (path : Name) (tells : Type 0) (a b : Contents) (x y : ℕ) (e : AskFault) → LeftBy path tells a b x y e → LeavesFew tells a b x y
few-left path tells a b x y ask.Memory (inl h) = few-whole tells a b x y h
few-left path tells a b x y ask.Memory (inr h) = few-spoilt path tells a b x y h
few-left path tells a b x y ask.NoHost h = few-whole tells a b x y h
few-left path tells a b x y (ask.Process p) h = few-whole tells a b x y h
few-left path tells a b x y (ask.Files f) h = few-spoilt path tells a b x y h
few-left path tells a b x y (ask.Output text) h = few-whole tells a b x y h
few-left path tells a b x y (ask.Field name) h = few-whole tells a b x y h

few-may : (tells : Type 0) (a b : Contents) (x y : ℕ) → MayFail tells a b x y → LeavesFew tells a b x y
few-may tells a b x y (inl h) = few-whole tells a b x y h
few-may tells a b x y (inr h) = few-spoilt [] tells a b x y (h.0, λ t q ne. h.1 t q)

-- files that are read after a question that changed nothing
pub few-reads : {X E : Type 0} (tells : Type 0) (a b c : Contents) (x y z : ℕ) (r : Result X E) → Whole tells a b x y → ReadsOnly tells b c y z r → LeavesFew tells a c x z
few-reads tells a b c x y z (Ok v) f g = few-whole tells a c x z (whole-more tells a b c x y z f g)
few-reads tells a b c x y z (Err e) f g = few-may tells a c x z (may-more tells a b c x y z f g)

-- ---- one file that is read

may-grow : (tells : Type 0) (a b : Contents) (x y : ℕ) → MayFail tells a b x y → Grows x y × (tells → KeepsAll a b)
may-grow tells a b x y (inl h) = ((0, h.0), h.1)
may-grow tells a b x y (inr h) = ((1, h.0), h.1)

-- by how much the count of failures went up while files were read, and that each holds what it held
pub reads-grow : {X E : Type 0} (tells : Type 0) (a b : Contents) (x y : ℕ) (r : Result X E) → ReadsOnly tells a b x y r → Grows x y × (tells → KeepsAll a b)
reads-grow tells a b x y (Ok v) h = ((0, h.0), h.1)
reads-grow tells a b x y (Err e) h = may-grow tells a b x y h
