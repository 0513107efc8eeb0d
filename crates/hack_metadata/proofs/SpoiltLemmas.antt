-- Which paths may hold something else after a question: those of refused writes.
use Rattle.std.proofs.Common.{inl, inr, ℕ, List, [], ◌∷◌, Result, Ok, Err, arith, sym}
use Rattle.hack_base.specs.Names.{Name}
use Rattle.hack_files.specs.Files.{Contents, Grows, KeepsAllBut, KeepsOthers}
use Rattle.hack_files.proofs.RefusalLemmas.{but_none}
use Rattle.hack_metadata.specs.FilesAfterAsking.{LeavesFiles, LeftBy}
use Rattle.hack_metadata.specs.declared.ask.fault.AskFault.{AskFault}
use Rattle.hack_metadata.specs.declared.ask.fault.AskFault.TheVariants as ask

-- nothing was asked of files
pub unspoilt : (R : List Name → Type 0) (tells : Type 0) (held : Contents) → R [] → KeepsAllBut R tells held held
unspoilt = but_none

-- a write of one path was refused
pub but_one : (R : List Name → Type 0) (tells : Type 0) (path : Name) (old new : Contents) → R (path ∷ []) → (tells → KeepsOthers path old new) → KeepsAllBut R tells old new
but_one R tells path old new refused others = record { spoilt = path ∷ []; refused = refused; others = λ t q fine. others t q (λ is. fine (0, omega arith, sym is)) }

left-by : (path : Name) (tells : Type 0) (a b : Contents) (x y : ℕ) (e : AskFault) → LeftBy path tells a b x y e → Grows x y
left-by path tells a b x y ask.Memory (inl h) = (0, h.0)
left-by path tells a b x y ask.Memory (inr h) = (1, h.0)
left-by path tells a b x y ask.NoHost h = (0, h.0)
left-by path tells a b x y (ask.Process p) h = (0, h.0)
left-by path tells a b x y (ask.Files f) h = (1, h.0)
left-by path tells a b x y (ask.Output text) h = (0, h.0)
left-by path tells a b x y (ask.Field name) h = (0, h.0)

-- what a question left says by how much the count of failures went up
pub left-grows : {X : Type 0} (path : Name) (tells : Type 0) (a b : Contents) (x y : ℕ) (r : Result X AskFault) → LeavesFiles path tells a b x y r → Grows x y
left-grows path tells a b x y (Ok v) h = (0, h.0)
left-grows path tells a b x y (Err e) h = left-by path tells a b x y e h
