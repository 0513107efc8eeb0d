-- How many calls of files have failed, one step after another.
use Rattle.std.proofs.Common.{inl, inr, ℕ, List, [], ◌∷◌, ◌++◌, Result, Ok, Err, arith}
use Rattle.hack_base.specs.Names.{Name}
use Rattle.hack_base.specs.Counters.{GrowsBy}
use Rattle.hack_files.specs.declared.fs.FsFault.{FsFault}
use Rattle.hack_files.specs.declared.fs.FsFault.TheVariants as fs
use Rattle.hack_prepare.specs.FailureCounts.{CountsCalls, CountsFault, CountsFile, WriteFails}
use Rattle.hack_files.specs.Files.{Grows}
use Rattle.hack_prepare.specs.declared.fault.PrepareFault.{PrepareFault}
use Rattle.hack_prepare.specs.declared.fault.PrepareFault.TheVariants.{Memory, PrivateRoot, Files, Toml, InlineTarget, WorkspaceForm, PathText, ReadBack}

-- no call failed
pub none_failed : (n : ℕ) → GrowsBy 0 n n
none_failed n = λ low. omega (arith, low)

-- none failed, and then so many
pub none_then : (k a b c : ℕ) → GrowsBy 0 a b → GrowsBy k b c → GrowsBy k a c
none_then k a b c f g = λ low. let first = f low in let second = g (omega (arith, first)) in omega (arith, first, second)

file_then : (a b c : ℕ) (f : FsFault) → GrowsBy 0 a b → CountsFile b c f → CountsFile a c f
file_then a b c (fs.Read p) g h = none_then 1 a b c g h
file_then a b c (fs.Write p) g h = none_then 1 a b c g h
file_then a b c (fs.NotText p) g h = none_then 0 a b c g h
file_then a b c fs.Memory g h = h

-- none failed, and then an error came
pub fault_then : (a b c : ℕ) (e : PrepareFault) → GrowsBy 0 a b → CountsFault b c e → CountsFault a c e
fault_then a b c Memory g (inl h) = inl (none_then 0 a b c g h)
fault_then a b c Memory g (inr h) = inr (none_then 1 a b c g h)
fault_then a b c (Files f) g h = file_then a b c f g h
fault_then a b c PrivateRoot g h = none_then 0 a b c g h
fault_then a b c (Toml p) g h = none_then 0 a b c g h
fault_then a b c (InlineTarget p) g h = none_then 0 a b c g h
fault_then a b c (WorkspaceForm p) g h = none_then 0 a b c g h
fault_then a b c (PathText p) g h = none_then 0 a b c g h
fault_then a b c (ReadBack p) g h = none_then 0 a b c g h

-- none failed, and then a step had this result
pub calls_then : {T : Type 0} (a b c : ℕ) (r : Result T PrepareFault) → GrowsBy 0 a b → CountsCalls b c r → CountsCalls a c r
calls_then a b c (Ok v) g h = none_then 0 a b c g h
calls_then a b c (Err e) g h = fault_then a b c e g h

file_grows : (a b : ℕ) (f : FsFault) → CountsFile a b f → Grows a b
file_grows a b (fs.Read p) h = (1, h)
file_grows a b (fs.Write p) h = (1, h)
file_grows a b (fs.NotText p) h = (0, h)
file_grows a b fs.Memory h = absurd h

fault_grows : (a b : ℕ) (e : PrepareFault) → CountsFault a b e → Grows a b
fault_grows a b Memory (inl h) = (0, h)
fault_grows a b Memory (inr h) = (1, h)
fault_grows a b (Files f) h = file_grows a b f h
fault_grows a b PrivateRoot h = (0, h)
fault_grows a b (Toml p) h = (0, h)
fault_grows a b (InlineTarget p) h = (0, h)
fault_grows a b (WorkspaceForm p) h = (0, h)
fault_grows a b (PathText p) h = (0, h)
fault_grows a b (ReadBack p) h = (0, h)

-- some calls failed
pub calls_grow : {T : Type 0} (a b : ℕ) (r : Result T PrepareFault) → CountsCalls a b r → Grows a b
calls_grow a b (Ok v) h = (0, h)
calls_grow a b (Err e) h = fault_grows a b e h

-- after calls none of which failed
pub write_then : (R S T : List Name → Type 0) (a b c : ℕ) (path : Name) → ((ps qs : List Name) → R ps → S qs → T (ps ++ qs)) → GrowsBy 0 a b → R [] → WriteFails S b c path → WriteFails T a c path
write_then R S T a b c path more f none_refused g = (none_then 1 a b c f g.0, more [] (path ∷ []) none_refused g.1)
