-- Errors of streams, and failures that are counted.
use Rattle.std.proofs.Common.{◌≡◌, ◌∙◌, ℕ, List, Option, None, Some, Bool, true, false, Result, Ok, Err, IsErrAnd, if◌then◌else◌, sym, ap, refl}
use Rattle.std.specs.Io.KnownBytes.{Consumes, Keeps}
use Rattle.std.specs.declared.io.Error.{Error}
use Rattle.std.specs.declared.io.ErrorKind.{ErrorKind}
use Rattle.std.specs.IoError.{error_kind}
use Rattle.hack_base.specs.Writes.{HasFailed, NoFewer}
use Rattle.hack_base.specs.WriteLaws.{NoFewer-trans, failed-later}
use Rattle.hack_powerset_list.specs.declared.fault.ListFault.TheVariants.{Write, Memory}
use Rattle.hack_powerset_list.specs.Faults.{is_memory_kind, told_as}
use Rattle.hack_powerset_list.specs.Streams.{IsCounted, CountsUnlessMemory}

-- a read after tries that gave nothing
pub Consumes-after : (a b c : Option (List ℕ)) (bs : List ℕ) → Keeps a b → Consumes b c bs → Consumes a c bs
Consumes-after None b c bs p q = tt
Consumes-after (Some x) None c bs p q = absurd p
Consumes-after (Some x) (Some y) None bs p q = absurd q
Consumes-after (Some x) (Some y) (Some z) bs p q = sym p ∙ q

-- what a later call counted
pub stops-later : (T : Type 0) (a b c : Option ℕ) (r : Result T Error) → NoFewer a b → CountsUnlessMemory b c r → CountsUnlessMemory a c r
stops-later T a b c (Ok done) p q = NoFewer-trans a b c p q
stops-later T a b c (Err e) p q = (λ real. failed-later a b c p (q.0 real), NoFewer-trans a b c p q.1)

-- an error that a later call returned
pub stops-refused : (T : Type 0) (a b c : Option ℕ) (e : Error) (r : Result T Error) → IsErrAnd r (λ f. f ≡ e) → NoFewer a b → CountsUnlessMemory {T = T} b c (Err e) → CountsUnlessMemory a c r
stops-refused T a b c e (Ok done) refused p q = absurd refused
stops-refused T a b c e (Err f) refused p q = (λ real. failed-later a b c p (q.0 (ap (λ x. is_memory_kind (error_kind x)) (sym refused) ∙ real)), NoFewer-trans a b c p q.1)

module _ (read_old read_new write_old write_new : Option ℕ) where
  -- an error of writing, which counts a failure unless its kind is out of memory
  pub counted-writing : (kind : ErrorKind) → (is_memory_kind kind ≡ false → HasFailed write_old write_new) → IsCounted read_old read_new write_old write_new (told_as kind Write)
  counted-writing kind failed = told (is_memory_kind kind) refl
    where
      told : (b : Bool) → is_memory_kind kind ≡ b → IsCounted read_old read_new write_old write_new (if b then Memory else Write)
      told true is = tt
      told false is = failed is
