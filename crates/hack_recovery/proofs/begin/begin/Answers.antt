use Rattle.std.proofs.Common.{inl, refl}
use Rattle.std.proofs.lemmas.Result.{err_from_is_err_and}
use Rattle.hack_base.specs.Names.{optional_text}
use Rattle.hack_recovery.proofs.begin.begin.Goals as goal

pub returns-clause-begun : goal.returns-clause-begun
returns-clause-begun g c = record {
  prints_nothing = rw c.if-asked.false at c.in_ok-asked.ensures.prints;
  path = optional_text c.in_ok-asked.asked.manifest_path;
  asked = c.in_ok-asked.ensures.asks;
  back = c.in_ok-asked.ensures.back;
  found = c.in-Ok.ensures.found;
}

pub returns-in-Err-Device-clause-halted : goal.returns-in-Err-Device-clause-halted
returns-in-Err-Device-clause-halted g c =
    let seen = rw c.in-Err-Device.field-0-is at c.in-Err-Device.ensures.seen in (
      rw c.in-Err-Device.field-0-is at c.in-Err-Device.ensures.counted,
      rw c.in-Err-Device.field-0-is (record { before = c.args.files.now; after = c.find.new.files; unseen = seen.unseen }),
      c.in_ok-asked.ensures.asks,
      c.in_ok-asked.ensures.reading,
      rw c.in-Err-Device.field-0-is (rw c.in-Err-Device.field-0-is at c.in-Err-Device.ensures.looked),
      rw c.if-asked.false at c.in_ok-asked.ensures.prints,
    )

pub returns-in-Err-Memory-clause-halted : goal.returns-in-Err-Memory-clause-halted
returns-in-Err-Memory-clause-halted g c = rw c.in-Err-Memory.field-0-is at c.in-Err-Memory.ensures.counted

pub returns-in_err-journal-clause-halted : goal.returns-in_err-journal-clause-halted
returns-in_err-journal-clause-halted g c =
    let p = err_from_is_err_and c.from_residual-in_err-journal.result c.from_residual-in_err-journal.ensures.1 in
    rw (p.1, p.2) (inl c.in-Ok.ensures.counted)

pub returns-in_err-place-clause-halted : goal.returns-in_err-place-clause-halted
returns-in_err-place-clause-halted g c =
    let p = err_from_is_err_and c.from_residual-in_err-place.result c.from_residual-in_err-place.ensures.1 in
    rw (p.1, p.2) (inl c.in-Ok.ensures.counted)

pub returns-then-asked-clause-halted : goal.returns-then-asked-clause-halted
returns-then-asked-clause-halted g c = (refl, rw c.if-asked.true at c.in_ok-asked.ensures.prints, c.in_ok-asked.ensures.reading)
