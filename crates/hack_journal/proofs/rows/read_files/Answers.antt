use Rattle.std.proofs.Common.{◌≡◌, ◌∙◌, List, ℕ, arith}
use Rattle.std.proofs.lemmas.Result.{err_from_is_err_and}
use Rattle.std.proofs.lemmas.Grind.{common_steps}
use Rattle.hack_journal.specs.Journal.{edits_of}
use Rattle.hack_journal.specs.Rows.{file_at, spot_of}
use Rattle.hack_journal.specs.Recovery.{IsReached}
use Rattle.hack_files.specs.TraceLaws.{makes_more}
use Rattle.hack_files.proofs.FailedLemmas.{none_then}
use Rattle.hack_journal.proofs.FailedLemmas.{fault_then, fault_wider}
use Rattle.hack_journal.proofs.RecoverLemmas.{reached_at, read_more_at, why_torn}
use Rattle.hack_journal.proofs.rows.read_files.Goals as goal

pub returns-in_err-read_file-clause-why : goal.returns-in_err-read_file-clause-why
returns-in_err-read_file-clause-why g c =
    let p = err_from_is_err_and c.from_residual.result c.from_residual.ensures.1 in
    rw (p.1, p.2) (why_torn (spot_of c.args.place.now) g.F.Files.tells c.loop-number.number (edits_of c.loop-number.entries.items) (g.F.Files.bytes_at c.args.files.now) (g.F.Files.bytes_at c.loop-number.files) _
    c.loop-number.invariant.same c.loop-number.invariant.read c.in_err-read_file.ensures.why)

pub returns-in_err-read_file-clause-calls : goal.returns-in_err-read_file-clause-calls
returns-in_err-read_file-clause-calls g c =
    let p = err_from_is_err_and c.from_residual.result c.from_residual.ensures.1 in
    let s = spot_of c.args.place.now in
    let m = g.F.Files.bytes_at c.args.files.now in
    let P : List ℕ → Type 0 = λ path. path ≡ file_at s.journal c.loop-number.number in
    rw (p.1, p.2) (fault_then g.F.Files (IsReached s g.F.Files.tells m) _ c.args.files.now c.loop-number.files c.read_file.new.files c.loop-number.invariant.calls
    (fault_wider g.F.Files P (IsReached s g.F.Files.tells m) (reached_at s g.F.Files.tells c.loop-number.number (edits_of c.loop-number.entries.items) m c.loop-number.invariant.read) _ _ _ c.in_err-read_file.ensures.calls))

pub loop-number-preserved : goal.loop-number-preserved
loop-number-preserved g c =
    let i = c.loop-number.invariant in
    let s = spot_of c.args.place.now in
    record {
      failures = grind (arith, common_steps, i.failures, c.in_ok-read_file.ensures.failures);
      calls = none_then g.F.Files _ _ _ i.calls c.in_ok-read_file.ensures.calls;
      same = λ tells q. c.in_ok-read_file.ensures.same tells q ∙ i.same tells q;
      untraced = λ whole. makes_more _ _ _ _ _ _ _ _ (i.untraced whole) (c.in_ok-read_file.ensures.untraced whole);
      read = λ tells. read_more_at s (g.F.Files.bytes_at c.args.files.now) (g.F.Files.bytes_at c.loop-number.files) c.loop-number.number _ _ (i.same tells) (i.read tells) (c.in_ok-read_file.ensures.some c.if-not-branch.false tells);
    }

pub returns-then-not-branch-clause-calls : goal.returns-then-not-branch-clause-calls
returns-then-not-branch-clause-calls g c = none_then g.F.Files c.args.files.now c.loop-number.files c.read_file.new.files c.loop-number.invariant.calls c.in_ok-read_file.ensures.calls
