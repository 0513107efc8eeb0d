use Rattle.std.proofs.Common.{◌-◌, ◌∙◌, List, ℕ, ap, sym, inr, refl, arith}
use Rattle.hack_journal.specs.Internal.{IsFileOfRow}
use Rattle.hack_journal.specs.Rows.{file_at}
use Rattle.hack_files.specs.TraceLaws.{makes_none}
use Rattle.hack_journal.specs.SafeLaws.{stay_none}
use Rattle.hack_journal.proofs.FailedLemmas.{ends_then, ends_wider}
use Rattle.hack_journal.proofs.NearerLemmas.{beside_or_not, beside_then}
use Rattle.hack_journal.proofs.RemovalLemmas.{back_but_safe, remove_failed, remove_went}
use Rattle.hack_journal.proofs.recover.+remove_files.Goals as goal

pub returns-then-count-eq0-clause-safe : goal.returns-then-count-eq0-clause-safe
returns-then-count-eq0-clause-safe g t c = λ whole spot first named but. stay_none _ _ _ _ _ (makes_none _ _) (back_but_safe spot first c.args.count _ but)

pub returns-in_err-path-clause-safe : goal.returns-in_err-path-clause-safe
returns-in_err-path-clause-safe g t c = λ whole spot first named but. stay_none _ _ _ _ _ (makes_none _ _) (back_but_safe spot first c.args.count _ but)

pub returns-in-Ok-clause-safe : goal.returns-in-Ok-clause-safe
returns-in-Ok-clause-safe g t c = λ whole spot first named but.
    let path = c.deref.ensures ∙ c.in_ok-path.ensures ∙ ap (λ (j : List ℕ). file_at j (c.args.count - 1)) (sym named) in
    remove_went spot first c.args.count _ _ _ _ _ _ _ c.if-count-eq0.false (omega (arith, c.ranges.count)) path (c.in-Ok.ensures.traced whole) but (c.remove_files.ensures.safe whole spot first named)

pub returns-clause-safe : goal.returns-clause-safe
returns-clause-safe g t c = λ whole spot first named but.
    let path = c.deref.ensures ∙ c.in_ok-path.ensures ∙ ap (λ (j : List ℕ). file_at j (c.args.count - 1)) (sym named) in
    remove_failed spot first c.args.count _ _ _ _ _ c.if-count-eq0.false (omega (arith, c.ranges.count)) path (c.in-Err.ensures.refused whole) but

pub returns-in-Ok-clause-calls : goal.returns-in-Ok-clause-calls
returns-in-Ok-clause-calls g t c =
    ends_then g.F.Files (IsFileOfRow c.args.journal.now c.args.count) c.remove_files.result c.args.files.now c.remove.new.self c.remove_files.new.files (record { unseen = c.in-Ok.ensures.unseen_none; refused = c.in-Ok.ensures.refused_path })
    (ends_wider g.F.Files (IsFileOfRow c.args.journal.now (c.args.count - 1)) (IsFileOfRow c.args.journal.now c.args.count) (λ p file. (file.0, omega (arith, file.1), file.2)) c.remove_files.result c.remove.new.self c.remove_files.new.files c.remove_files.ensures.calls)

pub returns-then-count-eq0-clause-besides : goal.returns-then-count-eq0-clause-besides
returns-then-count-eq0-clause-besides g t c = λ whole. stay_none _ _ _ _ _ (makes_none _ _) (λ q out. refl)

pub returns-in_err-path-clause-besides : goal.returns-in_err-path-clause-besides
returns-in_err-path-clause-besides g t c = λ whole. stay_none _ _ _ _ _ (makes_none _ _) (λ q out. refl)

pub returns-in-Ok-clause-besides : goal.returns-in-Ok-clause-besides
returns-in-Ok-clause-besides g t c = λ whole.
    let j = c.args.journal.now in
    beside_then j c.args.count _ _ _ _ _ _ (beside_or_not j _ c.args.count _ _ _ _ c.if-count-eq0.false (c.deref.ensures ∙ c.in_ok-path.ensures) (inr (c.in-Ok.ensures.traced whole))) (c.remove_files.ensures.besides whole)

pub returns-clause-besides : goal.returns-clause-besides
returns-clause-besides g t c = λ whole.
    beside_or_not c.args.journal.now _ c.args.count _ _ _ _ c.if-count-eq0.false (c.deref.ensures ∙ c.in_ok-path.ensures) (c.in-Err.ensures.refused whole)
