use Rattle.std.proofs.Common.{arith, sym}
use Rattle.hack_base.proofs.NumberLemmas.{number-parsed, number-unparsed}
use Rattle.hack_partition.proofs.PieceTexts.{uncut-no_piece, cut-piece, joined-piece}
use Rattle.hack_partition.proofs.partition.read_piece.Goals as goal
use Rattle.hack_partition.proofs.partition.read_piece.Goals.{then-piece-eq0-via-then-piece-eq0, then-piece-eq0-via-else-piece-eq0+then-count-piece}

pub returns-in_err-piece-clause-none : goal.returns-in_err-piece-clause-none
returns-in_err-piece-clause-none c = rw c.from_residual.ensures (uncut-no_piece c.args.text.now c.in_err-piece.ensures.cases)

pub returns-in_err-piece-2-clause-none : goal.returns-in_err-piece-2-clause-none
returns-in_err-piece-2-clause-none c = rw c.from_residual-in_err-piece-2.ensures (λ m n p.
    number-unparsed 64 c.in_ok-piece.piece.now c.parse.result m c.parse.ensures.value.0 (sym c.in_err-piece-2.ensures.value) (cut-piece c.args.text.now c.in_ok-piece.piece c.in_ok-piece.count c.in_ok-piece.ensures.cases m n p).0)

pub returns-in_err-count-clause-none : goal.returns-in_err-count-clause-none
returns-in_err-count-clause-none c = rw c.from_residual-in_err-count.ensures (λ m n p.
    number-unparsed 64 c.in_ok-piece.count.now c.parse-2.result n c.parse-2.ensures.value.0 (sym c.in_err-count.ensures.value) (cut-piece c.args.text.now c.in_ok-piece.piece c.in_ok-piece.count c.in_ok-piece.ensures.cases m n p).1)

pub returns-then-piece-eq0-clause-none : goal.returns-then-piece-eq0-clause-none
returns-then-piece-eq0-clause-none c = λ m n p.
    let cut = cut-piece c.args.text.now c.in_ok-piece.piece c.in_ok-piece.count c.in_ok-piece.ensures.cases m n p in
    let a = number-parsed 64 c.in_ok-piece.piece.now c.parse.result c.in_ok-piece-2.piece c.parse.ensures.value.0 (sym c.in_ok-piece-2.ensures.value) in
    let b = number-parsed 64 c.in_ok-piece.count.now c.parse-2.result c.in_ok-count.count c.parse-2.ensures.value.0 (sym c.in_ok-count.ensures.value) in
    elim c.then-piece-eq0.branch [ then-piece-eq0-via-then-piece-eq0 w ↦ omega (arith, cut.0.1, cut.2, a.1) | then-piece-eq0-via-else-piece-eq0+then-count-piece w ↦ omega (arith, cut.0.1, cut.1.1, cut.3, a.1, b.1) ]

pub returns-clause-piece : goal.returns-clause-piece
returns-clause-piece c =
    joined-piece c.args.text.now c.in_ok-piece.piece c.in_ok-piece.count c.in_ok-piece.ensures.cases c.in_ok-piece-2.piece c.in_ok-count.count
    (number-parsed 64 c.in_ok-piece.piece.now c.parse.result c.in_ok-piece-2.piece c.parse.ensures.value.0 (sym c.in_ok-piece-2.ensures.value))
    (number-parsed 64 c.in_ok-piece.count.now c.parse-2.result c.in_ok-count.count c.parse-2.ensures.value.0 (sym c.in_ok-count.ensures.value))
    (omega arith) (omega arith)
