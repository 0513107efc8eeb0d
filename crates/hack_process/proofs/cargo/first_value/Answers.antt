use Rattle.std.proofs.Common.{◌≡◌, ◌∙◌, sym, length, true, false, is_some, option_copied}
use Rattle.std.specs.Str.Lines.{lines}
use Rattle.std.proofs.lemmas.List.{length_push}
use Rattle.std.proofs.lemmas.Iterator.Consumers.{YieldsList-turn, YieldsList-end}
use Rattle.std.proofs.lemmas.Iterator.Splits.{YieldsList-from_lines}
use Rattle.hack_process.proofs.LineLemmas.{first-here, first-later, first-end, is_some-copied}
use Rattle.hack_process.proofs.cargo.first_value.Goals as goal

pub returns-then-is_some : goal.returns-then-is_some
returns-then-is_some c =
    let t = YieldsList-turn (YieldsList-from_lines c.args.text.now cc) c.loop-line.yielded _ c.loop-line.yielded_by _ _ c.in-Some.line c.in-Some.is c.next.ensures.steps in
    let s : is_some c.value_in-value.result ≡ true = cc in
    sym (first-here c.args.name.now (lines c.args.text.now) (length c.loop-line.yielded) c.in-Some.line.now (option_copied c.value_in-value.result) t.0 t.1 c.value_in-value.ensures (is_some-copied c.value_in-value.result true s)) ∙ c.loop-line.invariant

pub loop-line-preserved : goal.loop-line-preserved
loop-line-preserved c =
    let t = YieldsList-turn (YieldsList-from_lines c.args.text.now cc) c.loop-line.yielded _ c.loop-line.yielded_by _ _ c.in-Some.line c.in-Some.is c.next.ensures.steps in
    let s : is_some c.value_in-value.result ≡ false = cc in
    rw (length_push c.loop-line.yielded c.in-Some.line) (sym (first-later c.args.name.now (lines c.args.text.now) (length c.loop-line.yielded) c.in-Some.line.now (option_copied c.value_in-value.result) t.0 t.1 c.value_in-value.ensures (is_some-copied c.value_in-value.result false s)) ∙ c.loop-line.invariant)

pub returns : goal.returns
returns c =
    let t = YieldsList-end (YieldsList-from_lines c.args.text.now cc) c.loop-line.yielded _ c.loop-line.yielded_by _ _ c.in-None.is c.next.ensures.steps in
    sym (first-end c.args.name.now (lines c.args.text.now) (length c.loop-line.yielded) t.1) ∙ c.loop-line.invariant
