use Rattle.std.proofs.Common.{◌≡◌, ◌∷◌, ◌++◌, [], None, Some, ap, ◌∙◌, rules, arith, length}
use Rattle.std.proofs.lemmas.Bool.Decides.{Decides-eqb}
use Rattle.std.proofs.lemmas.Slice.Eq.{strip_prefix_is}
use Rattle.hack_journal.proofs.TextLemmas.{sofar_goes, sofar_feeds, sofar_ends, sofar_never, next_of, both, length_zero}
use Rattle.hack_journal.proofs.journal.lines_of.Goals as goal

pub loop-byte-preserved-then-byte-ne10 : goal.loop-byte-preserved-then-byte-ne10
loop-byte-preserved-then-byte-ne10 c =
    let left : c.loop-byte.left.now ≡ c.in-Some.byte.now ∷ c.in-Some.rest.now = search rules in
    let bytes : c.push.new.self.items ≡ c.loop-byte.bytes.items ++ c.in-Some.byte.now ∷ [] = search rules in
    record {
      shorter = omega (arith, ap length left, c.loop-byte.invariant.shorter);
      sofar = rw bytes (sofar_goes c.args.text.now c.loop-byte.bytes.items c.loop-byte.left.now c.in-Some.byte.now c.in-Some.rest.now left c.if-byte-ne10.true c.loop-byte.invariant.sofar);
    }

pub loop-byte-preserved : goal.loop-byte-preserved
loop-byte-preserved c =
    let left : c.loop-byte.left.now ≡ c.in-Some.byte.now ∷ c.in-Some.rest.now = search rules in
    let rest : c.in-Some.rest.now ≡ 32 ∷ c.in-Some-strip_prefix.more.now = strip_prefix_is Decides-eqb c.in-Some.rest.now (32 ∷ []) (Some c.in-Some-strip_prefix.more) c.in-Some-strip_prefix.ensures.cases in
    let byte : c.in-Some.byte.now ≡ 10 = omega (arith, c.if-byte-ne10.false) in
    let bytes : c.push-in-Some-strip_prefix.new.self.items ≡ c.loop-byte.bytes.items ++ 10 ∷ [] = search rules in
    record {
      shorter = omega (arith, ap length left, ap length rest, c.loop-byte.invariant.shorter);
      sofar = rw bytes (sofar_feeds c.args.text.now c.loop-byte.bytes.items c.loop-byte.left.now c.in-Some-strip_prefix.more.now (left ∙ ap (λ b. b ∷ c.in-Some.rest.now) byte ∙ ap (λ r. 10 ∷ r) rest) c.loop-byte.invariant.sofar);
    }

pub returns-in-None-clause-only : goal.returns-in-None-clause-only
returns-in-None-clause-only c = λ bytes rest next h.
    let left : c.loop-byte.left.now ≡ c.in-Some.byte.now ∷ c.in-Some.rest.now = search rules in
    let byte : c.in-Some.byte.now ≡ 10 = omega (arith, c.if-byte-ne10.false) in
    both _ _ _ _ (sofar_ends c.args.text.now c.loop-byte.bytes.items c.loop-byte.left.now c.in-Some.rest.now (left ∙ ap (λ b. b ∷ c.in-Some.rest.now) byte)
    (next_of c.in-Some.rest.now (strip_prefix_is Decides-eqb c.in-Some.rest.now (32 ∷ []) None c.in-None.ensures.cases)) c.loop-byte.invariant.sofar bytes rest next h)

pub returns-clause-only : goal.returns-clause-only
returns-clause-only c = λ bytes rest next h.
    let left : c.loop-byte.left.now ≡ [] = length_zero c.loop-byte.left.now c.in_default.ensures.cases in
    sofar_never c.args.text.now c.loop-byte.bytes.items c.loop-byte.left.now left c.loop-byte.invariant.sofar bytes rest next h
