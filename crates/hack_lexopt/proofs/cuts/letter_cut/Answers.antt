use Rattle.std.proofs.Common.{◌≡◌, ◌++◌, drop, encode_utf8}
use Rattle.hack_lexopt.proofs.Texts.{IsCharBoundary-rest, word_parts}
use Rattle.hack_lexopt.proofs.cuts.letter_cut.Goals as goal

pub returns-clause-boundary : goal.returns-clause-boundary
returns-clause-boundary c =
    let e : drop c.args.at c.args.word.now ≡ encode_utf8 c.in-Some.letter ++ c.as_str-rest.result.now = cc (c.in-Some.ensures.steps.0, c.chars-chars.ensures.rest, c.range_from.ensures.value, c.as_str-rest.ensures) in
    IsCharBoundary-rest c.args.word.now _ c.as_str-rest.result.now (word_parts c.args.word.now (encode_utf8 c.in-Some.letter) c.as_str-rest.result.now c.args.at e) c.as_str-rest.utf8
