use Rattle.std.proofs.Common.{◌≡◌, ◌+◌, ◌-◌, ◌∙◌, [], List, ℕ, arith, drop, length, take}
use Rattle.std.proofs.lemmas.Grind.{common_steps}
use Rattle.hack_base.specs.Names.{names_of}
use Rattle.hack_words.proofs.StartLemmas.{front, front-is, trailing, trailing-is}
use Rattle.hack_words.proofs.cli.start.split_at_dashes.Goals as goal

pub returns-then-eq-clause-front : goal.returns-then-eq-clause-front
returns-then-eq-clause-front c =
    let words = c.args.words.now in
    let parts : names_of (take c.loop-place.place words) ≡ front (names_of words) = grind (arith, common_steps) in
    parts ∙ front-is (names_of words)

pub returns-then-eq-clause-trailing : goal.returns-then-eq-clause-trailing
returns-then-eq-clause-trailing c =
    let words = c.args.words.now in
    let after = c.loop-place.place + 1 in
    let parts : names_of (take (length words - after) (drop after words)) ≡ trailing (names_of words) = grind (arith, common_steps) in
    parts ∙ trailing-is (names_of words)

pub returns-clause-front : goal.returns-clause-front
returns-clause-front c =
    let words = c.args.words.now in
    let parts : names_of words ≡ front (names_of words) = grind (arith, common_steps) in
    parts ∙ front-is (names_of words)

pub returns-clause-trailing : goal.returns-clause-trailing
returns-clause-trailing c =
    let words = c.args.words.now in
    let none : List (List ℕ) = [] in
    let parts : none ≡ trailing (names_of words) = grind (arith, common_steps) in
    parts ∙ trailing-is (names_of words)
