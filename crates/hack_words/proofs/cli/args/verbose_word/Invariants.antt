use Rattle.std.proofs.Common.{◌≡◌, ◌++◌, codes, string_bytes}
use Rattle.std.specs.List.{repeat}
use Rattle.hack_words.proofs.cli.args.verbose_word.Given as goal

abbrev pub invariant-loop : goal.invariant-loop
invariant-loop l = string_bytes l.word ≡ codes "-" ++ repeat l.counter (codes "v")
