use Rattle.std.proofs.Common.{◌≡◌, drop}
use Rattle.std.specs.List.{list_any}
use Rattle.hack_base.specs.Names.{names_of}
use Rattle.hack_words.specs.Start.{is_range_word, wants_rustup}
use Rattle.hack_words.proofs.cli.start.wants_rustup.Given as goal

abbrev pub invariant-loop-word : goal.invariant-loop-word
invariant-loop-word l = wants_rustup (names_of l.words) ≡ list_any is_range_word (names_of (drop l.word-index l.front))
