use Rattle.std.proofs.Common.{◌≡◌, ◌++◌, ℕ, List, string_bytes, map, drop}
use Rattle.std.specs.Fmt.{HasWritten, IsPlainFormatter}
use Rattle.hack_process.specs.CommandTexts.{each_spaced, shown_words}
use Rattle.hack_process.specs.Internal.{pending_option}
use Rattle.hack_process.proofs.process.OwnWordsDisplay.fmt.Given as goal

-- what is written, followed by what the arguments that are left show, is the whole text
abbrev pub invariant-loop-word : goal.invariant-loop-word
invariant-loop-word g l =
    IsPlainFormatter l.initial.f → (written : List ℕ)
    × HasWritten g.W.Write.write_str_gives l.initial.f written l.f
    × (each_spaced (shown_words l.self.full l.self.dir.now (map string_bytes l.word-items)) ≡ written ++ each_spaced (shown_words l.self.full l.self.dir.now (pending_option l.awaits_path ++ map string_bytes (drop l.word-index l.word-items))))
