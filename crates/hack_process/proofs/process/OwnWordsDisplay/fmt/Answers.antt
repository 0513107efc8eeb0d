use Rattle.std.proofs.Common.{◌++◌, ◌∙◌, refl, sym, ap, append_assoc, string_bytes, true}
use Rattle.std.proofs.lemmas.Grind.{put_two}
use Rattle.hack_process.specs.CommandTexts.{each_spaced}
use Rattle.hack_process.specs.OwnWords.{shown_own}
use Rattle.hack_process.specs.Internal.{pending_option}
use Rattle.hack_process.proofs.CommandLemmas.{shown-more, shown-end}
use Rattle.hack_process.proofs.process.OwnWordsDisplay.fmt.Goals as goal

pub loop-word-preserved : goal.loop-word-preserved
loop-word-preserved g c p =
    let self = c.args.self.now in
    let word = c.as_str.result.now in
    let so_far = c.loop-word.invariant p in
    let shown = shown_own c.loop-word.awaits_path self.full self.dir.now word in
    let more = shown-more string_bytes self.full self.dir.now c.loop-word.awaits_path c.awaits_path-awaits_path.result word self.words.now c.loop-word.word-index c.word-item.result c.loop-word-test.true (c.as_str.ensures.value ∙ ap string_bytes c.word-item.is) c.awaits_path-awaits_path.ensures in (
      so_far.0 ++ shown,
      put_two g.W.Write.write_str_gives _ _ _ so_far.0 shown _ so_far.1 (c.in_ok-write.ensures.writes so_far.1.plain refl) refl,
      so_far.2 ∙ ap (λ l. so_far.0 ++ l) more ∙ sym (append_assoc so_far.0 shown _),
    )

pub returns-in_ok-write-2-clause-writes : goal.returns-in_ok-write-2-clause-writes
returns-in_ok-write-2-clause-writes g c p e =
    let self = c.args.self.now in
    let so_far = c.loop-word.invariant p in
    let end = shown-end string_bytes self.full self.dir.now c.loop-word.awaits_path self.words.now c.loop-word.word-index c.loop-word-test.false in
    put_two g.W.Write.write_str_gives _ _ _ so_far.0 (each_spaced (pending_option true)) _ so_far.1 (c.in_ok-write-2.ensures.writes so_far.1.plain e) (sym (so_far.2 ∙ ap (λ l. so_far.0 ++ l) (end ∙ ap (λ b. each_spaced (pending_option b)) c.if-awaits_path.true)))
