use Rattle.std.proofs.Common.{List, ℕ, ap, map, string_bytes, subst}
use Rattle.std.specs.Fmt.{HasWritten}
use Rattle.hack_process.specs.Commands.{command_of}
use Rattle.hack_process.specs.CommandTexts.{each_spaced, shown_words, shown_features, shown_trailing}
use Rattle.hack_process.proofs.CommandLemmas.{line-joined}
use Rattle.hack_process.proofs.process.LineDisplay.fmt.Goals as goal

pub returns-clause-writes : goal.returns-clause-writes
returns-clause-writes g c = λ p ok.
    let line = c.args.self.now in
    let own = command_of line.builder.now in
    subst (λ (t : List ℕ). HasWritten g.W.Write.write_str_gives c.args.f.now t c.write.new.self)
    (line-joined line.program.now _ (each_spaced own.passed) _ (shown_features own.features) (shown_trailing own.trailing) _ _
    (ap (λ words. each_spaced (map string_bytes words)) c.deref.ensures.value)
    (ap (λ words. each_spaced (shown_words line.full line.dir.now (map string_bytes words))) c.deref-2.ensures.value))
    (c.write.ensures.writes p ok)
