use Rattle.std.proofs.Common.{◌∙◌, sym}
use Rattle.hack_base.proofs.StreamLemmas.{wrote}
use Rattle.hack_files.proofs.WriteBackLemmas.{refusal_line}
use Rattle.hack_files.proofs.saved.Saved.tell_refusal.Goals as goal

pub returns-else-is_reported-clause-told : goal.returns-else-is_reported-clause-told
returns-else-is_reported-clause-told g c =
    refusal_line _ _ _ _ _ _ (sym c.is_reported.ensures ∙ c.if-is_reported.false) (c.as_str.ensures.value ∙ c.args.self.now.fails)
    (wrote g.W.Sink _ _ _ c.error.result c.error.ensures.line c.error.ensures.front c.error.ensures.counted)
