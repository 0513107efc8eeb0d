use Rattle.std.proofs.Common.{◌∙◌, sym, ap, Some, string_bytes, option_map}
use Rattle.hack_process.specs.Internal.{with_name}
use Rattle.hack_process.proofs.CommandLemmas.{appended-more}
use Rattle.hack_process.proofs.process.ProcessBuilder.append_features.Goals as goal

pub loop-name-preserved : goal.loop-name-preserved
loop-name-preserved g c =
    let text = g.T.AsStr.text in
    let i = c.loop-name.name-index in
    ap Some (c.in_ok-longer.ensures ∙ ap (λ list. with_name list c.as_str.result.now) c.loop-name.invariant ∙ ap (with_name _) (c.as_str.ensures ∙ ap text c.name-item.is))
    ∙ sym (appended-more text (option_map string_bytes c.args.self.now.features) c.args.names.now i c.name-item.result c.loop-name-test.true)
