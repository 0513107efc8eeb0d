use Rattle.std.proofs.Common.{◌∙◌, ap, map, option_map, sym}
use Rattle.std.specs.Option.{option_to_list}
use Rattle.hack_base.proofs.StreamLemmas.{wrote}
use Rattle.hack_base.specs.Streams.{WritesAll, stream_of}
use Rattle.hack_term.specs.Lines.{info_line}
use Rattle.hack_run.specs.Errors.{advice_of}
use Rattle.hack_run.proofs.ErrorLemmas.{advised, unadvised}
use Rattle.hack_run.proofs.tell.tell.Goals as goal
use Rattle.hack_run.proofs.tell.tell.Goals.{in-Some, in_default}

pub returns-clause-shown : goal.returns-clause-shown
returns-clause-shown g c =
    let told : WritesAll (map (info_line c.args.term.now.coloring) (option_to_list (advice_of c.args.env.now c.args.fault.now))) (stream_of g.E.Sink c.args.err.now) (stream_of g.E.Sink c.match-advice.err) = elim c.match-advice.branch [
      | in-Some w ↦ rw w.err-is (advised _ _ _ _ _ (ap (option_map (λ text. text.now)) (sym w.in-Some.is) ∙ c.advice.ensures) (wrote g.E.Sink _ _ _ w.info.result w.info.ensures.line w.info.ensures.front w.info.ensures.counted))
      | in_default w ↦ unadvised _ _ _ _ (ap (option_map (λ text. text.now)) (sym w.in_default.is) ∙ c.advice.ensures) (ap (stream_of g.E.Sink) w.err-is)
    ] in
    (stream_of g.E.Sink c.match-advice.err, told, c.tell_text.ensures.shown)
