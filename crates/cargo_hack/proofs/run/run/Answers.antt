use Rattle.std.proofs.Common.{rules, string_bytes, subst}
use Rattle.hack_base.specs.Streams.{WritesText, stream_of}
use Rattle.hack_process.specs.Calls.{MayAdd}
use Rattle.hack_run.specs.Questions.{rustup_asked}
use Rattle.hack_term.specs.Lines.{error_line}
use Rattle.cargo_hack.proofs.run.run.Goals as goal

pub returns-clause-call : goal.returns-clause-call
returns-clause-call g c = (
  c.run.new.host.fails,
  record {
    ends = search rules;
    stays = search rules;
    refused = λ r.
        let p = c.run.ensures.refused (rw c.new-host.ensures.env r) in
        (search (rules, p.0), λ t. subst (MayAdd (rustup_asked (string_bytes c.args.env.now.rustup)) (g.C.Caller.calls c.args.runner.now)) (search rules) (rw (c.new-host.ensures.env, c.new-host.ensures.caller.1) at (p.1 t)));
    told = λ r.
        let p = c.run.ensures.told (rw c.new-host.ensures.env r) in
        (p.0, subst (WritesText (error_line c.args.term.now.coloring p.0) (stream_of g.E.Sink c.args.err.now)) (search rules) (rw (c.new-host.ensures.term.1, c.new-host.ensures.err.1) at p.1));
    done = search rules;
    traced = search rules;
    stood = search rules;
    made = search rules;
    back = search rules;
    spoilt = search rules;
    lasting = search rules;
    clean = search rules;
    shown = search rules;
  },
)
