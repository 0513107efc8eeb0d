use Rattle.std.proofs.Common.{◌∙◌, ap, inr, string_bytes, sym}
use Rattle.hack_words.specs.declared.cli.args.Args.{Args}
use Rattle.hack_base.specs.Streams.{stream_of}
use Rattle.hack_load.specs.ContextView.{context_view}
use Rattle.hack_run.specs.Shown.{looks_of}
use Rattle.hack_run.proofs.ShownLists.{plan_listed, plan_run}
use Rattle.hack_run.proofs.stages.run_plan.Goals as goal

pub returns-then-args-clause-shown : goal.returns-then-args-clause-shown
returns-then-args-clause-shown g c = λ t. inr (
  stream_of g.E.Sink c.tell_looks.new.err,
  c.in_ok-tell_looks.ensures.shown,
  plan_listed c.print_list.result g.C.Caller.tells (context_view c.args.cx.now) c.args.stable (string_bytes c.args.host.now.env.now.rustup) (looks_of c.args.host.now.term.now) _ _ _ (ap (λ (a : Args). a.print_command_list) (sym c.args-2.ensures) ∙ c.if-args.true) (c.print_list.ensures.shown t),
)

pub returns-clause-shown : goal.returns-clause-shown
returns-clause-shown g c = λ t. inr (
  stream_of g.E.Sink c.tell_looks.new.err,
  c.in_ok-tell_looks.ensures.shown,
  plan_run c.execute.result g.C.Caller.tells (context_view c.args.cx.now) c.args.stable (string_bytes c.args.host.now.env.now.rustup) (looks_of c.args.host.now.term.now) _ _ _ (ap (λ (a : Args). a.print_command_list) (sym c.args-2.ensures) ∙ c.if-args.false) (c.execute.ensures.shown t),
)
