use Rattle.std.proofs.Common.{ap, inl, inr, refl, rules, subst, string_bytes, true, false}
use Rattle.hack_load.specs.ContextView.{context_view}
use Rattle.hack_run.specs.Shown.{looks_of, scene_at, scene_on}
use Rattle.hack_run.specs.Worlds.{host_view}
use Rattle.hack_run.proofs.RunLemmas.{some_told}
use Rattle.hack_run.specs.Internal.{HandsSteps}
use Rattle.hack_run.proofs.ShownLemmas.{cut_of, looks_later, report_of, said_found, said_reported, said_stopped, said_unreported}
use Rattle.hack_session.specs.Histories.{Course}
use Rattle.std.specs.Prelude.{Option}
use Rattle.hack_run.proofs.TraceLemmas.{one_told}
use Rattle.hack_run.proofs.execute.execute.Goals as goal

pub returns-in_ok-report_all-in-Some-session-clause-done : goal.returns-in_ok-report_all-in-Some-session-clause-done
returns-in_ok-report_all-in-Some-session-clause-done g c = λ quiet t.
    let first = host_view g.C.Caller g.O.Sink c.args.host.now in
    one_told true false (context_view c.args.cx.now) c.args.stable (string_bytes c.args.host.now.env.now.rustup) first.term.warn first (host_view g.C.Caller g.O.Sink c.hand_to_starter.new.host)
    first.term c.report_all.new.term (λ e. c.report_all.ensures.warn) (c.in-Ok.ensures.done c.in-None.is (c.report_all.ensures.kept quiet) t)

pub returns-in_err-report_all-in-Some-session-clause-made : goal.returns-in_err-report_all-in-Some-session-clause-made
returns-in_err-report_all-in-Some-session-clause-made g c = λ t.
    some_told false (context_view c.args.cx.now) c.args.stable (string_bytes c.args.host.now.env.now.rustup) (host_view g.C.Caller g.O.Sink c.args.host.now) (host_view g.C.Caller g.O.Sink c.hand_to_starter.new.host)
    c.report_all.new.term (c.hand_to_starter.ensures.made t)

pub returns-in_ok-report_all-in-Some-session-clause-made : goal.returns-in_ok-report_all-in-Some-session-clause-made
returns-in_ok-report_all-in-Some-session-clause-made g c = λ t.
    some_told false (context_view c.args.cx.now) c.args.stable (string_bytes c.args.host.now.env.now.rustup) (host_view g.C.Caller g.O.Sink c.args.host.now) (host_view g.C.Caller g.O.Sink c.hand_to_starter.new.host)
    c.report_all.new.term (c.hand_to_starter.ensures.made t)

pub returns-in-Err-clause-shown : goal.returns-in-Err-clause-shown
returns-in-Err-clause-shown g c = λ t. inl (c.in-Err.fault, refl, c.in-Err.ensures.unplanned t)

pub returns-in-Some-clause-shown : goal.returns-in-Some-clause-shown
returns-in-Some-clause-shown g c = λ t.
    inr (said_stopped c.in-Some.fault c.hand_to_starter.new.fault g.C.Caller.tells (context_view c.args.cx.now) c.args.stable (string_bytes c.args.host.now.env.now.rustup) (looks_of c.args.host.now.term.now) (looks_of c.hand_to_starter.new.host.term.now) c.in-Ok.session
    (scene_on g.C.Caller g.O.Sink g.E.Sink c.args.host.now) (scene_on g.C.Caller g.O.Sink g.E.Sink c.hand_to_starter.new.host) (c.in-Ok.ensures.shown t) c.in-Some.is c.hand_to_starter.ensures.looks)

pub returns-in_err-report_all-in-Some-session-clause-shown : goal.returns-in_err-report_all-in-Some-session-clause-shown
returns-in_err-report_all-in-Some-session-clause-shown g c = λ t.
    inr (said_unreported _ c.hand_to_starter.new.fault c.hand_to_starter.new.host.term.now.error g.C.Caller.tells (context_view c.args.cx.now) c.args.stable (string_bytes c.args.host.now.env.now.rustup) (looks_of c.args.host.now.term.now) (looks_of c.report_all.new.term) c.in-Some-session.session
    (scene_on g.C.Caller g.O.Sink g.E.Sink c.args.host.now) (scene_on g.C.Caller g.O.Sink g.E.Sink c.hand_to_starter.new.host) (scene_at (g.C.Caller.calls c.hand_to_starter.new.host.caller.now) g.O.Sink g.E.Sink c.hand_to_starter.new.host.out.now c.report_all.new.err)
    (subst (λ (o : Option Course). HandsSteps g.C.Caller.tells (context_view c.args.cx.now) c.args.stable (string_bytes c.args.host.now.env.now.rustup) c.hand_to_starter.new.fault c.hand_to_starter.new.host.term.now.error (looks_of c.args.host.now.term.now) o
    (scene_on g.C.Caller g.O.Sink g.E.Sink c.args.host.now) (scene_on g.C.Caller g.O.Sink g.E.Sink c.hand_to_starter.new.host)) c.in-Some-session.is (c.in-Ok.ensures.shown t))
    c.in-None.is (search rules) refl refl (cut_of c.in-Some-session.session c.hand_to_starter.new.host.term.now c.args.host.now.term.now _ _ c.hand_to_starter.ensures.looks c.in_err-report_all-in-Some-session.ensures.cut)
    (looks_later c.args.host.now.term.now c.hand_to_starter.new.host.term.now c.report_all.new.term c.hand_to_starter.ensures.looks (ap looks_of c.report_all.ensures.term)))

pub returns-in_ok-report_all-in-Some-session-clause-shown : goal.returns-in_ok-report_all-in-Some-session-clause-shown
returns-in_ok-report_all-in-Some-session-clause-shown g c = λ t.
    inr (said_reported c.hand_to_starter.new.fault c.hand_to_starter.new.host.term.now.error g.C.Caller.tells (context_view c.args.cx.now) c.args.stable (string_bytes c.args.host.now.env.now.rustup) (looks_of c.args.host.now.term.now) (looks_of c.report_all.new.term) c.in-Some-session.session
    (scene_on g.C.Caller g.O.Sink g.E.Sink c.args.host.now) (scene_on g.C.Caller g.O.Sink g.E.Sink c.hand_to_starter.new.host) (scene_at (g.C.Caller.calls c.hand_to_starter.new.host.caller.now) g.O.Sink g.E.Sink c.hand_to_starter.new.host.out.now c.report_all.new.err)
    (subst (λ (o : Option Course). HandsSteps g.C.Caller.tells (context_view c.args.cx.now) c.args.stable (string_bytes c.args.host.now.env.now.rustup) c.hand_to_starter.new.fault c.hand_to_starter.new.host.term.now.error (looks_of c.args.host.now.term.now) o
    (scene_on g.C.Caller g.O.Sink g.E.Sink c.args.host.now) (scene_on g.C.Caller g.O.Sink g.E.Sink c.hand_to_starter.new.host)) c.in-Some-session.is (c.in-Ok.ensures.shown t))
    c.in-None.is refl refl (report_of (context_view c.args.cx.now) c.in-Some-session.session c.hand_to_starter.new.host.term.now c.args.host.now.term.now _ _ c.hand_to_starter.ensures.looks c.in_ok-report_all-in-Some-session.ensures.shown)
    c.in_ok-report_all-in-Some-session.ensures.error
    (looks_later c.args.host.now.term.now c.hand_to_starter.new.host.term.now c.report_all.new.term c.hand_to_starter.ensures.looks (ap looks_of c.report_all.ensures.term)))

pub returns-in-None-session-clause-shown : goal.returns-in-None-session-clause-shown
returns-in-None-session-clause-shown g c = λ t.
    inr (said_found c.hand_to_starter.new.fault g.C.Caller.tells (context_view c.args.cx.now) c.args.stable (string_bytes c.args.host.now.env.now.rustup) (looks_of c.args.host.now.term.now) (looks_of c.hand_to_starter.new.host.term.now) c.in-Ok.session
    (scene_on g.C.Caller g.O.Sink g.E.Sink c.args.host.now) (scene_on g.C.Caller g.O.Sink g.E.Sink c.hand_to_starter.new.host) (c.in-Ok.ensures.shown t) c.in-None.is c.in-None-session.is c.hand_to_starter.ensures.looks)
