use Rattle.std.proofs.Common.{ℕ, List, [], None, inr, refl, subst, sym, ◌∙◌, ap, string_bytes, true, false}
use Rattle.hack_run.specs.Lanes.{lanes_for}
use Rattle.hack_words.specs.declared.cli.args.Args.{Args}
use Rattle.hack_process.specs.Calls.{Call}
use Rattle.hack_load.specs.ContextView.{context_view}
use Rattle.hack_base.specs.Names.{Name}
use Rattle.hack_starts.specs.Events.{Layout}
use Rattle.hack_lanes.specs.Lanes.{Goes}
use Rattle.hack_lanes.specs.Views.{scene_in, scene_of}
use Rattle.hack_lanes.specs.declared.window.Window.{Window}
use Rattle.hack_run.specs.CallTrace.{PerformsOne}
use Rattle.hack_run.specs.Internal.{HandsSteps, PerformsAtMostOne}
use Rattle.hack_run.specs.Worlds.{host_view}
use Rattle.hack_run.proofs.LaneLemmas.{cleared_calls, ran_in_lanes}
use Rattle.hack_session.specs.StepOutput.{streams}
use Rattle.hack_run.specs.Shown.{looks_of, scene_on}
use Rattle.hack_run.proofs.execute.hand_to_starter.Goals as goal

pub returns-clause-done : goal.returns-clause-done
returns-clause-done g c = λ none quiet t.
    let calls = g.C.Caller.calls in
    let lanes = c.hand_out.new.lanes in
    let cleared = cleared_calls g.C.Caller.tells calls g.C.Starts.did g.met.C.Starts.did_calls (scene_of c.window-2-1.given.0 lanes.starts.now) (scene_of c.clear.new.self c.clear.new.starts) c.clear.ensures.goes t in
    subst (λ (made : List Call). PerformsOne true false (context_view c.args.cx.now) c.args.stable (string_bytes c.args.host.now.env.now.rustup) c.args.host.now.term.now.warn (host_view g.C.Caller g.O.Sink c.args.host.now)
    (record { calls = made; out = g.O.Sink.contents c.hand_out.new.out; term = c.hand_out.new.term; fails = c.hand_out.new.fails })) (sym cleared)
    (rw c.as_str-rustup.ensures.value at c.in_ok-session.ensures.done none quiet t)

pub returns-clause-made : goal.returns-clause-made
returns-clause-made g c = λ t.
    let calls = g.C.Caller.calls in
    let lanes = c.hand_out.new.lanes in
    let cleared = cleared_calls g.C.Caller.tells calls g.C.Starts.did g.met.C.Starts.did_calls (scene_of c.window-2-1.given.0 lanes.starts.now) (scene_of c.clear.new.self c.clear.new.starts) c.clear.ensures.goes t in
    subst (λ (made : List Call). PerformsAtMostOne false (context_view c.args.cx.now) c.args.stable (string_bytes c.args.host.now.env.now.rustup) (host_view g.C.Caller g.O.Sink c.args.host.now)
    (record { calls = made; out = g.O.Sink.contents c.hand_out.new.out; term = c.hand_out.new.term; fails = c.hand_out.new.fails })) (sym cleared)
    (rw c.as_str-rustup.ensures.value at c.in_ok-session.ensures.made t)

pub returns-clause-ran : goal.returns-clause-ran
returns-clause-ran g c =
    let cx = context_view c.args.cx.now in
    let lanes = c.hand_out.new.lanes in
    let window_is = c.window-2-1.given.1 (sym c.hand_out.ensures.stays.1) in
    ran_in_lanes g.C.Starts.did cx c.args.stable (string_bytes c.args.host.now.env.now.rustup) c.args.host.now.caller.now (scene_of c.new-window.result c.args.host.now.caller.now) (scene_in lanes) (scene_of c.clear.new.self c.clear.new.starts)
    (c.new-window.ensures.turn ∙ ap (λ (l : Layout). record { place = None; offers = []; layout = l })
    (ap (λ (n : ℕ). record { count = n; folder = string_bytes c.in_ok-folder.folder }) (c.width.ensures ∙ ap (λ (a : Args). lanes_for a) c.args-2.ensures) ∙ ap (λ (f : Name). record { count = lanes_for cx.args; folder = f }) c.in_ok-folder.ensures)) c.new-window.ensures.state refl (rw c.as_str-rustup.ensures.value at c.in_ok-session.ensures.lanes)
    (subst (λ (w : Window). Goes g.C.Starts.did [] (scene_of w lanes.starts.now) (scene_of c.clear.new.self c.clear.new.starts)) window_is c.clear.ensures.goes) c.clear.ensures.none

pub returns-clause-lanes : goal.returns-clause-lanes
returns-clause-lanes g c = inr (returns-clause-ran g c)

pub returns-clause-shown : goal.returns-clause-shown
returns-clause-shown g c = λ t.
    let calls = g.C.Caller.calls in
    let lanes = c.hand_out.new.lanes in
    let cleared = cleared_calls g.C.Caller.tells calls g.C.Starts.did g.met.C.Starts.did_calls (scene_of c.window-2-1.given.0 lanes.starts.now) (scene_of c.clear.new.self c.clear.new.starts) c.clear.ensures.goes t in
    subst (λ (made : List Call). HandsSteps g.C.Caller.tells (context_view c.args.cx.now) c.args.stable (string_bytes c.args.host.now.env.now.rustup) c.hand_out.new.fault c.hand_out.new.term.error (looks_of c.args.host.now.term.now) c.in_ok-session.session
    (scene_on g.C.Caller g.O.Sink g.E.Sink c.args.host.now) (record { calls = made; streams = streams g.O.Sink g.E.Sink c.hand_out.new.out c.hand_out.new.err })) (sym cleared)
    (rw c.as_str-rustup.ensures.value at c.in_ok-session.ensures.shown)
