use Rattle.std.proofs.Common.{◌≡◌, ap, false, refl, subst, sym, ◌∙◌}
use Rattle.std.specs.Prelude.{Bool, MatchBool, Option}
use Rattle.hack_partition.specs.declared.partition.Partition.{Partition}
use Rattle.hack_term.specs.declared.term.Term.{Term}
use Rattle.hack_words.specs.declared.cli.args.Args.{Args}
use Rattle.hack_load.specs.ContextView.{context_view}
use Rattle.hack_side.specs.Turns.{RunsAll, RunsSerially}
use Rattle.hack_run.specs.Worlds.{host_of}
use Rattle.hack_planner.specs.CallPlan.{IsPlanOf}
use Rattle.hack_run.proofs.RunLemmas.{planned_piece, runs_one, runs_some, unsearched}
use Rattle.hack_run.proofs.StartedLemmas.{all_started}
use Rattle.hack_session.proofs.StepLemmas.{has_performed, passed_or_told}
use Rattle.hack_run.proofs.ToldLemmas.{warned_run}
use Rattle.hack_base.specs.Streams.{stream_of}
use Rattle.hack_session.specs.StepEffects.{state}
use Rattle.hack_session.specs.StepOutput.{streams}
use Rattle.hack_run.specs.Shown.{scene_at}
use Rattle.hack_run.proofs.ShownLemmas.{goes_on_if, looks_after, steps_handed}
use Rattle.hack_run.proofs.execute.drive_in_lanes.Goals as goal

pub returns-clause-done : goal.returns-clause-done
returns-clause-done g c = λ none quiet t fails.
    let cx = context_view c.args.cx.now in
    let calls = g.L.Caller.calls in
    let session = c.in_ok-session.session in
    let headline = c.in_ok-session.ensures.headline in
    let notes = c.in_ok-session.ensures.ran.0 in
    let mid = c.in_ok-session.ensures.ran.1.starter in
    let told = c.in_ok-session.ensures.ran.3.1 in
    let ran = c.in_ok-session.ensures.ran.4.3 in
    let last = c.drive_context.new.runner.starter in
    let made = c.set_manner.ensures in
    let lanes_is = c.lanes-1.given.1 (sym c.new-starter.ensures.caller.0 ∙ ap (λ s. s.caller.ghost_name) (sym made) ∙ told.0 ∙ ran.0) in
    let term_is = c.term-1.given.1 (sym c.new-starter.ensures.term.0 ∙ ap (λ s. s.term.ghost_name) (sym made) ∙ told.1 ∙ ran.1) in
    let fault_is = c.fault-1.given.1 (sym c.new-starter.ensures.fault.0 ∙ ap (λ s. s.fault.ghost_name) (sym made) ∙ told.2 ∙ ran.2) in
    let out_is = c.out-1.given.1 (sym c.new-starter.ensures.out.0 ∙ ap (λ s. s.out.ghost_name) (sym made) ∙ told.7 ∙ ran.3) in
    rw (lanes_is, term_is, out_is)
    (runs_one cx c.args.stable c.args.rustup.now session notes (host_of g.L.Caller g.O.Sink c.args.lanes.now c.args.out.now c.args.term.now fails) (host_of g.L.Caller g.O.Sink last.caller.now last.out.now last.term.now fails) (calls mid.caller.now) mid.refused last.refused last.term.now last.fault.now
    (ap calls (told.3 ∙ ap (λ s. s.caller.now) made ∙ c.new-starter.ensures.caller.1)) c.in_ok-session.ensures.ran.2 c.requires.apart c.requires.piece headline.driven
    (has_performed g.L.Caller.tells _ _ session.plan session.handed _ _ ran.8 t) (λ all. (all_started g.L.Caller.tells t _ _ session.plan session.handed _ _ all ran.8).0) (passed_or_told g.L.Caller.tells _ _ session.plan session.handed _ _ ran.8)
    (warned_run c.args.term.now c.set_manner.new.self.term.now mid.term.now last.term.now notes (ap (λ s. s.term.now) made ∙ c.new-starter.ensures.term.1) told.6 (ap (λ s. s.warn) ran.7)) refl (sym fault_is ∙ none)
    (subst (λ (term : Term). term.error ≡ false) term_is quiet))

pub returns-clause-made : goal.returns-clause-made
returns-clause-made g c = λ t fails.
    let cx = context_view c.args.cx.now in
    let calls = g.L.Caller.calls in
    let session = c.in_ok-session.session in
    let mid = c.in_ok-session.ensures.ran.1.starter in
    let told = c.in_ok-session.ensures.ran.3.1 in
    let ran = c.in_ok-session.ensures.ran.4.3 in
    let last = c.drive_context.new.runner.starter in
    let made = c.set_manner.ensures in
    let lanes_is = c.lanes-1.given.1 (sym c.new-starter.ensures.caller.0 ∙ ap (λ s. s.caller.ghost_name) (sym made) ∙ told.0 ∙ ran.0) in
    let term_is = c.term-1.given.1 (sym c.new-starter.ensures.term.0 ∙ ap (λ s. s.term.ghost_name) (sym made) ∙ told.1 ∙ ran.1) in
    let out_is = c.out-1.given.1 (sym c.new-starter.ensures.out.0 ∙ ap (λ s. s.out.ghost_name) (sym made) ∙ told.7 ∙ ran.3) in
    rw (lanes_is, term_is, out_is)
    (runs_some cx c.args.stable c.args.rustup.now session c.in_ok-session.ensures.ran.0 (host_of g.L.Caller g.O.Sink c.args.lanes.now c.args.out.now c.args.term.now fails) (host_of g.L.Caller g.O.Sink last.caller.now last.out.now last.term.now fails) (calls mid.caller.now) mid.refused last.refused
    (ap calls (told.3 ∙ ap (λ s. s.caller.now) made ∙ c.new-starter.ensures.caller.1)) (planned_piece (IsPlanOf cx.args.subcommand c.args.stable cx c.args.rustup.now) false cx c.args.rustup.now session c.in_ok-session.ensures.ran.0 c.requires.apart c.requires.piece c.in_ok-session.ensures.ran.2 c.in_ok-session.ensures.headline.driven)
    (has_performed g.L.Caller.tells _ _ session.plan session.handed _ _ ran.8 t))

pub returns-clause-lanes : goal.returns-clause-lanes
returns-clause-lanes g c =
    let cx = context_view c.args.cx.now in
    let session = c.in_ok-session.session in
    let mid = c.in_ok-session.ensures.ran.1 in
    let told = c.in_ok-session.ensures.ran.3 in
    let ran = c.in_ok-session.ensures.ran.4 in
    let made = c.set_manner.ensures in
    let last = c.drive_context.new.runner.starter in
    let lanes_is = c.lanes-1.given.1 (sym c.new-starter.ensures.caller.0 ∙ ap (λ s. s.caller.ghost_name) (sym made) ∙ told.1.0 ∙ ran.3.0) in
    rw lanes_is (record {
      course = session;
      notes = c.in_ok-session.ensures.ran.0;
      fails = false;
      warns = false;
      planned = planned_piece (IsPlanOf cx.args.subcommand c.args.stable cx c.args.rustup.now) false cx c.args.rustup.now session c.in_ok-session.ensures.ran.0 c.requires.apart c.requires.piece c.in_ok-session.ensures.ran.2 c.in_ok-session.ensures.headline.driven;
      ran = subst (λ (b : Bool). MatchBool b (RunsSerially g.L.Turns.did session.handed (g.L.Turns.scene c.args.lanes.now) (g.L.Turns.scene last.caller.now)) (RunsAll g.L.Turns.did cx.args.partition session.plan session.handed (g.L.Turns.scene c.args.lanes.now) (g.L.Turns.scene last.caller.now))) (sym (unsearched cx.args c.requires.apart c.requires.piece))
          (subst (λ (p : Option Partition). RunsAll g.L.Turns.did p session.plan session.handed (g.L.Turns.scene c.args.lanes.now) (g.L.Turns.scene last.caller.now)) (told.0 ∙ ap (λ (a : Args). a.partition) c.args-3.ensures)
          (subst (λ s. RunsAll g.L.Turns.did mid.piece session.plan session.handed s (g.L.Turns.scene last.caller.now)) (ap g.L.Turns.scene (told.1.3 ∙ ap (λ s. s.caller.now) made ∙ c.new-starter.ensures.caller.1)) ran.2));
    })

pub returns-clause-shown : goal.returns-clause-shown
returns-clause-shown g c =
    let cx = context_view c.args.cx.now in
    let calls = g.L.Caller.calls in
    let session = c.in_ok-session.session in
    let notes = c.in_ok-session.ensures.ran.0 in
    let mid = c.in_ok-session.ensures.ran.1.starter in
    let told = c.in_ok-session.ensures.ran.3.1 in
    let ran = c.in_ok-session.ensures.ran.4.3 in
    let last = c.drive_context.new.runner.starter in
    let made = c.set_manner.ensures in
    let fresh = c.new-starter.ensures in
    let lanes_is = c.lanes-1.given.1 (sym fresh.caller.0 ∙ ap (λ s. s.caller.ghost_name) (sym made) ∙ told.0 ∙ ran.0) in
    let out_is = c.out-1.given.1 (sym fresh.out.0 ∙ ap (λ s. s.out.ghost_name) (sym made) ∙ told.7 ∙ ran.3) in
    let err_is = c.err-1.given.1 (sym fresh.err.0 ∙ ap (λ s. s.err.ghost_name) (sym made) ∙ told.8 ∙ ran.4) in
    let end = state (calls last.caller.now) (streams g.O.Sink g.E.Sink last.out.now last.err.now) last.fault.now last.term.now.error last.refused in
    let fault_is = c.fault-1.given.1 (sym fresh.fault.0 ∙ ap (λ s. s.fault.ghost_name) (sym made) ∙ told.2 ∙ ran.2) in
    let term_is = c.term-1.given.1 (sym fresh.term.0 ∙ ap (λ s. s.term.ghost_name) (sym made) ∙ told.1 ∙ ran.1) in
    rw (lanes_is, out_is, err_is, fault_is, term_is)
    (steps_handed g.L.Caller.tells calls g.E.Sink cx c.args.stable c.args.rustup.now session notes false false c.set_manner.new.self mid (streams g.O.Sink g.E.Sink mid.out.now mid.err.now) end c.args.term.now
    (scene_at (calls c.args.lanes.now) g.O.Sink g.E.Sink c.args.out.now c.args.err.now) end.scene
    (planned_piece (IsPlanOf cx.args.subcommand c.args.stable cx c.args.rustup.now) false cx c.args.rustup.now session notes c.requires.apart c.requires.piece c.in_ok-session.ensures.ran.2 c.in_ok-session.ensures.headline.driven)
    (ap (λ s. calls s.caller.now) made ∙ ap calls fresh.caller.1) (ap (λ s. s.term.now) made ∙ fresh.term.1)
    (ap (λ s. stream_of g.E.Sink s.err.now) made ∙ ap (stream_of g.E.Sink) fresh.err.1) (ap (λ s. s.fault.now) made ∙ fresh.fault.1 ∙ c.requires.fresh) (ap (λ s. s.refused) made ∙ fresh.refused)
    (ap (λ s. s.keep_going) made ∙ ap (λ m. m.1) c.manner-log_group.ensures ∙ ap (λ (a : Args). a.keep_going) c.args-2.ensures ∙ sym (goes_on_if cx.args (unsearched cx.args c.requires.apart c.requires.piece)))
    (ap (λ s. s.log_group) made ∙ ap (λ m. m.0) c.manner-log_group.ensures ∙ ap (λ (a : Args). a.log_group) c.args-2.ensures)
    told refl (λ off. ap (stream_of g.O.Sink) (told.9 ∙ ap (λ s. s.out.now) made ∙ fresh.out.1)) ran.8 refl (λ off. refl) refl (unsearched cx.args c.requires.apart c.requires.piece))

pub returns-clause-looks : goal.returns-clause-looks
returns-clause-looks g c =
    let told = c.in_ok-session.ensures.ran.3.1 in
    let ran = c.in_ok-session.ensures.ran.4.3 in
    let made = c.set_manner.ensures in
    let fresh = c.new-starter.ensures in
    let term_is = c.term-1.given.1 (sym fresh.term.0 ∙ ap (λ s. s.term.ghost_name) (sym made) ∙ told.1 ∙ ran.1) in
    rw term_is (looks_after c.args.term.now _ _ _ c.in_ok-session.ensures.ran.0 (ap (λ s. s.term.now) made ∙ fresh.term.1) told.6 ran.7)
