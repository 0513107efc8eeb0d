use Rattle.std.proofs.Math.Bool.{or_comm}
use Rattle.std.proofs.Common.{◌≡◌, Ok, [], ap, false, inl, inr, length, refl, subst, sym, ◌∙◌}
use Rattle.std.specs.Prelude.{Bool, List, MatchBool, None, Result, nat_lt}
use Rattle.std.specs.List.{list_any}
use Rattle.hack_plan.specs.Commands.{slots_in}
use Rattle.hack_culprits.specs.Built.{steps_from}
use Rattle.hack_culprits.specs.declared.fault.CulpritsFault.{CulpritsFault}
use Rattle.hack_hunt.specs.Hunts.{AreHunted, came_of, spots_of}
use Rattle.hack_hunt.specs.declared.hunt.Hunted.{Hunted}
use Rattle.hack_session.specs.Histories.{Course}
use Rattle.hack_term.specs.declared.term.Term.{Term}
use Rattle.hack_load.specs.ContextView.{context_view}
use Rattle.hack_planner.specs.CallPlan.{IsPlanOf}
use Rattle.hack_side.specs.Turns.{RunsAll, RunsSerially}
use Rattle.hack_report.specs.Conflicts.{has_conflict, is_open}
use Rattle.hack_run.specs.Internal.{Reports}
use Rattle.hack_drive.specs.Warnings.{have_warning}
use Rattle.hack_run.specs.Worlds.{host_of}
use Rattle.hack_run.proofs.FindingLemmas.{not_cut, warned_later}
use Rattle.hack_run.proofs.RunLemmas.{all_passed, hunted, hunts_one, planned_hunt, runs_some, unrefused}
use Rattle.hack_run.proofs.TraceLemmas.{unended}
use Rattle.hack_run.proofs.StartedLemmas.{builds_by, trial_stopping, whole_hunts}
use Rattle.hack_session.proofs.StepLemmas.{has_performed, passed_or_told}
use Rattle.hack_run.proofs.ToldLemmas.{warned_run}
use Rattle.hack_base.specs.Streams.{stream_of}
use Rattle.hack_session.specs.StepEffects.{state}
use Rattle.hack_session.specs.StepOutput.{manner_of, streams}
use Rattle.hack_words.specs.declared.cli.args.Args.{Args}
use Rattle.hack_run.specs.Shown.{is_at_end, looks_of, scene_at}
use Rattle.hack_side.specs.Ends.{has_ended}
use Rattle.hack_run.proofs.BrokenLemmas.{hunt_broken}
use Rattle.hack_run.proofs.EndedLemmas.{hunt_stops, starter_does}
use Rattle.hack_run.proofs.ConclusionLemmas.{concluded_hunt, search_said}
use Rattle.hack_run.proofs.ShownLemmas.{goes_on_unless, looks_after, looks_later, steps_searched}
use Rattle.hack_run.specs.Conclusions.{hunt_conclusion}
use Rattle.hack_run.specs.Handed.{IsHuntedOut}
use Rattle.hack_run.proofs.conflict_search.hunt_in_lanes.Goals as goal

pub returns-clause-done : goal.returns-clause-done
returns-clause-done g c = λ none quiet t stable.
    let cx = context_view c.args.cx.now in
    let hunt = c.in_ok-hunt.hunt in
    let course-of = c.in_ok-hunt.ensures.ran in
    let notes = course-of.0 in
    let mid = course-of.1.starter in
    let start = course-of.3 in
    let told = course-of.5 in
    let hunts = course-of.6 in
    let handed = steps_from (length start.entries) hunts.built in
    let course : Course = record { plan = hunt.plan; schedule = []; handed = handed; keep_going = false } in
    let last = c.hunt_context.new.runner.starter in
    let made = c.set_manner.ensures in
    let ran = hunts.whole.2 in
    let calls = g.L.Caller.calls in
    let lanes_is = c.lanes-2-1.given.1 (sym c.new-starter.ensures.caller.0 ∙ ap (λ s. s.caller.ghost_name) (sym made) ∙ told.0 ∙ ran.0) in
    let out_is = c.out-2-1.given.1 (sym c.new-starter.ensures.out.0 ∙ ap (λ s. s.out.ghost_name) (sym made) ∙ told.7 ∙ ran.3) in
    let term_is = c.term-2-1.given.1 (sym c.new-starter.ensures.term.0 ∙ ap (λ s. s.term.ghost_name) (sym made) ∙ told.1 ∙ ran.1) in
    let fault_is = c.fault-2-1.given.1 (sym c.new-starter.ensures.fault.0 ∙ ap (λ s. s.fault.ghost_name) (sym made) ∙ told.2 ∙ ran.2) in
    let now = c.settle.new.term in
    let settled = c.settle.ensures.ends none quiet in
    let silent = subst (λ (term : Term). term.error ≡ false) term_is (c.settle.ensures.error quiet) in
    let warned = warned_run c.args.term.now c.set_manner.new.self.term.now mid.term.now last.term.now notes (ap (λ s. s.term.now) made ∙ c.new-starter.ensures.term.1) told.6 (ap (λ s. s.warn) ran.7) in
    let found : (found : List Hunted) × (came_of hunt.found ≡ Ok found) × Reports found c.args.fails.now c.settle.new.fails last.term.now.warn now.warn = elim settled.1 [
      | inl broken ↦ absurd (not_cut (length start.entries) (came_of hunt.found) hunts.hunts.left hunts.hunts.hunted hunts.built hunt.plan hunts.hunts.end broken.1
          (all_passed handed last.term.now last.fault.now (passed_or_told g.L.Caller.tells _ _ hunt.plan handed _ _ ran.8) (sym fault_is ∙ broken.0) silent))
      | inr one ↦ (one.0, one.1, subst (λ (term : Term). Reports one.0 c.args.fails.now c.settle.new.fails term.warn now.warn) term_is one.2)
    ] in
    let report = found.2 in
    let fails = list_any has_conflict found.0 in
    let warns = list_any is_open found.0 in
    let zero = told.4 ∙ ap (λ s. s.refused) made ∙ c.new-starter.ensures.refused in
    let stops : course-of.1.starter.keep_going ≡ false = told.10 ∙ ap (λ s. s.keep_going) made in
    let whole = whole_hunts cx cx.args.most_runs _ found.0 hunts.built start hunt.plan (subst (λ (came : Result (List Hunted) CulpritsFault). AreHunted cx cx.args.most_runs (spots_of course-of.2 (slots_in start.call None)) came hunts.built start hunt.plan) found.1 hunts.hunts) in
    let started = builds_by (λ s. calls s.starter.caller.now) (λ s. (s.starter.refused ≡ 0) × (s.starter.keep_going ≡ false)) hunts
    (λ plan steps handed came a b fine did is whole.
    let one = trial_stopping g.L.Caller.tells t _ _ plan handed _ _ did.2.8 steps came fine.1 fine.0 is whole in
    (one.0, (one.1, sym did.2.5 ∙ fine.1)))
    (zero, stops) whole in
    rw (lanes_is, out_is)
    (hunts_one cx stable c.args.rustup.now course notes fails warns (host_of g.L.Caller g.O.Sink c.args.lanes.now c.args.out.now c.args.term.now c.args.fails.now) (host_of g.L.Caller g.O.Sink last.caller.now last.out.now now c.settle.new.fails)
    (calls mid.caller.now) mid.refused last.refused (ap calls (told.3 ∙ ap (λ s. s.caller.now) made ∙ c.new-starter.ensures.caller.1)) c.requires.search
    (record { ids = course-of.2; start = start; begun = course-of.4; came = came_of hunt.found; built = hunts.built; hunts = hunts.hunts; steps = refl; told = λ e. (found.0, found.1, refl, refl) })
    (has_performed g.L.Caller.tells _ _ hunt.plan handed _ _ ran.8 t) started.0 (told.4 ∙ ap (λ s. s.refused) made ∙ c.new-starter.ensures.refused) (unrefused last.refused settled.0)
    (report.kept ∙ or_comm c.args.fails.now fails) (warned_later (have_warning notes) c.args.term.now.warn last.term.now.warn warns now.warn warned report.noted))

pub returns-clause-made : goal.returns-clause-made
returns-clause-made g c = λ t stable.
    let cx = context_view c.args.cx.now in
    let hunt = c.in_ok-hunt.hunt in
    let course-of = c.in_ok-hunt.ensures.ran in
    let notes = course-of.0 in
    let mid = course-of.1.starter in
    let start = course-of.3 in
    let told = course-of.5 in
    let hunts = course-of.6 in
    let handed = steps_from (length start.entries) hunts.built in
    let course : Course = record { plan = hunt.plan; schedule = []; handed = handed; keep_going = false } in
    let last = c.hunt_context.new.runner.starter in
    let made = c.set_manner.ensures in
    let ran = hunts.whole.2 in
    let calls = g.L.Caller.calls in
    let lanes_is = c.lanes-2-1.given.1 (sym c.new-starter.ensures.caller.0 ∙ ap (λ s. s.caller.ghost_name) (sym made) ∙ told.0 ∙ ran.0) in
    let out_is = c.out-2-1.given.1 (sym c.new-starter.ensures.out.0 ∙ ap (λ s. s.out.ghost_name) (sym made) ∙ told.7 ∙ ran.3) in
    rw (lanes_is, out_is)
    (runs_some cx stable c.args.rustup.now course notes (host_of g.L.Caller g.O.Sink c.args.lanes.now c.args.out.now c.args.term.now c.args.fails.now) (host_of g.L.Caller g.O.Sink last.caller.now last.out.now c.settle.new.term c.settle.new.fails)
    (calls mid.caller.now) mid.refused last.refused (ap calls (told.3 ∙ ap (λ s. s.caller.now) made ∙ c.new-starter.ensures.caller.1))
    (planned_hunt (IsPlanOf cx.args.subcommand stable cx c.args.rustup.now) false cx c.args.rustup.now course notes false false c.requires.search
    (record { ids = course-of.2; start = start; begun = course-of.4; came = came_of hunt.found; built = hunts.built; hunts = hunts.hunts; steps = refl; told = λ e. unended e }))
    (has_performed g.L.Caller.tells _ _ hunt.plan handed _ _ ran.8 t))

pub returns-clause-lanes : goal.returns-clause-lanes
returns-clause-lanes g c = λ stable.
    let cx = context_view c.args.cx.now in
    let hunt = c.in_ok-hunt.hunt in
    let course-of = c.in_ok-hunt.ensures.ran in
    let notes = course-of.0 in
    let start = course-of.3 in
    let told = course-of.5 in
    let hunts = course-of.6 in
    let handed = steps_from (length start.entries) hunts.built in
    let course : Course = record { plan = hunt.plan; schedule = []; handed = handed; keep_going = false } in
    let last = c.hunt_context.new.runner.starter in
    let made = c.set_manner.ensures in
    let ran = hunts.whole.2 in
    let lanes_is = c.lanes-2-1.given.1 (sym c.new-starter.ensures.caller.0 ∙ ap (λ s. s.caller.ghost_name) (sym made) ∙ told.0 ∙ ran.0) in
    rw lanes_is (record {
      course = course;
      notes = notes;
      fails = false;
      warns = false;
      planned = planned_hunt (IsPlanOf cx.args.subcommand stable cx c.args.rustup.now) false cx c.args.rustup.now course notes false false c.requires.search
          (record { ids = course-of.2; start = start; begun = course-of.4; came = came_of hunt.found; built = hunts.built; hunts = hunts.hunts; steps = refl; told = λ e. unended e });
      ran = subst (λ (b : Bool). MatchBool b (RunsSerially g.L.Turns.did handed (g.L.Turns.scene c.args.lanes.now) (g.L.Turns.scene last.caller.now)) (RunsAll g.L.Turns.did cx.args.partition hunt.plan handed (g.L.Turns.scene c.args.lanes.now) (g.L.Turns.scene last.caller.now))) (sym (hunted cx.args c.requires.search))
          (subst (λ s. RunsSerially g.L.Turns.did handed s (g.L.Turns.scene last.caller.now)) (ap g.L.Turns.scene (told.3 ∙ ap (λ s. s.caller.now) made ∙ c.new-starter.ensures.caller.1)) hunts.whole.1);
    })

pub returns-clause-shown : goal.returns-clause-shown
returns-clause-shown g c = λ stable.
    let cx = context_view c.args.cx.now in
    let hunt = c.in_ok-hunt.hunt in
    let course-of = c.in_ok-hunt.ensures.ran in
    let notes = course-of.0 in
    let mid = course-of.1.starter in
    let start = course-of.3 in
    let told = course-of.5 in
    let hunts = course-of.6 in
    let handed = steps_from (length start.entries) hunts.built in
    let course : Course = record { plan = hunt.plan; schedule = []; handed = handed; keep_going = false } in
    let last = c.hunt_context.new.runner.starter in
    let made = c.set_manner.ensures in
    let fresh = c.new-starter.ensures in
    let ran = hunts.whole.2 in
    let calls = g.L.Caller.calls in
    let on = hunted cx.args c.requires.search in
    let lanes_is = c.lanes-2-1.given.1 (sym fresh.caller.0 ∙ ap (λ s. s.caller.ghost_name) (sym made) ∙ told.0 ∙ ran.0) in
    let out_is = c.out-2-1.given.1 (sym fresh.out.0 ∙ ap (λ s. s.out.ghost_name) (sym made) ∙ told.7 ∙ ran.3) in
    let err_is = c.err-2-1.given.1 (sym fresh.err.0 ∙ ap (λ s. s.err.ghost_name) (sym made) ∙ told.8 ∙ ran.4) in
    let fault_is = c.fault-2-1.given.1 (sym fresh.fault.0 ∙ ap (λ s. s.fault.ghost_name) (sym made) ∙ told.2 ∙ ran.2) in
    let term_is = c.term-2-1.given.1 (sym fresh.term.0 ∙ ap (λ s. s.term.ghost_name) (sym made) ∙ told.1 ∙ ran.1) in
    let coloring_is = ap (λ l. l.coloring) (looks_after c.args.term.now c.set_manner.new.self.term.now mid.term.now last.term.now notes (ap (λ s. s.term.now) made ∙ fresh.term.1) told.6 ran.7) in
    let end = state (calls last.caller.now) (streams g.O.Sink g.E.Sink last.out.now last.err.now) last.fault.now last.term.now.error last.refused in
    let found : IsHuntedOut false cx c.args.rustup.now course notes false false = record { ids = course-of.2; start = start; begun = course-of.4; came = came_of hunt.found; built = hunts.built; hunts = hunts.hunts; steps = refl; told = λ e. unended e } in
    let goes = ap (λ f. has_ended f mid.refused) (told.5 ∙ ap (λ s. s.fault.now) made ∙ fresh.fault.1 ∙ c.requires.fresh) ∙ ap (λ n. has_ended None n) (told.4 ∙ ap (λ s. s.refused) made ∙ fresh.refused) in
    let stopped = hunt_stops _ (λ s. state (calls s.starter.caller.now) (streams g.O.Sink g.E.Sink s.starter.out.now s.starter.err.now) s.starter.fault.now s.starter.term.now.error s.starter.refused)
    (λ s. (s.starter.keep_going ≡ mid.keep_going) × (manner_of s.starter.log_group s.starter.term.now ≡ manner_of mid.log_group mid.term.now)) g.L.Caller.tells mid.keep_going (manner_of mid.log_group mid.term.now)
    (λ plan handed a b fine did. starter_does g.L.Caller.tells calls g.O.Sink g.E.Sink mid.keep_going (manner_of mid.log_group mid.term.now) plan handed a.starter b.starter fine did.2) cx cx.args.most_runs _ (came_of hunt.found) cx.args.verbose start hunt.plan _ _ hunts (refl, refl) goes in
    let conclusion = hunt_conclusion cx.args.verbose hunt.plan (came_of hunt.found) in
    let said = search_said g.E.Sink conclusion (nat_lt 0 last.refused) c.settle.new.fault c.settle.new.term.error c.args.term.now.coloring c.term-2-1.given.0 last.term.now c.fault-2-1.given.0 last.fault.now c.err-2-1.given.0 last.err.now (stream_of g.E.Sink c.settle.new.err) term_is coloring_is fault_is err_is c.settle.ensures.shown in
    rw (lanes_is, out_is)
    (steps_searched g.L.Caller.tells calls g.E.Sink cx stable c.args.rustup.now c.settle.new.fault c.settle.new.term.error course notes false false c.set_manner.new.self mid (streams g.O.Sink g.E.Sink mid.out.now mid.err.now) end c.args.term.now
    (scene_at (calls c.args.lanes.now) g.O.Sink g.E.Sink c.args.out.now c.args.err.now) end.scene (scene_at (calls last.caller.now) g.O.Sink g.E.Sink last.out.now c.settle.new.err) conclusion
    (planned_hunt (IsPlanOf cx.args.subcommand stable cx c.args.rustup.now) false cx c.args.rustup.now course notes false false c.requires.search found)
    (ap (λ s. calls s.caller.now) made ∙ ap calls fresh.caller.1) (ap (λ s. s.term.now) made ∙ fresh.term.1)
    (ap (λ s. stream_of g.E.Sink s.err.now) made ∙ ap (stream_of g.E.Sink) fresh.err.1) (ap (λ s. s.fault.now) made ∙ fresh.fault.1 ∙ c.requires.fresh) (ap (λ s. s.refused) made ∙ fresh.refused)
    (ap (λ s. s.keep_going) made ∙ sym (goes_on_unless cx.args on))
    (ap (λ s. s.log_group) made ∙ ap (λ m. m.0) c.manner-log_group.ensures ∙ ap (λ (a : Args). a.log_group) c.args-2.ensures)
    told refl (λ off. ap (stream_of g.O.Sink) (told.9 ∙ ap (λ s. s.out.now) made ∙ fresh.out.1)) stopped.0 refl (λ off. refl) refl on
    (concluded_hunt cx c.args.rustup.now course notes false false (is_at_end end) c.requires.search found
    (hunt_broken _ _ cx cx.args.most_runs _ (came_of hunt.found) cx.args.verbose start hunt.plan _ c.hunt_context.new.runner hunts) stopped.1) said refl refl)

pub returns-clause-looks : goal.returns-clause-looks
returns-clause-looks g c =
    let told = c.in_ok-hunt.ensures.ran.5 in
    let ran = c.in_ok-hunt.ensures.ran.6.whole.2 in
    let made = c.set_manner.ensures in
    let fresh = c.new-starter.ensures in
    let term_is = c.term-2-1.given.1 (sym fresh.term.0 ∙ ap (λ s. s.term.ghost_name) (sym made) ∙ told.1 ∙ ran.1) in
    looks_later c.args.term.now c.term-2-1.given.0 c.settle.new.term
    (subst (λ (t : Term). looks_of t ≡ record (looks_of c.args.term.now) { reported = t.error }) (sym term_is)
    (looks_after c.args.term.now c.set_manner.new.self.term.now c.in_ok-hunt.ensures.ran.1.starter.term.now c.hunt_context.new.runner.starter.term.now c.in_ok-hunt.ensures.ran.0 (ap (λ s. s.term.now) made ∙ fresh.term.1) told.6 ran.7)) c.settle.ensures.looks
