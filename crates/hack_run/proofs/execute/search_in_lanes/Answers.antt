use Rattle.std.proofs.Math.Bool.{or_comm}
use Rattle.std.proofs.Common.{◌≡◌, [], ap, false, inl, inr, refl, subst, sym, ◌∙◌}
use Rattle.std.specs.Prelude.{Bool, Contains, List, MatchBool, None, nat_lt}
use Rattle.std.specs.List.{list_any}
use Rattle.hack_session.specs.Histories.{Course}
use Rattle.hack_term.specs.declared.term.Term.{Term}
use Rattle.hack_load.specs.ContextView.{context_view}
use Rattle.hack_msrv.specs.Searches.{handed_in_all}
use Rattle.hack_msrv.specs.declared.found.Found.{Found}
use Rattle.hack_msrv.specs.declared.found.Found.TheVariants.{Broken}
use Rattle.hack_side.specs.Turns.{RunsAll, RunsSerially}
use Rattle.hack_report.specs.Findings.{is_failing, some_too_low}
use Rattle.hack_run.specs.Internal.{ReportsFound}
use Rattle.hack_drive.specs.Warnings.{have_warning}
use Rattle.hack_run.specs.Worlds.{host_of}
use Rattle.hack_run.proofs.FindingLemmas.{not_broken, warned_later}
use Rattle.hack_planner.specs.CallPlan.{IsPlanOf}
use Rattle.hack_run.proofs.RunLemmas.{all_passed, planned_search, runs_some, searched as searched_by, searches_one, unrefused}
use Rattle.hack_run.proofs.TraceLemmas.{unended}
use Rattle.hack_run.proofs.StartedLemmas.{searches_by, trial_stopping}
use Rattle.hack_session.proofs.StepLemmas.{has_performed, passed_or_told}
use Rattle.hack_run.proofs.ToldLemmas.{warned_run}
use Rattle.hack_base.specs.Streams.{stream_of}
use Rattle.hack_session.specs.StepEffects.{state}
use Rattle.hack_session.specs.StepOutput.{manner_of, streams}
use Rattle.hack_words.specs.declared.cli.args.Args.{Args}
use Rattle.hack_run.specs.Shown.{is_at_end, looks_of, scene_at}
use Rattle.hack_side.specs.Ends.{has_ended}
use Rattle.hack_run.proofs.BrokenLemmas.{broken_last}
use Rattle.hack_run.proofs.EndedLemmas.{searched_stops, starter_does}
use Rattle.hack_run.proofs.ConclusionLemmas.{concluded_search, search_said}
use Rattle.hack_run.proofs.ShownLemmas.{goes_on_unless, looks_after, looks_later, steps_searched}
use Rattle.hack_run.specs.Conclusions.{SaysSearch, version_conclusion}
use Rattle.hack_run.specs.Handed.{IsSearchedOut}
use Rattle.hack_run.proofs.execute.search_in_lanes.Goals as goal

pub returns-clause-done : goal.returns-clause-done
returns-clause-done g c = λ none quiet t.
    let cx = context_view c.args.cx.now in
    let plan = c.in_ok-plan.plan in
    let searched = c.in_ok-plan.ensures.ran.4 in
    let handed = handed_in_all searched.searches in
    let course : Course = record { plan = plan; schedule = []; handed = handed; keep_going = false } in
    let notes = c.in_ok-plan.ensures.ran.0 in
    let mid = c.in_ok-plan.ensures.ran.1.starter in
    let told = c.in_ok-plan.ensures.ran.3 in
    let last = c.search_context.new.runner.starter in
    let made = c.set_manner.ensures in
    let ran = searched.whole.2 in
    let calls = g.L.Caller.calls in
    let lanes_is = c.lanes-2-1.given.1 (sym c.new-starter.ensures.caller.0 ∙ ap (λ s. s.caller.ghost_name) (sym made) ∙ told.0 ∙ ran.0) in
    let out_is = c.out-2-1.given.1 (sym c.new-starter.ensures.out.0 ∙ ap (λ s. s.out.ghost_name) (sym made) ∙ told.7 ∙ ran.3) in
    let term_is = c.term-2-1.given.1 (sym c.new-starter.ensures.term.0 ∙ ap (λ s. s.term.ghost_name) (sym made) ∙ told.1 ∙ ran.1) in
    let fault_is = c.fault-2-1.given.1 (sym c.new-starter.ensures.fault.0 ∙ ap (λ s. s.fault.ghost_name) (sym made) ∙ told.2 ∙ ran.2) in
    let now = c.settle.new.term in
    let settled = c.settle.ensures.ends none quiet in
    let silent = subst (λ (term : Term). term.error ≡ false) term_is (c.settle.ensures.error quiet) in
    let warned = warned_run c.args.term.now c.set_manner.new.self.term.now mid.term.now last.term.now notes (ap (λ s. s.term.now) made ∙ c.new-starter.ensures.term.1) told.6 (ap (λ s. s.warn) ran.7) in
    let report : ReportsFound cx plan c.in_ok-plan.found.items c.args.fails.now c.settle.new.fails last.term.now.warn now.warn = elim settled.1 [
      | inl broken ↦ absurd (not_broken plan searched.searches c.in_ok-plan.found.items searched.say (subst (λ (l : List Found). Contains l Broken) c.deref.ensures.value broken.1)
          (all_passed handed last.term.now last.fault.now (passed_or_told g.L.Caller.tells _ _ plan handed _ _ ran.8) (sym fault_is ∙ broken.0) silent))
      | inr one ↦ subst (λ (l : List Found). ReportsFound cx plan l c.args.fails.now c.settle.new.fails last.term.now.warn now.warn) c.deref.ensures.value
          (subst (λ (term : Term). ReportsFound cx plan c.deref.result.now c.args.fails.now c.settle.new.fails term.warn now.warn) term_is one)
    ] in
    let fails = list_any is_failing c.in_ok-plan.found.items in
    let warns = some_too_low cx plan 0 c.in_ok-plan.found.items in
    let zero = told.4 ∙ ap (λ s. s.refused) made ∙ c.new-starter.ensures.refused in
    let stops : c.in_ok-plan.ensures.ran.1.starter.keep_going ≡ false = told.10 ∙ ap (λ s. s.keep_going) made in
    let started = searches_by (λ s. calls s.starter.caller.now) (λ s. (s.starter.refused ≡ 0) × (s.starter.keep_going ≡ false)) searched
    (λ plan steps handed came a b fine did is whole.
    let one = trial_stopping g.L.Caller.tells t _ _ plan handed _ _ did.2.8 steps came fine.1 fine.0 is whole in
    (one.0, (one.1, sym did.2.5 ∙ fine.1)))
    (zero, stops) report.whole in
    rw (lanes_is, out_is)
    (searches_one cx c.args.stable c.args.rustup.now course notes fails warns (host_of g.L.Caller g.O.Sink c.args.lanes.now c.args.out.now c.args.term.now c.args.fails.now) (host_of g.L.Caller g.O.Sink last.caller.now last.out.now now c.settle.new.fails)
    (calls mid.caller.now) mid.refused last.refused (ap calls (told.3 ∙ ap (λ s. s.caller.now) made ∙ c.new-starter.ensures.caller.1)) c.in_ok-plan.ensures.ran.2 c.requires.apart c.requires.search
    (record { searches = searched.searches; found = c.in_ok-plan.found.items; such = searched.say; steps = refl; end = searched.end; told = λ e. (report.whole, refl, refl) })
    (has_performed g.L.Caller.tells _ _ plan handed _ _ ran.8 t) started.0 (told.4 ∙ ap (λ s. s.refused) made ∙ c.new-starter.ensures.refused) (unrefused last.refused settled.0)
    (report.kept ∙ or_comm c.args.fails.now fails) (warned_later (have_warning notes) c.args.term.now.warn last.term.now.warn warns now.warn warned report.noted))

pub returns-clause-made : goal.returns-clause-made
returns-clause-made g c = λ t.
    let cx = context_view c.args.cx.now in
    let plan = c.in_ok-plan.plan in
    let searched = c.in_ok-plan.ensures.ran.4 in
    let handed = handed_in_all searched.searches in
    let course : Course = record { plan = plan; schedule = []; handed = handed; keep_going = false } in
    let notes = c.in_ok-plan.ensures.ran.0 in
    let mid = c.in_ok-plan.ensures.ran.1.starter in
    let told = c.in_ok-plan.ensures.ran.3 in
    let last = c.search_context.new.runner.starter in
    let made = c.set_manner.ensures in
    let ran = searched.whole.2 in
    let calls = g.L.Caller.calls in
    let lanes_is = c.lanes-2-1.given.1 (sym c.new-starter.ensures.caller.0 ∙ ap (λ s. s.caller.ghost_name) (sym made) ∙ told.0 ∙ ran.0) in
    let out_is = c.out-2-1.given.1 (sym c.new-starter.ensures.out.0 ∙ ap (λ s. s.out.ghost_name) (sym made) ∙ told.7 ∙ ran.3) in
    rw (lanes_is, out_is)
    (runs_some cx c.args.stable c.args.rustup.now course notes (host_of g.L.Caller g.O.Sink c.args.lanes.now c.args.out.now c.args.term.now c.args.fails.now) (host_of g.L.Caller g.O.Sink last.caller.now last.out.now c.settle.new.term c.settle.new.fails)
    (calls mid.caller.now) mid.refused last.refused (ap calls (told.3 ∙ ap (λ s. s.caller.now) made ∙ c.new-starter.ensures.caller.1))
    (planned_search (IsPlanOf cx.args.subcommand c.args.stable cx c.args.rustup.now) false cx c.args.rustup.now course notes false false c.requires.apart c.requires.search c.in_ok-plan.ensures.ran.2 (record { searches = searched.searches; found = c.in_ok-plan.found.items; such = searched.say; steps = refl; end = searched.end; told = λ e. unended e }))
    (has_performed g.L.Caller.tells _ _ plan handed _ _ ran.8 t))

pub returns-clause-lanes : goal.returns-clause-lanes
returns-clause-lanes g c =
    let cx = context_view c.args.cx.now in
    let plan = c.in_ok-plan.plan in
    let searched = c.in_ok-plan.ensures.ran.4 in
    let handed = handed_in_all searched.searches in
    let course : Course = record { plan = plan; schedule = []; handed = handed; keep_going = false } in
    let notes = c.in_ok-plan.ensures.ran.0 in
    let mid = c.in_ok-plan.ensures.ran.1.starter in
    let told = c.in_ok-plan.ensures.ran.3 in
    let last = c.search_context.new.runner.starter in
    let made = c.set_manner.ensures in
    let ran = searched.whole.2 in
    let calls = g.L.Caller.calls in
    let lanes_is = c.lanes-2-1.given.1 (sym c.new-starter.ensures.caller.0 ∙ ap (λ s. s.caller.ghost_name) (sym made) ∙ told.0 ∙ ran.0) in
    let out_is = c.out-2-1.given.1 (sym c.new-starter.ensures.out.0 ∙ ap (λ s. s.out.ghost_name) (sym made) ∙ told.7 ∙ ran.3) in
    rw lanes_is (record {
      course = course;
      notes = notes;
      fails = false;
      warns = false;
      planned = planned_search (IsPlanOf cx.args.subcommand c.args.stable cx c.args.rustup.now) false cx c.args.rustup.now course notes false false c.requires.apart c.requires.search c.in_ok-plan.ensures.ran.2 (record { searches = searched.searches; found = c.in_ok-plan.found.items; such = searched.say; steps = refl; end = searched.end; told = λ e. unended e });
      ran = subst (λ (b : Bool). MatchBool b (RunsSerially g.L.Turns.did handed (g.L.Turns.scene c.args.lanes.now) (g.L.Turns.scene last.caller.now)) (RunsAll g.L.Turns.did cx.args.partition plan handed (g.L.Turns.scene c.args.lanes.now) (g.L.Turns.scene last.caller.now))) (sym (searched_by cx.args c.requires.apart c.requires.search))
          (subst (λ s. RunsSerially g.L.Turns.did handed s (g.L.Turns.scene last.caller.now)) (ap g.L.Turns.scene (told.3 ∙ ap (λ s. s.caller.now) made ∙ c.new-starter.ensures.caller.1)) searched.whole.1);
    })

pub returns-clause-shown : goal.returns-clause-shown
returns-clause-shown g c =
    let cx = context_view c.args.cx.now in
    let plan = c.in_ok-plan.plan in
    let searched = c.in_ok-plan.ensures.ran.4 in
    let handed = handed_in_all searched.searches in
    let course : Course = record { plan = plan; schedule = []; handed = handed; keep_going = false } in
    let notes = c.in_ok-plan.ensures.ran.0 in
    let mid = c.in_ok-plan.ensures.ran.1.starter in
    let told = c.in_ok-plan.ensures.ran.3 in
    let last = c.search_context.new.runner.starter in
    let made = c.set_manner.ensures in
    let fresh = c.new-starter.ensures in
    let ran = searched.whole.2 in
    let calls = g.L.Caller.calls in
    let on = searched_by cx.args c.requires.apart c.requires.search in
    let lanes_is = c.lanes-2-1.given.1 (sym fresh.caller.0 ∙ ap (λ s. s.caller.ghost_name) (sym made) ∙ told.0 ∙ ran.0) in
    let out_is = c.out-2-1.given.1 (sym fresh.out.0 ∙ ap (λ s. s.out.ghost_name) (sym made) ∙ told.7 ∙ ran.3) in
    let err_is = c.err-2-1.given.1 (sym fresh.err.0 ∙ ap (λ s. s.err.ghost_name) (sym made) ∙ told.8 ∙ ran.4) in
    let fault_is = c.fault-2-1.given.1 (sym fresh.fault.0 ∙ ap (λ s. s.fault.ghost_name) (sym made) ∙ told.2 ∙ ran.2) in
    let term_is = c.term-2-1.given.1 (sym fresh.term.0 ∙ ap (λ s. s.term.ghost_name) (sym made) ∙ told.1 ∙ ran.1) in
    let coloring_is = ap (λ l. l.coloring) (looks_after c.args.term.now c.set_manner.new.self.term.now mid.term.now last.term.now notes (ap (λ s. s.term.now) made ∙ fresh.term.1) told.6 ran.7) in
    let end = state (calls last.caller.now) (streams g.O.Sink g.E.Sink last.out.now last.err.now) last.fault.now last.term.now.error last.refused in
    let found : IsSearchedOut false cx plan handed false false = record { searches = searched.searches; found = c.in_ok-plan.found.items; such = searched.say; steps = refl; end = searched.end; told = λ e. unended e } in
    let goes = ap (λ f. has_ended f mid.refused) (told.5 ∙ ap (λ s. s.fault.now) made ∙ fresh.fault.1 ∙ c.requires.fresh) ∙ ap (λ n. has_ended None n) (told.4 ∙ ap (λ s. s.refused) made ∙ fresh.refused) in
    let stopped = searched_stops _ (λ s. state (calls s.starter.caller.now) (streams g.O.Sink g.E.Sink s.starter.out.now s.starter.err.now) s.starter.fault.now s.starter.term.now.error s.starter.refused)
    (λ s. (s.starter.keep_going ≡ mid.keep_going) × (manner_of s.starter.log_group s.starter.term.now ≡ manner_of mid.log_group mid.term.now)) g.L.Caller.tells mid.keep_going (manner_of mid.log_group mid.term.now)
    (λ plan handed a b fine did. starter_does g.L.Caller.tells calls g.O.Sink g.E.Sink mid.keep_going (manner_of mid.log_group mid.term.now) plan handed a.starter b.starter fine did.2) cx plan c.in_ok-plan.found.items _ _ searched (refl, refl) goes in
    let conclusion = version_conclusion cx plan c.in_ok-plan.found.items in
    let shown = subst (λ (l : List Found). SaysSearch (nat_lt 0 last.refused) (version_conclusion cx plan l) c.term-2-1.given.0.coloring c.fault-2-1.given.0 c.term-2-1.given.0.error c.settle.new.fault c.settle.new.term.error (stream_of g.E.Sink c.err-2-1.given.0) (stream_of g.E.Sink c.settle.new.err)) c.deref.ensures.value c.settle.ensures.shown in
    let said = search_said g.E.Sink conclusion (nat_lt 0 last.refused) c.settle.new.fault c.settle.new.term.error c.args.term.now.coloring c.term-2-1.given.0 last.term.now c.fault-2-1.given.0 last.fault.now c.err-2-1.given.0 last.err.now (stream_of g.E.Sink c.settle.new.err) term_is coloring_is fault_is err_is shown in
    rw (lanes_is, out_is)
    (steps_searched g.L.Caller.tells calls g.E.Sink cx c.args.stable c.args.rustup.now c.settle.new.fault c.settle.new.term.error course notes false false c.set_manner.new.self mid (streams g.O.Sink g.E.Sink mid.out.now mid.err.now) end c.args.term.now
    (scene_at (calls c.args.lanes.now) g.O.Sink g.E.Sink c.args.out.now c.args.err.now) end.scene (scene_at (calls last.caller.now) g.O.Sink g.E.Sink last.out.now c.settle.new.err) conclusion
    (planned_search (IsPlanOf cx.args.subcommand c.args.stable cx c.args.rustup.now) false cx c.args.rustup.now course notes false false c.requires.apart c.requires.search c.in_ok-plan.ensures.ran.2 found)
    (ap (λ s. calls s.caller.now) made ∙ ap calls fresh.caller.1) (ap (λ s. s.term.now) made ∙ fresh.term.1)
    (ap (λ s. stream_of g.E.Sink s.err.now) made ∙ ap (stream_of g.E.Sink) fresh.err.1) (ap (λ s. s.fault.now) made ∙ fresh.fault.1 ∙ c.requires.fresh) (ap (λ s. s.refused) made ∙ fresh.refused)
    (ap (λ s. s.keep_going) made ∙ sym (goes_on_unless cx.args on))
    (ap (λ s. s.log_group) made ∙ ap (λ m. m.0) c.manner-log_group.ensures ∙ ap (λ (a : Args). a.log_group) c.args-2.ensures)
    told refl (λ off. ap (stream_of g.O.Sink) (told.9 ∙ ap (λ s. s.out.now) made ∙ fresh.out.1)) stopped.0 refl (λ off. refl) refl on
    (concluded_search cx c.args.rustup.now course notes false false (is_at_end end) c.requires.apart found (λ is. broken_last _ _ cx plan c.in_ok-plan.found.items _ _ searched is) stopped.1) said refl refl)

pub returns-clause-looks : goal.returns-clause-looks
returns-clause-looks g c =
    let told = c.in_ok-plan.ensures.ran.3 in
    let ran = c.in_ok-plan.ensures.ran.4.whole.2 in
    let made = c.set_manner.ensures in
    let fresh = c.new-starter.ensures in
    let term_is = c.term-2-1.given.1 (sym fresh.term.0 ∙ ap (λ s. s.term.ghost_name) (sym made) ∙ told.1 ∙ ran.1) in
    looks_later c.args.term.now c.term-2-1.given.0 c.settle.new.term
    (subst (λ (t : Term). looks_of t ≡ record (looks_of c.args.term.now) { reported = t.error }) (sym term_is)
    (looks_after c.args.term.now c.set_manner.new.self.term.now c.in_ok-plan.ensures.ran.1.starter.term.now c.search_context.new.runner.starter.term.now c.in_ok-plan.ensures.ran.0 (ap (λ s. s.term.now) made ∙ fresh.term.1) told.6 ran.7)) c.settle.ensures.looks
