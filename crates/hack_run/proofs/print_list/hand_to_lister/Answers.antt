use Rattle.std.proofs.Common.{◌≡◌, ◌∙◌, ap, false, filter, refl, subst, sym, true}
use Rattle.std.specs.List.{flat_map}
use Rattle.std.specs.Io.KnownBytes.{Appends, Keeps, append_known}
use Rattle.std.proofs.KnownBytes.{Keeps-refl}
use Rattle.hack_load.specs.ContextView.{context_view}
use Rattle.hack_run.specs.Worlds.{HostView}
use Rattle.hack_run.proofs.RunLemmas.{handed_in_course, handed_makes, lists_one}
use Rattle.hack_session.specs.ListLines.{is_sent, lines_written}
use Rattle.hack_run.proofs.StartedLemmas.{all_started}
use Rattle.hack_session.proofs.StepLemmas.{has_performed, passed_or_told}
use Rattle.hack_run.proofs.ToldLemmas.{warned_run}
use Rattle.hack_base.specs.Streams.{stream_of}
use Rattle.hack_term.specs.declared.term.Term.{Term}
use Rattle.hack_words.specs.declared.cli.args.Args.{Args}
use Rattle.hack_run.specs.Shown.{looks_of, scene_at, scene_on}
use Rattle.hack_run.proofs.ShownLemmas.{not_off, steps_listed}
use Rattle.hack_run.proofs.ShownLists.{handed_said, list_looks, looks_ran, looks_told, no_plan, on_error, refused_said}
use Rattle.hack_run.proofs.print_list.hand_to_lister.Goals as goal

pub returns-clause-done : goal.returns-clause-done
returns-clause-done g c = λ ok none short quiet t.
    let cx = context_view c.args.cx.now in
    let calls = g.C.Caller.calls in
    let contents = g.O.Sink.contents in
    let list = c.list_over-refused.ensures.done ok c.gather_on-lines.ensures.failed.0 short in
    let l = list.over in
    let last = c.list_over-refused.new.runner in
    let lines = c.list_over-refused.new.out in
    let stays = c.list_over-refused.ensures.stays in
    let made = c.set_manner.ensures in
    let before : HostView = record {
      calls = calls c.args.host.now.caller.now;
      out = append_known (contents c.gather_on-lines.result.out.now) c.gather_on-lines.result.gathered.now.items;
      term = c.args.host.now.term.now;
      fails = c.args.host.now.fails;
    } in
    let after : HostView = record { calls = calls last.caller.now; out = append_known (contents lines.out.now) lines.gathered.now.items; term = last.term.now; fails = c.args.host.now.fails } in
    let fault_is = c.fault-2-1.given.1 (sym c.new-starter.ensures.fault.0 ∙ ap (λ s. s.fault.ghost_name) (sym made) ∙ l.told.2 ∙ l.ran.2) in
    let gathered_is = c.gathered-1.given.1 (sym c.gather_on-lines.ensures.gathered.0 ∙ stays.1) in
    rw (gathered_is, sym c.gather_on-lines.ensures.out.1, sym c.gather_on-lines.ensures.gathered.1, sym (ap (λ s. s.caller.now) c.set_manner.ensures ∙ c.new-starter.ensures.caller.1), sym c.as_str-rustup.ensures.value)
    (lists_one before.out after.out _ _ cx c.args.stable _ _ last list (λ s. calls s.caller.now) l.mid.refused last.refused c.args.host.now.term.now last.term.now c.args.host.now.fails last.fault.now
    (ap calls l.told.3) (has_performed g.C.Caller.tells _ _ l.course.plan (filter is_sent l.course.handed) _ _ l.ran.9 t) (λ all. (all_started g.C.Caller.tells t _ _ l.course.plan (filter is_sent l.course.handed) _ _ all l.ran.9).0)
    (passed_or_told g.C.Caller.tells _ _ l.course.plan (filter is_sent l.course.handed) _ _ l.ran.9) (warned_run c.args.host.now.term.now c.set_manner.new.self.term.now l.mid.term.now last.term.now l.notes (ap (λ s. s.term.now) made ∙ c.new-starter.ensures.term.1) l.told.6 (ap (λ s. s.warn) l.ran.7)) (sym fault_is ∙ none) quiet)

pub returns-clause-made : goal.returns-clause-made
returns-clause-made g c = λ t.
    let calls = g.C.Caller.calls in
    let contents = g.O.Sink.contents in
    let lines = c.list_over-refused.new.out in
    let stays = c.list_over-refused.ensures.stays in
    let had = append_known (contents c.gather_on-lines.result.out.now) c.gather_on-lines.result.gathered.now.items in
    let has = append_known (contents lines.out.now) lines.gathered.now.items in
    let last = c.list_over-refused.new.runner in
    let gathered_is = c.gathered-1.given.1 (sym c.gather_on-lines.ensures.gathered.0 ∙ stays.1) in
    rw (gathered_is, sym c.gather_on-lines.ensures.out.1, sym c.gather_on-lines.ensures.gathered.1, sym (ap (λ s. s.caller.now) c.set_manner.ensures ∙ c.new-starter.ensures.caller.1), sym c.as_str-rustup.ensures.value)
    (handed_makes (Unit {0}) had has _ _ (context_view c.args.cx.now) c.args.stable c.as_str-rustup.result.now _ last c.list_over-refused.ensures.made tt (λ s. calls s.caller.now) (λ s. s.refused) c.args.host.now.term.now last.term.now c.args.host.now.fails
    (λ notes x y told. ap calls told.3) (λ plan steps x y ran. has_performed g.C.Caller.tells _ _ plan steps _ _ ran.9 t))

pub returns-clause-course : goal.returns-clause-course
returns-clause-course g c =
    rw (sym (ap (λ s. s.caller.now) c.set_manner.ensures ∙ c.new-starter.ensures.caller.1))
    (handed_in_course _ _ _ _ _ _ _ _ _ c.list_over-refused.new.runner c.list_over-refused.ensures.made (λ s. s.caller.now) g.C.Caller.course g.C.Caller.course_none (λ notes x y told. told.3) (λ plan steps x y ran. ran.8))

pub returns-clause-grown : goal.returns-clause-grown
returns-clause-grown g c =
    let stays = c.list_over-refused.ensures.stays in
    rw (sym c.gather_on-lines.ensures.out.1) stays.2

pub returns-clause-missed : goal.returns-clause-missed
returns-clause-missed g c =
    let fresh = c.gather_on-lines.ensures in
    rw (fresh.out.1, fresh.failed.0, fresh.failed.1) at c.list_over-refused.ensures.stays.3

pub returns-clause-shown : goal.returns-clause-shown
returns-clause-shown g c =
    let cx = context_view c.args.cx.now in
    let calls = g.C.Caller.calls in
    let last = c.list_over-refused.new.runner in
    let made = c.set_manner.ensures in
    let fresh = c.new-starter.ensures in
    let contents = g.O.Sink.contents in
    let lines = c.list_over-refused.new.out in
    let begun = c.gather_on-lines.ensures in
    let gathered_is = c.gathered-1.given.1 (sym begun.gathered.0 ∙ c.list_over-refused.ensures.stays.1) in
    let had = append_known (contents c.args.host.now.out.now) c.args.gathered.now.items in
    let has = append_known (contents lines.out.now) c.gathered-1.given.0.items in
    rw (sym c.as_str-rustup.ensures.value)
    (handed_said c.list_over-refused.result c.list_over-refused.ensures.over (λ l.
    steps_listed _ g.C.Caller.tells calls g.E.Sink cx c.args.stable c.as_str-rustup.result.now c.fault-2-1.given.0 last.term.now.error had has l.0.course l.0.notes false false c.set_manner.new.self l.0.mid _ _ c.args.host.now.term.now
    (scene_on g.C.Caller g.O.Sink g.E.Sink c.args.host.now) (scene_at (calls last.caller.now) g.O.Sink g.E.Sink c.list_over-refused.new.out.out.now last.err.now)
    (l.0.planned, (l.0.driven, refl)) (ap (λ s. calls s.caller.now) made ∙ ap calls fresh.caller.1) (ap (λ s. s.term.now) made ∙ fresh.term.1)
    (ap (λ s. stream_of g.E.Sink s.err.now) made ∙ ap (stream_of g.E.Sink) fresh.err.1) (ap (λ s. s.fault.now) made ∙ fresh.fault.1) (ap (λ s. s.refused) made ∙ fresh.refused)
    (ap (λ s. s.keep_going) made ∙ ap (λ (a : Args). a.keep_going) c.args-2.ensures) (ap (λ s. s.log_group) made) l.0.told refl (λ off. not_off off) l.0.ran.9 refl (λ off. not_off off) refl
    (c.fault-2-1.given.1 (sym fresh.fault.0 ∙ ap (λ s. s.fault.ghost_name) (sym made) ∙ l.0.told.2 ∙ l.0.ran.2)) refl
    (subst (λ o. Appends (append_known (contents o) c.args.gathered.now.items) has (flat_map (lines_written l.0.course.plan) l.0.course.handed)) begun.out.1
    (subst (λ v. Appends (append_known (contents c.gather_on-lines.result.out.now) v.items) has (flat_map (lines_written l.0.course.plan) l.0.course.handed)) begun.gathered.1
    (subst (λ v. Appends (append_known (contents c.gather_on-lines.result.out.now) c.gather_on-lines.result.gathered.now.items) (append_known (contents lines.out.now) v.items) (flat_map (lines_written l.0.course.plan) l.0.course.handed)) (sym gathered_is) (l.0.wrote tt)))) (λ q. l.1 q.0 c.gather_on-lines.ensures.failed.0 q.1)))

pub returns-clause-idle : goal.returns-clause-idle
returns-clause-idle g c =
    let gathered_is = c.gathered-1.given.1 (sym c.gather_on-lines.ensures.gathered.0 ∙ c.list_over-refused.ensures.stays.1) in
    on_error c.list_over-refused.result c.list_over-refused.ensures.idle (λ same. ap (λ v. v.items) (gathered_is ∙ ap (λ l. l.gathered.now) same ∙ c.gather_on-lines.ensures.gathered.1))

pub returns-clause-unplanned : goal.returns-clause-unplanned
returns-clause-unplanned g c =
    let calls = g.C.Caller.calls in
    let contents = g.O.Sink.contents in
    let cx = context_view c.args.cx.now in
    let last = c.list_over-refused.new.runner in
    let made = c.set_manner.ensures in
    let fresh = c.new-starter.ensures in
    rw (sym c.as_str-rustup.ensures.value)
    (refused_said c.list_over-refused.result c.list_over-refused.ensures.idle c.list_over-refused.ensures.refused c.list_over-refused.ensures.err (λ e same refused cause.
    no_plan true calls g.E.Sink cx c.args.stable c.as_str-rustup.result.now e c.args.host.now.term.now c.set_manner.new.self last (scene_on g.C.Caller g.O.Sink g.E.Sink c.args.host.now) (scene_at (calls last.caller.now) g.O.Sink g.E.Sink c.list_over-refused.new.out.out.now last.err.now)
    (ap (λ s. s.term.now) made ∙ fresh.term.1) (ap (λ s. calls s.caller.now) made ∙ ap calls fresh.caller.1) (ap (λ s. stream_of g.E.Sink s.err.now) made ∙ ap (stream_of g.E.Sink) fresh.err.1) refl (λ off. not_off off)
    (subst (λ o. Keeps (contents c.args.host.now.out.now) (contents o)) (sym (ap (λ l. l.out.now) same ∙ c.gather_on-lines.ensures.out.1)) (Keeps-refl (contents c.args.host.now.out.now))) refl refl cause refused))

pub returns-clause-looks : goal.returns-clause-looks
returns-clause-looks g c =
    let made = c.set_manner.ensures in
    let fresh = c.new-starter.ensures in
    let last = c.list_over-refused.new.runner in
    subst (λ (t : Term). looks_of last.term.now ≡ record (looks_of t) { reported = last.term.now.error }) (ap (λ s. s.term.now) made ∙ fresh.term.1)
    (list_looks _ _ _ _ _ _ _ _ c.set_manner.new.self last c.list_over-refused.ensures.made (λ s. s.term.now) (λ notes x y told. looks_told x.term.now y.term.now notes told.6) (λ plan steps x y ran. looks_ran x.term.now y.term.now ran.7))
