use Rattle.std.specs.Prelude.{◌||◌, Bool, Err}
use Rattle.std.specs.Result.{is_err}
use Rattle.std.proofs.Common.{◌≡◌, ◌∙◌, ap, false, rules, IfOk, inl, inr, refl, string_bytes, subst, sym}
use Rattle.hack_load.specs.Answers.{IsLoaded}
use Rattle.hack_load.specs.ContextView.{context_view}
use Rattle.hack_prepare.proofs.HeldLemmas.{loaded-holds}
use Rattle.hack_words.specs.declared.cli.args.Args.{Args}
use Rattle.hack_drive.specs.Answered.{NeedsAnswer}
use Rattle.hack_run.proofs.BackLemmas.{counted_ok}
use Rattle.hack_run.proofs.LaneLemmas.{follows_in_lanes, may_follow_in_lanes, on_any}
use Rattle.hack_run.proofs.LoadingLemmas.{warns_unknown}
use Rattle.hack_run.proofs.TraceLemmas.{follows, goes_on, plan_follows, shows_nothing, unended}
use Rattle.hack_run.proofs.ChangeLemmas.{follows_changes}
use Rattle.hack_run.proofs.LastingLemmas.{edits_left}
use Rattle.hack_load.specs.ContextOf.{warnings_of}
use Rattle.hack_load.specs.CargoQuestions.{told_version}
use Rattle.hack_run.specs.Worlds.{world_of}
use Rattle.hack_run.proofs.ToldLemmas.{warned_first}
use Rattle.hack_base.specs.Streams.{stream_of}
use Rattle.hack_prepare.specs.PreparedView.{notes_in}
use Rattle.hack_run.specs.Shown.{has_edited, looks_of, scene_at, scene_on, unedited, unloaded}
use Rattle.hack_run.proofs.ShownLemmas.{off_on}
use Rattle.hack_run.proofs.ShownCalls.{edits_said, follows_said, looks_followed}
use Rattle.std.proofs.lemmas.Result.{err_from_is_err_and}
use Rattle.hack_run.proofs.stages.follow.Goals as goal

pub returns-clause-done : goal.returns-clause-done
returns-clause-done g c =
    let held = g.F.Files.bytes_at c.args.files.now in
    let env = c.args.host.now.env.now in
    let cx = context_view c.in_ok-cx.cx in
    let first = world_of g.F.Files g.C.Caller g.O.Sink c.args.files.now c.args.host.now in
    let last = world_of g.F.Files g.C.Caller g.O.Sink c.edit.new.files c.run_plan.new.host in
    let version = c.args.answers.cargo_version in
    let warned = is_err version || c.args.host.now.term.now.warn in
    follows g.C.Caller.tells (g.F.Files.tells × IfOk c.args.answers.loaded (IsLoaded g.F.Files.tells held env)) (c.run_plan.new.host.term.now.error ≡ false) c.run_plan.result c.args.args
    c.args.answers (string_bytes env.rustup) c.args.host.now.term.now.warn first last cx
    (λ u. c.in_ok-edit.ensures.prepared u.0 (loaded-holds g.F.Files.tells held env c.args.args c.args.answers cx u.0 u.1 c.in_ok-cx.ensures.ok)) c.in_ok-cx.ensures.ok
    (plan_follows g.C.Caller.tells (c.run_plan.new.host.term.now.error ≡ false) c.run_plan.result cx (string_bytes env.rustup) warned first.host last.host (g.C.Caller.calls c.stable_for.new.caller) c.edit.new.term c.in_ok-stable.stable
    (warned_first c.args.host.now.term.now c.context.new.term c.edit.new.term (warnings_of (told_version version)) cx c.in_ok-cx.ensures.told c.in_ok-edit.ensures.told
    ∙ ap (λ (b : Bool). b || c.args.host.now.term.now.warn) (warns_unknown version))
    (λ off. c.in_ok-stable.ensures.unasked (subst (λ (a : Args). ¬ NeedsAnswer a) (sym c.args-2.ensures) off)) c.in_ok-stable.ensures.asked c.run_plan.ensures.done)

pub returns-clause-traced : goal.returns-clause-traced
returns-clause-traced g c =
    let env = c.args.host.now.env.now in
    let cx = context_view c.in_ok-cx.cx in
    let first = world_of g.F.Files g.C.Caller g.O.Sink c.args.files.now c.args.host.now in
    let last = world_of g.F.Files g.C.Caller g.O.Sink c.edit.new.files c.run_plan.new.host in
    let version = c.args.answers.cargo_version in
    let warned = is_err version || c.args.host.now.term.now.warn in
    follows_changes g.C.Caller.tells g.F.Files.tells g.F.Files.whole (c.run_plan.new.host.term.now.error ≡ false) c.run_plan.result c.args.args c.args.answers (string_bytes env.rustup) c.args.manager.now c.edit.new.manager first last cx
    c.in_ok-cx.ensures.ok c.in_ok-edit.ensures.traced c.in_ok-edit.ensures.kept c.in_ok-edit.ensures.lockfile
    (plan_follows g.C.Caller.tells (c.run_plan.new.host.term.now.error ≡ false) c.run_plan.result cx (string_bytes env.rustup) warned first.host last.host (g.C.Caller.calls c.stable_for.new.caller) c.edit.new.term c.in_ok-stable.stable
    (warned_first c.args.host.now.term.now c.context.new.term c.edit.new.term (warnings_of (told_version version)) cx c.in_ok-cx.ensures.told c.in_ok-edit.ensures.told
    ∙ ap (λ (b : Bool). b || c.args.host.now.term.now.warn) (warns_unknown version))
    (λ off. c.in_ok-stable.ensures.unasked (subst (λ (a : Args). ¬ NeedsAnswer a) (sym c.args-2.ensures) off)) c.in_ok-stable.ensures.asked c.run_plan.ensures.done)

pub returns-in_err-edit-clause-safe : goal.returns-in_err-edit-clause-safe
returns-in_err-edit-clause-safe g c = λ t read.
    c.edit.ensures.safe t (loaded-holds g.F.Files.tells (g.F.Files.bytes_at c.args.files.now) c.args.host.now.env.now c.args.args c.args.answers (context_view c.in_ok-cx.cx) t read c.in_ok-cx.ensures.ok)

pub returns-in_err-stable-clause-safe : goal.returns-in_err-stable-clause-safe
returns-in_err-stable-clause-safe g c = λ t read.
    c.edit.ensures.safe t (loaded-holds g.F.Files.tells (g.F.Files.bytes_at c.args.files.now) c.args.host.now.env.now c.args.args c.args.answers (context_view c.in_ok-cx.cx) t read c.in_ok-cx.ensures.ok)

pub returns-clause-safe : goal.returns-clause-safe
returns-clause-safe g c = λ t read.
    c.edit.ensures.safe t (loaded-holds g.F.Files.tells (g.F.Files.bytes_at c.args.files.now) c.args.host.now.env.now c.args.args c.args.answers (context_view c.in_ok-cx.cx) t read c.in_ok-cx.ensures.ok)

pub returns-clause-counted : goal.returns-clause-counted
returns-clause-counted g c = counted_ok c.run_plan.result c.args.answers.loaded _ (g.F.Files.failed c.args.files.now) (g.F.Files.failed c.edit.new.files) c.in_ok-cx.ensures.ok.1 c.in_ok-edit.ensures.counted

pub returns-in_err-stable-clause-made : goal.returns-in_err-stable-clause-made
returns-in_err-stable-clause-made g c = λ t.
    let cx = context_view c.in_ok-cx.cx in
    inr (
      cx,
      c.in_ok-cx.ensures.ok,
      inl (
        g.C.Caller.calls c.stable_for.new.caller,
        c.stable_for.ensures.made t,
        λ off. ap g.C.Caller.calls (c.stable_for.ensures.unneeded (subst (λ (a : Args). ¬ NeedsAnswer a) (sym c.args-2.ensures) off)),
        refl,
        refl,
        shows_nothing cx.args.print_command_list (g.O.Sink.contents c.args.host.now.out.now),
      ),
      λ e. unended e,
    )

pub returns-clause-made : goal.returns-clause-made
returns-clause-made g c = λ t.
    goes_on g.F.Files.tells c.args.args c.args.answers (string_bytes c.args.host.now.env.now.rustup) c.args.host.now.term.now.warn
    (world_of g.F.Files g.C.Caller g.O.Sink c.args.files.now c.args.host.now) (world_of g.F.Files g.C.Caller g.O.Sink c.edit.new.files c.run_plan.new.host)
    (context_view c.in_ok-cx.cx) c.in_ok-stable.stable (g.C.Caller.calls c.stable_for.new.caller) c.edit.new.term c.in_ok-cx.ensures.ok (c.stable_for.ensures.made t)
    (λ off. ap g.C.Caller.calls (c.stable_for.ensures.unneeded (subst (λ (a : Args). ¬ NeedsAnswer a) (sym c.args-2.ensures) off)))
    (λ off. c.in_ok-stable.ensures.unasked (subst (λ (a : Args). ¬ NeedsAnswer a) (sym c.args-2.ensures) off))
    (c.in_ok-stable.ensures.asked t) (c.run_plan.ensures.made t)

pub returns-in_err-cx-clause-stays : goal.returns-in_err-cx-clause-stays
returns-in_err-cx-clause-stays g c = g.F.Files.stays_none c.args.files.now

pub returns-clause-lanes : goal.returns-clause-lanes
returns-clause-lanes g c =
    follows_in_lanes g.C.Starts.did g.C.Caller.course g.C.Caller.course_more g.C.Caller.tells g.C.Caller.calls c.run_plan.result c.args.args c.args.answers (context_view c.in_ok-cx.cx) c.in_ok-stable.stable (string_bytes c.args.host.now.env.now.rustup) c.args.host.now.caller.now c.stable_for.new.caller c.run_plan.new.host.caller.now
    c.in_ok-stable.ensures.course c.in_ok-stable.ensures.asked c.in_ok-cx.ensures.ok c.run_plan.ensures.listed c.run_plan.ensures.ran

pub returns-clause-in_lanes : goal.returns-clause-in_lanes
returns-clause-in_lanes g c =
    let cx = context_view c.in_ok-cx.cx in
    may_follow_in_lanes g.C.Starts.did g.C.Caller.course g.C.Caller.course_more g.C.Caller.tells g.C.Caller.calls c.args.args c.args.answers cx c.in_ok-stable.stable (string_bytes c.args.host.now.env.now.rustup) c.args.host.now.caller.now c.stable_for.new.caller c.run_plan.new.host.caller.now
    cx.args.print_command_list refl c.in_ok-stable.ensures.course c.stable_for.ensures.made c.in_ok-stable.ensures.asked c.in_ok-cx.ensures.ok c.run_plan.ensures.listed c.run_plan.ensures.lanes

pub returns-in_err-cx-clause-in_lanes : goal.returns-in_err-cx-clause-in_lanes
returns-in_err-cx-clause-in_lanes g c = inr (inl (refl, g.C.Caller.course_none _, λ _. inl refl))

pub returns-in_err-stable-clause-in_lanes : goal.returns-in_err-stable-clause-in_lanes
returns-in_err-stable-clause-in_lanes g c = inr (inl (refl, c.stable_for.ensures.course, λ t. inr (c.stable_for.ensures.made t)))

pub returns-in_err-edit-clause-in_lanes : goal.returns-in_err-edit-clause-in_lanes
returns-in_err-edit-clause-in_lanes g c = inr (inl (refl, g.C.Caller.course_none _, λ _. inl refl))

pub returns-in_err-cx-clause-shown : goal.returns-in_err-cx-clause-shown
returns-in_err-cx-clause-shown g c = λ t.
    let e = c.in_err-cx.ensures.error in
    unloaded e.0 e.2 (search rules) refl (ap looks_of c.in_err-cx.ensures.untold.0) (ap (scene_at (g.C.Caller.calls c.args.host.now.caller.now) g.O.Sink g.E.Sink c.args.host.now.out.now) c.in_err-cx.ensures.untold.1)

pub returns-in_err-edit-clause-shown : goal.returns-in_err-edit-clause-shown
returns-in_err-edit-clause-shown g c = λ t.
    let e = c.in_err-edit.ensures.error in
    let p = err_from_is_err_and c.from_residual-in_err-edit.result c.from_residual-in_err-edit.ensures.1 in
    unedited (context_view c.in_ok-cx.cx) (stream_of g.E.Sink c.context.new.err) c.in_ok-cx.ensures.ok c.in_ok-cx.ensures.shown e.0 e.2 e.3 c.in_err-edit.ensures.begun (p.1 ∙ ap Err (p.2 ∙ e.1))
    (ap looks_of (c.in_err-edit.ensures.untold.0 ∙ c.in_ok-cx.ensures.told)) (ap (scene_at (g.C.Caller.calls c.args.host.now.caller.now) g.O.Sink g.E.Sink c.args.host.now.out.now) c.in_err-edit.ensures.untold.1)

pub returns-in_err-stable-clause-shown : goal.returns-in_err-stable-clause-shown
returns-in_err-stable-clause-shown g c = λ t.
    let p = err_from_is_err_and c.from_residual-in_err-stable.result c.from_residual-in_err-stable.ensures.1 in
    edits_said g.F.Files c.args.files.now c.edit.new.files _ g.C.Caller.tells c.args.args c.args.answers (string_bytes c.args.host.now.env.now.rustup) c.args.host.now.term.now c.context.new.term c.edit.new.term (context_view c.in_ok-cx.cx)
    (stream_of g.E.Sink c.context.new.err) (stream_of g.E.Sink c.edit.new.err) (scene_on g.C.Caller g.O.Sink g.E.Sink c.args.host.now) (scene_at (g.C.Caller.calls c.stable_for.new.caller) g.O.Sink g.E.Sink c.args.host.now.out.now c.edit.new.err) (p.1 ∙ ap Err p.2) c.in_ok-cx.ensures.told c.in_ok-edit.ensures.told c.in_ok-cx.ensures.ok c.in_ok-cx.ensures.shown c.in_ok-edit.ensures.shown
    c.in_ok-edit.ensures.none (c.stable_for.ensures.made t) (λ off. ap g.C.Caller.calls (c.stable_for.ensures.unneeded (subst (λ (a : Args). ¬ NeedsAnswer a) (sym c.in_ok-cx.ensures.ok.2.args ∙ sym c.args-2.ensures) off))) refl

pub returns-clause-shown : goal.returns-clause-shown
returns-clause-shown g c = λ t.
    follows_said g.F.Files c.args.files.now c.edit.new.files c.run_plan.result g.C.Caller.tells c.args.args c.args.answers (string_bytes c.args.host.now.env.now.rustup) c.args.host.now.term.now c.context.new.term c.edit.new.term (looks_of c.run_plan.new.host.term.now) (context_view c.in_ok-cx.cx) c.in_ok-stable.stable
    (g.C.Caller.calls c.stable_for.new.caller) (stream_of g.E.Sink c.context.new.err) (stream_of g.E.Sink c.edit.new.err) (scene_on g.C.Caller g.O.Sink g.E.Sink c.args.host.now) (scene_on g.C.Caller g.O.Sink g.E.Sink c.run_plan.new.host)
    c.in_ok-cx.ensures.told c.in_ok-edit.ensures.told c.in_ok-cx.ensures.ok c.in_ok-cx.ensures.shown c.in_ok-edit.ensures.shown c.in_ok-edit.ensures.none (c.in_ok-stable.ensures.asked t) (c.in_ok-stable.ensures.reason t)
    (λ off. c.in_ok-stable.ensures.unasked (subst (λ (a : Args). ¬ NeedsAnswer a) (sym c.in_ok-cx.ensures.ok.2.args ∙ sym c.args-2.ensures) off)) (c.run_plan.ensures.shown t)

pub returns-clause-looks : goal.returns-clause-looks
returns-clause-looks g c = looks_followed c.args.host.now.term.now c.context.new.term c.edit.new.term c.run_plan.new.host.term.now (warnings_of (told_version c.args.answers.cargo_version)) (notes_in (context_view c.in_ok-cx.cx)) c.in_ok-cx.ensures.told c.in_ok-edit.ensures.told c.run_plan.ensures.looks

pub returns-clause-stood : goal.returns-clause-stood
returns-clause-stood g c =
    on_any c.run_plan.result (
      context_view c.in_ok-cx.cx,
      c.in_ok-cx.ensures.ok,
      λ t read. c.in_ok-edit.ensures.prepared t (loaded-holds g.F.Files.tells (g.F.Files.bytes_at c.args.files.now) c.args.host.now.env.now c.args.args c.args.answers (context_view c.in_ok-cx.cx) t read c.in_ok-cx.ensures.ok),
    )

pub returns-in_err-edit-clause-lasting : goal.returns-in_err-edit-clause-lasting
returns-in_err-edit-clause-lasting g c =
    let held = g.F.Files.bytes_at c.args.files.now in
    let at = c.edit.new.files in
    let cx = context_view c.in_ok-cx.cx in
    inr (
      cx,
      c.in_ok-cx.ensures.ok,
      λ read. edits_left (g.F.Files.refuses c.args.files.now at) g.F.Files.tells cx held (g.F.Files.bytes_at at) (g.F.Files.failed c.args.files.now) (g.F.Files.failed at)
          (λ t. c.edit.ensures.edited t (loaded-holds g.F.Files.tells held c.args.host.now.env.now c.args.args c.args.answers cx t read c.in_ok-cx.ensures.ok)) c.edit.ensures.others,
    )

pub returns-in_err-stable-clause-lasting : goal.returns-in_err-stable-clause-lasting
returns-in_err-stable-clause-lasting g c =
    let held = g.F.Files.bytes_at c.args.files.now in
    let at = c.edit.new.files in
    let cx = context_view c.in_ok-cx.cx in
    inr (
      cx,
      c.in_ok-cx.ensures.ok,
      λ read. edits_left (g.F.Files.refuses c.args.files.now at) g.F.Files.tells cx held (g.F.Files.bytes_at at) (g.F.Files.failed c.args.files.now) (g.F.Files.failed at)
          (λ t. c.edit.ensures.edited t (loaded-holds g.F.Files.tells held c.args.host.now.env.now c.args.args c.args.answers cx t read c.in_ok-cx.ensures.ok)) c.edit.ensures.others,
    )

pub returns-clause-lasting : goal.returns-clause-lasting
returns-clause-lasting g c =
    let held = g.F.Files.bytes_at c.args.files.now in
    let at = c.edit.new.files in
    let cx = context_view c.in_ok-cx.cx in
    inr (
      cx,
      c.in_ok-cx.ensures.ok,
      λ read. edits_left (g.F.Files.refuses c.args.files.now at) g.F.Files.tells cx held (g.F.Files.bytes_at at) (g.F.Files.failed c.args.files.now) (g.F.Files.failed at)
          (λ t. c.edit.ensures.edited t (loaded-holds g.F.Files.tells held c.args.host.now.env.now c.args.args c.args.answers cx t read c.in_ok-cx.ensures.ok)) c.edit.ensures.others,
    )

pub returns-in_err-cx-clause-lasting : goal.returns-in_err-cx-clause-lasting
returns-in_err-cx-clause-lasting g c = inl refl

pub returns-in_err-cx-clause-edits : goal.returns-in_err-cx-clause-edits
returns-in_err-cx-clause-edits g c = λ edited.
    let e = c.in_err-cx.ensures.error in
    let p = err_from_is_err_and c.from_residual.result c.from_residual.ensures.1 in
    off_on (sym (ap has_edited (p.1 ∙ ap Err (p.2 ∙ e.1))) ∙ edited)

pub returns-in_err-edit-clause-edits : goal.returns-in_err-edit-clause-edits
returns-in_err-edit-clause-edits g c = λ edited.
    let e = c.in_err-edit.ensures.error in
    let p = err_from_is_err_and c.from_residual-in_err-edit.result c.from_residual-in_err-edit.ensures.1 in
    off_on (sym (ap has_edited (p.1 ∙ ap Err (p.2 ∙ e.1))) ∙ edited)

pub returns-in_err-stable-clause-edits : goal.returns-in_err-stable-clause-edits
returns-in_err-stable-clause-edits g c = λ edited. record {
  cx = context_view c.in_ok-cx.cx;
  context = c.in_ok-cx.ensures.ok;
  prepared = λ t read. c.in_ok-edit.ensures.prepared t (loaded-holds g.F.Files.tells (g.F.Files.bytes_at c.args.files.now) c.args.host.now.env.now c.args.args c.args.answers (context_view c.in_ok-cx.cx) t read c.in_ok-cx.ensures.ok);
  edited = c.in_ok-edit.ensures.traced;
  only = c.in_ok-edit.ensures.kept;
  lockfile = c.in_ok-edit.ensures.lockfile;
}

pub returns-clause-edits : goal.returns-clause-edits
returns-clause-edits g c = λ edited. record {
  cx = context_view c.in_ok-cx.cx;
  context = c.in_ok-cx.ensures.ok;
  prepared = λ t read. c.in_ok-edit.ensures.prepared t (loaded-holds g.F.Files.tells (g.F.Files.bytes_at c.args.files.now) c.args.host.now.env.now c.args.args c.args.answers (context_view c.in_ok-cx.cx) t read c.in_ok-cx.ensures.ok);
  edited = c.in_ok-edit.ensures.traced;
  only = c.in_ok-edit.ensures.kept;
  lockfile = c.in_ok-edit.ensures.lockfile;
}
