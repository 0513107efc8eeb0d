use Rattle.std.proofs.Common.{◌∙◌, ap, inl, inr, subst, sym}
use Rattle.std.specs.Prelude.{filter}
use Rattle.std.specs.List.{flat_map}
use Rattle.std.specs.Io.KnownBytes.{Appends, Keeps}
use Rattle.std.proofs.KnownBytes.{Keeps-refl}
use Rattle.hack_session.specs.ListLines.{is_sent, lines_written, page_of}
use Rattle.hack_run.proofs.RunLemmas.{all_listed, none_refused, passed_written}
use Rattle.std.proofs.lemmas.Result.{err_from_is_err_and}
use Rattle.hack_run.proofs.print_list.list_over.Goals as goal

pub returns-clause-done : goal.returns-clause-done
returns-clause-done g c = λ ok before after.
    let session = c.in_ok-_session._session in
    let headline = c.in_ok-_session.ensures.headline in
    let mid = c.in_ok-_session.ensures.ran.1 in
    let told = c.in_ok-_session.ensures.ran.3 in
    let ran = c.in_ok-_session.ensures.ran.4 in
    let last = c.drive_context.new.runner in
    let contents = g.W.Lines.contents in
    let failed = g.W.Lines.failed in
    let out_is = c.out-2-1.given.1 (told.0 ∙ ran.0) in
    let runner_is = c.runner-2-1.given.1 (told.1 ∙ ran.1) in
    let all = all_listed g.W.Lines.whole session.plan session.handed (page_of (contents mid.out.now) (failed mid.out.now) mid.refused) (page_of (contents last.out.now) (failed last.out.now) last.refused)
    (ap failed told.2 ∙ before) told.3 (sym (ap failed out_is) ∙ after) (none_refused last.refused ok) ran.3 in
    record {
      over = record {
        course = session;
        driven = headline.driven;
        notes = c.in_ok-_session.ensures.ran.0;
        planned = c.in_ok-_session.ensures.ran.2;
        mid = mid.runner.now;
        told = told.4;
        ran = subst (λ new. g.R.Runner.ran session.plan (filter is_sent session.handed) mid.runner.now new) (sym runner_is) ran.2;
        wrote = λ w. subst (λ new. Appends (contents c.args.out.now) (contents new) (flat_map (lines_written session.plan) session.handed)) (sym out_is)
            (subst (λ old. Appends (contents old) (contents last.out.now) (flat_map (lines_written session.plan) session.handed)) told.2
            (passed_written g.W.Lines.whole session.plan session.handed (page_of (contents mid.out.now) (failed mid.out.now) mid.refused) (page_of (contents last.out.now) (failed last.out.now) last.refused) w ran.3));
      };
      listed = all;
    }

pub returns-clause-stays : goal.returns-clause-stays
returns-clause-stays g c =
    let told = c.in_ok-_session.ensures.ran.3 in
    let ran = c.in_ok-_session.ensures.ran.4 in
    let out_is = c.out-2-1.given.1 (told.0 ∙ ran.0) in
    subst (λ new. g.W.Lines.stays c.args.out.now new) (sym out_is) (subst (λ old. g.W.Lines.stays old c.drive_context.new.runner.out.now) told.2 ran.4)

pub returns-clause-over : goal.returns-clause-over
returns-clause-over g c =
    let session = c.in_ok-_session._session in
    let mid = c.in_ok-_session.ensures.ran.1 in
    let told = c.in_ok-_session.ensures.ran.3 in
    let ran = c.in_ok-_session.ensures.ran.4 in
    let runner_is = c.runner-2-1.given.1 (told.1 ∙ ran.1) in
    let last = c.drive_context.new.runner in
    let contents = g.W.Lines.contents in
    let failed = g.W.Lines.failed in
    let out_is = c.out-2-1.given.1 (told.0 ∙ ran.0) in (
      record {
        course = session;
        driven = c.in_ok-_session.ensures.headline.driven;
        notes = c.in_ok-_session.ensures.ran.0;
        planned = c.in_ok-_session.ensures.ran.2;
        mid = mid.runner.now;
        told = told.4;
        ran = subst (λ new. g.R.Runner.ran session.plan (filter is_sent session.handed) mid.runner.now new) (sym runner_is) ran.2;
        wrote = λ w. subst (λ new. Appends (contents c.args.out.now) (contents new) (flat_map (lines_written session.plan) session.handed)) (sym out_is)
            (subst (λ old. Appends (contents old) (contents last.out.now) (flat_map (lines_written session.plan) session.handed)) told.2
            (passed_written g.W.Lines.whole session.plan session.handed (page_of (contents mid.out.now) (failed mid.out.now) mid.refused) (page_of (contents last.out.now) (failed last.out.now) last.refused) w ran.3));
      },
      λ ok before after.
          all_listed g.W.Lines.whole session.plan session.handed (page_of (contents mid.out.now) (failed mid.out.now) mid.refused) (page_of (contents last.out.now) (failed last.out.now) last.refused)
          (ap failed told.2 ∙ before) told.3 (sym (ap failed out_is) ∙ after) (none_refused last.refused ok) ran.3,
    )

pub returns-clause-made : goal.returns-clause-made
returns-clause-made g c = inr (returns-clause-over g c).0

pub returns-in_err-_session-clause-made : goal.returns-in_err-_session-clause-made
returns-in_err-_session-clause-made g c = elim c.in_err-_session.ensures.refused [
  | inl same ↦
      let out_is = c.in_err-_session.out-1-own.given.1 (ap (λ l. l.out.ghost_name) (sym same)) in
      let runner_is = c.in_err-_session.runner-1-own.given.1 (ap (λ l. l.runner.ghost_name) (sym same)) in
      inl (inl (runner_is ∙ ap (λ l. l.runner.now) same), subst (λ o. Keeps (g.W.Lines.contents c.args.out.now) (g.W.Lines.contents o)) (sym (out_is ∙ ap (λ l. l.out.now) same)) (Keeps-refl (g.W.Lines.contents c.args.out.now)))
  | inr some ↦
      let told = some.4 in
      let out_is = c.in_err-_session.out-1-own.given.1 told.0 in
      let runner_is = c.in_err-_session.runner-1-own.given.1 told.1 in
      inl (inr (some.2, subst (λ r. g.R.Teller.told some.2 c.args.runner.now r) (sym runner_is) told.4), subst (λ o. Keeps (g.W.Lines.contents c.args.out.now) (g.W.Lines.contents o)) (sym (out_is ∙ told.2)) (Keeps-refl (g.W.Lines.contents c.args.out.now)))
]

pub returns-in_err-_session-clause-stays : goal.returns-in_err-_session-clause-stays
returns-in_err-_session-clause-stays g c =
    let stays = g.W.Lines.stays c.args.out.now in
    let none = g.met.W.Lines.stays_none c.args.out.now in
    elim c.in_err-_session.ensures.refused [
      | inl same ↦
          let out_is = c.in_err-_session.out-1-own.given.1 (ap (λ l. l.out.ghost_name) (sym same)) in
          subst stays (sym (out_is ∙ ap (λ l. l.out.now) same)) none
      | inr some ↦
          let told = some.4 in
          let out_is = c.in_err-_session.out-1-own.given.1 told.0 in
          subst stays (sym (out_is ∙ told.2)) none
    ]

pub returns-in_err-_session-clause-refused : goal.returns-in_err-_session-clause-refused
returns-in_err-_session-clause-refused g c =
    let p = err_from_is_err_and c.from_residual.result c.from_residual.ensures.1 in
    rw (p.1, p.2) (elim c.in_err-_session.ensures.refused [
      | inl same ↦
          let runner_is = c.in_err-_session.runner-1-own.given.1 (ap (λ l. l.runner.ghost_name) (sym same)) in
          inl (runner_is ∙ ap (λ l. l.runner.now) same)
      | inr some ↦
          let told = some.4 in
          let runner_is = c.in_err-_session.runner-1-own.given.1 told.1 in
          inr (some.0, some.1, some.2, some.3, subst (λ r. g.R.Teller.told some.2 c.args.runner.now r) (sym runner_is) told.4)
    ])

pub returns-in_err-_session-clause-idle : goal.returns-in_err-_session-clause-idle
returns-in_err-_session-clause-idle g c =
    let p = err_from_is_err_and c.from_residual.result c.from_residual.ensures.1 in
    rw (p.1) (elim c.in_err-_session.ensures.refused [
      | inl same ↦
          let out_is = c.in_err-_session.out-1-own.given.1 (ap (λ l. l.out.ghost_name) (sym same)) in
          out_is ∙ ap (λ l. l.out.now) same
      | inr some ↦
          let told = some.4 in
          let out_is = c.in_err-_session.out-1-own.given.1 told.0 in
          out_is ∙ told.2
    ])
