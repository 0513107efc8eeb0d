use Rattle.std.proofs.Common.{◌≡◌, ◌<◌, ◌∙◌, [], ap, false, inl, inr, refl, true, ◌++◌, OnOk, Result, subst}
use Rattle.std.specs.Prelude.{IfOk, not}
use Rattle.hack_load.specs.Answers.{IsLoaded}
use Rattle.hack_files.specs.Restore.{AreSafe, registered_files}
use Rattle.std.proofs.lemmas.Bool.{cases_Bool}
use Rattle.std.proofs.lemmas.List.Elements.{Contains-append_left, Contains-append_right}
use Rattle.hack_files.proofs.RefusalLemmas.{but_restored, but_same, but_then}
use Rattle.hack_run.proofs.BackLemmas.{brings_none, cleans, kept_none, leaves, safe_new, whole_keeps}
use Rattle.hack_files.specs.View.{files_view}
use Rattle.hack_run.specs.Worlds.{host_view}
use Rattle.hack_term.specs.declared.term.Term.{Term}
use Rattle.hack_run.proofs.ChangeLemmas.{by_bool, changes, edits_back}
use Rattle.hack_run.proofs.LoadingLemmas.{loaded}
use Rattle.hack_run.proofs.TraceLemmas.{made, on_ok, performs}
use Rattle.hack_run.proofs.LastingLemmas.{left_behind}
use Rattle.hack_files.specs.Files.{KeepsAll}
use Rattle.hack_load.specs.declared.fault.ContextFault.{ContextFault}
use Rattle.hack_load.specs.declared.loaded.Loaded.{Loaded}
use Rattle.hack_prepare.specs.PreparedView.{member_manifests_in, wanted_in}
use Rattle.hack_prepare.proofs.RootLemmas.{prepared-moved}
use Rattle.hack_base.specs.Streams.{stream_of}
use Rattle.hack_run.specs.Shown.{Looks, looks_of, scene_on}
use Rattle.hack_run.proofs.ShownCalls.{looks_back}
use Rattle.hack_run.proofs.stages.perform.Goals as goal

pub returns-clause-done : goal.returns-clause-done
returns-clause-done g c =
    let first = files_view g.F.Files c.args.files.now in
    let asked = files_view g.F.Files c.ask-answers.new.files in
    let prepared = files_view g.F.Files c.follow-came.new.files in
    let last = files_view g.F.Files c.finish.new.files in
    performs g.C.Caller.tells g.F.Files.tells (g.F.Files.tells × IfOk c.ask-answers.result.loaded (IsLoaded g.F.Files.tells asked.held c.args.host.now.env.now)) (0 < c.finish.result) c.follow-came.result c.args.args c.args.host.now.env.now
    first asked prepared last (host_view g.C.Caller g.O.Sink c.args.host.now) (host_view g.C.Caller g.O.Sink c.follow-came.new.host) (g.C.Caller.calls c.ask-answers.new.caller) c.finish.new.term
    c.ask-answers.result (ap (λ (k : Term). k.warn) c.finish.ensures.term)
    (λ t. loaded g.F.Files.tells _ c.args.args c.args.host.now.env.now first.held first.failed asked.failed (g.C.Caller.calls c.args.host.now.caller.now) (g.C.Caller.calls c.ask-answers.new.caller) c.ask-answers.result (c.ask-answers.ensures.asked t))
    c.finish.ensures.noted.1 (λ t. (t, c.ask-answers.ensures.read)) (whole_keeps g.F.Files.tells first.held asked.held first.failed asked.failed c.ask-answers.result.loaded c.ask-answers.ensures.whole)
    (λ t stay. brings_none (registered_files c.follow-came.new.manager) prepared.held last.held c.finish.result
    (kept_none c.new-manager.result c.ask-answers.new.manager c.follow-came.new.manager c.new-manager.ensures.nothing c.ask-answers.ensures.kept
    (c.follow-came.ensures.unkept (c.ask-answers.ensures.needs ∙ c.new-manager.ensures.needs ∙ ap not stay)))
    (c.finish.ensures.restored t))
    c.follow-came.ensures.done

pub returns-clause-traced : goal.returns-clause-traced
returns-clause-traced g c =
    let asked = files_view g.F.Files c.ask-answers.new.files in
    changes g.C.Caller.tells g.F.Files.tells g.F.Files.whole c.follow-came.result c.args.args c.args.host.now.env.now
    (files_view g.F.Files c.args.files.now) asked (files_view g.F.Files c.follow-came.new.files) (files_view g.F.Files c.finish.new.files) (host_view g.C.Caller g.O.Sink c.args.host.now) (host_view g.C.Caller g.O.Sink c.follow-came.new.host)
    (g.C.Caller.calls c.ask-answers.new.caller) c.finish.new.term c.ask-answers.result c.ask-answers.new.manager c.follow-came.new.manager c.finish.result
    (ap (λ (k : Term). k.warn) c.finish.ensures.term) c.ask-answers.ensures.asked c.finish.ensures.noted.1
    (whole_keeps g.F.Files.tells (g.F.Files.bytes_at c.args.files.now) asked.held (g.F.Files.failed c.args.files.now) asked.failed c.ask-answers.result.loaded c.ask-answers.ensures.whole)
    (c.ask-answers.ensures.kept ∙ c.new-manager.ensures.nothing) (c.ask-answers.ensures.needs ∙ c.new-manager.ensures.needs)
    (λ stay. kept_none c.new-manager.result c.ask-answers.new.manager c.follow-came.new.manager c.new-manager.ensures.nothing c.ask-answers.ensures.kept
    (c.follow-came.ensures.unkept (c.ask-answers.ensures.needs ∙ c.new-manager.ensures.needs ∙ ap not stay)))
    (λ t read back. c.follow-came.ensures.safe t read (c.ask-answers.ensures.needs ∙ c.new-manager.ensures.needs ∙ ap not back) (safe_new c.new-manager.result c.ask-answers.new.manager asked.held c.new-manager.ensures.nothing c.ask-answers.ensures.kept))
    c.ask-answers.ensures.read c.finish.ensures.tried c.follow-came.ensures.traced

pub returns-clause-made : goal.returns-clause-made
returns-clause-made g c = λ t.
    let first = files_view g.F.Files c.args.files.now in
    let asked = files_view g.F.Files c.ask-answers.new.files in
    made g.F.Files.tells c.args.args c.args.host.now.env.now first asked (files_view g.F.Files c.follow-came.new.files) (files_view g.F.Files c.finish.new.files)
    (host_view g.C.Caller g.O.Sink c.args.host.now) (host_view g.C.Caller g.O.Sink c.follow-came.new.host) (g.C.Caller.calls c.ask-answers.new.caller) c.finish.new.term c.ask-answers.result
    (loaded g.F.Files.tells _ c.args.args c.args.host.now.env.now first.held first.failed asked.failed (g.C.Caller.calls c.args.host.now.caller.now) (g.C.Caller.calls c.ask-answers.new.caller) c.ask-answers.result (c.ask-answers.ensures.asked t))
    (c.follow-came.ensures.made t)

pub returns-clause-back : goal.returns-clause-back
returns-clause-back g c = λ kept t.
    let asked = g.F.Files.bytes_at c.ask-answers.new.files in
    leaves g.F.Files.tells (registered_files c.follow-came.new.manager) (g.F.Files.bytes_at c.args.files.now) asked (g.F.Files.bytes_at c.follow-came.new.files) (g.F.Files.bytes_at c.finish.new.files)
    (g.F.Files.failed c.args.files.now) (g.F.Files.failed c.ask-answers.new.files) (g.F.Files.failed c.follow-came.new.files) (g.F.Files.failed c.finish.new.files) c.finish.result
    t c.ask-answers.ensures.left
    (c.follow-came.ensures.safe t c.ask-answers.ensures.read (c.ask-answers.ensures.needs ∙ c.new-manager.ensures.needs ∙ ap not kept) (safe_new c.new-manager.result c.ask-answers.new.manager asked c.new-manager.ensures.nothing c.ask-answers.ensures.kept))
    c.follow-came.ensures.grows c.finish.ensures.counted (c.finish.ensures.restored t)

pub returns-clause-clean : goal.returns-clause-clean
returns-clause-clean g c =
    let asked = files_view g.F.Files c.ask-answers.new.files in
    cleans g.F.Files.tells (c.args.args.remove_dev_deps ≡ false) c.follow-came.result c.ask-answers.result.loaded (registered_files c.follow-came.new.manager)
    (files_view g.F.Files c.args.files.now) asked (files_view g.F.Files c.follow-came.new.files) (files_view g.F.Files c.finish.new.files) c.finish.result c.finish.new.term.error
    c.ask-answers.ensures.whole c.follow-came.ensures.counted
    (λ kept t. c.follow-came.ensures.safe t c.ask-answers.ensures.read (c.ask-answers.ensures.needs ∙ c.new-manager.ensures.needs ∙ ap not kept) (safe_new c.new-manager.result c.ask-answers.new.manager asked.held c.new-manager.ensures.nothing c.ask-answers.ensures.kept))
    c.finish.ensures.counted (λ some. c.finish.ensures.noted.1 (inr some)) c.finish.ensures.restored

pub returns-clause-stays : goal.returns-clause-stays
returns-clause-stays g c = g.F.Files.stays_more _ _ _ c.ask-answers.ensures.stays (g.F.Files.stays_more _ _ _ c.follow-came.ensures.stays c.finish.ensures.stays)

pub returns-clause-spoilt : goal.returns-clause-spoilt
returns-clause-spoilt g c = λ kept.
    let asked = g.F.Files.bytes_at c.ask-answers.new.files in
    let first = g.F.Files.refuses c.args.files.now c.ask-answers.new.files in
    let later = g.F.Files.refuses c.ask-answers.new.files c.finish.new.files in
    but_then first later (g.F.Files.refuses c.args.files.now c.finish.new.files) _ _ _ _ (λ ps qs one other. g.F.Files.refuses_more _ _ _ ps qs one other) c.ask-answers.ensures.spoilt
    (but_restored (g.F.Files.refuses c.ask-answers.new.files c.follow-came.new.files) (g.F.Files.refuses c.follow-came.new.files c.finish.new.files) later _ _ _ _ _ _ (λ ps qs one other. g.F.Files.refuses_more _ _ _ ps qs one other)
    (g.F.Files.refuses_some _ _ c.follow-came.ensures.grows)
    (λ t. c.follow-came.ensures.safe t c.ask-answers.ensures.read (c.ask-answers.ensures.needs ∙ c.new-manager.ensures.needs ∙ ap not kept) (safe_new c.new-manager.result c.ask-answers.new.manager asked c.new-manager.ensures.nothing c.ask-answers.ensures.kept))
    c.finish.ensures.refused)

pub returns-clause-lanes : goal.returns-clause-lanes
returns-clause-lanes g c =
    let calls = g.C.Caller.calls in
    on_ok _ _ c.follow-came.result (λ behind. record {
      answers = c.ask-answers.result;
      mid = c.ask-answers.new.caller;
      between = c.ask-answers.ensures.course;
      asked = λ t. loaded g.F.Files.tells _ c.args.args c.args.host.now.env.now (g.F.Files.bytes_at c.args.files.now) (g.F.Files.failed c.args.files.now) (g.F.Files.failed c.ask-answers.new.files) (calls c.args.host.now.caller.now) (calls c.ask-answers.new.caller) c.ask-answers.result (c.ask-answers.ensures.asked t);
      behind = behind;
    })
    c.follow-came.ensures.lanes

pub returns-clause-in_lanes : goal.returns-clause-in_lanes
returns-clause-in_lanes g c =
    let calls = g.C.Caller.calls in
    record {
      answers = c.ask-answers.result;
      mid = c.ask-answers.new.caller;
      between = c.ask-answers.ensures.course;
      asked = λ t. loaded g.F.Files.tells _ c.args.args c.args.host.now.env.now (g.F.Files.bytes_at c.args.files.now) (g.F.Files.failed c.args.files.now) (g.F.Files.failed c.ask-answers.new.files) (calls c.args.host.now.caller.now) (calls c.ask-answers.new.caller) c.ask-answers.result (c.ask-answers.ensures.asked t);
      behind = c.follow-came.ensures.in_lanes;
    }

pub returns-clause-shown : goal.returns-clause-shown
returns-clause-shown g c = λ t.
    let kept = registered_files c.follow-came.new.manager in
    let none : c.args.args.remove_dev_deps ≡ true → kept ≡ [] = λ stay. kept_none c.new-manager.result c.ask-answers.new.manager c.follow-came.new.manager c.new-manager.ensures.nothing c.ask-answers.ensures.kept
    (c.follow-came.ensures.unkept (c.ask-answers.ensures.needs ∙ c.new-manager.ensures.needs ∙ ap not stay)) in
    let loaded = g.F.Files.bytes_at c.ask-answers.new.files in
    let safe : g.F.Files.tells → c.args.args.remove_dev_deps ≡ false → AreSafe kept loaded (g.F.Files.bytes_at c.follow-came.new.files) = λ u back. c.follow-came.ensures.safe u c.ask-answers.ensures.read (c.ask-answers.ensures.needs ∙ c.new-manager.ensures.needs ∙ ap not back) (safe_new c.new-manager.result c.ask-answers.new.manager loaded c.new-manager.ensures.nothing c.ask-answers.ensures.kept) in
    let same_coloring = ap (λ (l : Looks). l.coloring) c.follow-came.ensures.looks in
    let same_verbose = ap (λ (l : Looks). l.verbose) c.follow-came.ensures.looks in
    let held = g.F.Files.bytes_at in
    let failed = g.F.Files.failed in
    record {
      answers = c.ask-answers.result;
      calls = g.C.Caller.calls c.ask-answers.new.caller;
      loaded = c.ask-answers.new.files;
      over = record {
        kept = c.ask-answers.ensures.stays;
        asked = c.ask-answers.ensures.asked t;
        failed = c.ask-answers.ensures.undone t;
        same = whole_keeps g.F.Files.tells (held c.args.files.now) (held c.ask-answers.new.files) (failed c.args.files.now) (failed c.ask-answers.new.files) c.ask-answers.result.loaded c.ask-answers.ensures.whole;
      };
      edited = c.follow-came.new.files;
      kept = (c.follow-came.ensures.stays, c.finish.ensures.stays);
      files = kept;
      safe = by_bool c.args.args.remove_dev_deps (kept ≡ []) (g.F.Files.tells → AreSafe kept loaded (g.F.Files.bytes_at c.follow-came.new.files)) none (λ back u. safe u back);
      edits = λ edited. edits_back g.F.Files c.args.args c.ask-answers.result c.args.host.now.env.now c.ask-answers.new.manager c.follow-came.new.manager c.ask-answers.new.files c.follow-came.new.files c.finish.new.files c.finish.result
          (c.ask-answers.ensures.kept ∙ c.new-manager.ensures.nothing) (c.ask-answers.ensures.needs ∙ c.new-manager.ensures.needs)
          none safe
          c.ask-answers.ensures.read c.finish.ensures.tried c.finish.ensures.refused c.finish.ensures.restored (c.follow-came.ensures.edits edited);
      mid = scene_on g.C.Caller g.O.Sink g.E.Sink c.follow-came.new.host;
      at = looks_of c.follow-came.new.host.term.now;
      said = c.follow-came.ensures.shown t;
      same = refl;
      out = refl;
      reasoned = stream_of g.E.Sink c.tell_reason_of.new.err;
      reason = rw (← same_coloring) c.tell_reason_of.ensures;
      failed = c.finish.result;
      tried = c.finish.ensures.tried;
      back = rw (← c.unwritten.ensures) (rw (← same_coloring) (rw (← same_verbose) c.finish.ensures.shown));
      ends = looks_back c.follow-came.new.host.term.now c.finish.new.term c.finish.result c.finish.ensures.term c.finish.ensures.noted;
    }

pub returns-clause-looks : goal.returns-clause-looks
returns-clause-looks g c = ap (λ (k : Term). looks_of k) c.finish.ensures.term ∙ ap (λ (l : Looks). record l { reported = c.finish.new.term.error }) c.follow-came.ensures.looks

pub returns-clause-stood : goal.returns-clause-stood
returns-clause-stood g c =
    let calls = g.C.Caller.calls in
    let first = g.F.Files.bytes_at c.args.files.now in
    let asked = g.F.Files.bytes_at c.ask-answers.new.files in
    let at = g.F.Files.bytes_at c.follow-came.new.files in
    let whole = whole_keeps g.F.Files.tells first asked (g.F.Files.failed c.args.files.now) (g.F.Files.failed c.ask-answers.new.files) c.ask-answers.result.loaded c.ask-answers.ensures.whole in
    on_ok _ _ c.follow-came.result (λ h. record {
      answers = c.ask-answers.result;
      mid = calls c.ask-answers.new.caller;
      cx = h.0;
      asked = λ t. loaded g.F.Files.tells _ c.args.args c.args.host.now.env.now first (g.F.Files.failed c.args.files.now) (g.F.Files.failed c.ask-answers.new.files) (calls c.args.host.now.caller.now) (calls c.ask-answers.new.caller) c.ask-answers.result (c.ask-answers.ensures.asked t);
      context = h.1;
      edits = record {
        at = at;
        was = (c.follow-came.new.files, g.F.Files.stays_more _ _ _ c.ask-answers.ensures.stays c.follow-came.ensures.stays, c.finish.ensures.stays, refl);
        stood = λ t.
            let kept : g.F.Files.tells → KeepsAll first asked = subst (λ (a : Result Loaded ContextFault). OnOk a (g.F.Files.tells → KeepsAll first asked)) h.1.1 whole in
            prepared-moved (wanted_in h.0) (member_manifests_in h.0) first asked at at (kept t) (λ q. refl) (h.2 t c.ask-answers.ensures.read);
      };
    })
    c.follow-came.ensures.stood

pub returns-clause-lasting : goal.returns-clause-lasting
returns-clause-lasting g c =
    let calls = g.C.Caller.calls in
    let held = g.F.Files.bytes_at in
    let refuses = g.F.Files.refuses in
    let first = c.args.files.now in
    let asked = c.ask-answers.new.files in
    let at = c.follow-came.new.files in
    let last = c.finish.new.files in
    let asking = c.ask-answers.ensures.spoilt in
    let following = g.F.Files.refuses_some _ _ c.follow-came.ensures.grows in
    let ending = c.finish.ensures.refused in
    elim (cases_Bool c.args.args.remove_dev_deps) [
      | inl stay ↦ left_behind (refuses asked at) (refuses first last) g.F.Files.tells g.C.Caller.tells c.args.args c.ask-answers.result c.args.host.now.env.now (calls c.args.host.now.caller.now) (calls c.ask-answers.new.caller) (held first) (held asked) (held at) (held last)
          (λ path bad. (
            asking.spoilt ++ (bad.0 ++ ending.spoilt),
            g.F.Files.refuses_more first asked last _ _ asking.refused (g.F.Files.refuses_more asked at last _ _ bad.1 ending.refused),
            Contains-append_right asking.spoilt (bad.0 ++ ending.spoilt) path (Contains-append_left bad.0 ending.spoilt path bad.2),
          ))
          (λ same. but_then (refuses first asked) (refuses asked last) (refuses first last) _ _ _ _ (λ ps qs one other. g.F.Files.refuses_more _ _ _ ps qs one other) asking
          (but_same (refuses asked last) g.F.Files.tells (held asked) (held last) (following.0 ++ ending.spoilt, g.F.Files.refuses_more asked at last _ _ following.1 ending.refused) same))
          (whole_keeps g.F.Files.tells (held first) (held asked) (g.F.Files.failed first) (g.F.Files.failed asked) c.ask-answers.result.loaded c.ask-answers.ensures.whole)
          (λ t. brings_none (registered_files c.follow-came.new.manager) (held at) (held last) c.finish.result
          (kept_none c.new-manager.result c.ask-answers.new.manager c.follow-came.new.manager c.new-manager.ensures.nothing c.ask-answers.ensures.kept
          (c.follow-came.ensures.unkept (c.ask-answers.ensures.needs ∙ c.new-manager.ensures.needs ∙ ap not stay)))
          (c.finish.ensures.restored t))
          (λ t. loaded g.F.Files.tells _ c.args.args c.args.host.now.env.now (held first) (g.F.Files.failed first) (g.F.Files.failed asked) (calls c.args.host.now.caller.now) (calls c.ask-answers.new.caller) c.ask-answers.result (c.ask-answers.ensures.asked t))
          c.ask-answers.ensures.read stay c.follow-came.ensures.lasting
      | inr back ↦ inl (returns-clause-spoilt g c back)
    ]
