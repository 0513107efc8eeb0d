use Rattle.std.proofs.Common.{◌≡◌, ◌⊎◌, ◌∙◌, None, sym, ap, subst, ℕ, List, length, map, All, Contains}
use Rattle.std.specs.List.{AllZip, flat_map}
use Rattle.std.proofs.lemmas.List.{length-map}
use Rattle.std.proofs.lemmas.Slice.Zip.{AllZip-long}
use Rattle.std.proofs.lemmas.Result.{err_from_is_err_and}
use Rattle.hack_load.specs.ContextView.{context_view}
use Rattle.hack_metadata.specs.RecordViews.{place_at}
use Rattle.hack_metadata.specs.declared.metadata.resolve.PackageId.{PackageId}
use Rattle.hack_planner.specs.ContextMembers.{AreChosen}
use Rattle.hack_plan.specs.Entries.{ArePlaces, HasTooMany}
use Rattle.hack_plan.specs.Inputs.{AreVersions}
use Rattle.hack_plan.specs.Plans.{counts_in}
use Rattle.hack_plan.specs.Prepared.{ArePrepared}
use Rattle.hack_plan.specs.View.{CallView, plan_package_view}
use Rattle.hack_base.specs.Notes.{note_of}
use Rattle.hack_versions.specs.declared.version.VersionFault.{VersionFault}
use Rattle.hack_planner.specs.Calls.{IsInputOf, IsMember, IsPackageOf, IsCoveredIn, HasBadOwn, candidate_notes_at, left_out_notes, table_fault}
use Rattle.hack_planner.specs.InternalUses.{IsPlannedAs, IsRight, id_of}
use Rattle.hack_planner.specs.CallPlan.{IsCause, run_counts}
use Rattle.hack_planner.proofs.CauseLemmas.{range-cause, places-cause, counts-same, few-places, all-told}
use Rattle.hack_planner.proofs.NeverLemmas.{no-cause}
use Rattle.hack_planner.proofs.PlanLemmas.{covers}
use Rattle.hack_planner.proofs.LeastPlaceLemmas.{chosen-cause}
use Rattle.hack_planner.proofs.UseLemmas.{all-chosen, coverage-of, packages-of}
use Rattle.hack_planner.specs.declared.fault.PlanFault.TheVariants as fault
use Rattle.hack_planner.proofs.plan.plan_by.Goals as goal

pub returns-in_err-versions-clause-err : goal.returns-in_err-versions-clause-err
returns-in_err-versions-clause-err c =
    let cx = context_view c.args.cx.now in
    let ids = c.in_ok-list.list.ids.items in
    let p = err_from_is_err_and c.from_residual-in_err-versions.result c.from_residual-in_err-versions.ensures.1 in
    let of_call = subst (λ l. IsInputOf cx (map place_at l) c.in_ok-input.input) c.as_slice.ensures.value c.in_ok-input.ensures.ok in
    rw (p.1, p.2) (range-cause cx (map place_at ids) c.in_ok-input.input c.args.latest _ c.in_ok-list.ensures.ok c.in_ok-list.ensures.tables of_call c.in_err-versions.ensures.err)

pub left_out-requires : goal.left_out-requires
left_out-requires c =
    subst (λ l. All (λ (id : PackageId). Contains (context_view c.args.cx.now).metadata.workspace_members id.index) l) (sym c.as_slice-ids.ensures.value) c.in_ok-list.ensures.members

pub chosen_packages-requires-clause-members : goal.chosen_packages-requires-clause-members
chosen_packages-requires-clause-members c =
    let cx = context_view c.args.cx.now in
    let ids = c.in_ok-list.list.ids.items in
    let chosen = c.as_slice-chosen.result.now in
    let same = ap (map id_of) c.as_slice-chosen.ensures.value ∙ c.in_ok-uses.ensures.same ∙ ap (map place_at) c.as_slice-ids.ensures.value in
    all-chosen (Contains cx.metadata.workspace_members) chosen ids same c.in_ok-list.ensures.members

pub of_input-requires-clause-packages : goal.of_input-requires-clause-packages
of_input-requires-clause-packages c =
    let cx = context_view c.args.cx.now in
    let ids = c.in_ok-list.list.ids.items in
    let input = c.in_ok-input.input in
    let chosen = c.as_slice-chosen.result.now in
    let same = ap (map id_of) c.as_slice-chosen.ensures.value ∙ c.in_ok-uses.ensures.same ∙ ap (map place_at) c.as_slice-ids.ensures.value in
    let of_call : IsInputOf cx (map place_at ids) input = subst (λ l. IsInputOf cx (map place_at l) input) c.as_slice.ensures.value c.in_ok-input.ensures.ok in
    let packages = c.in-Ok.answer.0.items in
    sym (length-map packages plan_package_view)
    ∙ AllZip-long (IsPlannedAs cx) chosen (map plan_package_view packages) c.in-Ok.ensures.ok
    ∙ sym (length-map chosen id_of) ∙ ap (λ (l : List ℕ). length l) same
    ∙ sym (AllZip-long (IsMember cx) (map place_at ids) input.packages.items of_call.members)

pub returns-in-Err-clause-err : goal.returns-in-Err-clause-err
returns-in-Err-clause-err c =
    let cx = context_view c.args.cx.now in
    let ids = c.in_ok-list.list.ids.items in
    let input = c.in_ok-input.input in
    let chosen = c.as_slice-chosen.result.now in
    let same = ap (map id_of) c.as_slice-chosen.ensures.value ∙ c.in_ok-uses.ensures.same ∙ ap (map place_at) c.as_slice-ids.ensures.value in
    let of_call : IsInputOf cx (map place_at ids) input = subst (λ l. IsInputOf cx (map place_at l) input) c.as_slice.ensures.value c.in_ok-input.ensures.ok in
    let right : All (IsRight cx input c.in_ok-versions.versions.stable) chosen =
    subst (All (IsRight cx input c.in_ok-versions.versions.stable)) (sym c.as_slice-chosen.ensures.value) (c.in_ok-uses.ensures.right cx (subst (λ l. IsInputOf cx (map place_at l) input) (sym c.as_slice-ids.ensures.value) of_call)) in
    subst (λ v. (c.in-Err.fault ≡ fault.Memory) ⊎ IsCause cx v c.in-Err.fault) c.in_ok-versions.ensures.stable
    (chosen-cause cx input c.in_ok-versions.versions.stable chosen c.in-Err.fault (subst (AreChosen cx) (sym same) c.in_ok-list.ensures.ok) (subst (λ (l : List ℕ). table_fault cx l ≡ None) (sym same) c.in_ok-list.ensures.tables) (subst (λ l. IsInputOf cx l input) (sym same) of_call) right c.in-Err.ensures.err)

pub returns-in-Err-of_input-clause-err : goal.returns-in-Err-of_input-clause-err
returns-in-Err-of_input-clause-err c =
    let cx = context_view c.args.cx.now in
    let ids = c.in_ok-list.list.ids.items in
    let input = c.in_ok-input.input in
    let chosen = c.as_slice-chosen.result.now in
    let same = ap (map id_of) c.as_slice-chosen.ensures.value ∙ c.in_ok-uses.ensures.same ∙ ap (map place_at) c.as_slice-ids.ensures.value in
    let of_call : IsInputOf cx (map place_at ids) input = subst (λ l. IsInputOf cx (map place_at l) input) c.as_slice.ensures.value c.in_ok-input.ensures.ok in
    let right : All (IsRight cx input c.in_ok-versions.versions.stable) chosen =
    subst (All (IsRight cx input c.in_ok-versions.versions.stable)) (sym c.as_slice-chosen.ensures.value) (c.in_ok-uses.ensures.right cx (subst (λ l. IsInputOf cx (map place_at l) input) (sym c.as_slice-ids.ensures.value) of_call)) in
    let right_now = subst (λ v. All (IsRight cx input v) chosen) c.in_ok-versions.ensures.stable right in
    let packages = map plan_package_view c.in-Ok.answer.0.items in
    let each = subst (λ l. AllZip (IsPackageOf cx input c.args.latest) l packages) same (packages-of cx input c.args.latest chosen packages right_now c.in-Ok.ensures.ok) in
    rw c.of_places.ensures (places-cause cx (map place_at ids) input c.in_ok-versions.versions.stable c.args.latest c.in-Ok.answer.0.items c.in-Err-of_input.fault c.in_ok-list.ensures.ok c.in_ok-list.ensures.tables of_call each c.in_ok-versions.ensures.stable c.in-Err-of_input.ensures.err)

pub returns-clause-ok : goal.returns-clause-ok
returns-clause-ok c = λ rustup call.
    let cx = context_view c.args.cx.now in
    let ids = c.in_ok-list.list.ids.items in
    let input = c.in_ok-input.input in
    let chosen = c.as_slice-chosen.result.now in
    let same = ap (map id_of) c.as_slice-chosen.ensures.value ∙ c.in_ok-uses.ensures.same ∙ ap (map place_at) c.as_slice-ids.ensures.value in
    let of_call : IsInputOf cx (map place_at ids) input = subst (λ l. IsInputOf cx (map place_at l) input) c.as_slice.ensures.value c.in_ok-input.ensures.ok in
    let right : All (IsRight cx input c.in_ok-versions.versions.stable) chosen =
    subst (All (IsRight cx input c.in_ok-versions.versions.stable)) (sym c.as_slice-chosen.ensures.value) (c.in_ok-uses.ensures.right cx (subst (λ l. IsInputOf cx (map place_at l) input) (sym c.as_slice-ids.ensures.value) of_call)) in
    let right_now = subst (λ v. All (IsRight cx input v) chosen) c.in_ok-versions.ensures.stable right in
    let packages = map plan_package_view c.in-Ok.answer.0.items in
    let each = subst (λ l. AllZip (IsPackageOf cx input c.args.latest) l packages) same (packages-of cx input c.args.latest chosen packages right_now c.in-Ok.ensures.ok) in
    let single = c.in_ok-list.list.is_single in
    let plan = c.in-Ok-of_input.plan in
    let planned = c.in-Ok.answer.0.items in
    let counts = ap run_counts c.in-Ok-of_input.ensures.packages ∙ counts-same planned in
    let covered = subst (λ l. AllZip (IsCoveredIn cx input c.args.latest) l packages) same (coverage-of cx input c.args.latest chosen packages right_now c.in-Ok.ensures.coverage) in
    let within : ¬ HasTooMany input (run_counts plan.packages) c.args.latest =
    λ many. c.in-Ok-of_input.ensures.never (subst (λ v. HasTooMany input (counts_in planned) v) (sym c.in_ok-versions.ensures.stable) (subst (λ ns. HasTooMany input ns c.args.latest) counts many)) in
    let places = subst (λ ns. ArePlaces input ns c.args.latest plan.entries) (sym counts) (subst (λ v. ArePlaces input (counts_in planned) v plan.entries) c.in_ok-versions.ensures.stable c.in-Ok-of_input.ensures.entries) in
    record {
      performed = record {
        base = record {
          ids = map place_at ids;
          input = input;
          chosen = c.in_ok-list.ensures.ok;
          of_call = of_call;
          packages = subst (AllZip (IsPackageOf cx input c.args.latest) (map place_at ids)) (sym c.in-Ok-of_input.ensures.packages) each;
          places = places;
        };
        groups = c.in_ok-versions.versions.groups.items;
        of_range = subst (λ v. AreVersions input.range input v c.in_ok-versions.versions.groups.items) c.in_ok-versions.ensures.stable c.in_ok-versions.ensures.ok;
        single = single;
        on_packages = map note_of c.in_ok-list.notices.items;
        on_range = map note_of c.in_ok-versions.on_range.items;
        noted = c.in_ok-list.ensures.notes;
        ranged = c.in_ok-versions.ensures.notices;
        call = c.in-Ok-of_input.ensures.call ∙ call;
        laid = c.in-Ok-of_input.ensures.spans;
        prepared = subst (λ (k : CallView). ArePrepared k.locked k.clean_per_version plan.versions) call c.in-Ok-of_input.ensures.prepared;
        told = all-told c.in_ok-list.notices.items c.in-Ok.answer.1.items c.in_ok-versions.on_range.items c.in_ok-on_left_out.on_left_out.items c.append.new.self.items c.append-2.new.self.items c.append-3.new.self.items
            (flat_map (candidate_notes_at cx single) (map place_at ids)) (left_out_notes cx (map place_at ids) input c.in_ok-versions.versions.groups.items)
            c.in_ok-append.ensures.items c.in_ok-append-2.ensures.items c.in_ok-append-3.ensures.items
            (c.in-Ok.ensures.notes ∙ ap (flat_map (candidate_notes_at cx single)) same)
            (c.in_ok-on_left_out.ensures ∙ ap (λ (l : List PackageId). left_out_notes cx (map place_at l) input c.in_ok-versions.versions.groups.items) c.as_slice-ids.ensures.value);
        tables = c.in_ok-list.ensures.tables;
        in_range = c.in_ok-versions.ensures.never;
        fits = few-places input (run_counts plan.packages) c.args.latest plan.entries places within;
      };
      covered = subst (AllZip (IsCoveredIn cx input c.args.latest) (map place_at ids)) (sym c.in-Ok-of_input.ensures.packages) covered;
      tiled = c.in-Ok-of_input.ensures.tiled;
      readable = subst (λ (l : List PackageId). (e : VersionFault) → ¬ HasBadOwn cx (map place_at l) e) c.as_slice.ensures.value c.in_ok-input.ensures.never;
      fits = within;
    }

pub returns-clause-covered : goal.returns-clause-covered
returns-clause-covered c = λ rustup call powerset each.
    covers (context_view c.args.cx.now) rustup c.args.latest c.in-Ok-of_input.plan _ (returns-clause-ok c rustup call) powerset each

pub returns-clause-never : goal.returns-clause-never
returns-clause-never c =
    let cx = context_view c.args.cx.now in
    let ids = c.in_ok-list.list.ids.items in
    let input = c.in_ok-input.input in
    let chosen = c.as_slice-chosen.result.now in
    let same = ap (map id_of) c.as_slice-chosen.ensures.value ∙ c.in_ok-uses.ensures.same ∙ ap (map place_at) c.as_slice-ids.ensures.value in
    let of_call : IsInputOf cx (map place_at ids) input = subst (λ l. IsInputOf cx (map place_at l) input) c.as_slice.ensures.value c.in_ok-input.ensures.ok in
    let right : All (IsRight cx input c.in_ok-versions.versions.stable) chosen =
    subst (All (IsRight cx input c.in_ok-versions.versions.stable)) (sym c.as_slice-chosen.ensures.value) (c.in_ok-uses.ensures.right cx (subst (λ l. IsInputOf cx (map place_at l) input) (sym c.as_slice-ids.ensures.value) of_call)) in
    let right_now = subst (λ v. All (IsRight cx input v) chosen) c.in_ok-versions.ensures.stable right in
    let packages = map plan_package_view c.in-Ok.answer.0.items in
    let each = subst (λ l. AllZip (IsPackageOf cx input c.args.latest) l packages) same (packages-of cx input c.args.latest chosen packages right_now c.in-Ok.ensures.ok) in
    no-cause cx c.args.latest (record {
      ids = map place_at ids;
      input = input;
      packages = packages;
      chosen = c.in_ok-list.ensures.ok;
      of_call = of_call;
      each = each;
      known = c.in_ok-list.ensures.never;
      tables = c.in_ok-list.ensures.tables;
      readable = subst (λ (l : List PackageId). (e : VersionFault) → ¬ HasBadOwn cx (map place_at l) e) c.as_slice.ensures.value c.in_ok-input.ensures.never;
      in_range = c.in_ok-versions.ensures.never;
      fits = λ many. c.in-Ok-of_input.ensures.never (subst (λ v. HasTooMany input (counts_in c.in-Ok.answer.0.items) v) (sym c.in_ok-versions.ensures.stable) (subst (λ ns. HasTooMany input ns c.args.latest) (counts-same c.in-Ok.answer.0.items) many));
    })
