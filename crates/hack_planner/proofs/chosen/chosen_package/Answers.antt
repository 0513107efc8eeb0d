use Rattle.std.proofs.Common.{◌≡◌, ◌⊎◌, ◌∙◌, [], ◌∷◌, List, IsTrue, false, sym, ap, subst, Some, inl, inr}
use Rattle.std.proofs.lemmas.Bool.{cases_Bool}
use Rattle.hack_features.specs.Feature.{groups_of}
use Rattle.hack_base.specs.Names.{names_behind}
use Rattle.hack_load.proofs.ContextLemmas.{context-whole}
use Rattle.hack_load.specs.ContextView.{context_view}
use Rattle.hack_metadata.specs.RecordViews.{package_view}
use Rattle.hack_planner.specs.InternalLeastPlaces.{HasRunsAtLeast}
use Rattle.hack_planner.specs.Kinds.{AreRuns, AreCovering, AreRunSettings, package_choice}
use Rattle.hack_plan.specs.Runs.{PackageRun, Plain}
use Rattle.hack_planner.specs.KindsView.{IsKind, IsRunsFault, candidates_in, runs_of}
use Rattle.hack_samples.specs.Sets.{rows_of}
use Rattle.hack_plan.specs.RunsView.{runs_in}
use Rattle.hack_words.specs.declared.cli.args.Args.{Args}
use Rattle.hack_planner.specs.Calls.{given_path, package_notes, rules_at}
use Rattle.hack_planner.specs.PackageRules.{PackageRulesRecord, rules_in}
use Rattle.hack_planner.specs.declared.fault.RunsFault.TheVariants.{Memory}
use Rattle.hack_planner.proofs.KindLemmas.{runs-of_kind}
use Rattle.hack_planner.proofs.LeastPlaceLemmas.{planned-at_least}
use Rattle.hack_planner.proofs.NoteLemmas.{notes-at}
use Rattle.hack_planner.proofs.PackageRuleLemmas.{powerset-asked}
use Rattle.hack_planner.proofs.PlanLemmas.{of-kind}
use Rattle.hack_planner.proofs.PlanSampleLemmas.{no-sample}
use Rattle.hack_planner.proofs.UseLemmas.{not-true}
use Rattle.hack_planner.proofs.chosen.chosen_package.Goals as goal

pub packages-pkg-requires : goal.packages-pkg-requires
packages-pkg-requires c = (context-whole c.args.cx.now).packages c.args.one.id.index c.requires.member

pub returns-clause-ok : goal.returns-clause-ok
returns-clause-ok c =
    let cx = context_view c.args.cx.now in
    let pkg = package_view c.packages-pkg.result.now in
    let features = c.pkg_features-features.result.now in
    let kind = c.in-Ok-Ok.made.0 in
    let parts = c.in_ok-candidates.ensures in
    let found : IsTrue c.args.one.is_used → IsKind (rules_at cx pkg features) pkg features kind =
    λ used. subst (λ (w : PackageRulesRecord). IsKind w pkg features kind) c.in_ok-asked.ensures.rules ((rw c.in-Ok-Ok.field-0-is at c.in-Ok-Ok.ensures.kind) used) in
    let plain : c.args.one.is_used ≡ false → (groups_of c.in_ok-candidates.candidates.items ≡ []) × (runs_in c.in_ok-candidates.runs ≡ Plain ∷ []) =
    λ unused. let e = (rw c.in-Ok-Ok.field-0-is at c.in-Ok-Ok.ensures.unused) unused in (parts.candidates ∙ ap candidates_in e.0, parts.runs ∙ ap runs_of e.0) in
    record {
      pkg = pkg;
      features = features;
      known = c.packages-pkg.ensures;
      loaded = c.pkg_features-features.ensures;
      name = c.in_ok-from_str.ensures.ok ∙ c.as_str-2.ensures.value;
      path = c.in_ok-given_path.ensures
          ∙ ap (λ (a : Args). given_path a.no_manifest_path c.current_dir.result.now (Some pkg)) c.args-args.ensures
          ∙ ap (λ dir. given_path cx.args.no_manifest_path dir (Some pkg)) c.current_dir.ensures;
      given = c.in_ok-features.ensures ∙ ap names_behind c.as_slice.ensures.value ∙ c.in_ok-given.ensures.names;
      candidates = elim (cases_Bool c.args.one.is_used) [
        | inl used ↦ of-kind (rules_at cx pkg features) pkg features kind (groups_of c.in_ok-candidates.candidates.items) (runs_in c.in_ok-candidates.runs) parts.candidates parts.runs (found used)
        | inr unused ↦ inr (plain unused)
      ];
      runs = λ used. subst (AreRuns (rules_at cx pkg features) pkg features) (sym parts.runs) (runs-of_kind (rules_at cx pkg features) pkg features kind (found used));
      unused = λ none. plain (not-true c.args.one.is_used none);
    }

pub returns-clause-coverage : goal.returns-clause-coverage
returns-clause-coverage c =
    let cx = context_view c.args.cx.now in
    let pkg = package_view c.packages-pkg.result.now in
    let features = c.pkg_features-features.result.now in
    let made = c.in-Ok-Ok.made in
    let same = c.in_ok-asked.ensures.rules in
    let parts = c.in_ok-candidates.ensures in
    record {
      pkg = pkg;
      features = features;
      known = c.packages-pkg.ensures;
      loaded = c.pkg_features-features.ensures;
      covered = λ used powerset all. subst (AreCovering (rules_at cx pkg features) pkg features) (sym parts.runs)
          (subst (λ (w : PackageRulesRecord). AreCovering w pkg features (runs_of made.0)) same
          ((rw c.in-Ok-Ok.field-0-is at c.in-Ok-Ok.ensures.covered) used (ap (λ (w : PackageRulesRecord). w.feature_powerset) same ∙ powerset-asked cx pkg features ∙ powerset) (ap (λ (w : PackageRulesRecord). w.strength) same ∙ all)));
      settings = λ used. subst (λ (rs : List PackageRun). AreRunSettings (rules_at cx pkg features).strength (package_choice (rules_at cx pkg features) pkg features) rs (rows_of made.1.items)) (sym parts.runs)
          (subst (λ (w : PackageRulesRecord). AreRunSettings w.strength (package_choice w pkg features) (runs_of made.0) (rows_of made.1.items)) same
          ((rw c.in-Ok-Ok.field-0-is at c.in-Ok-Ok.ensures.settings) used));
      unused = λ none. ((rw c.in-Ok-Ok.field-0-is at c.in-Ok-Ok.ensures.unused) (not-true c.args.one.is_used none)).1;
    }

pub returns-clause-notes : goal.returns-clause-notes
returns-clause-notes c =
    let pkg = package_view c.packages-pkg.result.now in
    let features = c.pkg_features-features.result.now in
    c.in_ok-notices.ensures
    ∙ ap (λ (a : Args). package_notes a c.args.single (rules_in c.in_ok-asked.asked) pkg features) c.args-args.ensures
    ∙ ap (λ (r : PackageRulesRecord). package_notes (context_view c.args.cx.now).args c.args.single r pkg features) c.in_ok-asked.ensures.rules
    ∙ sym (notes-at (context_view c.args.cx.now) c.args.single c.args.one.id.index pkg features c.packages-pkg.ensures c.pkg_features-features.ensures)

pub returns-in-Ok-Err-clause-over : goal.returns-in-Ok-Err-clause-over
returns-in-Ok-Err-clause-over c =
    let cx = context_view c.args.cx.now in
    let pkg = package_view c.packages-pkg.result.now in
    let features = c.pkg_features-features.result.now in
    let h = rw c.in-Ok-Err.field-0-is at c.in-Ok-Err.ensures.over in (
      planned-at_least cx c.args.one c.in-Ok-Err.least pkg features c.packages-pkg.ensures c.pkg_features-features.ensures h.0
          (subst (λ (w : PackageRulesRecord). HasRunsAtLeast w pkg features c.in-Ok-Err.least) c.in_ok-asked.ensures.rules h.1),
      h.2,
    )

pub returns-in-Err-TooManyQuestions-clause-err : goal.returns-in-Err-TooManyQuestions-clause-err
returns-in-Err-TooManyQuestions-clause-err c =
    let cx = context_view c.args.cx.now in
    let pkg = package_view c.packages-pkg.result.now in
    let features = c.pkg_features-features.result.now in
    let fault = c.in-Err-TooManyQuestions.field-0 in
    let wide = no-sample (rules_at cx pkg features) pkg features (IsTrue c.args.one.is_used) c.in-Err-TooManyQuestions.tally fault c.in-Err-TooManyQuestions.field-0-is
    (subst (λ (w : PackageRulesRecord). (fault ≡ Memory) ⊎ (IsTrue c.args.one.is_used × IsRunsFault w pkg features fault)) c.in_ok-asked.ensures.rules c.in-Err-TooManyQuestions.ensures.err) in
    inr (
      wide.0,
      record {
        pkg = pkg;
        features = features;
        known = c.packages-pkg.ensures;
        loaded = c.pkg_features-features.ensures;
        called = c.in_ok-name-in-Err-TooManyQuestions.ensures.ok ∙ c.as_str.ensures.value;
        wide = rw c.in-Err-TooManyQuestions.field-0-is wide.1;
      },
    )
