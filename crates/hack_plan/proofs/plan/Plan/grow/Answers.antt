use Rattle.std.proofs.Common.{◌≡◌, ◌<◌, ◌+◌, ◌-◌, ◌++◌, ◌∷◌, [], ℕ, List, length, map, ap, sym, subst, ◌∙◌, length-append, None, Some}
use Rattle.hack_plan.specs.declared.parts.PlanVersion.{PlanVersion}
use Rattle.hack_plan.specs.declared.places.PlanEntry.{PlanEntry}
use Rattle.hack_plan.specs.AddedRuns.{added_run}
use Rattle.hack_plan.specs.Runs.{PackageRun}
use Rattle.hack_plan.specs.Spans.{AreTiled, Laid}
use Rattle.hack_plan.specs.Prepared.{span_of}
use Rattle.hack_plan.specs.Plans.{AreRunsOfPackages}
use Rattle.hack_plan.specs.View.{CallView, PackageView, PlanView, call_view, plan_package_view}
use Rattle.hack_plan.specs.Growth.{IsGrown, next_entry, with_changed, with_one_place, with_one_run, with_run}
use Rattle.hack_plan.specs.GrowthLaws.{grown_by_run}
use Rattle.hack_plan.specs.InternalRuns.{with_end}
use Rattle.hack_plan.proofs.GrowingPlans.{end-grown, runs-grown, tiled-grown}
use Rattle.hack_plan.proofs.plan.Plan.grow.Goals as goal
use Rattle.hack_plan.proofs.plan.Plan.grow.Goals.{After-end_last}

-- the parts of the plan afterwards, by what was promised of each
record AreGrown (slot member place rank : ℕ) (run : PackageRun) (packages mid news : List PackageView) (versions later : List PlanVersion) (old new : Laid) : Type 0 where
  pub some : 0 < length versions
  pub within : member < length packages
  pub runs : AreRunsOfPackages packages old.entries
  pub tiled : AreTiled 0 (map span_of versions) (length old.entries)
  pub place_is : place ≡ length old.entries
  pub mid_is : mid ≡ packages
  pub news_are : news ≡ with_changed (with_one_run run) mid member
  pub later_are : later ≡ with_changed (with_end (place + 1)) versions (length versions - 1)
  pub new_is : new ≡ record old { entries = old.entries ++ record { version = None; slot = slot; «package» = Some member; rank = rank } ∷ [] }
  pub rank_is : rank ≡ (next_entry slot member packages).rank

module _ (slot member place rank : ℕ) (run : PackageRun) (packages mid news : List PackageView) (versions later : List PlanVersion) (old new : Laid) (g : AreGrown slot member place rank run packages mid news versions later old new) where
  entries-are : new.entries ≡ old.entries ++ next_entry slot member packages ∷ []
  entries-are = ap (λ (l : Laid). l.entries) g.new_is ∙ ap (λ (n : ℕ). old.entries ++ record { version = None; slot = slot; «package» = Some member; rank = n } ∷ []) g.rank_is

  packages-are : news ≡ with_changed (with_one_run run) packages member
  packages-are = g.news_are ∙ ap (λ (ks : List PackageView). with_changed (with_one_run run) ks member) g.mid_is

  versions-are : later ≡ with_changed with_one_place versions (length versions - 1)
  versions-are = g.later_are ∙ ap (λ (n : ℕ). with_changed (with_end (n + 1)) versions (length versions - 1)) g.place_is ∙ end-grown (length old.entries) versions g.some g.tiled

  runs-are : AreRunsOfPackages news new.entries
  runs-are = subst (λ (ks : List PackageView). AreRunsOfPackages ks new.entries) (sym packages-are)
      (subst (λ (es : List PlanEntry). AreRunsOfPackages (with_changed (with_one_run run) packages member) es) (sym entries-are) (runs-grown run slot member packages old.entries g.within g.runs))

  count-is : length new.entries ≡ length old.entries + 1
  count-is = ap length entries-are ∙ length-append old.entries (next_entry slot member packages ∷ [])

  tiled-are : AreTiled 0 (map span_of later) (length new.entries)
  tiled-are = subst (λ (vs : List PlanVersion). AreTiled 0 (map span_of vs) (length new.entries)) (sym versions-are)
      (subst (λ (n : ℕ). AreTiled 0 (map span_of (with_changed with_one_place versions (length versions - 1))) n) (sym count-is) (tiled-grown (length old.entries) versions g.some g.tiled))

  plan-is : (call : CallView) → record { call = call; packages = news; versions = later; entries = new.entries } ≡ with_run slot member run (record { call = call; packages = packages; versions = versions; entries = old.entries })
  plan-is call = λ i. record { call = call; packages = packages-are i; versions = versions-are i; entries = entries-are i }

parts-are : (c : After-end_last) → AreGrown c.args.slot c.args.member c.len-place.result c.in_ok-rank.rank (added_run c.args.run) (map plan_package_view c.self.inside.packages.items) (map plan_package_view c.reserve_run.new.packages.items) (map plan_package_view c.add_run.new.packages.items)
    c.self.inside.versions.items c.end_last.new.versions.items c.self.inside.places c.add.new.self
parts-are c = record {
  some = subst (λ (p : PlanView). 0 < length p.versions) (sym c.self.view_is) c.requires.version;
  within = subst (λ (p : PlanView). c.args.member < length p.packages) (sym c.self.view_is) c.requires.member;
  runs = c.self.invariant.0;
  tiled = c.self.invariant.1;
  place_is = c.len-place.ensures.value;
  mid_is = c.reserve_run.ensures.same;
  news_are = c.add_run.ensures;
  later_are = c.end_last.ensures;
  new_is = c.in_ok-add.ensures.ok;
  rank_is = c.in_ok-rank.ensures.rank;
}

is-grown : (c : After-end_last)
    → record { call = call_view c.self.inside.words; packages = map plan_package_view c.add_run.new.packages.items; versions = c.end_last.new.versions.items; entries = c.add.new.self.entries } ≡ with_run c.args.slot c.args.member (added_run c.args.run) c.args.self.now
is-grown c =
    plan-is c.args.slot c.args.member c.len-place.result c.in_ok-rank.rank (added_run c.args.run) _ _ _ c.self.inside.versions.items c.end_last.new.versions.items c.self.inside.places c.add.new.self (parts-are c) (call_view c.self.inside.words)
    ∙ ap (with_run c.args.slot c.args.member (added_run c.args.run)) c.self.view_is

pub invariant_of-self-2 : goal.invariant_of-self-2
invariant_of-self-2 c = (
  runs-are c.args.slot c.args.member c.len-place.result c.in_ok-rank.rank (added_run c.args.run) _ _ _ c.self.inside.versions.items c.end_last.new.versions.items c.self.inside.places c.add.new.self (parts-are c),
  tiled-are c.args.slot c.args.member c.len-place.result c.in_ok-rank.rank (added_run c.args.run) _ _ _ c.self.inside.versions.items c.end_last.new.versions.items c.self.inside.places c.add.new.self (parts-are c),
)

pub returns-clause-ok : goal.returns-clause-ok
returns-clause-ok c = is-grown c

pub returns-clause-grown : goal.returns-clause-grown
returns-clause-grown c = subst (λ (p : PlanView). IsGrown c.args.self.now p) (sym (is-grown c)) (grown_by_run c.args.slot c.args.member (added_run c.args.run) c.args.self.now)
