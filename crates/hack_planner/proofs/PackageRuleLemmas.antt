-- What the rules of a call's packages have in common, and that a chosen package's runs are theirs.
use Rattle.std.proofs.Common.{◌≡◌, ◌∙◌, refl, sym, subst, ℕ, Some, Bool, true, false, Ok, Err, Option, None, Global, String, option_map, if◌then◌else◌}
use Rattle.std.specs.Prelude.{Vec}
use Rattle.hack_base.specs.Names.{names_of}
use Rattle.hack_load.specs.Contexts.{ContextRecord, package_at, features_at}
use Rattle.hack_load.specs.declared.features.Features.{Features}
use Rattle.hack_base.specs.FieldReadings.{FieldReading}
use Rattle.hack_metadata.specs.Records.{PackageRecord, RulesRecord}
use Rattle.hack_plan.specs.View.{PackageView}
use Rattle.hack_planner.specs.Calls.{IsChosenPackage, rules_at}
use Rattle.hack_planner.specs.Kinds.{AreRuns}
use Rattle.hack_planner.specs.PackageRules.{PackageRulesRecord, call_rules}
use Rattle.hack_planner.specs.RulesFor.{and_own, and_workspace, with_groups, with_known_groups, with_names}

same_some : {X : Type 0} (a b : X) → Some a ≡ Some b → a ≡ b
same_some a b e = cc

-- each package's sets are those of a powerset where the call asks for it
pub powerset-asked : (cx : ContextRecord) (p : PackageRecord) (f : Features) → (rules_at cx p f).feature_powerset ≡ cx.args.feature_powerset
powerset-asked cx p f = kept-by cx.args.package_rules
  where
    table-keeps : (t : RulesRecord) (r : PackageRulesRecord) (b : Bool) → (if b then with_groups t (with_names t r) else with_names t r).feature_powerset ≡ r.feature_powerset
    table-keeps t r true = refl
    table-keeps t r false = refl

    own-keeps : (t : FieldReading RulesRecord) (r : PackageRulesRecord) → (and_own t r).feature_powerset ≡ r.feature_powerset
    own-keeps (Ok t) r = table-keeps t r r.feature_powerset
    own-keeps (Err field) r = refl

    workspace-keeps : (t : FieldReading RulesRecord) (r : PackageRulesRecord) → (and_workspace f t r).feature_powerset ≡ r.feature_powerset
    workspace-keeps (Ok t) r = table-keeps (with_known_groups f t) r r.feature_powerset
    workspace-keeps (Err field) r = refl

    kept-by : (b : Bool) → (if b then and_workspace f cx.metadata.rules (and_own p.rules (call_rules cx.args p.name)) else call_rules cx.args p.name).feature_powerset ≡ cx.args.feature_powerset
    kept-by true = workspace-keeps cx.metadata.rules (and_own p.rules (call_rules cx.args p.name)) ∙ own-keeps p.rules (call_rules cx.args p.name)
    kept-by false = refl

-- what is said of the package and the features at a place holds of those that are known there
pub at-place : (cx : ContextRecord) (id : ℕ) (R : PackageRecord → Features → Type 0) (a p : PackageRecord) (b f : Features) → package_at cx id ≡ Some a → features_at cx id ≡ Some b → package_at cx id ≡ Some p → features_at cx id ≡ Some f → R a b → R p f
at-place cx id R a p b f known loaded also beside h =
    subst (λ q. R q f) (same_some a p (sym known ∙ also)) (subst (R a) (same_some b f (sym loaded ∙ beside)) h)

-- the runs of a chosen package that is used
pub runs-at : (cx : ContextRecord) (used : Type 0) (id : ℕ) (k : PackageView) (p : PackageRecord) (f : Features) → package_at cx id ≡ Some p → features_at cx id ≡ Some f → IsChosenPackage cx used id k → used → AreRuns (rules_at cx p f) p f k.runs
runs-at cx used id k p f known loaded m is = at-place cx id (λ q g. AreRuns (rules_at cx q g) q g k.runs) m.pkg p m.features f m.known m.loaded known loaded (m.runs is)

-- the names of a list in two steps
pub names-mapped : (o : Option (Vec (String Global) Global)) → option_map names_of (option_map (λ (v : Vec (String Global) Global). v.items) o) ≡ option_map (λ (v : Vec (String Global) Global). names_of v.items) o
names-mapped None = refl
names-mapped (Some v) = refl
