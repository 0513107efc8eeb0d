-- The candidates of a package, put together.
use Rattle.std.proofs.Common.{◌≡◌, ◌∙◌, List, [], ◌∷◌, refl, length, ◌++◌, true, sym, ap, subst, append_assoc, if◌then◌else◌}
use Rattle.std.specs.Prelude.{filter, ◌&&◌, ◌==◌}
use Rattle.hack_features.specs.Feature.{groups_of}
use Rattle.hack_features.specs.Rules.{unlifted_groups}
use Rattle.hack_load.specs.declared.features.Features.{Features}
use Rattle.hack_planner.specs.PackageRules.{PackageRulesRecord}
use Rattle.hack_base.specs.Names.{Name}
use Rattle.hack_planner.specs.Candidates.{stays, is_asked, applies, candidates}

-- if no features to include are named, the candidates are these four lists, one after another
pub four-lists : (w : PackageRulesRecord) (f : Features) (a o d g all : List (List Name)) → (length w.include_features == 0) ≡ true → a ≡ filter (stays w) (groups_of f.normal.items) → o ≡ filter (λ names. is_asked w names && stays w names) (groups_of f.optional_deps.items)
    → d ≡ filter (λ names. w.include_deps_features && stays w names) (groups_of f.deps_features.items) → g ≡ filter (applies w f) w.group_features → all ≡ ((a ++ o) ++ d) ++ g → all ≡ candidates w f
four-lists w f a o d g all bare ea eo ed eg e =
    let whole : List (List Name) = filter (stays w) (groups_of f.normal.items) ++ (filter (λ names. is_asked w names && stays w names) (groups_of f.optional_deps.items) ++ (filter (λ names. w.include_deps_features && stays w names) (groups_of f.deps_features.items) ++ filter (applies w f) w.group_features)) in
    let joined : all ≡ whole =
    e ∙ append_assoc (a ++ o) d g ∙ append_assoc a o (d ++ g)
    ∙ ap (λ t. t ++ (o ++ (d ++ g))) ea
    ∙ ap (λ t. filter (stays w) (groups_of f.normal.items) ++ (t ++ (d ++ g))) eo
    ∙ ap (λ t. filter (stays w) (groups_of f.normal.items) ++ (filter (λ names. is_asked w names && stays w names) (groups_of f.optional_deps.items) ++ (t ++ g))) ed
    ∙ ap (λ t. filter (stays w) (groups_of f.normal.items) ++ (filter (λ names. is_asked w names && stays w names) (groups_of f.optional_deps.items) ++ (filter (λ names. w.include_deps_features && stays w names) (groups_of f.deps_features.items) ++ t))) eg in
    subst (λ b. all ≡ (if b then whole else filter (stays w) w.include_features)) (sym bare) joined

-- where no group is lifted, all of them hold
pub none-lifted : (groups : List (List Name)) → unlifted_groups groups [] ≡ groups
none-lifted [] = refl
none-lifted (group ∷ groups) = ap (λ rest. group ∷ rest) (none-lifted groups)
