use Rattle.std.proofs.Common.{◌≡◌, ◌∙◌, ◌++◌, ◌∷◌, [], subst, sym, ap, map, replicate, true, List, Bool}
use Rattle.hack_samples.specs.Sets.{tables_of, rows_of}
use Rattle.hack_samples.specs.Samples as samples
use Rattle.hack_features.specs.View.{choice_of, size_of}
use Rattle.hack_features.specs.Samples.{IsSample, CoversPatterns, IsLean, positions_of}
use Rattle.hack_features.specs.InternalSamples.{all_providers}
use Rattle.hack_features.proofs.SampleLemmas.{sample_of, covers_of, lean_of, may, required, providers}
use Rattle.hack_features.proofs.rules.Rules.sample.Goals as goal

pub returns-clause-sample : goal.returns-clause-sample
returns-clause-sample c =
    let r = c.args.self.now in
    let rows : List (List Bool) = rows_of c.in_ok-sets.sets.items in
    let groups : rows_of c.as_slice-2.result.now ≡ required r =
    ap rows_of c.as_slice-2.ensures.value ∙ c.in_ok-required.ensures
    ∙ ap (λ l. map positions_of (rows_of l) ++ positions_of (replicate c.size.result true) ∷ []) c.serves.ensures
    ∙ ap (λ n. map positions_of (rows_of r.tables.serves.items) ++ positions_of (replicate n true) ∷ []) c.size.ensures in
    let h = subst (λ q. samples.IsMaskSample (may r) (size_of r) q rows) groups c.in_ok-sets.ensures.sample in
    subst (IsSample (choice_of r) (size_of r)) (sym (c.in_ok-sets_from.ensures ∙ ap (λ l. map positions_of (rows_of l)) c.as_slice-3.ensures.value)) (sample_of r rows h)

pub returns-clause-covers : goal.returns-clause-covers
returns-clause-covers c =
    let r = c.args.self.now in
    let rows : List (List Bool) = rows_of c.in_ok-sets.sets.items in
    let groups : rows_of c.as_slice-2.result.now ≡ required r =
    ap rows_of c.as_slice-2.ensures.value ∙ c.in_ok-required.ensures
    ∙ ap (λ l. map positions_of (rows_of l) ++ positions_of (replicate c.size.result true) ∷ []) c.serves.ensures
    ∙ ap (λ n. map positions_of (rows_of r.tables.serves.items) ++ positions_of (replicate n true) ∷ []) c.size.ensures in
    let names : tables_of c.as_slice.result.now ≡ providers r =
    ap tables_of c.as_slice.ensures.value ∙ c.in_ok-providers.ensures
    ∙ ap (λ e. all_providers (rows_of e.routes.marks.items) (rows_of e.candidates.items)) c.enabled.ensures in
    let h = subst (λ q. samples.IsMaskSample (may r) (size_of r) q rows) groups c.in_ok-sets.ensures.sample in
    let k = subst (λ q. samples.ShowEachPattern (may r) (size_of r) q (providers r) c.args.strength rows) groups
    (subst (λ q. samples.ShowEachPattern (may r) (size_of r) (rows_of c.as_slice-2.result.now) q c.args.strength rows) names c.in_ok-sets.ensures.covers) in
    subst (CoversPatterns (choice_of r) (size_of r) c.args.strength) (sym (c.in_ok-sets_from.ensures ∙ ap (λ l. map positions_of (rows_of l)) c.as_slice-3.ensures.value)) (covers_of r c.args.strength rows h k)

pub returns-clause-lean : goal.returns-clause-lean
returns-clause-lean c =
    let r = c.args.self.now in
    let rows : List (List Bool) = rows_of c.in_ok-sets.sets.items in
    let groups : rows_of c.as_slice-2.result.now ≡ required r =
    ap rows_of c.as_slice-2.ensures.value ∙ c.in_ok-required.ensures
    ∙ ap (λ l. map positions_of (rows_of l) ++ positions_of (replicate c.size.result true) ∷ []) c.serves.ensures
    ∙ ap (λ n. map positions_of (rows_of r.tables.serves.items) ++ positions_of (replicate n true) ∷ []) c.size.ensures in
    let names : tables_of c.as_slice.result.now ≡ providers r =
    ap tables_of c.as_slice.ensures.value ∙ c.in_ok-providers.ensures
    ∙ ap (λ e. all_providers (rows_of e.routes.marks.items) (rows_of e.candidates.items)) c.enabled.ensures in
    let h = subst (λ q. samples.IsMaskSample (may r) (size_of r) q rows) groups c.in_ok-sets.ensures.sample in
    let k = subst (λ q. samples.IsLean q c.args.strength rows) names c.in_ok-sets.ensures.lean in
    subst (IsLean (choice_of r) c.args.strength) (sym (c.in_ok-sets_from.ensures ∙ ap (λ l. map positions_of (rows_of l)) c.as_slice-3.ensures.value)) (lean_of r c.args.strength rows h k)
