use Rattle.std.proofs.Common.{◌≡◌, ◌++◌, ◌∷◌, [], ◌<◌, ◌≤◌, not, ◌∙◌, ap, subst, cond, length, map, get_or, List, ℕ, Bor, String, Global}
use Rattle.std.specs.List.{filter}
use Rattle.std.proofs.lemmas.List.{take_all}
use Rattle.hack_base.specs.Names.{Name, names_of}
use Rattle.hack_base.specs.Notes.{note_of}
use Rattle.hack_load.specs.ContextView.{context_view}
use Rattle.hack_load.specs.GivenFeatures.{knows, left_out, name_or_empty_at}
use Rattle.hack_load.proofs.GivenLemmas.{known-more, unknown-more}
use Rattle.hack_load.proofs.process.known_features.Goals as goal

pub loop-name-preserved : goal.loop-name-preserved
loop-name-preserved c =
    let cx = context_view c.args.cx.now in
    let id = c.args.id.index in
    let items = c.args.cx.now.args.features.items in
    let i = c.loop-name.name-index in
    let x = c.name-item.result in
    let at : c.deref-name-items.result.now ≡ items = c.deref-name-items.ensures.value ∙ ap (λ a. a.features.items) c.args-2.ensures in
    let lt : i < length items = subst (λ (xs : List (String Global)). i < length xs) at c.loop-name-test.true in
    let is : x ≡ get_or items i x = subst (λ (xs : List (String Global)). x ≡ get_or xs i x) at c.name-item.is in
    let old = map (λ (word : Bor (List ℕ)). word.now) c.loop-name.names.items in
    let new = map (λ (word : Bor (List ℕ)). word.now) c.sort.new.names.items in
    let notes = map note_of c.loop-name.notices.items in
    let more = map note_of c.sort.new.notices.items in (
      known-more (knows cx id) items i x lt is old new (subst (λ (t : Name). new ≡ old ++ cond (knows cx id t) (t ∷ []) []) c.as_str.ensures.value c.in_ok-sort.ensures.known) c.loop-name.invariant.0,
      unknown-more (knows cx id) items i x lt is (left_out (name_or_empty_at cx id)) notes more (subst (λ (t : Name). more ≡ notes ++ cond (knows cx id t) [] (left_out (name_or_empty_at cx id) t ∷ [])) c.as_str.ensures.value c.in_ok-sort.ensures.unknown) c.loop-name.invariant.1,
    )

pub returns-clause-names : goal.returns-clause-names
returns-clause-names c =
    let cx = context_view c.args.cx.now in
    let id = c.args.id.index in
    let items = c.args.cx.now.args.features.items in
    let i = c.loop-name.name-index in
    let at : c.deref-name-items.result.now ≡ items = c.deref-name-items.ensures.value ∙ ap (λ a. a.features.items) c.args-2.ensures in
    let le : length items ≤ i = subst (λ (xs : List (String Global)). length xs ≤ i) at c.loop-name-test.false in
    c.loop-name.invariant.0 ∙ ap (λ (xs : List (String Global)). filter (knows cx id) (names_of xs)) (take_all i items le)

pub returns-clause-notices : goal.returns-clause-notices
returns-clause-notices c =
    let cx = context_view c.args.cx.now in
    let id = c.args.id.index in
    let items = c.args.cx.now.args.features.items in
    let i = c.loop-name.name-index in
    let at : c.deref-name-items.result.now ≡ items = c.deref-name-items.ensures.value ∙ ap (λ a. a.features.items) c.args-2.ensures in
    let le : length items ≤ i = subst (λ (xs : List (String Global)). length xs ≤ i) at c.loop-name-test.false in
    c.loop-name.invariant.1 ∙ ap (λ (xs : List (String Global)). map (left_out (name_or_empty_at cx id)) (filter (λ f. not (knows cx id f)) (names_of xs))) (take_all i items le)
