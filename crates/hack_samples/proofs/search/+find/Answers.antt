use Rattle.std.proofs.Common.{◌≡◌, ◌<◌, ◌+◌, ◌++◌, ◌∙◌, ◌∷◌, [], sym, ap, subst, List, Bool, ℕ, length, take, replicate, false, arith, MatchOption}
use Rattle.std.specs.Prelude.{◌&&◌}
use Rattle.std.proofs.lemmas.List.{take_all, map_more, length-map}
use Rattle.std.proofs.lemmas.List.Elements.{All-nil}
use Rattle.hack_samples.specs.Sets.{has_one_of, has_each, is_on, rows_of, tables_of}
use Rattle.hack_samples.specs.Internal.{IsClear, Meets, NoneShows}
use Rattle.hack_samples.specs.Samples.{Shows}
use Rattle.hack_samples.specs.declared.sets.Setting.{Setting}
use Rattle.hack_samples.proofs.SetLemmas.{inside-empty, both_turned}
use Rattle.hack_samples.proofs.MeetLemmas.{turned, some-turned, none-passed, none-here, no-items}
use Rattle.hack_samples.proofs.ShowLemmas.{row-at, on-some, on-none, off-some, off-tried, off-none}
use Rattle.hack_samples.proofs.search.+find.Goals as goal

pub returns-in_default-clause-finds : goal.returns-in_default-clause-finds
returns-in_default-clause-finds g t c =
    let providers : List (List (List ℕ)) = tables_of c.args.wanted.now.providers.now in
    let nil : c.args.left.now ≡ [] = no-items c.args.left.now (none-here _ _ c.split_first.result c.in_default.not-Some c.split_first.ensures.cases) in
    let empty : c.as_slice.result.now ≡ replicate c.positions.result false = c.as_slice.ensures.value ∙ c.in_ok-empty.ensures.items_if_clones_equal (λ y e. e) in
    turned _ _ _ _ c.meet.result c.meet.ensures.meets
    (λ none s meets shows. none s (inside-empty c.positions.result c.as_slice.result.now s empty (meets.suited.size ∙ sym c.positions.ensures)) meets)
    (λ v met. (met, subst (λ l. Shows providers l v.items) (sym nil) (All-nil (λ y. is_on providers v.items y.candidate ≡ y.on))))

pub returns-then-setting-clause-finds : goal.returns-then-setting-clause-finds
returns-then-setting-clause-finds g t c =
    let may : List Bool → Bool = g.A.Allowed.may c.args.allowed.now in
    let n : ℕ = g.A.Allowed.size c.args.allowed.now in
    let banned : List Bool = c.args.banned.now in
    let providers : List (List (List ℕ)) = tables_of c.args.wanted.now.providers.now in
    let groups : List (List ℕ) = rows_of c.args.groups.now in
    let x : Setting = c.in-Some.setting.now in
    let rest : List Setting = c.in-Some.rest.now in
    let is : c.args.left.now ≡ x ∷ rest = c.in-Some.ensures.cases.0 in
    let joined : List (List ℕ) = rows_of c.as_slice-then-setting.result.now in
    let eq : (s : List Bool) → has_each s joined ≡ (is_on providers s x.candidate && has_each s groups) =
    λ s. ap (λ l. has_each s (rows_of l)) c.as_slice-then-setting.ensures.value ∙ c.in_ok-more.ensures s ∙ ap (λ r. has_each s r && has_each s groups) c.rows_at-rows.ensures in
    turned _ _ _ _ c.find.result c.find.ensures.finds
    (λ none. subst (NoneShows may n groups banned providers) (sym is) (on-none may n providers x rest groups joined banned c.if-setting.true eq none))
    (λ v h. subst (λ l. Meets may n groups banned v.items × Shows providers l v.items) (sym is) (on-some may n providers x rest groups joined banned v.items c.if-setting.true (eq v.items) h))

pub returns-in_err-found-clause-within : goal.returns-in_err-found-clause-within
returns-in_err-found-clause-within g t c = λ k end old. c.find-in-loop-row.ensures.within k end (c.loop-row.invariant.within k end old)

pub returns-then-is_some-clause-within : goal.returns-then-is_some-clause-within
returns-then-is_some-clause-within g t c = λ k end old. c.find-in-loop-row.ensures.within k end (c.loop-row.invariant.within k end old)

pub returns-then-is_some-clause-finds : goal.returns-then-is_some-clause-finds
returns-then-is_some-clause-finds g t c =
    let may : List Bool → Bool = g.A.Allowed.may c.args.allowed.now in
    let n : ℕ = g.A.Allowed.size c.args.allowed.now in
    let banned : List Bool = c.args.banned.now in
    let providers : List (List (List ℕ)) = tables_of c.args.wanted.now.providers.now in
    let groups : List (List ℕ) = rows_of c.args.groups.now in
    let x : Setting = c.in-Some.setting.now in
    let rest : List Setting = c.in-Some.rest.now in
    let is : c.args.left.now ≡ x ∷ rest = c.in-Some.ensures.cases.0 in
    let rows = c.rows_at-rows.result.now in
    let i : ℕ = c.loop-row.row-index in
    let lt : i < length rows = omega (arith, c.loop-row-test.true) in
    let below : i < length (rows_of rows) = omega (arith, lt, length-map rows (λ v. v.items)) in
    let row : List ℕ = c.row-item.result.items in
    let more : List Bool = c.as_slice-in-loop-row-2.result.now in
    let clear : (s : List Bool) → length s ≡ n → IsClear more s → IsClear banned s × (has_one_of s row ≡ false) =
    λ s size h.
    let parts = (c.ban.ensures.clear s (size ∙ sym c.requires ∙ ap length (sym c.in_ok-more-2.ensures.items))).0 (subst (λ l. IsClear l s) c.as_slice-in-loop-row-2.ensures.value h) in
    (subst (λ l. IsClear l s) c.in_ok-more-2.ensures.items parts.0, ap (has_one_of s) (sym c.as_slice-in-loop-row.ensures.value) ∙ parts.1) in
    let found : MatchOption c.in_ok-found.found (NoneShows may n groups more providers rest) (λ v. Meets may n groups more v.items × Shows providers rest v.items) =
    both_turned (λ m k. MatchOption c.in_ok-found.found (NoneShows m k groups more providers rest) (λ v. Meets m k groups more v.items × Shows providers rest v.items))
    c.loop-row.invariant.same_may c.loop-row.invariant.same_size c.in_ok-found.ensures.finds in
    some-turned _ _ _ _ c.in_ok-found.found (sym c.is_some.ensures ∙ c.if-is_some.true) found
    (λ v h. subst (λ l. Meets may n groups banned v.items × Shows providers l v.items) (sym is)
    (off-some may n providers x rest groups (rows_of rows) row banned more v.items i c.if-setting.false below (row-at rows i c.row-item.result lt c.row-item.is)
    (ap (has_each v.items) (sym c.rows_at-rows.ensures)) (clear v.items h.0.suited.size) h))

pub loop-row-preserved : goal.loop-row-preserved
loop-row-preserved g t c =
    let may : List Bool → Bool = g.A.Allowed.may c.args.allowed.now in
    let n : ℕ = g.A.Allowed.size c.args.allowed.now in
    let banned : List Bool = c.args.banned.now in
    let providers : List (List (List ℕ)) = tables_of c.args.wanted.now.providers.now in
    let groups : List (List ℕ) = rows_of c.args.groups.now in
    let rest : List Setting = c.in-Some.rest.now in
    let rows = c.rows_at-rows.result.now in
    let i : ℕ = c.loop-row.row-index in
    let lt : i < length rows = omega (arith, c.loop-row-test.true) in
    let row : List ℕ = c.row-item.result.items in
    let more : List Bool = c.as_slice-in-loop-row-2.result.now in
    let inv = c.loop-row.invariant in
    let made = c.find-in-loop-row.ensures in
    let clear : (s : List Bool) → length s ≡ n → IsClear banned s × (has_one_of s row ≡ false) → IsClear more s =
    λ s size h. subst (λ l. IsClear l s) (sym c.as_slice-in-loop-row-2.ensures.value)
    ((c.ban.ensures.clear s (size ∙ sym c.requires ∙ ap length (sym c.in_ok-more-2.ensures.items))).1
    (subst (λ l. IsClear l s) (sym c.in_ok-more-2.ensures.items) h.0, ap (has_one_of s) c.as_slice-in-loop-row.ensures.value ∙ h.1)) in
    let found : MatchOption c.in_ok-found.found (NoneShows may n groups more providers rest) (λ v. Meets may n groups more v.items × Shows providers rest v.items) =
    both_turned (λ m k. MatchOption c.in_ok-found.found (NoneShows m k groups more providers rest) (λ v. Meets m k groups more v.items × Shows providers rest v.items))
    inv.same_may inv.same_size c.in_ok-found.ensures.finds in
    let none : NoneShows may n groups more providers rest = none-passed _ _ _ (sym c.is_some.ensures ∙ c.if-is_some.false) found in
    record {
      tried = λ s meets shows.
          off-tried may n providers rest groups (rows_of (take i rows)) (rows_of (take (i + 1) rows)) row banned more s
          (map_more (λ v. v.items) rows i c.row-item.result lt ∙ ap (λ v. rows_of (take i rows) ++ v.items ∷ []) (sym c.row-item.is))
          (clear s meets.suited.size) none meets shows (inv.tried s meets shows);
      within = λ k end old. made.within k end (inv.within k end old);
      same_size = made.same_size ∙ inv.same_size;
      same_may = made.same_may ∙ inv.same_may;
      stays = λ first old. made.stays first (inv.stays first old);
    }

pub returns-clause-finds : goal.returns-clause-finds
returns-clause-finds g t c =
    let may : List Bool → Bool = g.A.Allowed.may c.args.allowed.now in
    let n : ℕ = g.A.Allowed.size c.args.allowed.now in
    let banned : List Bool = c.args.banned.now in
    let providers : List (List (List ℕ)) = tables_of c.args.wanted.now.providers.now in
    let groups : List (List ℕ) = rows_of c.args.groups.now in
    let x : Setting = c.in-Some.setting.now in
    let rest : List Setting = c.in-Some.rest.now in
    let is : c.args.left.now ≡ x ∷ rest = c.in-Some.ensures.cases.0 in
    let rows = c.rows_at-rows.result.now in
    let all : take c.loop-row.row-index rows ≡ rows = take_all c.loop-row.row-index rows (omega (arith, c.loop-row-test.false)) in
    subst (NoneShows may n groups banned providers) (sym is)
    (off-none may n providers x rest groups banned c.if-setting.false
    (λ s meets shows. ap (has_each s) (sym c.rows_at-rows.ensures ∙ ap rows_of (sym all)) ∙ c.loop-row.invariant.tried s meets shows))
