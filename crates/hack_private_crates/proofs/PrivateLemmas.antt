-- Steps of the loops over members and pieces.
use Rattle.std.proofs.Common.{◌≡◌, ℕ, ◌+◌, ◌<◌, String, Global, string_bytes, Option, List, [], ◌∷◌, ◌++◌, length, map, drop, get_or, Bool, true, false, not, cond, refl, sym, ap, subst, ◌∙◌, arith, append-nil}
use Rattle.std.specs.Prelude.{◌||◌, filter, fold}
use Rattle.std.specs.Borrow.{Bor}
use Rattle.std.specs.List.{list_any}
use Rattle.std.proofs.lemmas.List.{drop_more}
use Rattle.hack_base.specs.PathTexts.{parent_of}
use Rattle.hack_base.specs.Names.{names_behind}
use Rattle.toml.specs.Data.{Data, string, integer, float, boolean, datetime, table, array, Items, Members, get_member}
use Rattle.toml.specs.View.{view, items_of, items_view}
use Rattle.toml.specs.declared.value.Value.{Value, String as StringValue}
use Rattle.toml.proofs.Views.{view-String}
use Rattle.hack_manifest.specs.Manifest.{list_of_items}
use Rattle.hack_edits.specs.Tables.{with_member, remove_member}
use Rattle.hack_edits.specs.Lookup.{items_in}
use Rattle.hack_private_crates.specs.Members.{leads, item_led, unled_by, members_left}
use Rattle.hack_manifest.specs.LineRuns.{has_some}
use Rattle.hack_private_crates.specs.WorkspaceTree.{with_exclude}
use Rattle.hack_edits.specs.KeyPaths.{exclude_key}
use Rattle.hack_edits.proofs.ItemLemmas.{values-push, list_of-push}

-- the items from one on
items_from : (xs : List Value) (i : ℕ) (x : Value) → i < length xs → x ≡ get_or xs i x → list_of_items (items_view (drop i xs)) ≡ view x ∷ list_of_items (items_view (drop (i + 1) xs))
items_from xs i x h is = ap (λ ys. list_of_items (items_view ys)) (drop_more xs i x h) ∙ ap (λ y. view y ∷ list_of_items (items_view (drop (i + 1) xs))) (sym is)

or_assoc : (a b c : Bool) → ((a || b) || c) ≡ (a || (b || c))
or_assoc true b c = refl
or_assoc false b c = refl

filter-go : (p : List ℕ → Bool) (x : List ℕ) (ps : List (List ℕ)) (b : Bool) → (b || list_any p ps) ≡ false → (list_any p ps ≡ false → filter (λ y. not (p y)) ps ≡ ps)
    → cond (not b) (x ∷ filter (λ y. not (p y)) ps) (filter (λ y. not (p y)) ps) ≡ x ∷ ps
filter-go p x ps true h rest = absurd (cc)
filter-go p x ps false h rest = ap (λ t. x ∷ t) (rest h)

filter-none : (p : List ℕ → Bool) (ps : List (List ℕ)) → list_any p ps ≡ false → filter (λ x. not (p x)) ps ≡ ps
filter-none p [] h = refl
filter-none p (x ∷ ps) h = filter-go p x ps (p x) h (λ e. filter-none p ps e)

-- an item that leads to no path leaves all
unled-none : (root : List ℕ) (ps : List (List ℕ)) (d : Data) → item_led root ps d ≡ false → unled_by root ps d ≡ ps
unled-none root ps (string m) h = filter-none (leads root m) ps h
unled-none root ps (integer z) h = refl
unled-none root ps (float x) h = refl
unled-none root ps (boolean b) h = refl
unled-none root ps (datetime t) h = refl
unled-none root ps (array ds) h = refl
unled-none root ps (table ms) h = refl

-- behind an item that leads to some path it doesn't matter which are left
either : (root : List ℕ) (ps : List (List ℕ)) (d : Data) (ds : List Data) (b : Bool) → item_led root ps d ≡ b
    → (b || list_any (item_led root (unled_by root ps d)) ds) ≡ (b || list_any (item_led root ps) ds)
either root ps d ds true is = refl
either root ps d ds false is = ap (λ qs. list_any (item_led root qs) ds) (unled-none root ps d is)

pub some-more : (root : List ℕ) (ps qs : List (List ℕ)) (xs : List Value) (i : ℕ) (x : Value) (some led whole : Bool) → i < length xs → x ≡ get_or xs i x
    → led ≡ item_led root ps (view x) → qs ≡ unled_by root ps (view x)
    → (some || list_any (item_led root ps) (list_of_items (items_view (drop i xs)))) ≡ whole
    → ((some || led) || list_any (item_led root qs) (list_of_items (items_view (drop (i + 1) xs)))) ≡ whole
some-more root ps qs xs i x some led whole h is led-is left-is so_far =
    let P : List Data → Type 0 = λ ds. (some || list_any (item_led root ps) ds) ≡ whole in
    let rest = list_of_items (items_view (drop (i + 1) xs)) in
    or_assoc some led _ ∙ ap (λ b. some || (b || list_any (item_led root qs) rest)) led-is
    ∙ ap (λ ys. some || (item_led root ps (view x) || list_any (item_led root ys) rest)) left-is
    ∙ ap (λ b. some || b) (either root ps (view x) rest (item_led root ps (view x)) refl) ∙ subst P (items_from xs i x h is) so_far

pub paths-more : (root : List ℕ) (ps qs whole : List (List ℕ)) (xs : List Value) (i : ℕ) (x : Value) → i < length xs → x ≡ get_or xs i x
    → qs ≡ unled_by root ps (view x)
    → fold (unled_by root) ps (list_of_items (items_view (drop i xs))) ≡ whole → fold (unled_by root) qs (list_of_items (items_view (drop (i + 1) xs))) ≡ whole
paths-more root ps qs whole xs i x h is left-is so_far =
    let P : List Data → Type 0 = λ ds. fold (unled_by root) ps ds ≡ whole in
    rw left-is (subst P (items_from xs i x h is) so_far)

-- one more member that stays
pub members-kept : (root : List ℕ) (ps qs : List (List ℕ)) (kept rest : List Value) (v : Value) (more : List Value) (whole : List Data) → rest ≡ v ∷ more
    → item_led root ps (view v) ≡ false → qs ≡ unled_by root ps (view v)
    → map view kept ++ members_left root ps (map view rest) ≡ whole
    → map view (kept ++ v ∷ []) ++ members_left root qs (map view more) ≡ whole
members-kept root ps qs kept rest v more whole is stays left-is so_far =
    let P : List Value → Type 0 = λ r. map view kept ++ members_left root ps (map view r) ≡ whole in
    let here : map view kept ++ members_left root ps (map view (v ∷ more)) ≡ whole = subst P is so_far in
    values-push kept v (members_left root qs (map view more)) ∙ rw left-is (rw stays at here)

pub members-end : (root : List ℕ) (ps : List (List ℕ)) (kept rest : List Value) (whole : List Data) → length rest ≡ 0
    → map view kept ++ members_left root ps (map view rest) ≡ whole → items_view kept ≡ items_of whole
members-end root ps kept [] whole none so_far = ap items_of (sym (append-nil (map view kept)) ∙ so_far)
members-end root ps kept (v ∷ rest) whole none so_far = absurd (omega (arith, none))

-- one more folder after the items
pub folders-more : (xs : List (Bor (List ℕ))) (i : ℕ) (d : Bor (List ℕ)) (folder : String Global) (all : List Value) (whole : List Data) → i < length xs
    → string_bytes folder ≡ parent_of (get_or xs i d).now
    → list_of_items (items_view all) ++ map string (map parent_of (names_behind (drop i xs))) ≡ whole
    → list_of_items (items_view (all ++ StringValue folder ∷ [])) ++ map string (map parent_of (names_behind (drop (i + 1) xs))) ≡ whole
folders-more xs i d folder all whole h is so_far =
    let P : List (Bor (List ℕ)) → Type 0 = λ ys. list_of_items (items_view all) ++ map string (map parent_of (names_behind ys)) ≡ whole in
    let here = subst P (drop_more xs i d h) so_far in
    list_of-push all (StringValue folder) _ ∙ rw (view-String folder, is) here

-- folders were put at `exclude`
pub excluded : (ts : List (List ℕ)) (ws rest new : Members) (key : List ℕ) (d : Data) (items : Items) (o : Option Data) → has_some ts ≡ true
    → new ≡ with_member key d rest → key ≡ exclude_key → d ≡ array items → items ≡ items_of (items_in o ++ map string ts)
    → o ≡ get_member exclude_key ws → rest ≡ remove_member exclude_key ws → new ≡ with_exclude ts ws
excluded [] ws rest new key d items o some is key-is d-is items-is o-is rest-is = absurd (cc)
excluded (t ∷ ts) ws rest new key d items o some is key-is d-is items-is o-is rest-is =
    is ∙ rw (key-is, d-is, items-is, o-is, rest-is) refl
