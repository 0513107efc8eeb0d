-- Tables of what each key enables, and of the keys that serve a group.
use Rattle.std.proofs.Common.{◌≡◌, ℕ, suc, ◌+◌, ◌<◌, List, arith, [], ◌∷◌, ◌++◌, refl, sym, ◌∙◌, ap, subst, Option, Some, None, IsSome, IfSome, Bool, true, false, cond, IsTrue, ◌⊎◌, inl, inr, ◌↔◌, Contains, ◌||◌, length, get_or, take}
use Rattle.std.specs.List.{All, list_any}
use Rattle.std.specs.Option.{is_some}
use Rattle.std.specs.Map.{lookup}
use Rattle.std.specs.BTreeMap.{BTreeMap, is_at}
use Rattle.std.specs.Str.{bytes_eq}
use Rattle.std.specs.Borrow.{Bor}
use Rattle.std.specs.Cmp.Lexicographic.{slice_cmp}
use Rattle.std.specs.Ordering.{nat_cmp, is_eq}
use Rattle.std.proofs.lemmas.Slice.Eq.{bytes_eq-Decides}
use Rattle.std.proofs.lemmas.Map.Text.{is_eq-slice_cmp}
use Rattle.std.proofs.lemmas.List.{take_more, get_or-map, length-map}
use Rattle.hack_base.proofs.Members.{Contains-nil}
use Rattle.hack_base.proofs.NameLemmas.{same_text, differ}
use Rattle.hack_routes.proofs.NameSetLemmas.{has-more, has_just-nil}
use Rattle.hack_base.specs.Names.{Name}
use Rattle.hack_routes.specs.FeatureMap.{FeatureMap, Enables, here}
use Rattle.hack_features.specs.Deps.{IsDepsOf, AreDepsOf, AreServers, ServeGroups, dropped, kept}
use Rattle.hack_routes.specs.NameSets.{NameSet, has_name, get_at}
use Rattle.hack_features.specs.InternalDeps.{IsServedBy}
use Rattle.hack_features.specs.Feature.{group_of, groups_of}
use Rattle.hack_features.specs.declared.feature.Feature.{Feature}

-- ---- the keys that serve a group

-- the keys found so far, when these entries are left
pub record Serving (group : List Name) (deps : BTreeMap (Bor Name) NameSet) (keys : NameSet) (left : List (Bor Name × NameSet)) : Type 0 where
  pub there : All (λ e. get_at deps e.0.now ≡ Some e.1) left
  pub sound : (x : Name) → IsTrue (has_name keys x) → (s : NameSet) × (get_at deps x ≡ Some s) × IsServedBy group x s
  pub whole : (x : Name) (s : NameSet) → get_at deps x ≡ Some s → IsServedBy group x s → IsTrue (has_name keys x) ⊎ (lookup (is_at (λ (k : Bor Name). slice_cmp nat_cmp x k.now)) left ≡ Some s)

pub serving-start : (group : List Name) (deps : BTreeMap (Bor Name) NameSet) (keys : NameSet) → keys.keys ≡ [] → All (λ e. get_at deps e.0.now ≡ Some e.1) deps.entries → Serving group deps keys deps.entries
serving-start group deps keys e found = record {
  there = found;
  sound = λ x h. absurd (Contains-nil x ((has_just-nil keys e x).0 h));
  whole = λ x s g w. inr g;
}

entries-tail : (deps : BTreeMap (Bor Name) NameSet) (e : Bor Name × NameSet) (left : List (Bor Name × NameSet)) → All (λ e. get_at deps e.0.now ≡ Some e.1) (e ∷ left) → All (λ e. get_at deps e.0.now ≡ Some e.1) left
entries-tail deps e left h = λ k d lt. h (suc k) d (omega arith)

-- the entry that a look-up finds first
first-cases : (x : Name) (e : Bor Name × NameSet) (left : List (Bor Name × NameSet)) (s : NameSet) (b : Bool) → is_eq (slice_cmp nat_cmp x e.0.now) ≡ b → cond b (Some e.1) (lookup (is_at (λ (k : Bor Name). slice_cmp nat_cmp x k.now)) left) ≡ Some s
    → ((x ≡ e.0.now) × (e.1 ≡ s)) ⊎ (lookup (is_at (λ (k : Bor Name). slice_cmp nat_cmp x k.now)) left ≡ Some s)
first-cases x e left s true t h = inl (same_text x e.0.now (sym (is_eq-slice_cmp x e.0.now) ∙ t), let z : Some e.1 ≡ Some s = h in cc)
first-cases x e left s false t h = inr h

pub serving-kept : (group : List Name) (deps : BTreeMap (Bor Name) NameSet) (old new : NameSet) (e : Bor Name × NameSet) (left : List (Bor Name × NameSet)) → Serving group deps old (e ∷ left) → IsServedBy group e.0.now e.1
    → ((y : Name) → has_name new y ≡ cond (is_eq (slice_cmp nat_cmp e.0.now y)) true (has_name old y)) → Serving group deps new left
serving-kept group deps old new e left h served is =
    let m : (y : Name) → IsTrue (has_name new y) ↔ (IsTrue (has_name old y) ⊎ (e.0.now ≡ y)) = λ y. has-more e.0.now y old new (is y) in
    record {
      there = entries-tail deps e left h.there;
      sound = λ x k. elim ((m x).0 k) [
        | inl w ↦ h.sound x w
        | inr s ↦ (e.1, subst (λ n. get_at deps n ≡ Some e.1) s (h.there 0 e (omega arith)), subst (λ n. IsServedBy group n e.1) s served)
      ];
      whole = λ x s g w. elim (h.whole x s g w) [
        | inl k ↦ inl ((m x).1 (inl k))
        | inr k ↦ elim (first-cases x e left s (is_eq (slice_cmp nat_cmp x e.0.now)) refl k) [ inl y ↦ inl ((m x).1 (inr (sym y.0))) | inr y ↦ inr y ]
      ];
    }

pub serving-left_out : (group : List Name) (deps : BTreeMap (Bor Name) NameSet) (keys : NameSet) (e : Bor Name × NameSet) (left : List (Bor Name × NameSet)) → Serving group deps keys (e ∷ left) → ¬ IsServedBy group e.0.now e.1 → Serving group deps keys left
serving-left_out group deps keys e left h apart = record {
  there = entries-tail deps e left h.there;
  sound = h.sound;
  whole = λ x s g w. elim (h.whole x s g w) [
    | inl k ↦ inl k
    | inr k ↦ elim (first-cases x e left s (is_eq (slice_cmp nat_cmp x e.0.now)) refl k) [
      | inl y ↦ absurd (apart (subst (λ n. IsServedBy group n e.1) y.0 (subst (λ t. IsServedBy group x t) (sym y.1) w)))
      | inr y ↦ inr y
    ]
  ];
}

-- what a table has at a key
if_some-at : (P : NameSet → Type 0) (o : Option NameSet) (s : NameSet) → o ≡ Some s → IfSome o P → P s
if_some-at P o s e h = let w : IfSome (Some s) P = subst (λ o. IfSome o P) e h in w

some-at : (o : Option NameSet) → IsSome o → (s : NameSet) × (o ≡ Some s)
some-at None h = absurd (let z : false ≡ true = h in cc)
some-at (Some s) h = (s, refl)

enables-served : (m : FeatureMap) (group : List Name) (x : Name) (s : NameSet) → IsDepsOf m x s → (w : IsServedBy group x s) → Enables m x w.name
enables-served m group x s d w = elim w.has [ inl e ↦ subst (λ n. Enables m x n) (sym e) here | inr k ↦ ((d w.name).0 k).1 ]

served-enables : (m : FeatureMap) (group : List Name) (x : Name) (s : NameSet) → IsDepsOf m x s → (n : Name) → Contains group n → Enables m x n → (b : Bool) → bytes_eq n x ≡ b → IsServedBy group x s
served-enables m group x s d n member c true t = record { name = n; member = member; has = inl (same_text n x t) }
served-enables m group x s d n member c false t = record { name = n; member = member; has = inr ((d n).1 (differ n x t, c)) }

-- once no entry is left, the keys are those that enable a name of the group
pub serving-end : (group : List Name) (deps : BTreeMap (Bor Name) NameSet) (keys : NameSet) (left : List (Bor Name × NameSet)) → Serving group deps keys left → left ≡ [] → (m : FeatureMap) → AreDepsOf m deps → AreServers m group keys
serving-end group deps keys left h e m are = λ x. (
  λ k. let w = h.sound x k in (
    (are.keys x).0 (ap is_some w.1),
    w.2.name,
    w.2.member,
    enables-served m group x w.0 (if_some-at (IsDepsOf m x) (get_at deps x) w.0 w.1 (are.each x)) w.2,
  ),
  λ k. let s = some-at (get_at deps x) ((are.keys x).1 k.0) in
      let d = if_some-at (IsDepsOf m x) (get_at deps x) s.0 s.1 (are.each x) in
      elim (h.whole x s.0 s.1 (served-enables m group x s.0 d k.1 k.2 k.3 (bytes_eq k.1 x) refl)) [
        | inl w ↦ w
        | inr w ↦ absurd (let z : None ≡ Some s.0 = sym (ap (lookup (is_at (λ (k : Bor Name). slice_cmp nat_cmp x k.now))) e) ∙ w in cc)
      ],
)

-- ---- the sets of keys of all groups

-- what ServeGroups says, for each map whose table this is
abbrev pub ServeSoFar : BTreeMap (Bor Name) NameSet → List (List Name) → List NameSet → Type 0
ServeSoFar deps groups sets = (m : FeatureMap) → AreDepsOf m deps → ServeGroups m groups sets

has-first : (s : NameSet) (k : Bor Name) (ks : List (Bor Name)) → s.keys ≡ k ∷ ks → IsTrue (has_name s k.now)
has-first s k ks e =
    ap (list_any (λ (b : Bor Name). is_eq (slice_cmp nat_cmp k.now b.now))) e
    ∙ ap (λ t. t || list_any (λ (b : Bor Name). is_eq (slice_cmp nat_cmp k.now b.now)) ks) (is_eq-slice_cmp k.now k.now ∙ (bytes_eq-Decides k.now k.now).1 refl)

has-one-step : (s : NameSet) (ks : List (Bor Name)) → s.keys ≡ ks → 0 < length ks → (x : Name) × IsTrue (has_name s x)
has-one-step s [] e h = absurd (omega arith)
has-one-step s (k ∷ ks) e h = (k.now, has-first s k ks e)

-- a set that is not empty has a name
has-one : (s : NameSet) → ¬ (length s.keys ≡ 0) → (x : Name) × IsTrue (has_name s x)
has-one s h = has-one-step s s.keys refl (omega arith)

pub serve-kept : (deps : BTreeMap (Bor Name) NameSet) (groups : List (List Name)) (group : List Name) (sets : List NameSet) (keys : NameSet) → ServeSoFar deps groups sets
    → ((m : FeatureMap) → AreDepsOf m deps → AreServers m group keys) → ¬ (length keys.keys ≡ 0) → ServeSoFar deps (groups ++ group ∷ []) (sets ++ keys ∷ [])
serve-kept deps groups group sets keys h are more = λ m d.
    let w = has-one keys more in
    kept group w.0 keys (h m d) ((are m d w.0).0 w.1) (are m d)

empty-nil : (ks : List (Bor Name)) → length ks ≡ 0 → ks ≡ []
empty-nil [] h = refl
empty-nil (k ∷ ks) h = absurd (omega arith)

pub serve-dropped : (deps : BTreeMap (Bor Name) NameSet) (groups : List (List Name)) (group : List Name) (sets : List NameSet) (keys : NameSet) → ServeSoFar deps groups sets
    → ((m : FeatureMap) → AreDepsOf m deps → AreServers m group keys) → length keys.keys ≡ 0 → ServeSoFar deps (groups ++ group ∷ []) sets
serve-dropped deps groups group sets keys h are e = λ m d.
    dropped group (h m d) (λ x w. Contains-nil x ((has_just-nil keys (empty-nil keys.keys e) x).0 ((are m d x).1 w)))

pub groups-more : (features : List Feature) (k : ℕ) (f : Feature) → k < length features → f ≡ get_or features k f → take (k + 1) (groups_of features) ≡ take k (groups_of features) ++ group_of f ∷ []
groups-more features k f h e =
    take_more (groups_of features) k (group_of f) (rw (length-map features group_of) h)
    ∙ ap (λ n. take k (groups_of features) ++ n ∷ []) (get_or-map group_of features k f (group_of f) h ∙ ap group_of (sym e))
