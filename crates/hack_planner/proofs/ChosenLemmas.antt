-- Chosen packages one by one; they are members.
use Rattle.std.proofs.Common.{◌≡◌, ℕ, ◌+◌, ◌<◌, List, [], ◌∷◌, ◌++◌, length, take, get_or, map, ap, sym, subst, ◌∙◌, Option, Some, None, Bool, true, false, inl, inr, Contains, All, option_map}
use Rattle.std.specs.Option.{option_to_list}
use Rattle.std.specs.List.{AllZip, filter_map, find, flat_map, cons_option, slice_index_or}
use Rattle.std.specs.Str.{bytes_eq}
use Rattle.std.proofs.lemmas.Bool.{cases_Bool}
use Rattle.std.proofs.lemmas.List.{take_more, map-append, get_or_default, flat_map_more}
use Rattle.std.proofs.lemmas.List.Elements.{Contains-push_cases, All-contains_itself}
use Rattle.hack_base.specs.Names.{Name, names_of}
use Rattle.hack_base.proofs.Members.{Contains-cons_cases, Contains-head, Contains-tail, Contains-nil, Contains-map, Contains-map_from, Contains-filter_from}
use Rattle.hack_load.proofs.FeatureLemmas.{each-join}
use Rattle.hack_load.specs.Contexts.{ContextRecord, package_at, is_private_at, rust_version_at}
use Rattle.hack_metadata.specs.Records.{PackageRecord}
use Rattle.hack_metadata.specs.RecordViews.{place_at}
use Rattle.hack_metadata.specs.declared.metadata.resolve.PackageId.{PackageId}
use Rattle.hack_words.specs.declared.cli.args.Args.{Args}
use Rattle.hack_planner.specs.ContextMembers.{member_at, AreChosen}
use Rattle.hack_planner.specs.Members.{Member, taken, left, ends, SelectsMembers, IsMatched, IsAbout, members_without_names}
use Rattle.hack_base.specs.Notes.{Note}
use Rattle.hack_versions.specs.declared.version.VersionFault.{VersionFault}
use Rattle.hack_planner.specs.Calls.{IsBadOwn, HasBadOwn}

-- one item more
pub zip-next : {A B : Type 0} (R : A → B → Type 0) (xs : List A) (i : ℕ) (d : A) → i < length xs → (ys : List B) (y : B) → R (get_or xs i d) y → AllZip R (take i xs) ys → AllZip R (take (i + 1) xs) (ys ++ y ∷ [])
zip-next R xs i d lt ys y is before = subst (λ zs. AllZip R zs (ys ++ y ∷ [])) (sym (take_more xs i d lt)) (each-join R (take i xs) (get_or xs i d ∷ []) ys (y ∷ []) before (is, tt))

-- one place more
pub at-more : {A : Type 0} (at : A → ℕ) (xs : List A) (i : ℕ) (d : A) → i < length xs → map at (take (i + 1) xs) ≡ map at (take i xs) ++ at (get_or xs i d) ∷ []
at-more at xs i d lt = ap (map at) (take_more xs i d lt) ∙ map-append at (take i xs) (get_or xs i d ∷ [])

-- one package more
pub zip-more : {B : Type 0} (R : ℕ → B → Type 0) (ids : List PackageId) (i : ℕ) (d : PackageId) → i < length ids → (ys : List B) (y : B) → R (get_or ids i d).index y
    → AllZip R (map place_at (take i ids)) ys → AllZip R (map place_at (take (i + 1) ids)) (ys ++ y ∷ [])
zip-more R ids i d lt ys y is before =
    subst (λ ps. AllZip R ps (ys ++ y ∷ [])) (sym (at-more place_at ids i d lt))
    (each-join R (map place_at (take i ids)) ((get_or ids i d).index ∷ []) ys (y ∷ []) before (is, tt))

-- the notices on one package more
pub notes-more : {A : Type 0} (at : A → ℕ) (f : ℕ → List Note) (xs : List A) (i : ℕ) (d : A) → i < length xs → (old new more : List Note) → new ≡ old ++ more → more ≡ f (at (get_or xs i d))
    → old ≡ flat_map f (map at (take i xs)) → new ≡ flat_map f (map at (take (i + 1) xs))
notes-more at f xs i d lt old new more grown is before =
    grown ∙ ap (λ l. old ++ l) is ∙ ap (λ l. l ++ f (at (get_or xs i d))) before
    ∙ flat_map_more f [] (map at (take i xs)) (at (get_or xs i d))
    ∙ ap (flat_map f) (sym (at-more at xs i d lt))

-- a package whose own version can't be read is one of them
pub bad-at : (cx : ContextRecord) (ids : List PackageId) (i : ℕ) (d : PackageId) → i < length ids → (e : VersionFault) → IsBadOwn cx.args.version_range (rust_version_at cx (get_or ids i d).index) e → HasBadOwn cx (map place_at ids) e
bad-at cx ids i d lt e bad =
    ((get_or ids i d).index, Contains-map place_at ids (get_or ids i d) (i, lt, get_or_default ids i (get_or ids i d) d lt), bad)

-- none so far, and this one isn't either
pub none-bad-more : (cx : ContextRecord) (ids : List PackageId) (i : ℕ) (d : PackageId) → i < length ids → ((e : VersionFault) → ¬ IsBadOwn cx.args.version_range (rust_version_at cx (get_or ids i d).index) e)
    → ((e : VersionFault) → ¬ HasBadOwn cx (map place_at (take i ids)) e) → (e : VersionFault) → ¬ HasBadOwn cx (map place_at (take (i + 1) ids)) e
none-bad-more cx ids i d lt here before e bad =
    elim (Contains-push_cases (map place_at (take i ids)) (get_or ids i d).index bad.0 (subst (λ ps. Contains ps bad.0) (at-more place_at ids i d lt) bad.1)) [
      | inl w ↦ before e (bad.0, w, bad.2)
      | inr same ↦ here e (subst (λ p. IsBadOwn cx.args.version_range (rust_version_at cx p) e) (sym same) bad.2)
    ]

-- a member that is kept was in the list
kept-in : (P : Member → Type 0) (xs ys : List Member) (m : Member) → SelectsMembers P xs ys → Contains ys m → Contains xs m
kept-in P xs ys m ends c = c
kept-in P (x ∷ xs) (y ∷ ys) m (taken holds rest) c =
    elim (Contains-cons_cases x ys m c) [
      | inl e ↦ subst (λ z. Contains (x ∷ xs) z) e (Contains-head x xs)
      | inr w ↦ Contains-tail x xs m (kept-in P xs ys m rest w)
    ]
kept-in P (x ∷ xs) ys m (left fails rest) c = Contains-tail x xs m (kept-in P xs ys m rest c)

-- the first member with a name was in the list
first-in : (members : List Member) (name : Name) (m : Member) → Contains (option_to_list (find (λ (k : Member). bytes_eq k.pkg.name name) members)) m → Contains members m
first-in [] name m c = c
first-in (x ∷ xs) name m c =
    elim (cases_Bool (bytes_eq x.pkg.name name)) [
      | inl t ↦ elim (Contains-cons_cases x [] m (rw t at c)) [ inl e ↦ subst (λ z. Contains (x ∷ xs) z) e (Contains-head x xs) | inr w ↦ absurd (Contains-nil m w) ]
      | inr f ↦ Contains-tail x xs m (first-in xs name m (rw f at c))
    ]

-- a member that a call is about was in the list
about-in : (named : Bool) (args : Args) (current : Option Name) (members about : List Member) (m : Member) → IsAbout named args current members about → Contains about m → Contains members m
about-in true args current members about m is h = kept-in (IsMatched (names_of args.«package».items)) members about m is h
about-in false args current members about m is h = unnamed-in args.workspace current (subst (λ l. Contains l m) is h)
  where
    unnamed-in : (everyone : Bool) (current : Option Name) → Contains (members_without_names everyone current members) m → Contains members m
    unnamed-in true current h = h
    unnamed-in false None h = h
    unnamed-in false (Some name) h = first-in members name m h

-- the id of a member is one of the workspace
member-step : (cx : ContextRecord) (id : ℕ) (ids : List ℕ) (m : Member) (o : Option PackageRecord) → Contains (cons_option (option_map (λ p. record { place = id; pkg = p; is_private = is_private_at cx id }) o) (filter_map (member_at cx) ids)) m
    → (Contains (filter_map (member_at cx) ids) m → Contains ids m.place) → Contains (id ∷ ids) m.place
member-step cx id ids m None c ih = Contains-tail id ids m.place (ih c)
member-step cx id ids m (Some p) c ih =
    elim (Contains-cons_cases (record { place = id; pkg = p; is_private = is_private_at cx id }) (filter_map (member_at cx) ids) m c) [
      | inl e ↦ subst (λ (k : Member). Contains (id ∷ ids) k.place) e (Contains-head id ids)
      | inr w ↦ Contains-tail id ids m.place (ih w)
    ]

member-in : (cx : ContextRecord) (ids : List ℕ) (m : Member) → Contains (filter_map (member_at cx) ids) m → Contains ids m.place
member-in cx [] m c = absurd (Contains-nil m c)
member-in cx (id ∷ ids) m c = member-step cx id ids m (package_at cx id) c (member-in cx ids m)

-- the chosen packages are members of the workspace
pub ids-in : (cx : ContextRecord) (ids : List PackageId) → AreChosen cx (map place_at ids) → All (λ (id : PackageId). Contains cx.metadata.workspace_members id.index) ids
ids-in cx ids chosen k d lt =
    let id = slice_index_or ids k d in
    let at = subst (λ ps. Contains ps id.index) chosen.chosen (Contains-map place_at ids id (All-contains_itself ids k d lt)) in
    let from = Contains-map_from (λ (m : Member). m.place) _ id.index at in
    let kept = Contains-filter_from _ chosen.remaining from.0 from.1 in
    let there = about-in _ _ _ _ chosen.left.about from.0 chosen.left.is_about (kept-in _ chosen.left.about chosen.remaining from.0 chosen.left.remain kept.0) in
    subst (λ p. Contains cx.metadata.workspace_members p) from.2 (member-in cx cx.metadata.workspace_members from.0 there)
