-- What was loaded for a call is what its manifests hold.
use Rattle.std.proofs.Common.{◌≡◌, ◌∙◌, ◌==◌, ◌<◌, ℕ, zero, suc, List, [], ◌∷◌, Option, Some, None, length, get_or, ap, sym, refl, subst, arith, string_bytes, Result, IfOk}
use Rattle.std.specs.Prelude.{All, Contains, option_and_then, option_map}
use Rattle.std.specs.List.{AllZip, cons_option, filter_map}
use Rattle.std.proofs.lemmas.Bool.{eqb-true}
use Rattle.std.proofs.lemmas.List.Elements.{All-cons, All-nil}
use Rattle.std.proofs.lemmas.List.Sums.{passes_at_first}
use Rattle.std.proofs.lemmas.Option.{get_or_from_slice_get}
use Rattle.hack_files.specs.Files.{Contents}
use Rattle.hack_load.specs.Contexts.{ContextRecord, is_private_at, manifest_at, package_at, place_among}
use Rattle.hack_load.specs.CargoQuestions.{AreOfMembers, IsOfMember}
use Rattle.hack_load.proofs.ContextLemmas.{place-below}
use Rattle.hack_load.specs.Answers.{IsLoaded}
use Rattle.hack_load.specs.ContextOf.{IsContextFrom}
use Rattle.hack_load.specs.declared.answers.Answers.{Answers}
use Rattle.hack_load.specs.declared.fault.ContextFault.{ContextFault}
use Rattle.hack_load.specs.declared.loaded.Loaded.{Loaded}
use Rattle.hack_metadata.specs.MetadataView.{metadata_view}
use Rattle.hack_words.specs.declared.cli.args.Args.{Args}
use Rattle.hack_words.specs.declared.cli.env.Env.{Env}
use Rattle.hack_metadata.specs.Records.{PackageRecord}
use Rattle.hack_manifest.specs.declared.manifest.Manifest.{Manifest}
use Rattle.hack_prepare.specs.Prepared.{HoldTexts, MemberManifest}
use Rattle.hack_prepare.specs.PreparedView.{member_manifest_at, member_manifests_in}

-- one for each, at a place
zip-at : {A B : Type 0} (R : A → B → Type 0) (xs : List A) (ys : List B) (i : ℕ) (d : A) (e : B) → AllZip R xs ys → i < length xs → R (get_or xs i d) (get_or ys i e)
zip-at R [] ys i d e h lt = absurd (omega (arith, lt))
zip-at R (x ∷ xs) [] i d e h lt = absurd h
zip-at R (x ∷ xs) (y ∷ ys) zero d e h lt = h.0
zip-at R (x ∷ xs) (y ∷ ys) (suc i) d e h lt = zip-at R xs ys i d e h.1 (omega (arith, lt))

found-by : (P : MemberManifest → Type 0) (o : Option MemberManifest) (rest : List MemberManifest) → ((m : MemberManifest) → o ≡ Some m → P m) → All P rest → All P (cons_option o rest)
found-by P None rest h r = r
found-by P (Some m) rest h r = All-cons P m rest (h m refl) r

-- what holds of each that is found
each-found : (P : MemberManifest → Type 0) (f : ℕ → Option MemberManifest) (ids : List ℕ) → ((id : ℕ) → Contains ids id → (m : MemberManifest) → f id ≡ Some m → P m) → All P (filter_map f ids)
each-found P f [] h = All-nil P
each-found P f (id ∷ ids) h =
    found-by P (f id) (filter_map f ids) (h id (zero, omega arith, refl))
    (each-found P f ids (λ x has. h x (suc has.0, omega (arith, has.1), has.2)))

held-by : (tells : Type 0) (t : tells) (held : Contents) (cx : ContextRecord) (id : ℕ) (m : MemberManifest) (o : Option PackageRecord) (q : Option Manifest) → Contains cx.metadata.workspace_members id
    → AreOfMembers tells held cx.metadata cx.manifests → o ≡ package_at cx id → q ≡ manifest_at cx id
    → option_and_then (λ p. option_map (λ (x : Manifest). record { path = p.manifest_path; text = string_bytes x.text; is_private = is_private_at cx id }) q) o ≡ Some m → held m.path ≡ Some m.text
held-by tells t held cx id m None q among are eo eq is = absurd (cc)
held-by tells t held cx id m (Some p) None among are eo eq is = absurd (cc)
held-by tells t held cx id m (Some p) (Some x) among are eo eq is =
    let ms = cx.metadata.workspace_members in
    let k = place_among ms id in
    let lt = place-below ms id among in
    let here : get_or ms k 0 ≡ id = eqb-true (get_or ms k 0) id (passes_at_first (λ y. y == id) ms 0 lt) in
    let there : get_or cx.manifests k x ≡ x = get_or_from_slice_get cx.manifests k x x (sym eq) in
    let r : IsOfMember tells held cx.metadata id x =
    subst (λ i. IsOfMember tells held cx.metadata i x) here (subst (λ y. IsOfMember tells held cx.metadata (get_or ms k 0) y) there (zip-at (IsOfMember tells held cx.metadata) ms cx.manifests k 0 x are lt)) in
    let same : p ≡ r.of = let e : Some p ≡ Some r.of = eo ∙ r.at in cc in
    let made : m ≡ record { path = p.manifest_path; text = string_bytes x.text; is_private = is_private_at cx id } = cc in
    subst (λ (y : MemberManifest). held y.path ≡ Some y.text) (sym made) (ap (λ (y : PackageRecord). held y.manifest_path) same ∙ r.read t)

-- the members of what is loaded hold what was read of them
held-texts : (tells : Type 0) (held : Contents) (cx : ContextRecord) → tells → AreOfMembers tells held cx.metadata cx.manifests → HoldTexts held (member_manifests_in cx)
held-texts tells held cx t are =
    each-found (λ m. held m.path ≡ Some m.text) (member_manifest_at cx) cx.metadata.workspace_members
    (λ id among m is. held-by tells t held cx id m (package_at cx id) (manifest_at cx id) among are refl refl is)

-- the members of a context hold what was read of them
pub loaded-holds : (tells : Type 0) (held : Contents) (env : Env) (args : Args) (answers : Answers) (cx : ContextRecord) → tells → IfOk answers.loaded (IsLoaded tells held env) → IsContextFrom args answers cx
    → HoldTexts held (member_manifests_in cx)
loaded-holds tells held env args answers cx t is of =
    let l : Loaded = of.0 in
    let here : IsLoaded tells held env l = subst (λ (r : Result Loaded ContextFault). IfOk r (IsLoaded tells held env)) of.1 is in
    held-texts tells held cx t
    (subst (λ m. AreOfMembers tells held m cx.manifests) (sym of.2.metadata)
    (subst (λ xs. AreOfMembers tells held (metadata_view l.metadata) xs) (sym of.2.manifests) here.manifests))
