-- Manifests of members, and errors of reading them.
use Rattle.std.proofs.Common.{◌≡◌, inl, inr, ℕ, ◌+◌, ◌<◌, List, [], ◌∷◌, ◌++◌, Some, length, map, get_or, take, sym, ap, ◌∙◌, subst, arith}
use Rattle.std.specs.Prelude.{Contains, option_map, slice_get}
use Rattle.std.proofs.lemmas.List.{get_or-map, length-map, map-append, take_more}
use Rattle.std.proofs.lemmas.Option.{slice_get-map}
use Rattle.std.specs.List.{AllZip}
use Rattle.hack_base.specs.Names.{Name}
use Rattle.hack_files.specs.Files.{Contents, KeepsAll}
use Rattle.hack_base.specs.Counters.{GrowsBy}
use Rattle.hack_files.specs.Faults.{IsOfText}
use Rattle.hack_files.specs.declared.fs.FsFault.{FsFault}
use Rattle.hack_files.specs.declared.fs.FsFault.TheVariants as fs
use Rattle.hack_metadata.specs.Records.{PackageRecord, MetadataRecord}
use Rattle.hack_metadata.specs.RecordViews.{package_view, place_at}
use Rattle.hack_metadata.specs.declared.metadata.package.Package.{Package}
use Rattle.hack_metadata.specs.declared.metadata.resolve.PackageId.{PackageId}
use Rattle.hack_manifest.specs.ManifestResults.{IsManifest, IsRefusal}
use Rattle.hack_manifest.specs.declared.manifest.Manifest.{Manifest}
use Rattle.hack_manifest.specs.declared.manifest.ManifestFault.{ManifestFault}
use Rattle.hack_manifest.specs.declared.manifest.ManifestFault.TheVariants as manifest
use Rattle.hack_load.specs.CargoQuestions.{IsMemberFault, IsOfMember, IsPackageFault}
use Rattle.hack_load.specs.Internal.{IsCallFaultOfFile, IsOfManifest}
use Rattle.hack_load.specs.declared.fault.ContextFault.{ContextFault}
use Rattle.hack_load.specs.declared.fault.ContextFault.TheVariants as faults
use Rattle.hack_load.proofs.FeatureLemmas.{each-join}
use Rattle.hack_load.proofs.LeaveLemmas.{count-more}

-- the file of a package can't be read
pub file-fault : (T : Type 0) (held : Contents) (m : MetadataRecord) (id before now : ℕ) (p : PackageRecord) → slice_get m.packages id ≡ Some p → (f : FsFault) (e : ContextFault)
    → IsCallFaultOfFile f e → IsOfText p.manifest_path T (held p.manifest_path) before now f → IsPackageFault T held m id before now e
file-fault T held m id before now p at fs.Memory e is h = subst (λ v. IsPackageFault T held m id before now v) (sym is) tt
file-fault T held m id before now p at (fs.Read path) e is h = subst (λ v. IsPackageFault T held m id before now v) (sym is) (record { of = p; at = at; fault = h; memory = λ eq. cc })
file-fault T held m id before now p at (fs.Write path) e is h = absurd h
file-fault T held m id before now p at (fs.NotText path) e is h = subst (λ v. IsPackageFault T held m id before now v) (sym is) (record { of = p; at = at; fault = h; memory = λ eq. cc })

-- what the file holds is no manifest
pub manifest-fault : (T : Type 0) (held : Contents) (m : MetadataRecord) (id before now : ℕ) (p : PackageRecord) (text : Name) → slice_get m.packages id ≡ Some p → (T → held p.manifest_path ≡ Some text)
    → (f : ManifestFault) (e : ContextFault) → IsOfManifest f e → IsRefusal p.manifest_path text m.cargo_version f → IsPackageFault T held m id before now e
manifest-fault T held m id before now p text at read manifest.Memory e is h = subst (λ v. IsPackageFault T held m id before now v) (sym is) tt
manifest-fault T held m id before now p text at read (manifest.Toml path) e is h = subst (λ v. IsPackageFault T held m id before now v) (sym is) (record { of = p; text = text; at = at; read = read; fault = h; memory = λ eq. cc })
manifest-fault T held m id before now p text at read (manifest.Field name path) e is h = subst (λ v. IsPackageFault T held m id before now v) (sym is) (record { of = p; text = text; at = at; read = read; fault = h; memory = λ eq. cc })

-- ---- earlier files, and files that are known to say what they hold

module _ (T U : Type 0) (a b : Contents) (to : U → T) (keep : U → KeepsAll a b) (m : MetadataRecord) where
  pub of-earlier : (id : ℕ) (x : Manifest) → IsOfMember T b m id x → IsOfMember U a m id x
  of-earlier id x h = record { of = h.of; at = h.at; says = h.says; read = λ u. sym (keep u h.of.manifest_path) ∙ h.read (to u) }

  pub each-earlier : (ids : List ℕ) (xs : List Manifest) → AllZip (IsOfMember T b m) ids xs → AllZip (IsOfMember U a m) ids xs
  each-earlier [] [] h = h
  each-earlier [] (x ∷ xs) h = absurd h
  each-earlier (id ∷ ids) [] h = absurd h
  each-earlier (id ∷ ids) (x ∷ xs) h = (of-earlier id x h.0, each-earlier ids xs h.1)

  module _ (x y z : ℕ) (still : GrowsBy 0 x y) where
    text-earlier : (path : Name) (e : FsFault) → IsOfText path T (b path) y z e → IsOfText path U (a path) x z e
    text-earlier path (fs.Read p) h = (h.0, count-more 1 x y z still h.1)
    text-earlier path (fs.Write p) h = absurd h
    text-earlier path (fs.NotText p) h = (h.0, count-more 0 x y z still h.1, λ u. let k = h.2 (to u) in (k.0, sym (keep u path) ∙ k.1, k.2))
    text-earlier path fs.Memory (inl h) = inl (count-more 0 x y z still h)
    text-earlier path fs.Memory (inr h) = inr (count-more 1 x y z still h)

    pub fault-earlier : (id : ℕ) (e : ContextFault) → IsPackageFault T b m id y z e → IsPackageFault U a m id x z e
    fault-earlier id faults.Memory h = tt
    fault-earlier id (faults.Files e) h = record { of = h.of; at = h.at; fault = text-earlier h.of.manifest_path e h.fault; memory = h.memory }
    fault-earlier id (faults.Manifest e) h = record { of = h.of; text = h.text; at = h.at; read = λ u. sym (keep u h.of.manifest_path) ∙ h.read (to u); fault = h.fault; memory = h.memory }
    fault-earlier id (faults.Asked e) h = absurd h
    fault-earlier id (faults.Process e) h = absurd h
    fault-earlier id faults.OldCargo h = absurd h
    fault-earlier id (faults.Metadata e) h = absurd h
    fault-earlier id (faults.NotJson text) h = absurd h
    fault-earlier id faults.Root h = absurd h

    pub member-fault-earlier : (e : ContextFault) → IsMemberFault T b m y z e → IsMemberFault U a m x z e
    member-fault-earlier e (inl h) = inl h
    member-fault-earlier e (inr h) = inr (h.0, h.1, fault-earlier h.0 e h.2)

-- ---- packages and members as plain data

pub package-at : (xs : List Package) (k : ℕ) (p : Package) → slice_get xs k ≡ Some p → slice_get (map package_view xs) k ≡ Some (package_view p)
package-at xs k p is = slice_get-map package_view xs k ∙ ap (λ o. option_map package_view o) is

-- a manifest that was read
pub member-of : (T : Type 0) (held : Contents) (m : MetadataRecord) (id : ℕ) (p : PackageRecord) (path text : Name) (x : Manifest) → slice_get m.packages id ≡ Some p → path ≡ p.manifest_path
    → (T → held path ≡ Some text) → IsManifest text m.cargo_version x → IsOfMember T held m id x
member-of T held m id p path text x at is read says = record {
  of = p;
  at = at;
  says = subst (λ t. IsManifest t m.cargo_version x) (sym says.kept) says;
  read = λ t. ap held (sym is) ∙ read t ∙ ap Some (sym says.kept);
}

pub id-contained : (ms : List PackageId) (k : ℕ) (d : PackageId) → k < length ms → Contains (map place_at ms) (get_or ms k d).index
id-contained ms k d lt = (k, omega (arith, lt, length-map ms place_at), get_or-map place_at ms k d (get_or ms k d).index lt)

-- one more manifest
pub each-more : (R : ℕ → Manifest → Type 0) (ms : List PackageId) (i : ℕ) (d : PackageId) (xs now : List Manifest) (x : Manifest) → i < length ms
    → AllZip R (map place_at (take i ms)) xs → R (get_or ms i d).index x → now ≡ xs ++ x ∷ [] → AllZip R (map place_at (take (i + 1) ms)) now
each-more R ms i d xs now x lt before here push =
    subst (λ l. AllZip R (map place_at (take (i + 1) ms)) l) (sym push)
    (subst (λ l. AllZip R l (xs ++ x ∷ [])) (sym (ap (map place_at) (take_more ms i d lt) ∙ map-append place_at (take i ms) (get_or ms i d ∷ [])))
    (each-join R (map place_at (take i ms)) ((get_or ms i d).index ∷ []) xs (x ∷ []) before (here, tt)))
