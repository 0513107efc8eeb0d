-- The metadata that are read after the packages.
use Rattle.std.proofs.Common.{◌≡◌, ℕ, List, Option, Result, Ok, codes, refl, sym, ap, subst, ◌∙◌}
use Rattle.serde_json.specs.Data.{Items, Members}
use Rattle.hack_base.specs.Names.{Name}
use Rattle.hack_metadata.specs.Fields.{array_in, read_all}
use Rattle.hack_base.specs.FieldReadings.{◌>>=◌}
use Rattle.hack_metadata.specs.FieldResults.{KeepsOtherFields, ReturnsField}
use Rattle.hack_metadata.specs.MetadataReading.{read_package, read_behind, read_metadata, place_of}
use Rattle.hack_metadata.specs.Records.{PackageRecord}
use Rattle.hack_metadata.specs.MetadataView.{metadata_view}
use Rattle.hack_metadata.specs.declared.metadata.fault.MetadataFault.{MetadataFault}
use Rattle.hack_metadata.specs.declared.metadata.Metadata.{Metadata}

module _ (minor : ℕ) (old new : Members) where
  -- the fields after the packages are read in the same way once the packages are taken out
  behind-others : (ps : List PackageRecord) (place : Name → Option ℕ) → KeepsOtherFields (codes "packages") old new → read_behind minor ps place new ≡ read_behind minor ps place old
  behind-others ps place h = rw (h.others (codes "workspace_members") refl, h.others (codes "resolve") refl, h.others (codes "workspace_root") refl, h.others (codes "target_directory") refl, h.others (codes "metadata") refl) refl

  -- what is read after the packages is what is read of the whole
  pub whole-behind : (list : Items) (ps : List PackageRecord) (place : Name → Option ℕ) (r : Result Metadata MetadataFault)
      → array_in (codes "packages") old ≡ Ok list → read_all (read_package minor) list ≡ Ok ps → place ≡ place_of ps → KeepsOtherFields (codes "packages") old new
      → ReturnsField metadata_view r (read_behind minor ps place new) → ReturnsField metadata_view r (read_metadata minor old)
  whole-behind list ps place r found read same others gives =
      let whole : read_behind minor ps place new ≡ read_metadata minor old =
      behind-others ps place others
      ∙ ap (λ p. read_behind minor ps p old) same
      ∙ ap (λ packages. packages >>= λ qs. read_behind minor qs (place_of qs) old) (sym read)
      ∙ ap (λ items. (items >>= read_all (read_package minor)) >>= λ qs. read_behind minor qs (place_of qs) old) (sym found) in
      subst (λ found. ReturnsField metadata_view r found) whole gives
