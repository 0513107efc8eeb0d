use Rattle.std.proofs.Common.{◌≡◌, drop}
use Rattle.std.specs.List.{list_any}
use Rattle.toml.specs.View.{items_view}
use Rattle.hack_manifest.specs.Manifest.{texts_in}
use Rattle.hack_places.specs.Folders.{leads_to}
use Rattle.hack_places.proofs.workspace.one_of_leads.Given as goal

-- no text led there so far: it is one of those that are left, or none
abbrev pub invariant-loop-item : goal.invariant-loop-item
invariant-loop-item l =
    list_any (leads_to l.folder l.path) (texts_in (items_view (drop l.item-index l.item-items))) ≡ list_any (leads_to l.folder l.path) (texts_in (items_view l.item-items))
