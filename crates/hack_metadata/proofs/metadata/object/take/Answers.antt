use Rattle.std.proofs.Common.{◌≡◌, refl, ap, sym, ◌∙◌, option_map, None}
use Rattle.std.specs.BTreeMap.{get_by_text}
use Rattle.std.proofs.lemmas.Map.Text.{btree_map_updates_text}
use Rattle.serde_json.specs.View.{view}
use Rattle.serde_json.proofs.Views.{view-lookup}
use Rattle.hack_metadata.proofs.metadata.object.take.Goals as goal

pub returns-clause-value : goal.returns-clause-value
returns-clause-value c = ap (option_map view) c.remove.ensures.value ∙ view-lookup c.args.key.now c.args.object.now.entries

pub returns-clause-gone : goal.returns-clause-gone
returns-clause-gone c = sym (view-lookup c.args.key.now c.remove.new.self.entries) ∙ ap (option_map view) c.remove.ensures.updates.1

pub returns-clause-others : goal.returns-clause-others
returns-clause-others c = record {
  others = λ q other.
      let same : get_by_text c.remove.new.self q ≡ get_by_text c.args.object.now q =
      btree_map_updates_text c.args.key.now c.args.object.now c.remove.new.self None c.remove.ensures.updates q ∙ rw other refl in
      sym (view-lookup q c.remove.new.self.entries) ∙ ap (option_map view) same ∙ view-lookup q c.args.object.now.entries;
}
