use Rattle.std.proofs.Common.{ap, sym, ◌∙◌, option_map}
use Rattle.std.specs.Map.{keys_of}
use Rattle.std.proofs.lemmas.Map.Iter.{rest_more}
use Rattle.serde_json.specs.View.{members_view}
use Rattle.hack_base.specs.Names.{names_of}
use Rattle.hack_metadata.specs.MetadataReading.{features_of}
use Rattle.hack_metadata.proofs.FeatureLemmas.{features-turn}
use Rattle.hack_metadata.proofs.metadata.package.features_from.Goals as goal

pub loop-name-preserved-in_ok-insert : goal.loop-name-preserved-in_ok-insert
loop-name-preserved-in_ok-insert c =
    features-turn c.loop-name.features c.insert.new.self c.loop-name.name-iterator c.next.new.self c.in-Some.name c.in-Some.value c.in-Some-2.texts (keys_of c.args.object.entries) (features_of (members_view c.args.object.entries))
    (rest_more (λ e. e) c.loop-name.name-iterator c.next.new.self c.next.result (c.in-Some.name, c.in-Some.value) c.in-Some.is c.next.ensures.steps)
    c.in_ok-insert.ensures.entries
    (sym (ap (option_map (λ texts. names_of texts.items)) c.in-Some-2.is) ∙ c.in_ok-texts.ensures)
    c.into_iter-name-iterator.ensures.into_iter_gives.5
    c.loop-name.invariant

pub loop-name-preserved : goal.loop-name-preserved
loop-name-preserved c =
    features-turn c.loop-name.features c.insert.new.self c.loop-name.name-iterator c.next.new.self c.in-Some.name c.in-Some.value c.in-Some-2.texts (keys_of c.args.object.entries) (features_of (members_view c.args.object.entries))
    (rest_more (λ e. e) c.loop-name.name-iterator c.next.new.self c.next.result (c.in-Some.name, c.in-Some.value) c.in-Some.is c.next.ensures.steps)
    c.in_ok-insert.ensures.entries
    (sym (ap (option_map (λ texts. names_of texts.items)) c.in-Some-2.is) ∙ c.in_ok-texts.ensures)
    c.into_iter-name-iterator.ensures.into_iter_gives.5
    c.loop-name.invariant
