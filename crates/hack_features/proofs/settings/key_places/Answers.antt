use Rattle.std.proofs.Common.{rules, tests, length, arith, sym, subst}
use Rattle.std.proofs.lemmas.Iterator.{YieldsList-from_range, items_from_collect}
use Rattle.std.proofs.lemmas.Iterator.Consumers.{YieldsList-from_filter}
use Rattle.std.proofs.lemmas.Result.{IfOk-weaker}
use Rattle.hack_features.specs.InternalSettings.{AreKeyPlaces}
use Rattle.hack_routes.specs.Rows.{bit}
use Rattle.hack_features.proofs.SettingLemmas.{keys-of}
use Rattle.hack_features.proofs.settings.key_places.Goals as goal

pub returns : goal.returns
returns c =
    let keys = c.args.routes.now.keys.items in
    let n = length c.args.routes.now.names.items in
    IfOk-weaker c.collect.result _ _ (λ places is. subst (AreKeyPlaces keys n) (sym is) (keys-of keys n))
    (items_from_collect _ c.collect.ensures.ran (YieldsList-from_filter _ (bit keys) (YieldsList-from_range 0 n n (cc) (omega arith)) c.filter.ensures.closure (λ x b q k. search (rules, tests))))
