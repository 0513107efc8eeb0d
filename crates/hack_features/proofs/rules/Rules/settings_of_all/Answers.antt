use Rattle.std.proofs.Common.{length, subst, sym}
use Rattle.std.proofs.lemmas.Result.{IfOk-weaker}
use Rattle.hack_features.specs.Settings.{IsOnWithAll}
use Rattle.hack_features.specs.InternalSettings.{AreKeyPlaces}
use Rattle.hack_features.specs.View.{choice_of}
use Rattle.hack_features.proofs.SettingLemmas.{settings_of_all_row, shows_iff}
use Rattle.hack_features.proofs.rules.Rules.settings_of_all.Goals as goal

pub returns-clause-settings : goal.returns-clause-settings
returns-clause-settings c =
    let e = c.enabled-enabled.result.now in
    let keyed = subst (AreKeyPlaces e.routes.keys.items (length e.routes.names.items)) (sym c.as_slice.ensures.value) c.in_ok-from.ensures in
    IfOk-weaker c.settings_from.result _ _
    (λ row made. settings_of_all_row c.args.self.now e c.enabled-enabled.ensures c.as_slice.result.now row.items made keyed) c.settings_from.ensures

pub returns-clause-shown : goal.returns-clause-shown
returns-clause-shown c =
    let choice = choice_of c.args.self.now in
    IfOk-weaker c.settings_from.result _ _ (λ row says. shows_iff choice (IsOnWithAll choice) row.items says) (returns-clause-settings c)
