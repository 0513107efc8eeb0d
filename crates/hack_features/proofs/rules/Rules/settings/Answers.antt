use Rattle.std.proofs.Common.{◌∙◌, [], flat_map, get_or, ap}
use Rattle.std.proofs.lemmas.Result.{IfOk-weaker}
use Rattle.hack_samples.specs.Sets.{rows_of}
use Rattle.hack_features.specs.Samples.{IsOn}
use Rattle.hack_features.specs.View.{choice_of}
use Rattle.hack_features.proofs.SettingLemmas.{settings_row, shows_iff}
use Rattle.hack_features.proofs.rules.Rules.settings.Goals as goal

pub returns-clause-settings : goal.returns-clause-settings
returns-clause-settings c =
    let s = c.args.positions.now in
    let members = c.as_slice-2.ensures.value ∙ c.in_ok-from.ensures ∙ ap (λ l. flat_map (λ p. get_or (rows_of l) p []) s) c.as_slice.ensures.value in
    IfOk-weaker c.settings_from.result _ _
    (λ row made. settings_row c.args.self.now c.enabled-enabled.result.now c.enabled-enabled.ensures c.as_slice-2.result.now row.items made s members) c.settings_from.ensures

pub returns-clause-shown : goal.returns-clause-shown
returns-clause-shown c =
    let choice = choice_of c.args.self.now in
    IfOk-weaker c.settings_from.result _ _ (λ row says. shows_iff choice (IsOn choice c.args.positions.now) row.items says) (returns-clause-settings c)
