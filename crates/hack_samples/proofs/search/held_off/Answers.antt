use Rattle.std.proofs.Common.{◌≡◌, ◌<◌, ◌∙◌, sym, subst, ℕ, length, arith, false}
use Rattle.std.proofs.lemmas.List.{take_all}
use Rattle.std.proofs.lemmas.List.Elements.{All-more}
use Rattle.hack_samples.specs.Sets.{is_on, tables_of}
use Rattle.hack_samples.specs.Samples.{Shows}
use Rattle.hack_samples.proofs.search.held_off.Goals as goal

pub loop-setting-preserved : goal.loop-setting-preserved
loop-setting-preserved c =
    let i : ℕ = c.loop-setting.setting-index in
    let lt : i < length c.args.pattern.now = omega (arith, c.loop-setting-test.true) in
    record {
      size = c.hold_setting.ensures.size ∙ c.loop-setting.invariant.size;
      clear = c.hold_setting.ensures.clear c.loop-setting.invariant.clear;
      shows = λ t inside clear.
          All-more (λ setting. is_on (tables_of c.args.wanted.now.providers.now) t setting.candidate ≡ setting.on) c.args.pattern.now i (record { candidate = 0; on = false }) lt
          (c.loop-setting.invariant.shows t inside (c.hold_setting.ensures.more t (sym inside.same ∙ sym c.loop-setting.invariant.size) clear))
          (c.hold_setting.ensures.shows t inside clear);
    }

pub returns-clause-shows : goal.returns-clause-shows
returns-clause-shows c = λ t inside clear.
    subst (λ l. Shows (tables_of c.args.wanted.now.providers.now) l t)
    (take_all c.loop-setting.setting-index c.args.pattern.now (omega (arith, c.loop-setting-test.false)))
    (c.loop-setting.invariant.shows t inside clear)
