use Rattle.std.proofs.Common.{◌≡◌, ℕ, List, map, true, subst, sym, ◌∙◌, rules}
use Rattle.hack_session.specs.Schedules.{in_piece}
use Rattle.hack_lanes.specs.declared.job.Job.{Job}
use Rattle.hack_lanes.specs.Views.{offer_of}
use Rattle.hack_side.specs.Turns.{AreOffers}
use Rattle.hack_side.proofs.OfferLemmas.{one_more}
use Rattle.hack_side.proofs.offers.Outlook.push.Goals as goal

pub returns-in_default-push : goal.returns-in_default-push
returns-in_default-push c =
    let same : c.push.new.self.items ≡ c.args.offers.now.items = search rules in
    subst (λ (jobs : List Job). AreOffers c.args.self.piece c.args.plan.now c.args.self.place (map offer_of jobs)) (sym same) c.requires.offers

pub returns : goal.returns
returns c =
    one_more c.args.self.piece c.args.plan.now c.args.self.place c.args.place c.args.offers.now.items c.in-Ok.job c.push.new.self.items c.in-Ok-push.ensures.items c.requires.offers
    c.in-Ok.ensures.place c.requires.behind c.if-not-is_within.ensures
    (subst (λ (n : ℕ). in_piece c.args.self.piece n c.args.place ≡ true) c.len-2.ensures.value (sym c.is_chosen.ensures ∙ c.if-not-is_chosen.false)) c.in-Ok.ensures.asked
