use Rattle.std.proofs.Common.{◌≤◌, map}
use Rattle.hack_lanes.specs.Views.{offer_of}
use Rattle.hack_side.specs.Turns.{AreOffers}
use Rattle.hack_side.proofs.offers.Outlook.offers.Given as goal

abbrev pub invariant-loop-place : goal.invariant-loop-place
invariant-loop-place l = record {
  behind : l.self.place ≤ l.place;
  offers : AreOffers l.self.piece l.plan l.self.place (map offer_of l.offers.items);
}
