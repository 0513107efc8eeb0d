use Rattle.std.proofs.Common.{◌≡◌, length, take, Contains}
use Rattle.hack_routes.specs.InternalPlaces.{AreMarked, AddsPlaces}
use Rattle.hack_routes.proofs.marks.Marks.mark_all.Given as goal

abbrev pub invariant-loop-place : goal.invariant-loop-place
invariant-loop-place l = record {
  marked : AreMarked l.self.marks.items l.self.order.items;
  size : length l.self.marks.items ≡ length l.fn.self.marks.items;
  adds : AddsPlaces (Contains (take l.place-index l.places)) l.fn.self.order.items l.self.order.items;
}
