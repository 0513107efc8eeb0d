use Rattle.std.proofs.Common.{◌≡◌, ◌≤◌, length}
use Rattle.std.specs.Prelude.{vec_capacity}
use Rattle.hack_msrv.specs.Internal.{AreSearched}
use Rattle.hack_msrv.specs.Searches.{AreUnbroken}
use Rattle.hack_msrv.proofs.search.search_all.Given as goal

-- the packages so far were searched, and no search was broken off
abbrev pub invariant-loop-member : goal.invariant-loop-member
invariant-loop-member g l = record {
  searched : AreSearched g.R.Runner.ran g.R.Judge.ended l.plan l.found.items l.fn.runner l.runner;
  whole : AreUnbroken l.found.items;
  long : length l.found.items ≡ l.member;
  room : length l.uses ≤ vec_capacity l.found;
}
