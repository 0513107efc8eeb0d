-- Counts to which at most one failure is added, and files that are only looked at.
use Rattle.std.proofs.Common.{ℕ, inl, inr}
use Rattle.hack_base.specs.Counters.{GrowsBy}
use Rattle.hack_files.proofs.FilesLemmas.{trace_steps}
use Rattle.hack_journal.specs.RefusingLaws.{grows_none}
use Rattle.hack_places.proofs.CountLemmas.{grows_then}
use Rattle.hack_recovery.specs.Scenes.{OneMayFail}

pub may_none : (n : ℕ) → OneMayFail n n
may_none n = inl (grows_none n)

pub may_then : (x y z : ℕ) → GrowsBy 0 x y → OneMayFail y z → OneMayFail x z
may_then x y z none (inl same) = inl (grows_then 0 x y z none same)
may_then x y z none (inr one) = inr (grows_then 1 x y z none one)

-- all of these
pub ruleset counts = (may_none, may_then, grows_then, trace_steps)
