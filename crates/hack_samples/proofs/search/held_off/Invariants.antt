use Rattle.std.proofs.Common.{◌≡◌, length, take, List, Bool}
use Rattle.hack_samples.specs.Sets.{IsInside, tables_of}
use Rattle.hack_samples.specs.Internal.{IsClear}
use Rattle.hack_samples.specs.Samples.{Shows}
use Rattle.hack_samples.proofs.search.held_off.Given as goal

abbrev pub invariant-loop-setting : goal.invariant-loop-setting
invariant-loop-setting l = record {
  size : length l.held.items ≡ length l.set;
  clear : IsClear l.held.items l.set;
  shows : (t : List Bool) → IsInside l.set t → IsClear l.held.items t → Shows (tables_of l.wanted.providers.now) (take l.setting-index l.pattern) t;
}
