use Rattle.std.proofs.Common.{◌≡◌, false, sym, rules}
use Rattle.hack_manifest.specs.Places.{may_stand}
use Rattle.hack_manifest.proofs.PlaceLemmas.{stands-not}
use Rattle.hack_manifest.proofs.runs.stands_at.Goals as goal

pub returns-then-not-may_stand : goal.returns-then-not-may_stand
returns-then-not-may_stand c =
    let none : may_stand c.args.place ≡ false = search rules in
    sym (stands-not c.args.text.now (rw (← c.requires) none))
