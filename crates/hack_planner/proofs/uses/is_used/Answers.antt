use Rattle.std.proofs.Common.{◌↔◌, List, sym, subst, Option, IsTrue}
use Rattle.hack_versions.specs.declared.group.VersionGroup.{VersionGroup}
use Rattle.hack_versions.specs.declared.version.VersionRange.{VersionRange}
use Rattle.hack_planner.specs.InternalUses.{InGroups, InSome}
use Rattle.hack_planner.proofs.uses.is_used.Goals as goal

pub returns-in-Some : goal.returns-in-Some
returns-in-Some c =
    let has = subst (λ (groups : List VersionGroup). IsTrue c.one_has.result ↔ InSome groups c.args.place) c.as_slice.ensures.value c.one_has.ensures in
    subst (λ (range : Option VersionRange). IsTrue c.one_has.result ↔ InGroups range c.args.versions.now.groups.items c.args.place) (sym c.in-Some.is) has
