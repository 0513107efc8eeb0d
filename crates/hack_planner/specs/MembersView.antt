-- Members as plain data.
use Rattle.hack_metadata.specs.RecordViews.{package_view}
use Rattle.hack_planner.specs.declared.member.Member.{Member}
use Rattle.hack_planner.specs.Members as plain

-- a member
abbrev pub member_view : Member → plain.Member
member_view m = record { place = m.id.index; pkg = package_view m.pkg.now; is_private = m.is_private }
