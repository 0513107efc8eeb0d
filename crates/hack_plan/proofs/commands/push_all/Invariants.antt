use Rattle.std.proofs.Common.{◌≡◌, ◌++◌, drop, map, string_bytes}
use Rattle.hack_base.specs.Names.{names_behind}
use Rattle.hack_plan.proofs.commands.push_all.Given as goal

-- the names so far, followed by those left, are all names
abbrev pub invariant-loop-name : goal.invariant-loop-name
invariant-loop-name l = names_behind l.names.items ++ map string_bytes (drop l.name-index l.more) ≡ names_behind l.fn.names.items ++ map string_bytes l.more
