use Rattle.std.proofs.Common.{◌≡◌, map, take, All}
use Rattle.hack_session.specs.Suspects.{IsExplained, explained_view, part_explained}
use Rattle.hack_session.proofs.suspects.explain_all.Given as goal

abbrev pub invariant-loop-part : goal.invariant-loop-part
invariant-loop-part l = record {
  parts : map part_explained (map explained_view l.all.items) ≡ take l.part-index l.parts;
  explained : All (IsExplained l.session.plan l.session.handed l.strength) (map explained_view l.all.items);
}
