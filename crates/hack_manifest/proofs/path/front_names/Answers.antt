use Rattle.std.proofs.Common.{◌≡◌, ◌++◌, [], ◌∷◌, take, arith, ◌<◌, get_or, ◌-◌, ap, ◌∙◌}
use Rattle.std.proofs.lemmas.Grind.{common_steps}
use Rattle.toml_parser.specs.Lexical.{skip_blank}
use Rattle.toml.specs.Parse.{skip_bom}
use Rattle.hack_manifest.specs.Keys.{IsBareName}
use Rattle.hack_manifest.proofs.FrontLemmas.{front-name}
use Rattle.hack_manifest.proofs.RunLemmas.{IsCharBoundary-behind}
use Rattle.hack_manifest.proofs.path.front_names.Goals as goal

pub range-requires-clause-end_boundary : goal.range-requires-clause-end_boundary
range-requires-clause-end_boundary c =
    let ascii : get_or c.args.piece.now (c.args.n - 1) 0 < 128 = grind (arith, common_steps) in
    IsCharBoundary-behind _ _ c.utf8.piece (omega arith) c.requires ascii

pub range-requires-2-clause-end_boundary : goal.range-requires-2-clause-end_boundary
range-requires-2-clause-end_boundary c =
    let ascii : get_or c.args.piece.now (c.args.n - 1) 0 < 128 = grind (arith, common_steps) in
    IsCharBoundary-behind _ _ c.utf8.piece (omega arith) c.requires ascii

pub returns-in-Some-clause-front : goal.returns-in-Some-clause-front
returns-in-Some-clause-front c =
    let bare : IsBareName c.skip_blank.result.now c.in-Some.name.now = rw c.in-Some.is at c.bare_name.ensures in
    let whole : c.args.n - 0 ≡ c.args.n = omega arith in
    let text : c.range.result.now ≡ take c.args.n c.args.piece.now = c.range.ensures.value ∙ ap (λ n. take n c.args.piece.now) whole in
    let start : c.skip_blank.result.now ≡ skip_blank (skip_bom (take c.args.n c.args.piece.now)) =
    c.skip_blank.ensures.rest ∙ ap skip_blank (c.skip_mark.ensures ∙ ap skip_bom text) in
    let ends : get_or c.args.piece.now (c.args.n - 1) 0 ≡ 61 = grind (arith, common_steps) in
    let (front, names) = front-name c.args.piece.now c.skip_blank.result.now c.in-Some.name.now c.args.n (omega arith) c.requires ends start bare in
    let items : c.push.new.self.items ≡ c.in_ok-from_str.field-0 ∷ [] = c.in_ok-push.ensures.items ∙ ap (λ xs. xs ++ c.in_ok-from_str.field-0 ∷ []) c.new-names.ensures.items in
    (front, rw (items, c.in_ok-from_str.ensures.ok) names)
