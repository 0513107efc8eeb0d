use Rattle.std.proofs.Common.{◌≡◌, ◌∷◌, [], Some, map, string_bytes, rules}
use Rattle.std.proofs.lemmas.List.{map-append}
use Rattle.toml_parser.specs.Lexical.{skip_blank}
use Rattle.toml_parser.specs.Strings.{key}
use Rattle.toml.specs.Parse.{skip_bom}
use Rattle.hack_manifest.proofs.PairLemmas.{zero-document}
use Rattle.hack_manifest.proofs.path.key_names.Goals as goal

pub returns-in_ok-push-in-Ok : goal.returns-in_ok-push-in-Ok
returns-in_ok-push-in-Ok c =
    let rest : c.in-Ok.rest.now ≡ 61 ∷ 48 ∷ [] = search rules in
    let read : key (skip_blank (skip_bom c.args.text.now)) ≡ Some ((map string_bytes c.in-Ok.key.path.items, string_bytes c.in-Ok.key.last), 61 ∷ 48 ∷ []) =
    rw (← c.skip_mark.ensures, ← c.skip_blank.ensures.rest, ← rest) c.in-Ok.ensures.value in
    let (one, names) = zero-document c.args.text.now _ read in
    (one, rw (c.in_ok-push-in-Ok.ensures.items, map-append) names)
