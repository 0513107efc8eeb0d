use Rattle.std.proofs.Common.{◌≡◌, ap, false, true, string_bytes}
use Rattle.std.specs.Option.{option_map}
use Rattle.std.proofs.lemmas.Str.{IsUtf8-string_bytes}
use Rattle.hack_places.proofs.FolderLemmas.{text_kept, text_lost}
use Rattle.hack_places.proofs.workspace.text_of.Goals as goal

pub returns-in-Ok : goal.returns-in-Ok
returns-in-Ok c =
    text_kept _ c.in-Some.bytes.items (string_bytes c.in-Ok.text) (ap (option_map (λ bytes. bytes.items)) c.in-Some.is) (ap (λ v. v.items) c.in-Ok.ensures.ok) (IsUtf8-string_bytes c.in-Ok.text)

pub returns-in-Some : goal.returns-in-Some
returns-in-Some c =
    text_lost _ c.in-Some.bytes.items (ap (option_map (λ bytes. bytes.items)) c.in-Some.is) (λ utf8. let y : false ≡ true = c.in-Err.ensures.succeeds utf8 in cc)
