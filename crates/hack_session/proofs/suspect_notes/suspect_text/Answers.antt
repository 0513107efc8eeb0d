use Rattle.std.proofs.Common.{◌≡◌, ◌∙◌, ◌++◌, ap, codes, map, string_bytes, List, ℕ, String, Global}
use Rattle.std.specs.List.{join_by}
use Rattle.std.proofs.lemmas.Result.{IfOk-weaker}
use Rattle.hack_features.specs.Feature.{groups_of}
use Rattle.hack_session.specs.SuspectNotes.{setting_text}
use Rattle.hack_session.proofs.SuspectNoteLemmas.{join-texts}
use Rattle.hack_session.proofs.suspect_notes.suspect_text.Goals as goal

pub returns : goal.returns
returns c =
    let join : List (List ℕ) → List ℕ = join_by (λ text. text) (codes ", ") in
    let joined : string_bytes c.in_ok-settings.settings ≡ join (map (setting_text (groups_of c.args.candidates.now)) c.args.pattern.now) =
    c.in_ok-settings.ensures.ok ∙ join-texts (codes ", ") c.deref.result.now ∙ ap (λ (xs : List (String Global)). join (map string_bytes xs)) c.deref.ensures.value ∙ ap join c.in_ok-texts.ensures in
    IfOk-weaker c.format.result _ _ (λ text e. e ∙ ap (λ (s : List ℕ). codes "    " ++ s) joined) c.format.ensures.ok
