use Rattle.std.proofs.Common.{◌≡◌, ◌∙◌, ◌++◌, [], ap, codes, string_bytes, List, ℕ}
use Rattle.std.specs.List.{join_by, slice_index_or}
use Rattle.std.proofs.lemmas.Result.{IfOk-weaker}
use Rattle.hack_features.specs.Feature.{groups_of}
use Rattle.hack_session.proofs.SuspectNoteLemmas.{join-texts}
use Rattle.hack_session.proofs.suspect_notes.setting_text.Goals as goal

pub returns : goal.returns
returns c =
    let joined : List ℕ = join_by (λ text. text) (codes ",") (slice_index_or (groups_of c.args.candidates.now) c.args.setting.candidate []) in
    let names : string_bytes c.in_ok-names.names ≡ joined = c.in_ok-names.ensures.ok ∙ join-texts (codes ",") c.names_at.result.now ∙ ap (join_by (λ text. text) (codes ",")) c.names_at.ensures in
    IfOk-weaker c.format.result _ _ (λ text e. e ∙ ap (λ (ns : List ℕ). ns ++ (codes " " ++ c.state_text-state.result.now)) names ∙ ap (λ (s : List ℕ). joined ++ (codes " " ++ s)) c.state_text-state.ensures) c.format.ensures.ok
