use Rattle.std.proofs.Common.{◌∙◌, List, String, Global, ap, codes, map, string_bytes, sym, ℕ}
use Rattle.std.specs.List.{join_by}
use Rattle.std.proofs.lemmas.Result.{IfOk-weaker}
use Rattle.hack_features.specs.Feature.{groups_of}
use Rattle.hack_session.proofs.SuspectNoteLemmas.{join-texts}
use Rattle.hack_report.specs.Conflicts.{build_text, names_at}
use Rattle.hack_report.proofs.conflict_lines.About.build_text.Goals as goal

pub returns-in_ok-names-in-Set : goal.returns-in_ok-names-in-Set
returns-in_ok-names-in-Set c =
    let candidates = groups_of c.args.self.candidates.now in
    let join : List (List ℕ) → List ℕ = join_by (λ name. name) (codes ",") in
    IfOk-weaker c.join.result _ _ (λ text e. e ∙ join-texts (codes ",") c.deref.result.now ∙ ap (λ (xs : List (String Global)). join (map string_bytes xs)) c.deref.ensures.value
    ∙ ap join (c.in_ok-names-in-Set.ensures ∙ ap (names_at candidates) c.as_slice.ensures.value) ∙ sym (ap (build_text c.args.self.plain candidates) c.in-Set.is)) c.join.ensures.ok
