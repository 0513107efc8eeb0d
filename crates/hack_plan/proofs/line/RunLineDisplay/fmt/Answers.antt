use Rattle.std.proofs.Common.{◌∙◌, ◌++◌, List, ℕ, None, ap, map, option_map, string_bytes, subst, true}
use Rattle.std.specs.Fmt.{HasWritten}
use Rattle.std.specs.List.{flat_map}
use Rattle.hack_base.specs.PathTexts.{stem_of}
use Rattle.hack_features.specs.Feature.{groups_of}
use Rattle.hack_process.specs.CommandTexts.{each_spaced, shown_features, shown_trailing, shown_words, with_names}
use Rattle.hack_plan.specs.View.{call_view}
use Rattle.hack_plan.specs.Commands.{target_pair}
use Rattle.hack_process.specs.Commands.{manifest_words}
use Rattle.hack_plan.specs.Lines.{line_names, own_in}
use Rattle.hack_plan.proofs.Shown.{line-joined, run-same}
use Rattle.hack_plan.proofs.line.RunLineDisplay.fmt.Goals as goal

pub returns-clause-writes : goal.returns-clause-writes
returns-clause-writes g c = λ p ok.
    let line = c.args.self.now in
    let call = call_view line.words.now in
    let path = manifest_words (option_map (λ path. path.now) line.manifest_path) in
    let features = map string_bytes line.features.now in
    subst (λ (t : List ℕ). HasWritten g.W.Write.write_str_gives c.args.f.now t c.write.new.self)
    (line-joined call line.version (own_in line) (line_names line) _ _ _ _ _
    (c.stem-program.ensures ∙ ap stem_of c.program_of.ensures)
    (ap (λ words. each_spaced (map string_bytes words)) c.as_slice.ensures.value)
    (λ i. each_spaced (shown_words true (c.as_str.ensures.value i) (flat_map target_pair (c.targets_in.ensures i) ++ path ++ run-same line.run line.positions.items i)))
    (ap (λ names. shown_features (with_names None (features ++ names))) (c.set.ensures (groups_of line.candidates.now)))
    (ap (λ words. shown_trailing (map string_bytes words)) c.as_slice-2.ensures.value))
    (c.write.ensures.writes p ok)
