use Rattle.std.proofs.Common.{◌∙◌, ◌++◌, List, ℕ, [], ap, append_assoc, map, option_map, string_bytes, subst, sym, true}
use Rattle.std.specs.Fmt.{HasWritten}
use Rattle.std.specs.List.{flat_map}
use Rattle.hack_plan.specs.Runs.{run_of}
use Rattle.hack_process.specs.CommandTexts.{each_spaced, shown_words}
use Rattle.hack_plan.specs.Commands.{run_words, target_pair}
use Rattle.hack_process.specs.Commands.{manifest_words}
use Rattle.hack_plan.specs.Lines.{shown_manifest, shown_target}
use Rattle.hack_plan.proofs.Shown.{own-shown}
use Rattle.hack_plan.proofs.line.OwnDisplay.fmt.Goals as goal

pub returns-clause-writes : goal.returns-clause-writes
returns-clause-writes g c = λ p ok.
    let own = c.args.self.now in
    let targets = map string_bytes own.targets.now in
    let path = option_map (λ path. path.now) own.manifest_path in
    let run = run_of own.run [] in
    subst (λ (t : List ℕ). HasWritten g.W.Write.write_str_gives c.args.f.now t c.write.new.self)
    (ap (λ (dir : List ℕ). flat_map shown_target targets ++ (each_spaced (shown_manifest dir path) ++ each_spaced (run_words run))) c.folder_behind.ensures
    ∙ sym (own-shown own.dir.now targets path run)
    ∙ ap (λ (words : List (List ℕ)). each_spaced (shown_words true own.dir.now words)) (sym (append_assoc (flat_map target_pair targets) (manifest_words path) (run_words run))))
    (c.write.ensures.writes p ok)
