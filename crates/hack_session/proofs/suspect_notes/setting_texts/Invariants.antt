use Rattle.std.proofs.Common.{◌≡◌, map, take, string_bytes}
use Rattle.hack_features.specs.Feature.{groups_of}
use Rattle.hack_session.specs.SuspectNotes.{setting_text}
use Rattle.hack_session.proofs.suspect_notes.setting_texts.Given as goal

abbrev pub invariant-loop-setting : goal.invariant-loop-setting
invariant-loop-setting l = map string_bytes l.texts.items ≡ map (setting_text (groups_of l.candidates)) (take l.setting-index l.pattern)
