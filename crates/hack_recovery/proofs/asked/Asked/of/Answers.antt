use Rattle.std.proofs.Common.{map, refl}
use Rattle.hack_base.specs.Names.{names_of, optional_text}
use Rattle.hack_base.specs.Notes.{note_of}
use Rattle.hack_versions.specs.declared.rustup.Rustup.TheVariants.{Unasked}
use Rattle.hack_words.specs.CommandLine.{ComesTo}
use Rattle.hack_words.specs.ParseAnswers.{around_of}
use Rattle.hack_recovery.specs.AskedEdits.Asks.{faulty, parsed}
use Rattle.hack_recovery.proofs.AskLemmas.{refusal}
use Rattle.hack_recovery.proofs.BackLemmas.{back_restores}
use Rattle.hack_recovery.proofs.asked.Asked.of.Goals as goal

pub returns-in_ok-manifest_path-in-Accepted-clause-asks : goal.returns-in_ok-manifest_path-in-Accepted-clause-asks
returns-in_ok-manifest_path-in-Accepted-clause-asks c =
    parsed c.in-Accepted.parsed (map note_of c.in-Accepted.notices.items) c.in-Accepted.ensures.0 (rw (c.edits_by-edits.ensures, c.in_ok-manifest_path-in-Accepted.ensures) refl)

pub returns-in_ok-manifest_path-in-Accepted-clause-back : goal.returns-in_ok-manifest_path-in-Accepted-clause-back
returns-in_ok-manifest_path-in-Accepted-clause-back c =
    back_restores c.args.env.now (names_of c.args.words.now) c.edits_by-edits.result (optional_text c.in_ok-manifest_path-in-Accepted.manifest_path) (returns-in_ok-manifest_path-in-Accepted-clause-asks c)

pub returns-in_ok-fault-in-Refused-clause-asks : goal.returns-in_ok-fault-in-Refused-clause-asks
returns-in_ok-fault-in-Refused-clause-asks c =
    let told = refusal (ComesTo (around_of c.args.env.now Unasked) (names_of c.args.words.now)) c.in-Refused.fault c.in-Refused.ensures c.in_ok-fault-in-Refused.ensures.1 in
    faulty told.0 told.1 refl

pub returns-in_ok-manifest_path-in-Accepted-clause-prints : goal.returns-in_ok-manifest_path-in-Accepted-clause-prints
returns-in_ok-manifest_path-in-Accepted-clause-prints c =
    parsed c.in-Accepted.parsed (map note_of c.in-Accepted.notices.items) c.in-Accepted.ensures.0 c.prints-prints.ensures

pub returns-in_ok-fault-in-Refused-clause-prints : goal.returns-in_ok-fault-in-Refused-clause-prints
returns-in_ok-fault-in-Refused-clause-prints c =
    let told = refusal (ComesTo (around_of c.args.env.now Unasked) (names_of c.args.words.now)) c.in-Refused.fault c.in-Refused.ensures c.in_ok-fault-in-Refused.ensures.1 in
    faulty told.0 told.1 refl
