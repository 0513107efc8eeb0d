use Rattle.std.proofs.Common.{◌≡◌, ap, false, inl, inr, map, refl, rules}
use Rattle.hack_base.specs.Names.{names_of}
use Rattle.hack_base.specs.Notes.{note_of}
use Rattle.hack_files.proofs.RefusalLemmas.{but_none}
use Rattle.hack_words.proofs.AnswerLemmas.{answers-never}
use Rattle.hack_words.specs.ParseAnswers.{around_of}
use Rattle.hack_run.specs.TemporaryEdits.{ComesBack, RestoresEdits}
use Rattle.hack_files.specs.View.{files_view}
use Rattle.hack_run.specs.Worlds.{world_of}
use Rattle.hack_run.proofs.BackLemmas.{clean_by}
use Rattle.hack_run.proofs.ChangeLemmas.{traces}
use Rattle.hack_run.proofs.TraceLemmas.{done, on_ok}
use Rattle.hack_run.proofs.LastingLemmas.{reads_left}
use Rattle.hack_run.proofs.run.read.Goals as goal

pub returns-in-Accepted-clause-refused : goal.returns-in-Accepted-clause-refused
returns-in-Accepted-clause-refused g c = λ refused.
    let after = rw c.in-Accepted.is at c.in_ok-parsed.ensures.read in
    let told = refused after.rustup in
    absurd (answers-never (around_of c.args.host.now.env.now after.rustup) (names_of c.args.words.now) c.in-Accepted.parsed (map note_of c.in-Accepted.notices.items) after.read told.0 told.1)

pub returns-in-Accepted-clause-told : goal.returns-in-Accepted-clause-told
returns-in-Accepted-clause-told g c = λ refused.
    let after = rw c.in-Accepted.is at c.in_ok-parsed.ensures.read in
    let told = refused after.rustup in
    absurd (answers-never (around_of c.args.host.now.env.now after.rustup) (names_of c.args.words.now) c.in-Accepted.parsed (map note_of c.in-Accepted.notices.items) after.read told.0 told.1)

pub returns-in-Accepted-clause-done : goal.returns-in-Accepted-clause-done
returns-in-Accepted-clause-done g c =
    let after = rw c.in-Accepted.is at c.in_ok-parsed.ensures.read in
    done g.C.Caller.tells g.F.Files.tells (c.obey.new.host.term.now.error ≡ false) c.obey.result (names_of c.args.words.now) c.args.host.now.env.now
    (world_of g.F.Files g.C.Caller g.O.Sink c.args.files.now c.args.host.now) (world_of g.F.Files g.C.Caller g.O.Sink c.obey.new.files c.obey.new.host) (g.C.Caller.calls c.reading_of.new.caller)
    after.rustup c.in-Accepted.parsed (map note_of c.in-Accepted.notices.items) c.reading_of.ensures.may (λ off. ap g.C.Caller.calls (c.reading_of.ensures.unneeded off)) after.read after.asked (rw c.as_slice.ensures.value at c.obey.ensures.done)

pub returns-in-Accepted-clause-traced : goal.returns-in-Accepted-clause-traced
returns-in-Accepted-clause-traced g c =
    let after = rw c.in-Accepted.is at c.in_ok-parsed.ensures.read in
    traces g.C.Caller.tells g.F.Files.tells g.F.Files.whole (c.obey.new.host.term.now.error ≡ false) c.obey.result (names_of c.args.words.now) c.args.host.now.env.now
    (world_of g.F.Files g.C.Caller g.O.Sink c.args.files.now c.args.host.now) (world_of g.F.Files g.C.Caller g.O.Sink c.obey.new.files c.obey.new.host) (g.C.Caller.calls c.reading_of.new.caller)
    after.rustup c.in-Accepted.parsed (map note_of c.in-Accepted.notices.items) after.read after.asked (rw c.as_slice.ensures.value at c.obey.ensures.traced)

pub returns-in-Accepted-clause-clean : goal.returns-in-Accepted-clause-clean
returns-in-Accepted-clause-clean g c =
    let after = rw c.in-Accepted.is at c.in_ok-parsed.ensures.read in
    clean_by (ComesBack c.in-Accepted.parsed) (RestoresEdits c.args.host.now.env.now (names_of c.args.words.now)) (c.obey.new.host.term.now.error ≡ false) g.F.Files.tells (files_view g.F.Files c.args.files.now) (files_view g.F.Files c.obey.new.files) c.obey.result
    (λ back. back after.rustup c.in-Accepted.parsed (map note_of c.in-Accepted.notices.items) after.read) c.obey.ensures.clean

pub returns-in-Accepted-clause-spoilt : goal.returns-in-Accepted-clause-spoilt
returns-in-Accepted-clause-spoilt g c = λ back.
    let after = rw c.in-Accepted.is at c.in_ok-parsed.ensures.read in
    c.obey.ensures.spoilt (back after.rustup c.in-Accepted.parsed (map note_of c.in-Accepted.notices.items) after.read)

pub returns-in-Refused-clause-spoilt : goal.returns-in-Refused-clause-spoilt
returns-in-Refused-clause-spoilt g c = λ back. but_none (g.F.Files.refuses c.args.files.now c.args.files.now) _ _ (g.F.Files.refuses_none _)

pub returns-in_err-parsed-clause-spoilt : goal.returns-in_err-parsed-clause-spoilt
returns-in_err-parsed-clause-spoilt g c = λ back. but_none (g.F.Files.refuses c.args.files.now c.args.files.now) _ _ (g.F.Files.refuses_none _)

pub returns-in-Accepted-clause-lanes : goal.returns-in-Accepted-clause-lanes
returns-in-Accepted-clause-lanes g c =
    let after = rw c.in-Accepted.is at c.in_ok-parsed.ensures.read in
    on_ok _ _ c.obey.result (λ obeyed. record {
      mid = c.reading_of.new.caller;
      between = c.reading_of.ensures.course;
      asked = c.reading_of.ensures.may;
      behind = inr (record { rustup = after.rustup; answer = c.in-Accepted.parsed; notes = map note_of c.in-Accepted.notices.items; told = after.asked; read = after.read; obeyed = obeyed });
    })
    c.obey.ensures.lanes

pub returns-in-Accepted-clause-in_lanes : goal.returns-in-Accepted-clause-in_lanes
returns-in-Accepted-clause-in_lanes g c =
    let after = rw c.in-Accepted.is at c.in_ok-parsed.ensures.read in
    record {
      mid = c.reading_of.new.caller;
      between = c.reading_of.ensures.course;
      asked = c.reading_of.ensures.may;
      behind = inr (record { rustup = after.rustup; answer = c.in-Accepted.parsed; notes = map note_of c.in-Accepted.notices.items; told = after.asked; read = after.read; obeyed = c.obey.ensures.in_lanes });
    }

pub returns-in-Refused-clause-in_lanes : goal.returns-in-Refused-clause-in_lanes
returns-in-Refused-clause-in_lanes g c = record { mid = c.reading_of.new.caller; between = c.reading_of.ensures.course; asked = c.reading_of.ensures.may; behind = inl (refl, refl) }

pub returns-in_err-parsed-clause-in_lanes : goal.returns-in_err-parsed-clause-in_lanes
returns-in_err-parsed-clause-in_lanes g c = record { mid = c.reading_of.new.caller; between = c.reading_of.ensures.course; asked = c.reading_of.ensures.may; behind = inl (refl, refl) }

pub returns-in-Accepted-clause-shown : goal.returns-in-Accepted-clause-shown
returns-in-Accepted-clause-shown g c = λ t.
    let after = rw c.in-Accepted.is at c.in_ok-parsed.ensures.read in
    inr (record {
      calls = g.C.Caller.calls c.reading_of.new.caller;
      rustup = after.rustup;
      answer = c.in-Accepted.parsed;
      notes = map note_of c.in-Accepted.notices.items;
      asked = after.asked t;
      reason = after.reason t;
      read = after.read;
      said = rw c.as_slice.ensures.value at c.obey.ensures.shown t;
    })

pub returns-in-Refused-clause-shown : goal.returns-in-Refused-clause-shown
returns-in-Refused-clause-shown g c = λ t.
    let after = rw c.in-Refused.is at c.in_ok-parsed.ensures.read in
    inl (refl, inl (record { error = c.in-Refused.fault; rustup = after.rustup; asked = after.asked t; reason = after.reason t; read = after.read; came_to = refl; ends = refl; streams = refl }))

pub returns-in_err-parsed-clause-shown : goal.returns-in_err-parsed-clause-shown
returns-in_err-parsed-clause-shown g c = λ t. inl (refl, inr (search rules, c.reading_of.ensures.may t, refl, refl))

pub returns-in-Accepted-clause-stood : goal.returns-in-Accepted-clause-stood
returns-in-Accepted-clause-stood g c =
    let after = rw c.in-Accepted.is at c.in_ok-parsed.ensures.read in
    on_ok _ _ c.obey.result (λ obeyed. record {
      mid = g.C.Caller.calls c.reading_of.new.caller;
      rustup = after.rustup;
      answer = c.in-Accepted.parsed;
      notes = map note_of c.in-Accepted.notices.items;
      told = after.asked;
      read = after.read;
      obeyed = obeyed;
    })
    c.obey.ensures.stood

pub returns-in-Accepted-clause-lasting : goal.returns-in-Accepted-clause-lasting
returns-in-Accepted-clause-lasting g c =
    let after = rw c.in-Accepted.is at c.in_ok-parsed.ensures.read in
    reads_left _ g.F.Files.tells g.C.Caller.tells (names_of c.args.words.now) c.args.host.now.env.now _ (g.C.Caller.calls c.reading_of.new.caller) _ _ after.rustup c.in-Accepted.parsed (map note_of c.in-Accepted.notices.items) after.asked after.read c.obey.ensures.lasting

pub returns-in-Refused-clause-lasting : goal.returns-in-Refused-clause-lasting
returns-in-Refused-clause-lasting g c = inl (but_none (g.F.Files.refuses c.args.files.now c.args.files.now) _ _ (g.F.Files.refuses_none _))

pub returns-in_err-parsed-clause-lasting : goal.returns-in_err-parsed-clause-lasting
returns-in_err-parsed-clause-lasting g c = inl (but_none (g.F.Files.refuses c.args.files.now c.args.files.now) _ _ (g.F.Files.refuses_none _))
