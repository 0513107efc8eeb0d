use Rattle.std.proofs.Common.{◌≡◌, ◌∙◌, OnOk, ap, false, inl, map, refl, subst, sym}
use Rattle.hack_base.specs.Notes.{note_of}
use Rattle.hack_files.specs.Files.{KeepsAllBut}
use Rattle.hack_files.proofs.RefusalLemmas.{but_none}
use Rattle.hack_term.specs.declared.term.Term.{Term}
use Rattle.hack_words.specs.declared.cli.parse.Parsed.{Parsed}
use Rattle.hack_words.specs.declared.cli.parse.Parsed.TheVariants as parsed
use Rattle.hack_run.specs.TemporaryEdits.{ComesBack, IsClean}
use Rattle.hack_run.specs.CallTrace.{warned_by}
use Rattle.hack_files.specs.View.{files_view}
use Rattle.hack_run.specs.Worlds.{world_of}
use Rattle.hack_files.specs.TraceLaws.{makes_none}
use Rattle.hack_run.proofs.BackLemmas.{clean_rest}
use Rattle.hack_run.proofs.ChangeLemmas.{obeys_changes, obeys_unloaded}
use Rattle.hack_run.proofs.LastingLemmas.{obeys_left}
use Rattle.hack_run.proofs.TraceLemmas.{dressed, lists, lists_made, obeys, obeys_done, prints, prints_made}
use Rattle.hack_base.specs.Streams.{stream_of}
use Rattle.hack_run.specs.Shown.{looks_of, scene_on}
use Rattle.hack_run.proofs.ShownCalls.{args_said}
use Rattle.hack_run.proofs.run.obey.Goals as goal

pub returns-in-Args-clause-done : goal.returns-in-Args-clause-done
returns-in-Args-clause-done g c =
    let notes = map note_of c.args.notices.now in
    obeys_done g.C.Caller.tells g.F.Files.tells (c.perform.new.host.term.now.error ≡ false) c.perform.result c.in-Args.args c.args.parsed c.args.host.now.env.now (warned_by c.args.parsed notes c.args.host.now.term.now.warn)
    (world_of g.F.Files g.C.Caller g.O.Sink c.args.files.now c.args.host.now) (world_of g.F.Files g.C.Caller g.O.Sink c.perform.new.files c.perform.new.host) c.tell_all.new.term c.in-Args.is
    (dressed c.args.host.now.term.now c.dress.new.term c.tell_all.new.term c.args.parsed c.in-Args.args notes c.in-Args.is c.dress.ensures.warn c.tell_all.ensures.noted) c.perform.ensures.done

pub returns-in-Args-clause-made : goal.returns-in-Args-clause-made
returns-in-Args-clause-made g c = λ t.
    let notes = map note_of c.args.notices.now in
    obeys false g.F.Files.tells c.in-Args.args c.args.parsed c.args.host.now.env.now (warned_by c.args.parsed notes c.args.host.now.term.now.warn)
    (world_of g.F.Files g.C.Caller g.O.Sink c.args.files.now c.args.host.now) (world_of g.F.Files g.C.Caller g.O.Sink c.perform.new.files c.perform.new.host) c.tell_all.new.term c.in-Args.is
    (dressed c.args.host.now.term.now c.dress.new.term c.tell_all.new.term c.args.parsed c.in-Args.args notes c.in-Args.is c.dress.ensures.warn c.tell_all.ensures.noted) (c.perform.ensures.made t)

pub returns-in-Print-clause-done : goal.returns-in-Print-clause-done
returns-in-Print-clause-done g c =
    let first = world_of g.F.Files g.C.Caller g.O.Sink c.args.files.now c.args.host.now in
    prints g.C.Caller.tells g.F.Files.tells (c.args.host.now.term.now.error ≡ false) c.print.result c.args.parsed c.in-Print.text (map note_of c.args.notices.now) c.args.host.now.env.now
    first (record first { host = record first.host { out = g.O.Sink.contents c.print.new.out } }) c.in-Print.is refl refl refl (rw c.as_str.ensures.value at c.print.ensures.all)

pub returns-in-Print-clause-made : goal.returns-in-Print-clause-made
returns-in-Print-clause-made g c = λ t.
    let first = world_of g.F.Files g.C.Caller g.O.Sink c.args.files.now c.args.host.now in
    prints_made g.F.Files.tells c.args.parsed c.in-Print.text c.args.host.now.env.now (warned_by c.args.parsed (map note_of c.args.notices.now) c.args.host.now.term.now.warn)
    first (record first { host = record first.host { out = g.O.Sink.contents c.print.new.out } }) c.in-Print.is refl (rw c.as_str.ensures.value at c.print.ensures.front)

pub returns-in-List-clause-done : goal.returns-in-List-clause-done
returns-in-List-clause-done g c =
    let notes = map note_of c.args.notices.now in
    let first = world_of g.F.Files g.C.Caller g.O.Sink c.args.files.now c.args.host.now in
    lists g.C.Caller.tells g.F.Files.tells (c.tell_all-in-List.new.term.error ≡ false) c.list_commands.result c.args.parsed c.args.host.now.env.now (warned_by c.args.parsed notes c.args.host.now.term.now.warn) first
    (record first { host = record first.host { calls = g.C.Caller.calls c.list_commands.new.caller; term = c.tell_all-in-List.new.term } }) c.in-List.is
    (subst (λ (p : Parsed). c.tell_all-in-List.new.term.warn ≡ warned_by p notes c.args.host.now.term.now.warn) (sym c.in-List.is) (ap (λ (k : Term). k.warn) c.tell_all-in-List.ensures.noted)) refl refl c.list_commands.ensures.done

pub returns-in-List-clause-made : goal.returns-in-List-clause-made
returns-in-List-clause-made g c = λ t.
    let first = world_of g.F.Files g.C.Caller g.O.Sink c.args.files.now c.args.host.now in
    lists_made g.F.Files.tells c.args.parsed c.args.host.now.env.now (warned_by c.args.parsed (map note_of c.args.notices.now) c.args.host.now.term.now.warn) first
    (record first { host = record first.host { calls = g.C.Caller.calls c.list_commands.new.caller; term = c.tell_all-in-List.new.term } }) c.in-List.is refl (c.list_commands.ensures.made t)

pub returns-in-Args-clause-clean : goal.returns-in-Args-clause-clean
returns-in-Args-clause-clean g c =
    subst (λ (p : Parsed). OnOk c.perform.result (c.perform.new.host.term.now.error ≡ false → IsClean (ComesBack p) g.F.Files.tells (files_view g.F.Files c.args.files.now) (files_view g.F.Files c.perform.new.files)))
    (sym c.in-Args.is) c.perform.ensures.clean

pub returns-in-Print-clause-clean : goal.returns-in-Print-clause-clean
returns-in-Print-clause-clean g c =
    clean_rest (c.args.host.now.term.now.error ≡ false) (ComesBack c.args.parsed) g.F.Files.tells (files_view g.F.Files c.args.files.now) c.print.result

pub returns-in-List-clause-clean : goal.returns-in-List-clause-clean
returns-in-List-clause-clean g c =
    clean_rest (c.tell_all-in-List.new.term.error ≡ false) (ComesBack c.args.parsed) g.F.Files.tells (files_view g.F.Files c.args.files.now) c.list_commands.result

pub returns-in-Args-clause-spoilt : goal.returns-in-Args-clause-spoilt
returns-in-Args-clause-spoilt g c =
    subst (λ (p : Parsed). ComesBack p → KeepsAllBut (g.F.Files.refuses c.args.files.now c.perform.new.files) g.F.Files.tells (g.F.Files.bytes_at c.args.files.now) (g.F.Files.bytes_at c.perform.new.files)) (sym c.in-Args.is) c.perform.ensures.spoilt

pub returns-in-Print-clause-spoilt : goal.returns-in-Print-clause-spoilt
returns-in-Print-clause-spoilt g c = λ back. but_none (g.F.Files.refuses c.args.files.now c.args.files.now) _ _ (g.F.Files.refuses_none _)

pub returns-in-List-clause-spoilt : goal.returns-in-List-clause-spoilt
returns-in-List-clause-spoilt g c = λ back. but_none (g.F.Files.refuses c.args.files.now c.args.files.now) _ _ (g.F.Files.refuses_none _)

pub returns-in-Args-clause-traced : goal.returns-in-Args-clause-traced
returns-in-Args-clause-traced g c =
    let notes = map note_of c.args.notices.now in
    obeys_changes g.C.Caller.tells g.F.Files.tells g.F.Files.whole (c.perform.new.host.term.now.error ≡ false) c.perform.result c.in-Args.args c.args.parsed c.args.host.now.env.now (warned_by c.args.parsed notes c.args.host.now.term.now.warn)
    (world_of g.F.Files g.C.Caller g.O.Sink c.args.files.now c.args.host.now) (world_of g.F.Files g.C.Caller g.O.Sink c.perform.new.files c.perform.new.host) c.tell_all.new.term c.in-Args.is
    (dressed c.args.host.now.term.now c.dress.new.term c.tell_all.new.term c.args.parsed c.in-Args.args notes c.in-Args.is c.dress.ensures.warn c.tell_all.ensures.noted) c.perform.ensures.traced

pub returns-in-Print-clause-traced : goal.returns-in-Print-clause-traced
returns-in-Print-clause-traced g c =
    let first = world_of g.F.Files g.C.Caller g.O.Sink c.args.files.now c.args.host.now in
    obeys_unloaded g.C.Caller.tells g.F.Files.tells g.F.Files.whole (c.args.host.now.term.now.error ≡ false) c.print.result c.args.parsed c.args.host.now.env.now (warned_by c.args.parsed (map note_of c.args.notices.now) c.args.host.now.term.now.warn)
    first (record first { host = record first.host { out = g.O.Sink.contents c.print.new.out } }) (λ args is. let e : parsed.Print c.in-Print.text ≡ parsed.Args args = sym c.in-Print.is ∙ is in cc)
    (makes_none (g.F.Files.trace c.args.files.now) (g.F.Files.bytes_at c.args.files.now))

pub returns-in-List-clause-traced : goal.returns-in-List-clause-traced
returns-in-List-clause-traced g c =
    let first = world_of g.F.Files g.C.Caller g.O.Sink c.args.files.now c.args.host.now in
    obeys_unloaded g.C.Caller.tells g.F.Files.tells g.F.Files.whole (c.tell_all-in-List.new.term.error ≡ false) c.list_commands.result c.args.parsed c.args.host.now.env.now (warned_by c.args.parsed (map note_of c.args.notices.now) c.args.host.now.term.now.warn)
    first (record first { host = record first.host { calls = g.C.Caller.calls c.list_commands.new.caller; term = c.tell_all-in-List.new.term } }) (λ args is. let e : parsed.List ≡ parsed.Args args = sym c.in-List.is ∙ is in cc)
    (makes_none (g.F.Files.trace c.args.files.now) (g.F.Files.bytes_at c.args.files.now))

pub returns-in-Args-clause-shown : goal.returns-in-Args-clause-shown
returns-in-Args-clause-shown g c = λ t.
    args_said g.F.Files c.args.files.now c.perform.new.files c.perform.result g.C.Caller.tells c.args.parsed c.in-Args.args (map note_of c.args.notices.now) c.args.host.now.env.now
    c.args.host.now.term.now c.dress.new.term c.tell_all.new.term (looks_of c.perform.new.host.term.now) (stream_of g.E.Sink c.tell_all.new.err) (scene_on g.C.Caller g.O.Sink g.E.Sink c.args.host.now) (scene_on g.C.Caller g.O.Sink g.E.Sink c.perform.new.host)
    c.in-Args.is c.dress.ensures.error c.dress.ensures.verbose c.dress.ensures.coloring c.tell_all.ensures.noted c.tell_all.ensures.shown (c.perform.ensures.shown t)

pub returns-in-Print-clause-shown : goal.returns-in-Print-clause-shown
returns-in-Print-clause-shown g c = λ t. rw c.in-Print.is (refl, rw c.as_str.ensures.value at c.print.ensures.shown, refl, refl, refl)

pub returns-in-List-clause-shown : goal.returns-in-List-clause-shown
returns-in-List-clause-shown g c = λ t. rw c.in-List.is (refl, c.tell_all-in-List.ensures.shown, ap looks_of c.tell_all-in-List.ensures.noted, refl, c.list_commands.ensures.comes t)

pub returns-in-Args-clause-lasting : goal.returns-in-Args-clause-lasting
returns-in-Args-clause-lasting g c = obeys_left _ g.F.Files.tells g.C.Caller.tells c.in-Args.args c.args.parsed c.args.host.now.env.now _ _ _ c.in-Args.is c.perform.ensures.lasting

pub returns-in-Print-clause-lasting : goal.returns-in-Print-clause-lasting
returns-in-Print-clause-lasting g c = inl (but_none (g.F.Files.refuses c.args.files.now c.args.files.now) _ _ (g.F.Files.refuses_none _))

pub returns-in-List-clause-lasting : goal.returns-in-List-clause-lasting
returns-in-List-clause-lasting g c = inl (but_none (g.F.Files.refuses c.args.files.now c.args.files.now) _ _ (g.F.Files.refuses_none _))
