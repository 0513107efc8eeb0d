use Rattle.std.proofs.Common.{ap, ◌∙◌, option_map}
use Rattle.hack_base.specs.Names.{names_of}
use Rattle.hack_powerset_list.proofs.InputLemmas.{member-turn}
use Rattle.hack_powerset_list.proofs.input.map_of.Goals as goal

pub loop-key-preserved-in_ok-insert : goal.loop-key-preserved-in_ok-insert
loop-key-preserved-in_ok-insert c =
    member-turn c.args.bytes.now c.loop-key.map c.insert.new.self c.loop-key.key-iterator c.next.new.self c.next.result c.in-Some.key c.in-Some.value c.in-Some-2.texts
    c.in-Some.is c.next.ensures.steps c.in_ok-insert.ensures.entries (c.in_ok-texts.ensures ∙ ap (option_map (λ texts. names_of texts.items)) c.in-Some-2.is) c.loop-key.invariant

pub loop-key-preserved : goal.loop-key-preserved
loop-key-preserved c =
    member-turn c.args.bytes.now c.loop-key.map c.insert.new.self c.loop-key.key-iterator c.next.new.self c.next.result c.in-Some.key c.in-Some.value c.in-Some-2.texts
    c.in-Some.is c.next.ensures.steps c.in_ok-insert.ensures.entries (c.in_ok-texts.ensures ∙ ap (option_map (λ texts. names_of texts.items)) c.in-Some-2.is) c.loop-key.invariant
