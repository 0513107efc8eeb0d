use Rattle.std.proofs.Common.{◌∙◌, ap, map, refl, string_bytes, sym}
use Rattle.std.proofs.lemmas.Option.{slice_get_read}
use Rattle.hack_plan.proofs.CommandJoins.{one-at}
use Rattle.hack_plan.proofs.commands.one_at.Goals as goal

pub returns-in-Some : goal.returns-in-Some
returns-in-Some c = ap (map string_bytes) c.from_ref.ensures.value ∙ sym (one-at string_bytes c.args.texts.now c.args.place c.in-Some.text.now (slice_get_read c.args.texts.now _ c.args.place c.in-Some.text.now refl c.in-Some.ensures.lookup.3.0 c.in-Some.ensures.lookup.1))
