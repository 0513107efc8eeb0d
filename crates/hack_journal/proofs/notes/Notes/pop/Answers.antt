use Rattle.std.proofs.Common.{◌≡◌, ◌-◌, ◌∙◌, length, ap, arith, string_bytes}
use Rattle.hack_base.specs.Names.{names_of}
use Rattle.std.proofs.lemmas.List.{length-take}
use Rattle.hack_journal.proofs.NoteLemmas.{later_less}
use Rattle.hack_journal.proofs.notes.Notes.pop.Goals as goal

pub invariant_of-self : goal.invariant_of-self
invariant_of-self c =
    let entries = c.self.inside.entries in
    let less : length c.pop-2.new.self.items ≡ length entries.items - 1 = omega (arith, ap length c.pop-2.ensures.rest, length-take (entries.len - 1) entries.items, entries.ok.0) in
    ap names_of c.pop.ensures.rest ∙ later_less (string_bytes c.self.inside.journal) c.self.inside.later.items (length entries.items) (length c.pop-2.new.self.items) _ c.self.invariant c.self.inside.later.ok.0 less
