use Rattle.std.proofs.Common.{◌++◌, codes, ap, subst}
use Rattle.hack_base.specs.Writes.{AppendsFront}
use Rattle.hack_powerset_list.specs.Faults.{list_fault_text}
use Rattle.hack_powerset_list.proofs.PageLemmas.{parts-end}
use Rattle.hack_powerset_list.proofs.fault.ListFault.tell.Goals as goal

pub returns-clause-front : goal.returns-clause-front
returns-clause-front g c =
    let p = c.parts-parts.result in
    subst (AppendsFront (g.E.Sink.contents c.args.err.now) (g.E.Sink.contents c.write_texts.new.out))
    (ap (λ l. codes "error: " ++ l) (parts-end p.before.now p.written.now p.behind.now (list_fault_text c.args.self.now) (codes "\n") c.parts-parts.ensures))
    c.write_texts.ensures.front
