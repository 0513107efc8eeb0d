use Rattle.std.proofs.Common.{◌≡◌, ◌∙◌, IsTrue, List, false, subst, sym, ℕ}
use Rattle.hack_base.specs.PathTexts.{is_rooted}
use Rattle.hack_journal.specs.Rows.{leads_to}
use Rattle.hack_journal.proofs.WayLemmas.{by_root, wayless}
use Rattle.hack_journal.proofs.place.relative.Goals as goal

pub returns-clause-none : goal.returns-clause-none
returns-clause-none c =
    let folder = c.args.folder.now in
    let path = c.args.path.now in
    let far : c.as_str.result.now ≡ by_root folder path = c.as_str.ensures.value ∙ c.in_ok-far.ensures in
    wayless folder path (rw c.in_default.is at c.in_ok-near.ensures.none) (λ there.
    let on : IsTrue c.in_ok-leads.field-0 = c.in_ok-leads.ensures.1 (subst (λ (w : List ℕ). (is_rooted w ≡ false) × (leads_to folder w ≡ path)) (sym far) there) in
    cc)
