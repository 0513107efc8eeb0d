use Rattle.std.proofs.Common.{◌≡◌, ◌∙◌, ◌++◌, IsTrue, List, ℕ, add-one, ap, codes, false, sym, subst}
use Rattle.std.specs.List.{repeat}
use Rattle.hack_base.specs.PathTexts.{is_rooted, normal_of, parent_of, under_of, without_front}
use Rattle.hack_journal.specs.Keeping.{climbing_way, folder_above}
use Rattle.hack_journal.specs.Rows.{leads_to}
use Rattle.hack_journal.proofs.WayLemmas.{climbs_more, one_more}
use Rattle.hack_journal.proofs.place.near_way.Goals as goal

pub loop-steps-preserved : goal.loop-steps-preserved
loop-steps-preserved c =
    let folder = c.args.folder.now in
    let path = c.args.path.now in
    let n = c.loop-steps.steps in
    let i = c.loop-steps.invariant in
    let rest : c.unrooted-rest.result.now ≡ without_front (codes "/") (under_of path (folder_above n (normal_of folder))) =
    c.unrooted-rest.ensures ∙ ap (without_front (codes "/")) (c.under.ensures ∙ ap (under_of path) i.above) in
    let way : c.as_str.result.now ≡ climbing_way n folder path =
    c.as_str.ensures.value ∙ c.in_ok-way.ensures.ok ∙ ap (λ (l : List ℕ). l ++ c.unrooted-rest.result.now) i.ups ∙ ap (λ (l : List ℕ). repeat n (codes "../") ++ l) rest in
    record {
      ups = c.in_ok-push_str.ensures.bytes ∙ ap (λ (l : List ℕ). l ++ codes "../") i.ups ∙ one_more n (codes "../") ∙ ap (λ (k : ℕ). repeat k (codes "../")) (sym (add-one n));
      above = c.parent-above.ensures ∙ ap parent_of i.above ∙ ap (λ (k : ℕ). folder_above k (normal_of folder)) (sym (add-one n));
      text = c.parent-above.utf8;
      none = climbs_more folder path n i.none (λ off leads.
          let on : IsTrue c.in_ok-leads.field-0 = c.in_ok-leads.ensures.1 (subst (λ (w : List ℕ). (is_rooted w ≡ false) × (leads_to folder w ≡ path)) (sym way) (off, leads)) in
          cc);
    }
