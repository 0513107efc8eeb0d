use Rattle.std.proofs.Common.{◌≡◌, ◌++◌, ◌∷◌, [], List, ℕ, map, filter, true, ap, ◌∙◌, sym, subst, string_bytes}
use Rattle.std.specs.Prelude.{not, bytes_eq, slice_get, Some}
use Rattle.std.proofs.lemmas.Bool.{and_from}
use Rattle.hack_base.specs.Writes.{AppendsFront}
use Rattle.hack_base.specs.Names.{Name}
use Rattle.hack_features.specs.Feature.{name_of}
use Rattle.hack_sets.specs.Questions.{is_whole}
use Rattle.hack_features.specs.View.{whole_of}
use Rattle.hack_sets.proofs.Permitted.{whole-cons}
use Rattle.hack_plan.specs.Runs.{Set}
use Rattle.hack_powerset_list.specs.Lines.{run_line}
use Rattle.hack_powerset_list.specs.Walks.{is_other, set_lines}
use Rattle.hack_powerset_list.proofs.PageLemmas.{on_err-same}
use Rattle.hack_powerset_list.proofs.ListedLemmas.{line-alone}
use Rattle.hack_powerset_list.proofs.walk.print_other.Goals as goal

same-some : {X : Type 0} {a b : X} → Some a ≡ Some b → a ≡ b
same-some e = cc

pub returns-in-Some-clause-err : goal.returns-in-Some-clause-err
returns-in-Some-clause-err g c = λ p s set others.
    let r = c.args.rules.now in
    let x : List ℕ = c.args.set.now in
    let last : List ℕ = c.args.lines.now.last.now in
    let names : List Name = map name_of c.args.lines.now.features.now in
    let least : c.in-Some.least.now ≡ p = same-some (c.in-Some.ensures.value ∙ ap (λ l. slice_get l 0) set) in
    let is : x ≡ c.in-Some.least.now ∷ s = set ∙ ap (λ q. q ∷ s) (sym least) in
    let whole : is_whole (whole_of r) x ≡ true =
    subst (λ l. is_whole (whole_of r) l ≡ true) (sym is)
    (whole-cons (whole_of r) c.in-Some.least.now s ∙ ap (whole_of r) (sym is) ∙ sym c.complete.ensures.answer ∙ c.if-complete.true) in
    let passes : is_other r last x ≡ true = and_from (is_whole (whole_of r) x) (not (bytes_eq x last)) whole (sym c.ne.ensures ∙ c.if-ne.true) in
    let line : run_line names (Set (c.in-Some.least.now ∷ s)) ≡ set_lines names (filter (is_other r last) (x ∷ [])) =
    ap (λ l. run_line names (Set l)) (sym is) ∙ sym (line-alone names (is_other r last) x passes) in
    on_err-same c.print_set.result (λ l. AppendsFront (g.W.Sink.contents c.args.out.now) (g.W.Sink.contents c.print_set.new.out) (string_bytes c.args.page.now ++ l)) _ _ line (c.print_set.ensures.err s others)
