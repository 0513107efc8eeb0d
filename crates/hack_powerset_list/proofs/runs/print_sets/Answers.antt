use Rattle.std.proofs.Common.{◌≡◌, ◌<◌, ◌++◌, [], List, ℕ, map, length, get_or, ap, ◌∙◌, sym, subst, filter, string_bytes, append-nil}
use Rattle.hack_base.specs.Writes.{AppendsFront}
use Rattle.hack_base.specs.Names.{Name}
use Rattle.hack_features.specs.Feature.{name_of}
use Rattle.hack_features.specs.View.{may_of}
use Rattle.hack_plan.specs.Runs.{Set}
use Rattle.hack_plan.specs.RunsView.{with_last_first}
use Rattle.hack_powerset_list.specs.Lines.{run_line}
use Rattle.hack_powerset_list.specs.LineWords.{PrintsText}
use Rattle.hack_powerset_list.specs.Room.{set_in}
use Rattle.hack_sets.specs.Walk.{below}
use Rattle.hack_powerset_list.specs.Walks.{is_other, listed_in, set_lines}
use Rattle.hack_powerset_list.proofs.PageLemmas.{prints-none, prints-then, prints-stopped, on_err-any, on_ok-then, on_err-then}
use Rattle.hack_powerset_list.proofs.LastLemmas.{first-text, behind-text, text-others, last-selection, last-some}
use Rattle.hack_powerset_list.proofs.runs.print_sets.Goals as goal

pub print_whole-requires-clause-below : goal.print_whole-requires-clause-below
print_whole-requires-clause-below g c =
    λ k d lt. subst (λ n. get_or c.args.lines.now.last.now k d < n) c.requires.size ((last-selection c.args.rules.now c.args.lines.now.last.now c.requires.last).below k d lt)

pub print_whole-requires-clause-some : goal.print_whole-requires-clause-some
print_whole-requires-clause-some g c = last-some c.args.rules.now c.args.lines.now.last.now c.requires.last

pub returns-in_err-print_whole-clause-err : goal.returns-in_err-print_whole-clause-err
returns-in_err-print_whole-clause-err g c =
    let r = c.args.rules.now in
    let names : List Name = map name_of c.args.lines.now.features.now in
    let last : List ℕ = c.args.lines.now.last.now in
    let sets : List (List ℕ) = listed_in r in
    let front : List (List ℕ) = c.requires.last.front in
    let page : List ℕ = string_bytes c.args.page.now in
    let all : List ℕ = set_lines names (with_last_first c.args.last_first sets) in
    let is : all ≡ run_line names (Set last) ++ set_lines names front = first-text names sets front last c.requires.last.same c.args.last_first c.if-last_first.true in
    on_err-any c.from_residual.result _
    (prints-stopped _ _ (g.W.Sink.contents c.print_whole.new.out) page page [] (run_line names (Set last)) (set_lines names front) all
    (prints-none (g.W.Sink.contents c.args.out.now) page) c.in_err-print_whole.ensures.err is)

pub returns-in_err-print_below-clause-err : goal.returns-in_err-print_below-clause-err
returns-in_err-print_below-clause-err g c =
    let r = c.args.rules.now in
    let names : List Name = map name_of c.args.lines.now.features.now in
    let last : List ℕ = c.args.lines.now.last.now in
    let sets : List (List ℕ) = listed_in r in
    let front : List (List ℕ) = c.requires.last.front in
    let page : List ℕ = string_bytes c.args.page.now in
    let others : set_lines names (filter (is_other r last) (below (may_of r) (length c.args.lines.now.features.now) (set_in c.args.room.now))) ≡ set_lines names front =
    text-others names r front last (length c.args.lines.now.features.now) (set_in c.args.room.now) (sym c.requires.size) c.requires.none c.requires.last.same in
    let all : List ℕ = set_lines names (with_last_first c.args.last_first sets) in
    let is : all ≡ set_lines names front ++ run_line names (Set last) = behind-text names sets front last c.requires.last.same c.args.last_first c.if-last_first.false in
    on_err-any c.from_residual-in_err-print_below.result _
    (prints-stopped _ _ (g.W.Sink.contents c.print_below-else-last_first.new.out) page page [] (set_lines names front) (run_line names (Set last)) all
    (prints-none (g.W.Sink.contents c.args.out.now) page)
    (subst (λ l. AppendsFront (g.W.Sink.contents c.args.out.now) (g.W.Sink.contents c.print_below-else-last_first.new.out) (page ++ l)) others c.in_err-print_below.ensures.err) is)

pub print_whole-requires-else-last_first-clause-below : goal.print_whole-requires-else-last_first-clause-below
print_whole-requires-else-last_first-clause-below g c =
    λ k d lt. subst (λ n. get_or c.args.lines.now.last.now k d < n) c.requires.size ((last-selection c.args.rules.now c.args.lines.now.last.now c.requires.last).below k d lt)

pub print_whole-requires-else-last_first-clause-some : goal.print_whole-requires-else-last_first-clause-some
print_whole-requires-else-last_first-clause-some g c = last-some c.args.rules.now c.args.lines.now.last.now c.requires.last

pub returns-in_ok-print_whole-clause-ok : goal.returns-in_ok-print_whole-clause-ok
returns-in_ok-print_whole-clause-ok g c =
    let r = c.args.rules.now in
    let names : List Name = map name_of c.args.lines.now.features.now in
    let last : List ℕ = c.args.lines.now.last.now in
    let sets : List (List ℕ) = listed_in r in
    let front : List (List ℕ) = c.requires.last.front in
    let page : List ℕ = string_bytes c.args.page.now in
    let others : set_lines names (filter (is_other r last) (below (may_of r) (length c.args.lines.now.features.now) (set_in c.args.room.now))) ≡ set_lines names front =
    text-others names r front last (length c.args.lines.now.features.now) (set_in c.args.room.now) (sym c.requires.size) c.requires.none c.requires.last.same in
    let all : List ℕ = set_lines names (with_last_first c.args.last_first sets) in
    let is : all ≡ run_line names (Set last) ++ set_lines names front = first-text names sets front last c.requires.last.same c.args.last_first c.if-last_first.true in
    on_ok-then c.print_below.result _ _
    (λ h. subst (PrintsText (g.W.Sink.contents c.args.out.now) (g.W.Sink.contents c.print_below.new.out) page (string_bytes c.print_below.new.page)) (sym is)
    (prints-then _ _ _ page (string_bytes c.print_whole.new.page) (string_bytes c.print_below.new.page) (run_line names (Set last)) (set_lines names front) c.in_ok-print_whole.ensures.ok
    (subst (PrintsText (g.W.Sink.contents c.print_whole.new.out) (g.W.Sink.contents c.print_below.new.out) (string_bytes c.print_whole.new.page) (string_bytes c.print_below.new.page)) others h)))
    c.print_below.ensures.ok

pub returns-in_ok-print_whole-clause-err : goal.returns-in_ok-print_whole-clause-err
returns-in_ok-print_whole-clause-err g c =
    let r = c.args.rules.now in
    let names : List Name = map name_of c.args.lines.now.features.now in
    let last : List ℕ = c.args.lines.now.last.now in
    let sets : List (List ℕ) = listed_in r in
    let front : List (List ℕ) = c.requires.last.front in
    let page : List ℕ = string_bytes c.args.page.now in
    let others : set_lines names (filter (is_other r last) (below (may_of r) (length c.args.lines.now.features.now) (set_in c.args.room.now))) ≡ set_lines names front =
    text-others names r front last (length c.args.lines.now.features.now) (set_in c.args.room.now) (sym c.requires.size) c.requires.none c.requires.last.same in
    let all : List ℕ = set_lines names (with_last_first c.args.last_first sets) in
    let is : all ≡ run_line names (Set last) ++ set_lines names front = first-text names sets front last c.requires.last.same c.args.last_first c.if-last_first.true in
    on_err-then c.print_below.result _ _
    (λ h. prints-stopped _ _ _ page (string_bytes c.print_whole.new.page) (run_line names (Set last)) (set_lines names front) [] all c.in_ok-print_whole.ensures.ok
    (subst (λ l. AppendsFront (g.W.Sink.contents c.print_whole.new.out) (g.W.Sink.contents c.print_below.new.out) (string_bytes c.print_whole.new.page ++ l)) others h)
    (is ∙ ap (λ l. run_line names (Set last) ++ l) (sym (append-nil (set_lines names front)))))
    c.print_below.ensures.err

pub returns-in_ok-print_below-clause-ok : goal.returns-in_ok-print_below-clause-ok
returns-in_ok-print_below-clause-ok g c =
    let r = c.args.rules.now in
    let names : List Name = map name_of c.args.lines.now.features.now in
    let last : List ℕ = c.args.lines.now.last.now in
    let sets : List (List ℕ) = listed_in r in
    let front : List (List ℕ) = c.requires.last.front in
    let page : List ℕ = string_bytes c.args.page.now in
    let others : set_lines names (filter (is_other r last) (below (may_of r) (length c.args.lines.now.features.now) (set_in c.args.room.now))) ≡ set_lines names front =
    text-others names r front last (length c.args.lines.now.features.now) (set_in c.args.room.now) (sym c.requires.size) c.requires.none c.requires.last.same in
    let all : List ℕ = set_lines names (with_last_first c.args.last_first sets) in
    let is : all ≡ set_lines names front ++ run_line names (Set last) = behind-text names sets front last c.requires.last.same c.args.last_first c.if-last_first.false in
    on_ok-then c.print_whole-else-last_first.result _ _
    (λ h. subst (PrintsText (g.W.Sink.contents c.args.out.now) (g.W.Sink.contents c.print_whole-else-last_first.new.out) page (string_bytes c.print_whole-else-last_first.new.page)) (sym is)
    (prints-then _ _ _ page (string_bytes c.print_below-else-last_first.new.page) (string_bytes c.print_whole-else-last_first.new.page) (set_lines names front) (run_line names (Set last))
    (subst (PrintsText (g.W.Sink.contents c.args.out.now) (g.W.Sink.contents c.print_below-else-last_first.new.out) page (string_bytes c.print_below-else-last_first.new.page)) others c.in_ok-print_below.ensures.ok) h))
    c.print_whole-else-last_first.ensures.ok

pub returns-in_ok-print_below-clause-err : goal.returns-in_ok-print_below-clause-err
returns-in_ok-print_below-clause-err g c =
    let r = c.args.rules.now in
    let names : List Name = map name_of c.args.lines.now.features.now in
    let last : List ℕ = c.args.lines.now.last.now in
    let sets : List (List ℕ) = listed_in r in
    let front : List (List ℕ) = c.requires.last.front in
    let page : List ℕ = string_bytes c.args.page.now in
    let others : set_lines names (filter (is_other r last) (below (may_of r) (length c.args.lines.now.features.now) (set_in c.args.room.now))) ≡ set_lines names front =
    text-others names r front last (length c.args.lines.now.features.now) (set_in c.args.room.now) (sym c.requires.size) c.requires.none c.requires.last.same in
    let all : List ℕ = set_lines names (with_last_first c.args.last_first sets) in
    let is : all ≡ set_lines names front ++ run_line names (Set last) = behind-text names sets front last c.requires.last.same c.args.last_first c.if-last_first.false in
    on_err-then c.print_whole-else-last_first.result _ _
    (λ h. prints-stopped _ _ _ page (string_bytes c.print_below-else-last_first.new.page) (set_lines names front) (run_line names (Set last)) [] all
    (subst (PrintsText (g.W.Sink.contents c.args.out.now) (g.W.Sink.contents c.print_below-else-last_first.new.out) page (string_bytes c.print_below-else-last_first.new.page)) others c.in_ok-print_below.ensures.ok) h
    (is ∙ ap (λ l. set_lines names front ++ l) (sym (append-nil (run_line names (Set last))))))
    c.print_whole-else-last_first.ensures.err
