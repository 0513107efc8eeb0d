use Rattle.std.proofs.Common.{◌≡◌, ◌++◌, ◌∷◌, [], List, ℕ, map, length, ap, ◌∙◌, sym, subst, refl, arith, string_bytes, append-nil, nat_lt, true}
use Rattle.std.specs.Prelude.{◌==◌, if◌then◌else◌, vec_len}
use Rattle.hack_base.specs.Writes.{AppendsFront}
use Rattle.hack_base.specs.Names.{Name}
use Rattle.hack_features.specs.Feature.{name_of}
use Rattle.std.specs.Option.{option_map_or}
use Rattle.hack_plan.specs.Runs.{Plain, NoDefaultFeatures, run_if, runs_from}
use Rattle.hack_plan.specs.RunsView.{with_last_first}
use Rattle.hack_powerset_list.specs.Lines.{run_lines}
use Rattle.hack_powerset_list.specs.LineWords.{PrintsText}
use Rattle.hack_powerset_list.specs.ListRuns.{options_from}
use Rattle.hack_powerset_list.specs.Room.{set_in}
use Rattle.hack_powerset_list.specs.Walks.{EndsIn, listed_below, listed_in, set_lines}
use Rattle.hack_powerset_list.proofs.PageLemmas.{prints-none, prints-then, prints-front, prints-stopped, on_ok-same, on_err-same, on_err-any, on_ok-then, on_err-then}
use Rattle.hack_powerset_list.proofs.ListedLemmas.{Ends, listed-in-same}
use Rattle.hack_powerset_list.proofs.StreamLemmas.{stops-later}
use Rattle.hack_powerset_list.proofs.RunsLemmas.{runs-none, runs-some}
use Rattle.hack_powerset_list.proofs.runs.print_runs.Goals as goal

pub returns-in_err-room-clause-err : goal.returns-in_err-room-clause-err
returns-in_err-room-clause-err g c =
    let r = c.args.rules.now in
    let w = c.args.wishes.now in
    let fs = c.args.features.now in
    let names : List Name = map name_of fs in
    let page : List ℕ = string_bytes c.args.page.now in
    let sets : List (List ℕ) = listed_in r in
    let all : List ℕ = run_lines names (runs_from (options_from w fs) sets) in
    on_err-any c.from_residual-in_err-room.result _
    (prints-front _ _ page page [] all all (prints-none (g.W.Sink.contents c.args.out.now) page) refl)

pub returns-in_err-last-clause-err : goal.returns-in_err-last-clause-err
returns-in_err-last-clause-err g c =
    let r = c.args.rules.now in
    let w = c.args.wishes.now in
    let fs = c.args.features.now in
    let names : List Name = map name_of fs in
    let page : List ℕ = string_bytes c.args.page.now in
    let sets : List (List ℕ) = listed_in r in
    let all : List ℕ = run_lines names (runs_from (options_from w fs) sets) in
    on_err-any c.from_residual-in_err-last.result _
    (prints-front _ _ page page [] all all (prints-none (g.W.Sink.contents c.args.out.now) page) refl)

pub returns-in_default-clause-ok : goal.returns-in_default-clause-ok
returns-in_default-clause-ok g c =
    let r = c.args.rules.now in
    let w = c.args.wishes.now in
    let fs = c.args.features.now in
    let names : List Name = map name_of fs in
    let page : List ℕ = string_bytes c.args.page.now in
    let sets : List (List ℕ) = listed_in r in
    let all : List ℕ = run_lines names (runs_from (options_from w fs) sets) in
    let wanted = w.at_least_one_of in
    let len : vec_len wanted ≡ length wanted.items = omega (arith, wanted.ok.0) in
    let no_default : c.is_empty-no_default.result ≡ (length wanted.items == 0) = c.is_empty-no_default.ensures ∙ ap (λ n. n == 0) len in
    let same : listed_below r (length fs) (set_in c.in_ok-room.room) ≡ sets =
    ap (listed_below r (length fs)) c.in_ok-room.ensures.set ∙ ap (λ n. listed_below r n []) (sym c.requires) in
    let none : sets ≡ [] = sym same ∙ subst (Ends (listed_below r (length fs) (set_in c.in_ok-room.room))) c.in_default.is c.in_ok-last.ensures.last in
    let is : run_lines names (if c.is_empty.result then Plain ∷ [] else run_if c.is_empty-no_default.result NoDefaultFeatures) ≡ all =
    ap (λ b. run_lines names (if b then Plain ∷ [] else run_if c.is_empty-no_default.result NoDefaultFeatures)) c.is_empty.ensures
    ∙ ap (λ b. run_lines names (if length fs == 0 then Plain ∷ [] else run_if b NoDefaultFeatures)) no_default
    ∙ ap (run_lines names) (sym (runs-none w fs))
    ∙ ap (λ l. run_lines names (runs_from (options_from w fs) l)) (sym none) in
    on_ok-same c.print_front.result (λ l. PrintsText (g.W.Sink.contents c.args.out.now) (g.W.Sink.contents c.print_front.new.out) page (string_bytes c.print_front.new.page) l) _ _ is c.print_front.ensures.ok

pub returns-in_default-clause-err : goal.returns-in_default-clause-err
returns-in_default-clause-err g c =
    let r = c.args.rules.now in
    let w = c.args.wishes.now in
    let fs = c.args.features.now in
    let names : List Name = map name_of fs in
    let page : List ℕ = string_bytes c.args.page.now in
    let sets : List (List ℕ) = listed_in r in
    let all : List ℕ = run_lines names (runs_from (options_from w fs) sets) in
    let wanted = w.at_least_one_of in
    let len : vec_len wanted ≡ length wanted.items = omega (arith, wanted.ok.0) in
    let no_default : c.is_empty-no_default.result ≡ (length wanted.items == 0) = c.is_empty-no_default.ensures ∙ ap (λ n. n == 0) len in
    let same : listed_below r (length fs) (set_in c.in_ok-room.room) ≡ sets =
    ap (listed_below r (length fs)) c.in_ok-room.ensures.set ∙ ap (λ n. listed_below r n []) (sym c.requires) in
    let none : sets ≡ [] = sym same ∙ subst (Ends (listed_below r (length fs) (set_in c.in_ok-room.room))) c.in_default.is c.in_ok-last.ensures.last in
    let is : run_lines names (if c.is_empty.result then Plain ∷ [] else run_if c.is_empty-no_default.result NoDefaultFeatures) ≡ all =
    ap (λ b. run_lines names (if b then Plain ∷ [] else run_if c.is_empty-no_default.result NoDefaultFeatures)) c.is_empty.ensures
    ∙ ap (λ b. run_lines names (if length fs == 0 then Plain ∷ [] else run_if b NoDefaultFeatures)) no_default
    ∙ ap (run_lines names) (sym (runs-none w fs))
    ∙ ap (λ l. run_lines names (runs_from (options_from w fs) l)) (sym none) in
    on_err-same c.print_front.result (λ l. AppendsFront (g.W.Sink.contents c.args.out.now) (g.W.Sink.contents c.print_front.new.out) (page ++ l)) _ _ is c.print_front.ensures.err

pub returns-in_err-print_front-clause-err : goal.returns-in_err-print_front-clause-err
returns-in_err-print_front-clause-err g c =
    let r = c.args.rules.now in
    let w = c.args.wishes.now in
    let fs = c.args.features.now in
    let names : List Name = map name_of fs in
    let page : List ℕ = string_bytes c.args.page.now in
    let sets : List (List ℕ) = listed_in r in
    let all : List ℕ = run_lines names (runs_from (options_from w fs) sets) in
    let wanted = w.at_least_one_of in
    let len : vec_len wanted ≡ length wanted.items = omega (arith, wanted.ok.0) in
    let no_default : c.is_empty-no_default.result ≡ (length wanted.items == 0) = c.is_empty-no_default.ensures ∙ ap (λ n. n == 0) len in
    let same : listed_below r (length fs) (set_in c.in_ok-room.room) ≡ sets =
    ap (listed_below r (length fs)) c.in_ok-room.ensures.set ∙ ap (λ n. listed_below r n []) (sym c.requires) in
    let last : List ℕ = c.in-Some.last.items in
    let ends : EndsIn sets last = subst (λ l. EndsIn l last) same (subst (Ends (listed_below r (length fs) (set_in c.in_ok-room.room))) c.in-Some.is c.in_ok-last.ensures.last) in
    let front : List ℕ = run_lines names (run_if c.is_empty-no_default.result NoDefaultFeatures) in
    let lines : List ℕ = set_lines names (with_last_first (option_map_or (nat_lt 1) w.depth true) sets) in
    let is : all ≡ front ++ lines =
    runs-some w fs sets ends.front last ends.same names
    ∙ ap (λ b. run_lines names (run_if b NoDefaultFeatures) ++ lines) (sym no_default) in
    on_err-any c.from_residual-in_err-print_front.result _
    (prints-stopped _ _ (g.W.Sink.contents c.print_front-2.new.out) page page [] front lines all (prints-none (g.W.Sink.contents c.args.out.now) page) c.in_err-print_front.ensures.err is)

pub returns-clause-ok : goal.returns-clause-ok
returns-clause-ok g c =
    let r = c.args.rules.now in
    let w = c.args.wishes.now in
    let fs = c.args.features.now in
    let names : List Name = map name_of fs in
    let page : List ℕ = string_bytes c.args.page.now in
    let sets : List (List ℕ) = listed_in r in
    let all : List ℕ = run_lines names (runs_from (options_from w fs) sets) in
    let wanted = w.at_least_one_of in
    let len : vec_len wanted ≡ length wanted.items = omega (arith, wanted.ok.0) in
    let no_default : c.is_empty-no_default.result ≡ (length wanted.items == 0) = c.is_empty-no_default.ensures ∙ ap (λ n. n == 0) len in
    let same : listed_below r (length fs) (set_in c.in_ok-room.room) ≡ sets =
    ap (listed_below r (length fs)) c.in_ok-room.ensures.set ∙ ap (λ n. listed_below r n []) (sym c.requires) in
    let last : List ℕ = c.in-Some.last.items in
    let ends : EndsIn sets last = subst (λ l. EndsIn l last) same (subst (Ends (listed_below r (length fs) (set_in c.in_ok-room.room))) c.in-Some.is c.in_ok-last.ensures.last) in
    let front : List ℕ = run_lines names (run_if c.is_empty-no_default.result NoDefaultFeatures) in
    let lines : List ℕ = set_lines names (with_last_first (option_map_or (nat_lt 1) w.depth true) sets) in
    let is : all ≡ front ++ lines =
    runs-some w fs sets ends.front last ends.same names
    ∙ ap (λ b. run_lines names (run_if b NoDefaultFeatures) ++ lines) (sym no_default) in
    let asked = c.last_below.new.rules in
    let shown : set_lines (map name_of c.args.features.now) (with_last_first c.fits_two-last_first.result (listed_in asked)) ≡ lines =
    ap (λ l. set_lines names (with_last_first c.fits_two-last_first.result l)) (listed-in-same r asked c.in_ok-last.ensures.same_size c.in_ok-last.ensures.same_may c.in_ok-last.ensures.same_whole)
    ∙ ap (λ b. set_lines names (with_last_first b sets)) c.fits_two-last_first.ensures in
    on_ok-then c.print_sets.result _ _
    (λ h. subst (PrintsText (g.W.Sink.contents c.args.out.now) (g.W.Sink.contents c.print_sets.new.out) page (string_bytes c.print_sets.new.page)) (sym is)
    (prints-then _ _ _ page (string_bytes c.print_front-2.new.page) (string_bytes c.print_sets.new.page) front lines c.in_ok-print_front.ensures.ok
    (subst (PrintsText (g.W.Sink.contents c.print_front-2.new.out) (g.W.Sink.contents c.print_sets.new.out) (string_bytes c.print_front-2.new.page) (string_bytes c.print_sets.new.page)) shown h)))
    c.print_sets.ensures.ok

pub returns-clause-err : goal.returns-clause-err
returns-clause-err g c =
    let r = c.args.rules.now in
    let w = c.args.wishes.now in
    let fs = c.args.features.now in
    let names : List Name = map name_of fs in
    let page : List ℕ = string_bytes c.args.page.now in
    let sets : List (List ℕ) = listed_in r in
    let all : List ℕ = run_lines names (runs_from (options_from w fs) sets) in
    let wanted = w.at_least_one_of in
    let len : vec_len wanted ≡ length wanted.items = omega (arith, wanted.ok.0) in
    let no_default : c.is_empty-no_default.result ≡ (length wanted.items == 0) = c.is_empty-no_default.ensures ∙ ap (λ n. n == 0) len in
    let same : listed_below r (length fs) (set_in c.in_ok-room.room) ≡ sets =
    ap (listed_below r (length fs)) c.in_ok-room.ensures.set ∙ ap (λ n. listed_below r n []) (sym c.requires) in
    let last : List ℕ = c.in-Some.last.items in
    let ends : EndsIn sets last = subst (λ l. EndsIn l last) same (subst (Ends (listed_below r (length fs) (set_in c.in_ok-room.room))) c.in-Some.is c.in_ok-last.ensures.last) in
    let front : List ℕ = run_lines names (run_if c.is_empty-no_default.result NoDefaultFeatures) in
    let lines : List ℕ = set_lines names (with_last_first (option_map_or (nat_lt 1) w.depth true) sets) in
    let is : all ≡ front ++ lines =
    runs-some w fs sets ends.front last ends.same names
    ∙ ap (λ b. run_lines names (run_if b NoDefaultFeatures) ++ lines) (sym no_default) in
    let asked = c.last_below.new.rules in
    let shown : set_lines (map name_of c.args.features.now) (with_last_first c.fits_two-last_first.result (listed_in asked)) ≡ lines =
    ap (λ l. set_lines names (with_last_first c.fits_two-last_first.result l)) (listed-in-same r asked c.in_ok-last.ensures.same_size c.in_ok-last.ensures.same_may c.in_ok-last.ensures.same_whole)
    ∙ ap (λ b. set_lines names (with_last_first b sets)) c.fits_two-last_first.ensures in
    on_err-then c.print_sets.result _ _
    (λ h. prints-stopped _ _ _ page (string_bytes c.print_front-2.new.page) front lines [] all c.in_ok-print_front.ensures.ok
    (subst (λ l. AppendsFront (g.W.Sink.contents c.print_front-2.new.out) (g.W.Sink.contents c.print_sets.new.out) (string_bytes c.print_front-2.new.page ++ l)) shown h)
    (is ∙ ap (λ l. front ++ l) (sym (append-nil lines))))
    c.print_sets.ensures.err

pub returns-clause-counted : goal.returns-clause-counted
returns-clause-counted g c = stops-later Unit _ _ _ _ c.in_ok-print_front.ensures.counted c.print_sets.ensures.counted
