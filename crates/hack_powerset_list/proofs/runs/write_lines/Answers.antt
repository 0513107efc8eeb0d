use Rattle.std.proofs.Common.{[], List, ℕ, map, subst, string_bytes}
use Rattle.hack_base.specs.Writes.{AppendsFront}
use Rattle.hack_base.proofs.WriteLemmas.{Appends-kept}
use Rattle.hack_features.specs.Feature.{name_of}
use Rattle.hack_plan.specs.Runs.{runs_from}
use Rattle.hack_powerset_list.specs.Lines.{run_lines}
use Rattle.hack_powerset_list.specs.LineWords.{PrintsText}
use Rattle.hack_powerset_list.specs.ListRuns.{options_from}
use Rattle.hack_powerset_list.specs.Walks.{listed_in}
use Rattle.hack_powerset_list.proofs.PageLemmas.{prints-written}
use Rattle.hack_powerset_list.proofs.runs.write_lines.Goals as goal

pub returns-in_err-write_front-clause-front : goal.returns-in_err-write_front-clause-front
returns-in_err-write_front-clause-front g c =
    let all : List ℕ = run_lines (map name_of c.args.features.now) (runs_from (options_from c.args.wishes.now c.args.features.now) (listed_in c.args.rules.now)) in
    let printed : PrintsText (g.W.Sink.contents c.args.out.now) (g.W.Sink.contents c.print_runs.new.out) [] (string_bytes c.print_runs.new.page) all =
    subst (λ p. PrintsText (g.W.Sink.contents c.args.out.now) (g.W.Sink.contents c.print_runs.new.out) p (string_bytes c.print_runs.new.page) all) c.in_ok-page.ensures c.in_ok-print_runs.ensures.ok in
    prints-written _ _ (g.W.Sink.contents c.write_front.new.out) [] (string_bytes c.print_runs.new.page) all printed
    (subst (AppendsFront (g.W.Sink.contents c.print_runs.new.out) (g.W.Sink.contents c.write_front.new.out)) c.as_str.ensures.value c.in_err-write_front.ensures.front)

pub returns-clause-front : goal.returns-clause-front
returns-clause-front g c =
    let all : List ℕ = run_lines (map name_of c.args.features.now) (runs_from (options_from c.args.wishes.now c.args.features.now) (listed_in c.args.rules.now)) in
    let printed : PrintsText (g.W.Sink.contents c.args.out.now) (g.W.Sink.contents c.print_runs.new.out) [] (string_bytes c.print_runs.new.page) all =
    subst (λ p. PrintsText (g.W.Sink.contents c.args.out.now) (g.W.Sink.contents c.print_runs.new.out) p (string_bytes c.print_runs.new.page) all) c.in_ok-page.ensures c.in_ok-print_runs.ensures.ok in
    let written : AppendsFront (g.W.Sink.contents c.args.out.now) (g.W.Sink.contents c.write_front.new.out) all =
    prints-written _ _ (g.W.Sink.contents c.write_front.new.out) [] (string_bytes c.print_runs.new.page) all printed
    (subst (AppendsFront (g.W.Sink.contents c.print_runs.new.out) (g.W.Sink.contents c.write_front.new.out)) c.as_str.ensures.value c.write_front.ensures.front) in
    (written.0, written.1, written.2, Appends-kept _ _ _ written.0 written.3 c.finish.ensures.bytes)
