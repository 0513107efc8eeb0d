use Rattle.std.proofs.Common.{◌≡◌, ◌++◌, ◌∷◌, [], List, ℕ, map, ap, ◌∙◌, sym, codes, string_bytes, append-nil, refl}
use Rattle.std.specs.Prelude.{if◌then◌else◌}
use Rattle.hack_base.specs.Writes.{AppendsFront}
use Rattle.hack_base.specs.Names.{Name}
use Rattle.hack_features.specs.Feature.{name_of}
use Rattle.hack_plan.specs.Runs.{PackageRun, Plain, NoDefaultFeatures, run_if}
use Rattle.hack_powerset_list.specs.Lines.{run_line, run_lines}
use Rattle.hack_powerset_list.proofs.PageLemmas.{on_err-same}
use Rattle.hack_powerset_list.proofs.runs.print_front.Goals as goal

-- the text of a line alone
alone : (names : List Name) (run : PackageRun) (text command : List ℕ) → text ≡ command → run_line names run ≡ command ++ [] ++ [] ++ codes "\n" → text ++ [] ++ [] ++ codes "\n" ≡ run_lines names (run ∷ [])
alone names run text command is line = ap (λ l. l ++ [] ++ [] ++ codes "\n") is ∙ sym line ∙ sym (append-nil (run_line names run))

pub returns-then-plain-clause-err : goal.returns-then-plain-clause-err
returns-then-plain-clause-err g c =
    let names : List Name = map name_of c.args.features.now in
    on_err-same c.print_line.result (λ l. AppendsFront (g.W.Sink.contents c.args.out.now) (g.W.Sink.contents c.print_line.new.out) (string_bytes c.args.page.now ++ l)) _ _
    (alone names Plain c.as_str.result.now (codes "cargo check") (c.as_str.ensures.value ∙ c.requires.texts.plain) refl
    ∙ ap (λ b. run_lines names (if b then Plain ∷ [] else run_if c.args.no_default NoDefaultFeatures)) (sym c.if-plain.true))
    c.print_line.ensures.err

pub returns-then-no_default-clause-err : goal.returns-then-no_default-clause-err
returns-then-no_default-clause-err g c =
    let names : List Name = map name_of c.args.features.now in
    on_err-same c.print_line-then-no_default.result (λ l. AppendsFront (g.W.Sink.contents c.args.out.now) (g.W.Sink.contents c.print_line-then-no_default.new.out) (string_bytes c.args.page.now ++ l)) _ _
    (alone names NoDefaultFeatures c.as_str-then-no_default.result.now (codes "cargo check --no-default-features") (c.as_str-then-no_default.ensures.value ∙ c.requires.texts.no_default) refl
    ∙ ap (λ b. run_lines names (run_if b NoDefaultFeatures)) (sym c.if-no_default.true)
    ∙ ap (λ b. run_lines names (if b then Plain ∷ [] else run_if c.args.no_default NoDefaultFeatures)) (sym c.if-plain.false))
    c.print_line-then-no_default.ensures.err
