use Rattle.std.proofs.Common.{◌≡◌, ◌<◌, ◌++◌, ◌∷◌, List, map, length, ap, ◌∙◌, arith, codes, string_bytes}
use Rattle.std.proofs.lemmas.List.{length-map}
use Rattle.hack_base.specs.Writes.{AppendsFront}
use Rattle.hack_base.specs.Names.{Name}
use Rattle.hack_features.specs.Feature.{name_of}
use Rattle.hack_plan.specs.Runs.{Set}
use Rattle.hack_powerset_list.specs.Lines.{run_line}
use Rattle.hack_powerset_list.specs.LineWords.{PrintsText}
use Rattle.hack_powerset_list.proofs.PageLemmas.{on_ok-same, on_err-same}
use Rattle.hack_powerset_list.proofs.WalkLemmas.{text-at, line-of}
use Rattle.hack_powerset_list.proofs.walk.print_set.Goals as goal

pub returns-clause-ok : goal.returns-clause-ok
returns-clause-ok g c = λ s is.
    let names : List Name = map name_of c.args.features.now in
    let inside : c.args.least < length names = omega (arith, c.requires.least, length-map c.args.features.now name_of) in
    let line : c.as_str.result.now ++ c.as_str-2.result.now ++ c.args.others.now ++ codes "\n" ≡ run_line names (Set (c.args.least ∷ s)) =
    line-of names c.args.least s _ _ _ inside (c.as_str.ensures.value ∙ c.requires.texts.no_default)
    (c.as_str-2.ensures.value ∙ ap string_bytes c.index.ensures ∙ text-at names (codes " --features ") c.args.texts.now.first.items c.args.least _ c.requires.texts.first inside) is in
    on_ok-same c.print_line.result (λ l. PrintsText (g.W.Sink.contents c.args.out.now) (g.W.Sink.contents c.print_line.new.out) (string_bytes c.args.page.now) (string_bytes c.print_line.new.page) l) _ _ line c.print_line.ensures.ok

pub returns-clause-err : goal.returns-clause-err
returns-clause-err g c = λ s is.
    let names : List Name = map name_of c.args.features.now in
    let inside : c.args.least < length names = omega (arith, c.requires.least, length-map c.args.features.now name_of) in
    let line : c.as_str.result.now ++ c.as_str-2.result.now ++ c.args.others.now ++ codes "\n" ≡ run_line names (Set (c.args.least ∷ s)) =
    line-of names c.args.least s _ _ _ inside (c.as_str.ensures.value ∙ c.requires.texts.no_default)
    (c.as_str-2.ensures.value ∙ ap string_bytes c.index.ensures ∙ text-at names (codes " --features ") c.args.texts.now.first.items c.args.least _ c.requires.texts.first inside) is in
    on_err-same c.print_line.result (λ l. AppendsFront (g.W.Sink.contents c.args.out.now) (g.W.Sink.contents c.print_line.new.out) (string_bytes c.args.page.now ++ l)) _ _ line c.print_line.ensures.err
