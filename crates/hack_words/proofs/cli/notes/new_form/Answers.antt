use Rattle.std.proofs.Common.{subst}
use Rattle.std.specs.Prelude.{MatchOption}
use Rattle.hack_versions.proofs.CutLemmas.{cut-from_split}
use Rattle.hack_versions.specs.VersionTexts.{IsCut, IsUncut}
use Rattle.hack_versions.proofs.ReadingLemmas.{cut-read, uncut-read}
use Rattle.hack_words.proofs.cli.notes.new_form.Goals as goal

pub returns-in-Some : goal.returns-in-Some
returns-in-Some c =
    let cut = subst (λ parts. MatchOption parts (IsUncut c.args.text.now) (λ p. IsCut c.args.text.now p.0.now p.1.now)) c.in-Some.is (cut-from_split c.args.text.now c.split_once.result c.split_once.ensures.cases) in
    let sides = cut-read c.args.text.now c.in-Some.front.now c.in-Some.back.now cut in
    rw sides c.inclusive.ensures

pub returns-in-None : goal.returns-in-None
returns-in-None c =
    let uncut = subst (λ parts. MatchOption parts (IsUncut c.args.text.now) (λ p. IsCut c.args.text.now p.0.now p.1.now)) c.in-None.is (cut-from_split c.args.text.now c.split_once.result c.split_once.ensures.cases) in
    let none = uncut-read c.args.text.now uncut in
    rw none c.from_str.ensures.ok
