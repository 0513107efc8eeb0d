use Rattle.std.proofs.Common.{◌≡◌, inl, inr, string_bytes, false, sym, ap, ◌∙◌}
use Rattle.std.proofs.lemmas.Bool.{cases_Bool}
use Rattle.toml.specs.View.{table_view}
use Rattle.toml.specs.Parse.{parse_document}
use Rattle.hack_manifest.specs.PieceView.{pieces_view}
use Rattle.hack_edits.specs.Parts.{AreParts}
use Rattle.hack_edits.specs.DevDeps.{IsLeft, cuts_arrays}
use Rattle.hack_edits.specs.DevTree.{reads_as_left}
use Rattle.hack_edits.specs.Internal.{AreRecut}
use Rattle.hack_edits.proofs.LeftLemmas.{left-whole}
use Rattle.hack_edits.proofs.RecutLemmas.{no_dev-left}
use Rattle.hack_edits.proofs.dev_deps.without_dev_pieces.Goals as goal

pub returns-then-not-branch-clause-read_back : goal.returns-then-not-branch-clause-read_back
returns-then-not-branch-clause-read_back c _ =
    let old = table_view c.args.old in
    let ps = pieces_view c.args.cut.now in
    let tail = c.args.cut.now.tail.now in
    let new = string_bytes c.in-Some.field-0.text in
    let left : AreParts (IsLeft old) ps tail new = rw (c.in-Some.is, c.deref-2.ensures.value) at c.in_ok-text.ensures.left in
    let misread : reads_as_left old (parse_document new) ≡ false =
    ap (λ t. reads_as_left old (parse_document t)) (sym c.as_str.ensures.value) ∙ sym c.in_ok-reads_as.ensures ∙ c.if-not-branch.true in
    elim (cases_Bool (cuts_arrays old ps)) [
      | inl cuts ↦ inl cuts
      | inr whole ↦ inr (ap (λ t. reads_as_left old (parse_document t)) (sym (left-whole old ps tail new whole left)) ∙ misread)
    ]

pub returns-then-known-clause-ok : goal.returns-then-known-clause-ok
returns-then-known-clause-ok c =
    let old = table_view c.args.old in
    let ps = pieces_view c.args.cut.now in
    let tail = c.args.cut.now.tail.now in
    let new = string_bytes c.in-Some.field-0.text in
    let recut : AreRecut ps tail new = (rw (c.in-Some.is, c.deref-2.ensures.value) at c.in_ok-text.ensures.known) c.if-known.true in
    record {
      left = rw (c.in-Some.is, c.deref-2.ensures.value) at c.in_ok-text.ensures.left;
      tree = ap (λ t. reads_as_left old (parse_document t)) (sym c.as_str.ensures.value) ∙ sym c.in_ok-reads_as.ensures ∙ c.if-not-branch.false;
      done = no_dev-left ps tail c.requires.0 new c.requires.1 recut;
    }
