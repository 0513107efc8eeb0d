use Rattle.std.proofs.Common.{◌≡◌, ◌∙◌, true, false, List, map, inl, inr, sym, ap, subst}
use Rattle.std.specs.Prelude.{option_copied}
use Rattle.hack_base.specs.Names.{names_of}
use Rattle.hack_words.specs.declared.cli.args.Args.{Args}
use Rattle.hack_planner.specs.Members.{IsAbout, SelectsMembers, IsMatched, AllMatch, names_some}
use Rattle.hack_planner.specs.Members as plain
use Rattle.hack_planner.specs.MembersView.{member_view}
use Rattle.hack_planner.proofs.PackageLemmas.{never-unnamed, never-named, named-fault}
use Rattle.hack_planner.proofs.packages.about.Goals as goal

pub returns-then-not-names_some-clause-ok : goal.returns-then-not-names_some-clause-ok
returns-then-not-names_some-clause-ok c =
    let w : Args = c.args.args.now in
    let ms : List plain.Member = map member_view c.args.members.now in
    let found : List plain.Member = map member_view c.in_ok-members_without_names.field-0.items in
    let f : names_some w ≡ false = sym c.names_some.ensures ∙ c.if-not-names_some.true in
    subst (λ b. IsAbout b w (option_copied c.args.current) ms found) (sym f) c.in_ok-members_without_names.ensures

pub returns-then-not-names_some-clause-never : goal.returns-then-not-names_some-clause-never
returns-then-not-names_some-clause-never c =
    let w : Args = c.args.args.now in
    let f : names_some w ≡ false = sym c.names_some.ensures ∙ c.if-not-names_some.true in
    never-unnamed w (map member_view c.args.members.now) f

pub returns-in-Err-clause-err : goal.returns-in-Err-clause-err
returns-in-Err-clause-err c =
    let w : Args = c.args.args.now in
    let f : names_some w ≡ true = sym c.names_some.ensures ∙ c.if-not-names_some.false in
    elim c.in-Err.ensures.err [
      | inl m ↦ inl m
      | inr h ↦ inr (named-fault w (map member_view c.args.members.now) (names_of c.deref.result.now) c.in-Err.fault (ap names_of c.deref.ensures.value) f h)
    ]

pub returns-clause-ok : goal.returns-clause-ok
returns-clause-ok c =
    let w : Args = c.args.args.now in
    let ms : List plain.Member = map member_view c.args.members.now in
    let found : List plain.Member = map member_view c.in_ok-matched_members.field-0.items in
    let f : names_some w ≡ true = sym c.names_some.ensures ∙ c.if-not-names_some.false in
    subst (λ b. IsAbout b w (option_copied c.args.current) ms found) (sym f)
    (subst (λ l. SelectsMembers (IsMatched (names_of l)) ms found) c.deref-2.ensures.value c.in_ok-matched_members.ensures)

pub returns-clause-never : goal.returns-clause-never
returns-clause-never c =
    let w : Args = c.args.args.now in
    let ms : List plain.Member = map member_view c.args.members.now in
    never-named w ms (subst (λ l. AllMatch ms (names_of l)) c.deref.ensures.value c.in_default.ensures.ok)
