use Rattle.std.proofs.Common.{◌≡◌, ◌∙◌, ◌++◌, List, ℕ, ap, append_assoc, codes, subst, sym}
use Rattle.std.proofs.KnownBytes.{Appends-trans}
use Rattle.std.proofs.lemmas.Result.{on_ok_weaker}
use Rattle.std.specs.Io.KnownBytes.{Appends}
use Rattle.hack_base.proofs.WriteLemmas.{AppendsFront-append, AppendsFront-then}
use Rattle.hack_base.specs.Writes.{AppendsFront, line}
use Rattle.hack_term.proofs.term.write_parts.Goals as goal

-- the parts of the line, as they are written
parts : (label before name after : List ℕ) → label ++ (before ++ line name after) ≡ line label (before ++ (name ++ after))
parts label before name after =
    sym (append_assoc label (before ++ (name ++ after)) (codes "\n") ∙ ap (λ l. label ++ l) (append_assoc before (name ++ after) (codes "\n")))

pub returns-in_err-write_front-clause-front : goal.returns-in_err-write_front-clause-front
returns-in_err-write_front-clause-front g c =
    let text = c.args.before.now ++ (c.args.name.now ++ c.args.after.now) in
    AppendsFront-append _ _ (c.args.label.now ++ text) (codes "\n") (AppendsFront-append _ _ c.args.label.now text c.write_front.ensures.front)

pub returns-in_err-write_front-2-clause-front : goal.returns-in_err-write_front-2-clause-front
returns-in_err-write_front-2-clause-front g c =
    let label = c.args.label.now in
    subst (AppendsFront _ _) (parts label c.args.before.now c.args.name.now c.args.after.now)
    (AppendsFront-then _ _ _ label (c.args.before.now ++ line c.args.name.now c.args.after.now) c.in_ok-write_front.ensures.all
    (AppendsFront-append _ _ c.args.before.now (line c.args.name.now c.args.after.now) c.write_front-2.ensures.front))

pub returns-clause-all : goal.returns-clause-all
returns-clause-all g c =
    let label = c.args.label.now in
    let rest = line c.args.name.now c.args.after.now in
    on_ok_weaker c.write_line.result
    (λ last. subst (Appends _ _) (parts label c.args.before.now c.args.name.now c.args.after.now)
    (Appends-trans _ _ _ label (c.args.before.now ++ rest) c.in_ok-write_front.ensures.all (Appends-trans _ _ _ c.args.before.now rest c.in_ok-write_front-2.ensures.all last)))
    c.write_line.ensures.all

pub returns-clause-front : goal.returns-clause-front
returns-clause-front g c =
    let label = c.args.label.now in
    let rest = line c.args.name.now c.args.after.now in
    subst (AppendsFront _ _) (parts label c.args.before.now c.args.name.now c.args.after.now)
    (AppendsFront-then _ _ _ label (c.args.before.now ++ rest) c.in_ok-write_front.ensures.all (AppendsFront-then _ _ _ c.args.before.now rest c.in_ok-write_front-2.ensures.all c.write_line.ensures.front))
