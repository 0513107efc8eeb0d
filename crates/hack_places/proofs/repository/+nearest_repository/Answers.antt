use Rattle.std.proofs.Common.{◌≡◌, ◌-◌, suc, arith}
use Rattle.std.specs.Prelude.{option_map}
use Rattle.std.proofs.lemmas.Result.{IfErr-weaker, IfOk-weaker, err_from_is_err_and}
use Rattle.hack_places.specs.RepositoryView.{repository_of}
use Rattle.hack_places.proofs.LookedLemmas.{first_look, further_look, looked_more}
use Rattle.hack_places.proofs.RepositoryLemmas.{above_here, further_is}
use Rattle.hack_places.proofs.repository.+nearest_repository.Goals as goal

pub returns-in-Some-clause-found : goal.returns-in-Some-clause-found
returns-in-Some-clause-found g n c = λ tells.
    let found = rw c.in-Some.is at c.in_ok-found.ensures.found in
    above_here (g.F.Files.bytes_at c.args.files.now) c.args.steps c.args.folder.now (repository_of c.in-Some.found) c.if-steps-eq0.false (found tells)

pub returns-in-None-clause-found : goal.returns-in-None-clause-found
returns-in-None-clause-found g n c =
    let more : c.args.steps ≡ suc (c.args.steps - 1) = omega (arith, c.if-steps-eq0.false) in
    IfOk-weaker c.nearest_repository.result _ _
    (λ found h. further_is g.F.Files.tells _ _ c.args.steps (c.args.steps - 1) c.args.folder.now c.parent.result.now (option_map repository_of found)
    more c.parent.ensures (rw c.in-None.is at c.in_ok-found.ensures.found) c.in_ok-found.ensures.same h)
    c.nearest_repository.ensures.found

pub returns-in_err-found-clause-looked : goal.returns-in_err-found-clause-looked
returns-in_err-found-clause-looked g n c =
    let p = err_from_is_err_and c.from_residual.result c.from_residual.ensures.1 in
    let more : c.args.steps ≡ suc (c.args.steps - 1) = omega (arith, c.if-steps-eq0.false) in
    rw (p.1, p.2) (looked_more _ _ _ (λ path look. first_look g.F.Files.tells (g.F.Files.bytes_at c.args.files.now) c.args.steps (c.args.steps - 1) c.args.folder.now path more look) c.in_err-found.ensures.looked)

pub returns-in-None-clause-looked : goal.returns-in-None-clause-looked
returns-in-None-clause-looked g n c =
    let more : c.args.steps ≡ suc (c.args.steps - 1) = omega (arith, c.if-steps-eq0.false) in
    IfErr-weaker c.nearest_repository.result _ _
    (λ fault h. looked_more _ _ fault (λ path. further_look g.F.Files.tells (g.F.Files.bytes_at c.args.files.now) (g.F.Files.bytes_at c.repository_in.new.files) c.args.steps (c.args.steps - 1) c.args.folder.now c.parent.result.now path
    more c.parent.ensures (rw c.in-None.is at c.in_ok-found.ensures.found) c.in_ok-found.ensures.same) h)
    c.nearest_repository.ensures.looked
