use Rattle.std.proofs.Common.{◌≡◌, ◌∙◌, ◌++◌, [], List, ℕ, Bool, IfOk, sym, ap, subst, codes, string_bytes, if◌then◌else◌}
use Rattle.std.specs.List.{slice_split, join_by}
use Rattle.hack_base.specs.PathTexts.{is_slash, kept_of}
use Rattle.hack_base.specs.Names.{names_behind}
use Rattle.hack_base.proofs.NormalLemmas.{join-texts}
use Rattle.hack_base.proofs.PathLemmas.{rooted-is}
use Rattle.hack_base.proofs.paths.normal.Goals as goal

-- the parts of a path that are kept, joined
abbrev joined : List ℕ → Bool → List ℕ
joined p rooted = join_by (λ part. part) (codes "/") (kept_of rooted (slice_split is_slash p))

-- the path that these make
abbrev path_of : List ℕ → Bool → List ℕ
path_of p rooted = (if rooted then codes "/" else []) ++ joined p rooted

pub returns-then-rooted : goal.returns-then-rooted
returns-then-rooted c =
    let p = c.args.p.now in
    let rooted = c.starts_with-rooted.result in
    let path : string_bytes c.in_ok-path.path ≡ joined p rooted = c.in_ok-path.ensures.ok ∙ join-texts (codes "/") c.deref.result.now ∙ ap (λ xs. join_by (λ part. part) (codes "/") (names_behind xs)) c.deref.ensures.value ∙ ap (join_by (λ part. part) (codes "/")) c.in_ok-kept.ensures in
    let P : List ℕ → Type 0 = λ l. IfOk c.format.result (λ t. string_bytes t ≡ l) in
    subst P (ap (λ l. codes "/" ++ l) path ∙ ap (λ b. (if b then codes "/" else []) ++ joined p rooted) (sym c.if-rooted.true) ∙ ap (path_of p) (rooted-is p rooted c.starts_with-rooted.ensures.cases)) c.format.ensures.ok

pub returns : goal.returns
returns c =
    let p = c.args.p.now in
    let rooted = c.starts_with-rooted.result in
    let path : string_bytes c.in_ok-path.path ≡ joined p rooted = c.in_ok-path.ensures.ok ∙ join-texts (codes "/") c.deref.result.now ∙ ap (λ xs. join_by (λ part. part) (codes "/") (names_behind xs)) c.deref.ensures.value ∙ ap (join_by (λ part. part) (codes "/")) c.in_ok-kept.ensures in
    path ∙ ap (λ b. (if b then codes "/" else []) ++ joined p rooted) (sym c.if-rooted.false) ∙ ap (path_of p) (rooted-is p rooted c.starts_with-rooted.ensures.cases)
