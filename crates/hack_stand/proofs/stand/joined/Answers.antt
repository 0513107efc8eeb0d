use Rattle.std.proofs.Common.{◌≡◌, List, ℕ, IfOk, codes, string_bytes, subst}
use Rattle.hack_stand.proofs.LineLemmas.{join-map}
use Rattle.hack_stand.proofs.stand.joined.Goals as goal

pub returns : goal.returns
returns c =
    let P : List ℕ → Type 0 = λ l. IfOk c.join.result (λ t. string_bytes t ≡ l) in
    subst P (join-map string_bytes (codes " ") c.args.words.now) c.join.ensures.ok
