use Rattle.std.proofs.Common.{◌≡◌, ℕ, List, ◌++◌, refl, sym, ap, ◌∙◌, append_assoc}
use Rattle.std.specs.Prelude.{codes, string_bytes}
use Rattle.std.proofs.lemmas.Grind.{put_three}
use Rattle.hack_versions.specs.VersionTexts.{version_fault_text}
use Rattle.hack_versions.proofs.version.VersionFaultDisplay.fmt.Goals as goal

joined : (s a b m n o z : List ℕ) → (a ++ s ++ m) ++ ((b ++ s ++ n) ++ (o ++ s ++ z)) ≡ a ++ s ++ (m ++ b) ++ s ++ (n ++ o) ++ s ++ z
joined s a b m n o z = simp append_assoc refl

pub returns-in_ok-write-in-OpenInclusive-2-clause-writes : goal.returns-in_ok-write-in-OpenInclusive-2-clause-writes
returns-in_ok-write-in-OpenInclusive-2-clause-writes g c = λ p o.
    let start = string_bytes c.in-OpenInclusive.start in
    let first = c.in_ok-write-in-OpenInclusive.ensures.writes p refl in
    let second = c.in_ok-write-in-OpenInclusive-2.ensures.writes first.plain refl in
    let third = c.write-in-OpenInclusive-3.ensures.writes second.plain o in
    put_three g.W.Write.write_str_gives _ _ _ _ (codes "inclusive range `" ++ start ++ codes "..=` must have end expression; ") (codes "consider using `" ++ start ++ codes "..` ") (codes "or `" ++ start ++ codes "..=<end>`") _ first second third
    (joined start (codes "inclusive range `") (codes "consider using `") (codes "..=` must have end expression; ") (codes "..` ") (codes "or `") (codes "..=<end>`") ∙ sym (ap version_fault_text c.in-OpenInclusive.is))
