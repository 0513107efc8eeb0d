use Rattle.std.proofs.Common.{◌≡◌, ◌++◌, drop}
use Rattle.std.specs.Prelude.{◌==◌, ◌||◌, if◌then◌else◌, [], ◌∷◌}
use Rattle.std.specs.List.{flat_map}
use Rattle.hack_private_crates.proofs.exclude.push_escaped.Given as goal

abbrev pub invariant-loop-byte : goal.invariant-loop-byte
invariant-loop-byte l = l.out.items ++ flat_map (λ c. if c == 34 || c == 92 then 92 ∷ c ∷ [] else c ∷ []) (drop l.byte-index l.text)
    ≡ l.initial.out.items ++ flat_map (λ c. if c == 34 || c == 92 then 92 ∷ c ∷ [] else c ∷ []) l.text
