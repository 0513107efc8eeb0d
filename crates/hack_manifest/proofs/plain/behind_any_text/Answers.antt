use Rattle.toml.specs.Parse.{atom}
use Rattle.hack_manifest.proofs.plain.behind_any_text.Goals.{in-Ok, in-Err}
use Rattle.hack_manifest.proofs.plain.behind_any_text.Goals as goal

pub returns-clause-value : goal.returns-clause-value
unfolding atom
returns-clause-value c =
    elim c.match-quoted.branch [
      | in-Ok w ↦ rw w.result-is (rw (c.requires, w.in-Ok.ensures.value))
      | in-Err w ↦ rw w.result-is tt
    ]
