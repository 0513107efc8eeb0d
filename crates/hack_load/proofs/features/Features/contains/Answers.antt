use Rattle.std.proofs.Common.{refl, true}
use Rattle.hack_load.specs.Features.{texts_of}
use Rattle.hack_load.proofs.FeatureLemmas.{found-in}
use Rattle.hack_load.proofs.features.Features.contains.Goals as goal
use Rattle.hack_load.proofs.features.Features.contains.Goals.{then-has_name-via-then-has_name, then-has_name-via-else-has_name+then-has_name-2}

pub returns-then-has_name : goal.returns-then-has_name
returns-then-has_name c =
    let self = c.args.self.now in
    let name = c.args.name.now in
    elim c.then-has_name.branch [
      | then-has_name-via-then-has_name w ↦
          found-in name (texts_of self.normal.items) (texts_of self.optional_deps.items) (texts_of self.deps_features.items) c.has_name.result _ _ true
          (rw c.normal.ensures at c.has_name.ensures) refl refl (rw w.if-has_name.true refl)
      | then-has_name-via-else-has_name+then-has_name-2 w ↦
          found-in name (texts_of self.normal.items) (texts_of self.optional_deps.items) (texts_of self.deps_features.items) c.has_name.result w.has_name-else-has_name.result _ true
          (rw c.normal.ensures at c.has_name.ensures) (rw w.optional_deps.ensures at w.has_name-else-has_name.ensures) refl (rw (w.if-has_name.false, w.if-has_name-2.true) refl)
    ]

pub returns : goal.returns
returns c =
    let self = c.args.self.now in
    found-in c.args.name.now (texts_of self.normal.items) (texts_of self.optional_deps.items) (texts_of self.deps_features.items) c.has_name.result c.has_name-else-has_name.result c.has_name-2.result c.has_name-2.result
    (rw c.normal.ensures at c.has_name.ensures) (rw c.optional_deps.ensures at c.has_name-else-has_name.ensures) (rw c.deps_features.ensures at c.has_name-2.ensures) (rw (c.if-has_name.false, c.if-has_name-2.false) refl)
