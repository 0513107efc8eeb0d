use Rattle.std.proofs.Common.{◌≡◌, ◌<◌, ◌++◌, ◌∷◌, [], length, slice_get, arith, refl, sym, ap, ◌∙◌, subst, rules, Some, true, false}
use Rattle.std.proofs.lemmas.Option.{slice_get-get_or}
use Rattle.hack_versions.specs.VersionUses.{own_of}
use Rattle.hack_versions.specs.InternalGrouping.{FitsBy, FitsAt}
use Rattle.hack_versions.proofs.GroupLemmas.{below-skip, below-keep}
use Rattle.hack_versions.proofs.FastLemmas.{fits-not, fits-within, places-of}
use Rattle.hack_versions.proofs.group.fitting_places.Goals as goal
use Rattle.hack_versions.proofs.group.fitting_places.Goals.{then-fits+in_ok-push, else-fits}

pub loop-place-preserved : goal.loop-place-preserved
loop-place-preserved c =
    let h : c.loop-place.place < length c.args.packages.now = omega arith in
    let m = c.index-packages-place.result in
    let e : slice_get c.args.packages.now c.loop-place.place ≡ Some m = slice_get-get_or c.args.packages.now c.loop-place.place m h ∙ ap Some (sym c.index-packages-place.is) in
    let o : c.own.result ≡ own_of m = c.own.ensures in
    elim c.if-fits.branch [
      | then-fits+in_ok-push w ↦
          let k : w.push.new.self.items ≡ c.loop-place.places.items ++ c.loop-place.place ∷ [] = search rules in
          let u : FitsBy c.args.fit (own_of m) c.args.version = subst (λ own. FitsBy c.args.fit own c.args.version) o (w.if-fits.ensures.0 refl) in
          rw w.places-is (rw k (below-keep _ _ _ (m, e, u) c.loop-place.invariant))
      | else-fits w ↦
          rw w.places-is (below-skip _ _ _ (fits-not c.args.fit c.args.packages.now c.args.version c.loop-place.place m e (λ u. let t : false ≡ true = w.if-fits.ensures.1 (subst (λ own. FitsBy c.args.fit own c.args.version) (sym o) u) in cc)) c.loop-place.invariant)
    ]

pub returns : goal.returns
returns c =
    let l : length c.args.packages.now ≡ c.loop-place.place = omega arith in
    places-of (FitsAt c.args.fit c.args.packages.now c.args.version) c.loop-place.place _ (λ p u. omega (arith, l, fits-within c.args.fit c.args.packages.now c.args.version p u)) c.loop-place.invariant
