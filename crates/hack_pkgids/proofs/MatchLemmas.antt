-- What matching returns, compared with what the definitions say of a specification.
use Rattle.std.proofs.Common.{◌≡◌, ◌&&◌, List, [], ◌∷◌, Bool, true, false, cond, Option, Some, None, Ok, Err, is_some, refl, sym, ap, ◌∙◌}
use Rattle.std.specs.Str.{bytes_eq}
use Rattle.std.specs.Prelude.{IsSome}
use Rattle.std.specs.List.{AllZip}
use Rattle.std.specs.Cmp.Lexicographic.{bytes_decides, pointwise}
use Rattle.hack_base.specs.Names.{Name}
use Rattle.hack_pkgids.specs.PackageSpecs.{AgreesIfGiven, third, version_parts_of, Fits, Url, Identity, AsksVersion, Matches, versioned, HasBadId, HasBadVersion}
use Rattle.hack_pkgids.specs.InternalSpecAnswers.{MatchAnswer, agrees_if_given, fits, is_same_place}
use Rattle.hack_pkgids.specs.declared.pkgids.SpecFault.TheVariants.{BadId, BadVersion}

-- ---- tests and what they mean

and-left : (a b : Bool) → (a && b) ≡ true → a ≡ true
and-left true b e = refl
and-left false b e = e

and-right : (a b : Bool) → (a && b) ≡ true → b ≡ true
and-right true b e = e
and-right false b e = absurd (cc)

and-both : (a b : Bool) → a ≡ true → b ≡ true → (a && b) ≡ true
and-both a b p q = ap (λ x. x && b) p ∙ q

given-holds : (o full : Option Name) → agrees_if_given o full ≡ true → AgreesIfGiven o full
given-holds None full e = tt
given-holds (Some part) None e = absurd (cc)
given-holds (Some part) (Some full) e = ap Some (sym ((bytes_decides part full).0 e))

given-tested : (o full : Option Name) → AgreesIfGiven o full → agrees_if_given o full ≡ true
given-tested None full h = refl
given-tested (Some part) full h = ap (agrees_if_given (Some part)) h ∙ (bytes_decides part part).1 refl

agrees-holds : (gs fs : List (Option Name)) → pointwise agrees_if_given gs fs ≡ true → AllZip AgreesIfGiven gs fs
agrees-holds [] [] e = tt
agrees-holds [] (f ∷ fs) e = absurd (cc)
agrees-holds (g ∷ gs) [] e = absurd (cc)
agrees-holds (g ∷ gs) (f ∷ fs) e =
    (given-holds g f (and-left (agrees_if_given g f) _ e), agrees-holds gs fs (and-right (agrees_if_given g f) _ e))

agrees-tested : (gs fs : List (Option Name)) → AllZip AgreesIfGiven gs fs → pointwise agrees_if_given gs fs ≡ true
agrees-tested [] [] h = refl
agrees-tested [] (f ∷ fs) h = absurd h
agrees-tested (g ∷ gs) [] h = absurd h
agrees-tested (g ∷ gs) (f ∷ fs) h = and-both (agrees_if_given g f) _ (given-tested g f h.0) (agrees-tested gs fs h.1)

pub place-holds : (g o : Url) → is_same_place g o ≡ true → (g.protocol ≡ o.protocol) × (g.path ≡ o.path) × AgreesIfGiven g.query o.query
place-holds g o e =
    let a = and-left (bytes_eq g.protocol o.protocol) _ e in
    let e1 = and-right (bytes_eq g.protocol o.protocol) _ e in (
      (bytes_decides g.protocol o.protocol).0 a,
      (bytes_decides g.path o.path).0 (and-left (bytes_eq g.path o.path) (agrees_if_given g.query o.query) e1),
      given-holds g.query o.query (and-right (bytes_eq g.path o.path) (agrees_if_given g.query o.query) e1),
    )

pub place-tested : (g o : Url) → g.protocol ≡ o.protocol → g.path ≡ o.path → AgreesIfGiven g.query o.query → is_same_place g o ≡ true
place-tested g o a b c =
    and-both (bytes_eq g.protocol o.protocol) _ ((bytes_decides g.protocol o.protocol).1 a)
    (and-both (bytes_eq g.path o.path) (agrees_if_given g.query o.query) ((bytes_decides g.path o.path).1 b) (given-tested g.query o.query c))

-- ---- versions

module _ (g f : Name) where
  fits-at : (b a : Bool) → is_some (third f) ≡ b → pointwise agrees_if_given (version_parts_of g) (version_parts_of f) ≡ a → fits g f ≡ cond b (Ok a) (Err BadVersion)
  fits-at b a e h = ap (λ x. cond x (Ok (pointwise agrees_if_given (version_parts_of g) (version_parts_of f))) (Err BadVersion)) e ∙ ap (λ x. cond b (Ok x) (Err BadVersion)) h

  fits-go : (b a : Bool) → is_some (third f) ≡ b → pointwise agrees_if_given (version_parts_of g) (version_parts_of f) ≡ a → let answer : MatchAnswer = cond b (Ok a) (Err BadVersion) in answer ≡ Ok true → Fits g f
  fits-go true true e h q = record { whole = e; agrees = agrees-holds (version_parts_of g) (version_parts_of f) h }
  fits-go true false e h q = absurd (cc)
  fits-go false a e h q = absurd (cc)

  pub fits-true : fits g f ≡ Ok true → Fits g f
  fits-true q = fits-go _ _ refl refl (sym (fits-at _ _ refl refl) ∙ q)

  pub fits-tested : Fits g f → fits g f ≡ Ok true
  fits-tested h = fits-at true true h.whole (agrees-tested (version_parts_of g) (version_parts_of f) h.agrees)

  short-go : (b : Bool) (a : Bool) → is_some (third f) ≡ b → let answer : MatchAnswer = cond b (Ok a) (Err BadVersion) in answer ≡ Err BadVersion → ¬ IsSome (third f)
  short-go true a e q full = absurd (cc)
  short-go false a e q full = let clash : true ≡ false = sym full ∙ e in cc

  pub fits-short : fits g f ≡ Err BadVersion → ¬ IsSome (third f)
  fits-short q = short-go _ (pointwise agrees_if_given (version_parts_of g) (version_parts_of f)) refl q

  tested-go : (b : Bool) → is_some (third f) ≡ b → ¬ IsSome (third f) → fits g f ≡ Err BadVersion
  tested-go true e short = absurd (short e)
  tested-go false e short = fits-at false _ e refl

  pub short-tested : ¬ IsSome (third f) → fits g f ≡ Err BadVersion
  short-tested short = tested-go _ refl short

  no_id-go : (b a : Bool) → let answer : MatchAnswer = cond b (Ok a) (Err BadVersion) in answer ≡ Err BadId → ⊥
  no_id-go true a q = cc
  no_id-go false a q = cc

  pub fits-no_id : fits g f ≡ Err BadId → ⊥
  fits-no_id q = no_id-go (is_some (third f)) (pointwise agrees_if_given (version_parts_of g) (version_parts_of f)) q

-- ---- where an answer comes from

module _ (p : Identity) (spec : Name) where
  pub data Comes (answer : MatchAnswer) : Type 0 where
    by_version : (given full : Name) → AsksVersion p spec given full → answer ≡ fits given full → Comes answer
    yes : Matches p spec → answer ≡ Ok true → Comes answer
    no : answer ≡ Ok false → Comes answer
    no_id : HasBadId p spec → answer ≡ Err BadId → Comes answer

  pub comes-true : (answer : MatchAnswer) → Comes answer → answer ≡ Ok true → Matches p spec
  comes-true answer (by_version g f asks is) e = versioned g f asks (fits-true g f (sym is ∙ e))
  comes-true answer (yes m is) e = m
  comes-true answer (no is) e = absurd (cc)
  comes-true answer (no_id h is) e = absurd (cc)

  pub comes-bad_id : (answer : MatchAnswer) → Comes answer → answer ≡ Err BadId → HasBadId p spec
  comes-bad_id answer (by_version g f asks is) e = absurd (fits-no_id g f (sym is ∙ e))
  comes-bad_id answer (yes m is) e = absurd (cc)
  comes-bad_id answer (no is) e = absurd (cc)
  comes-bad_id answer (no_id h is) e = h

  pub comes-bad_version : (answer : MatchAnswer) → Comes answer → answer ≡ Err BadVersion → HasBadVersion p spec
  comes-bad_version answer (by_version g f asks is) e = record { given = g; full = f; asks = asks; short = fits-short g f (sym is ∙ e) }
  comes-bad_version answer (yes m is) e = absurd (cc)
  comes-bad_version answer (no is) e = absurd (cc)
  comes-bad_version answer (no_id h is) e = absurd (cc)
