-- Matching in its two cases: a specification that begins with the name, and one that doesn't.
use Rattle.std.proofs.Common.{◌≡◌, ◌≢◌, ◌↔◌, ℕ, Bool, true, false, cond, [], ◌∷◌, ◌++◌, Option, Some, None, Ok, Err, is_some, unwrap_or, append-nil, refl, sym, ap, subst, ◌∙◌, inl, inr}
use Rattle.std.specs.List.{before_first, after_first}
use Rattle.std.specs.Str.{bytes_eq}
use Rattle.std.specs.Cmp.Lexicographic.{bytes_decides}
use Rattle.std.proofs.lemmas.Bool.{cases_Bool}
use Rattle.std.proofs.lemmas.List.{append_cancel_left}
use Rattle.hack_base.specs.Names.{Name}
use Rattle.hack_pkgids.specs.PackageSpecs.{is_byte, filled_part, Url, IsUrl, Identity, IsPlace, AsksVersion, of_name, of_fragment, alone, Matches, named, placed, name_at, versioned, HasBadId, HasBadVersion, has_byte, behind_first_byte, separates, trimmed_end}
use Rattle.std.specs.Char.{is_ascii_digit}
use Rattle.std.specs.Prelude.{slice_index}
use Rattle.hack_pkgids.specs.InternalSpecAnswers.{MatchAnswer, fits, parts_at_separator, behind_name, with_version, alone_in, in_fragment, of_fragments, is_same_place, of_urls, IsUrlOrNone, IsBehind}
use Rattle.hack_pkgids.specs.declared.pkgids.SpecFault.TheVariants.{BadId, BadVersion}
use Rattle.hack_pkgids.proofs.TextLemmas.{scheme-same}
use Rattle.hack_pkgids.proofs.MatchLemmas.{Comes, by_version, yes, no, no_id, comes-true, comes-bad_id, comes-bad_version, fits-tested, short-tested, place-holds, place-tested}

-- ---- a specification that begins with the name

module _ (p : Identity) (spec : Name) where
  name-go : (x : ℕ) (given : Name) (b : Bool) → separates x ≡ b → spec ≡ p.name ++ x ∷ given → Comes p spec (cond b (fits given p.version) (Ok false))
  name-go x given true s e = by_version given p.version (of_name x s e refl) refl
  name-go x given false s e = no refl

  name-comes : (rest : Name) → spec ≡ p.name ++ rest → Comes p spec (behind_name p.version rest)
  name-comes [] e = yes (named (e ∙ append-nil p.name)) refl
  name-comes (x ∷ given) e = name-go x given (separates x) refl e

  name-asks : (rest given full : Name) → spec ≡ p.name ++ rest → AsksVersion p spec given full → behind_name p.version rest ≡ fits given full
  name-asks rest given full e (of_name by sep eq v) =
      ap (behind_name p.version) (append_cancel_left p.name rest (by ∷ given) (sym e ∙ eq)) ∙ ap (λ b. cond b (fits given p.version) (Ok false)) sep ∙ ap (fits given) v
  name-asks rest given full e (of_fragment url own text id_text place e1 e2 names b1 b2) = absurd (place.unnamed rest e)
  name-asks rest given full e (alone url own place e1 some none differs digit v) = absurd (place.unnamed rest e)

  name-matches : (rest : Name) → spec ≡ p.name ++ rest → Matches p spec → behind_name p.version rest ≡ Ok true
  name-matches rest e (named eq) = ap (behind_name p.version) (append_cancel_left p.name rest [] (sym e ∙ eq ∙ sym (append-nil p.name)))
  name-matches rest e (placed url own place none) = absurd (place.unnamed rest e)
  name-matches rest e (name_at url own place is some none) = absurd (place.unnamed rest e)
  name-matches rest e (versioned given full asks h) = name-asks rest given full e asks ∙ fits-tested given full h

-- ---- URLs

-- a text is not two different URLs
url-same : (text : Name) (a b : Url) → IsUrl text a → IsUrl text b → a ≡ b
url-same text a b h k =
    let same = scheme-same text h.scheme h.rest k.scheme k.rest (record { whole = h.whole; first = h.first }) (record { whole = k.whole; first = k.first }) in
    let protocols : a.protocol ≡ b.protocol = h.protocol ∙ ap (λ s. unwrap_or (behind_first_byte (is_byte 43) s) s) same.0 ∙ sym k.protocol in
    let paths : a.path ≡ b.path = h.path ∙ ap (λ r. before_first (is_byte 63) (before_first (is_byte 35) r)) same.1 ∙ sym k.path in
    let queries : a.query ≡ b.query = h.query ∙ ap (λ r. filled_part (after_first (is_byte 63) (before_first (is_byte 35) r))) same.1 ∙ sym k.query in
    let fragments : a.fragment ≡ b.fragment = h.fragment ∙ ap (λ r. filled_part (after_first (is_byte 35) r)) same.1 ∙ sym k.fragment in
    λ i. record { protocol = protocols i; path = paths i; query = queries i; fragment = fragments i }

read-same : (text : Name) (o : Option Url) (u : Url) → IsUrlOrNone text o → IsUrl text u → o ≡ Some u
read-same text None u h k = absurd (h u k)
read-same text (Some v) u h k = ap Some (url-same text v u h k)

-- the parts before and after a separator, where the part after it is known
cut-at : (text given : Name) (b : Bool) → has_byte separates text ≡ b → cond b (Some (after_first separates text)) None ≡ Some given → parts_at_separator text ≡ Some (before_first separates text, given)
cut-at text given true e h = ap (λ c. cond c (Some (before_first separates text, after_first separates text)) None) e ∙ ap (λ g. Some (before_first separates text, g)) (let q : after_first separates text ≡ given = cc in q)
cut-at text given false e h = absurd (cc)

cut-behind : (text given : Name) → behind_first_byte separates text ≡ Some given → parts_at_separator text ≡ Some (before_first separates text, given)
cut-behind text given h = cut-at text given (has_byte separates text) refl h

cut-none : (text : Name) → has_byte separates text ≡ false → parts_at_separator text ≡ None
cut-none text e = ap (λ c. cond c (Some (before_first separates text, after_first separates text)) None) e

other-name : (a b : Name) → a ≢ b → bytes_eq a b ≡ false
other-name a b differs = elim (cases_Bool (bytes_eq a b)) [ inl t ↦ absurd (differs ((bytes_decides a b).0 t)) | inr f ↦ f ]

same-names : (a b : Name) → bytes_eq a b ≡ false → a ≢ b
same-names a b e q = let clash : true ≡ false = sym ((bytes_decides a b).1 q) ∙ e in cc

-- ---- a specification that doesn't begin with the name

module _ (p : Identity) (spec : Name) where
  module _ (g o : Url) (place : IsPlace p spec g o) (text own : Name) (is : g.fragment ≡ Some text) (own_is : o.fragment ≡ Some own) where
    names-go : (b : Bool) → has_byte separates text ≡ true → has_byte separates own ≡ true → bytes_eq (before_first separates text) (before_first separates own) ≡ b
        → Comes p spec (cond b (fits (after_first separates text) (after_first separates own)) (Ok false))
    names-go true e1 e2 e3 =
        by_version (after_first separates text) (after_first separates own)
        (of_fragment g o text own place is own_is ((bytes_decides (before_first separates text) (before_first separates own)).0 e3)
        (ap (λ x. cond x (Some (after_first separates text)) None) e1) (ap (λ x. cond x (Some (after_first separates own)) None) e2)) refl
    names-go false e1 e2 e3 = no refl

    parted-go : (b : Bool) → has_byte separates text ≡ true → has_byte separates own ≡ b
        → Comes p spec (with_version (before_first separates text, after_first separates text) (cond b (Some (before_first separates own, after_first separates own)) None))
    parted-go true e1 e2 = names-go (bytes_eq (before_first separates text) (before_first separates own)) e1 e2 refl
    parted-go false e1 e2 = no refl

    digit-go : (b : Bool) → has_byte separates text ≡ false → bytes_eq text p.name ≡ false → is_ascii_digit (slice_index text 0) ≡ b → Comes p spec (cond b (fits text p.version) (Ok false))
    digit-go true e1 e2 e3 = by_version text p.version (alone g o place is (ap is_some own_is) e1 (same-names text p.name e2) e3 refl) refl
    digit-go false e1 e2 e3 = no refl

    alone-go : (b : Bool) → has_byte separates text ≡ false → bytes_eq text p.name ≡ b → Comes p spec (cond b (Ok true) (cond (is_ascii_digit (slice_index text 0)) (fits text p.version) (Ok false)))
    alone-go true e1 e2 =
        let same : text ≡ p.name = (bytes_decides text p.name).0 e2 in
        yes (name_at g o place (is ∙ ap Some same) (ap is_some own_is) (subst (λ t. has_byte separates t ≡ false) same e1)) refl
    alone-go false e1 e2 = digit-go (is_ascii_digit (slice_index text 0)) e1 e2 refl

    fragment-go : (b : Bool) → has_byte separates text ≡ b → Comes p spec (in_fragment p text (cond b (Some (before_first separates text, after_first separates text)) None) (parts_at_separator own))
    fragment-go true e = parted-go (has_byte separates own) e refl
    fragment-go false e = alone-go (bytes_eq text p.name) e refl

  fragments-go : (g o : Url) → IsPlace p spec g o → (gf of : Option Name) → g.fragment ≡ gf → o.fragment ≡ of → Comes p spec (of_fragments p gf of)
  fragments-go g o place None of eg eo = yes (placed g o place eg) refl
  fragments-go g o place (Some text) None eg eo = no refl
  fragments-go g o place (Some text) (Some own) eg eo = fragment-go g o place text own eg eo (has_byte separates text) refl

  place-go : (g o : Url) → ((rest : Name) → spec ≢ p.name ++ rest) → IsUrl (trimmed_end spec) g → IsUrl p.id o → (b : Bool) → is_same_place g o ≡ b → Comes p spec (cond b (of_fragments p g.fragment o.fragment) (Ok false))
  place-go g o unnamed hg ho true e =
      let same = place-holds g o e in
      fragments-go g o (record { unnamed = unnamed; spec_is = hg; id_is = ho; protocol = same.0; path = same.1; query = same.2 }) g.fragment o.fragment refl refl
  place-go g o unnamed hg ho false e = no refl

  module _ (unnamed : (rest : Name) → spec ≢ p.name ++ rest) where
    url-comes : (g o : Option Url) → IsUrlOrNone (trimmed_end spec) g → IsUrlOrNone p.id o → Comes p spec (of_urls p g o)
    url-comes None o hg ho = no refl
    url-comes (Some g) None hg ho = no_id (record { unnamed = unnamed; url = g; spec_is = hg; id_is = ho }) refl
    url-comes (Some g) (Some o) hg ho = place-go g o unnamed hg ho (is_same_place g o) refl

    module _ (g o : Option Url) (hg : IsUrlOrNone (trimmed_end spec) g) (ho : IsUrlOrNone p.id o) where
      place-answer : (url own : Url) → IsPlace p spec url own → of_urls p g o ≡ of_fragments p url.fragment own.fragment
      place-answer url own place =
          ap (λ x. of_urls p x o) (read-same (trimmed_end spec) g url hg place.spec_is)
          ∙ ap (of_urls p (Some url)) (read-same p.id o own ho place.id_is)
          ∙ ap (λ b. cond b (of_fragments p url.fragment own.fragment) (Ok false)) (place-tested url own place.protocol place.path place.query)

      alone-answer : (text : Name) (own : Option Name) → is_some own ≡ true → has_byte separates text ≡ false → of_fragments p (Some text) own ≡ alone_in p text
      alone-answer text None some none = absurd (cc)
      alone-answer text (Some own) some none = ap (λ c. in_fragment p text c (parts_at_separator own)) (cut-none text none)

      url-asks : (given full : Name) → AsksVersion p spec given full → of_urls p g o ≡ fits given full
      url-asks given full (of_name by sep eq v) = absurd (unnamed (by ∷ given) eq)
      url-asks given full (of_fragment url own text id_text place e1 e2 names b1 b2) =
          place-answer url own place
          ∙ ap (λ f. of_fragments p f own.fragment) e1
          ∙ ap (of_fragments p (Some text)) e2
          ∙ ap (λ c. in_fragment p text c (parts_at_separator id_text)) (cut-behind text given b1)
          ∙ ap (λ c. in_fragment p text (Some (before_first separates text, given)) c) (cut-behind id_text full b2)
          ∙ ap (λ b. cond b (fits given full) (Ok false)) ((bytes_decides (before_first separates text) (before_first separates id_text)).1 names)
      url-asks given full (alone url own place e1 some none differs digit v) =
          place-answer url own place
          ∙ ap (λ f. of_fragments p f own.fragment) e1
          ∙ alone-answer given own.fragment some none
          ∙ ap (λ b. cond b (Ok true) (cond (is_ascii_digit (slice_index given 0)) (fits given p.version) (Ok false))) (other-name given p.name differs)
          ∙ ap (λ b. cond b (fits given p.version) (Ok false)) digit
          ∙ ap (fits given) v

      url-matches : Matches p spec → of_urls p g o ≡ Ok true
      url-matches (named eq) = absurd (unnamed [] (eq ∙ sym (append-nil p.name)))
      url-matches (placed url own place none) = place-answer url own place ∙ ap (λ f. of_fragments p f own.fragment) none
      url-matches (name_at url own place is some none) =
          place-answer url own place
          ∙ ap (λ f. of_fragments p f own.fragment) is
          ∙ alone-answer p.name own.fragment some none
          ∙ ap (λ b. cond b (Ok true) (cond (is_ascii_digit (slice_index p.name 0)) (fits p.name p.version) (Ok false))) ((bytes_decides p.name p.name).1 refl)
      url-matches (versioned given full asks h) = url-asks given full asks ∙ fits-tested given full h

      no_url : (own : Option Url) → IsUrlOrNone p.id own → ((u : Url) → ¬ IsUrl p.id u) → own ≡ None
      no_url None h none = refl
      no_url (Some u) h none = absurd (none u h)

      url-bad_id : HasBadId p spec → of_urls p g o ≡ Err BadId
      url-bad_id h = ap (λ x. of_urls p x o) (read-same (trimmed_end spec) g h.url hg h.spec_is) ∙ ap (of_urls p (Some h.url)) (no_url o ho h.id_is)

-- ---- both

-- the answer is true, or an error, exactly where the definitions say so
pub record Settles (p : Identity) (spec : Name) (answer : MatchAnswer) : Type 0 where
  pub matches : (answer ≡ Ok true) ↔ Matches p spec
  pub bad_id : (answer ≡ Err BadId) ↔ HasBadId p spec
  pub bad_version : (answer ≡ Err BadVersion) ↔ HasBadVersion p spec

pub name-settles : (p : Identity) (spec rest : Name) (answer : MatchAnswer) → IsBehind p.name spec (Some rest) → answer ≡ behind_name p.version rest → Settles p spec answer
name-settles p spec rest answer begins is =
    let comes : Comes p spec answer = subst (λ a. Comes p spec a) (sym is) (name-comes p spec rest begins) in
    record {
      matches = (comes-true p spec answer comes, λ m. is ∙ name-matches p spec rest begins m);
      bad_id = (comes-bad_id p spec answer comes, λ h. absurd (h.unnamed rest begins));
      bad_version = (comes-bad_version p spec answer comes, λ h. is ∙ name-asks p spec rest h.given h.full begins h.asks ∙ short-tested h.given h.full h.short);
    }

pub url-settles : (p : Identity) (spec text : Name) (g o : Option Url) (answer : MatchAnswer) → IsBehind p.name spec None → text ≡ trimmed_end spec → IsUrlOrNone text g → IsUrlOrNone p.id o → answer ≡ of_urls p g o → Settles p spec answer
url-settles p spec text g o answer unnamed ts given ho is =
    let hg : IsUrlOrNone (trimmed_end spec) g = subst (λ t. IsUrlOrNone t g) ts given in
    let comes : Comes p spec answer = subst (λ a. Comes p spec a) (sym is) (url-comes p spec unnamed g o hg ho) in
    record {
      matches = (comes-true p spec answer comes, λ m. is ∙ url-matches p spec unnamed g o hg ho m);
      bad_id = (comes-bad_id p spec answer comes, λ h. is ∙ url-bad_id p spec unnamed g o hg ho h);
      bad_version = (comes-bad_version p spec answer comes, λ h. is ∙ url-asks p spec unnamed g o hg ho h.given h.full h.asks ∙ short-tested h.given h.full h.short);
    }
