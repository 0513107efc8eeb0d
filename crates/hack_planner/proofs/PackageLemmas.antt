-- Which packages a call runs on, put together.
use Rattle.std.proofs.Common.{◌≡◌, ◌∙◌, List, ◌++◌, ◌∷◌, Contains, true, false, refl, sym, ap, subst, arith, string_bytes, append_assoc, map}
use Rattle.std.proofs.lemmas.List.{map-append}
use Rattle.std.proofs.lemmas.List.Elements.{Contains-append_right}
use Rattle.hack_base.specs.Names.{Name, names_of}
use Rattle.hack_base.specs.declared.notice.Notice.{Notice}
use Rattle.hack_base.specs.Notes.{Note, note_of}
use Rattle.hack_words.specs.declared.cli.args.Args.{Args}
use Rattle.hack_planner.specs.declared.fault.PackagesFault.{PackagesFault}
use Rattle.hack_planner.specs.declared.fault.PackagesFault.TheVariants.{Memory, Unmatched}
use Rattle.hack_planner.specs.Members.{Member, AllMatch, names_some}
use Rattle.hack_planner.specs.InternalListingView.{IsNamedFault}
use Rattle.hack_planner.specs.PackagesView.{IsListFault}

-- a call that names no packages has no such error
pub never-unnamed : (args : Args) (ms : List Member) → names_some args ≡ false → (e : PackagesFault) → IsListFault args ms e → ⊥
never-unnamed args ms f Memory h = h
never-unnamed args ms f (Unmatched spec) h = let e : true ≡ false = sym h.0 ∙ f in absurd (cc)

among : (before behind : List Name) (spec : Name) → Contains (before ++ spec ∷ behind) spec
among before behind spec = Contains-append_right before (spec ∷ behind) spec (0, omega arith, refl)

-- nor has a call of which each specification matches a member
pub never-named : (args : Args) (ms : List Member) → AllMatch ms (names_of args.«package».items) → (e : PackagesFault) → IsListFault args ms e → ⊥
never-named args ms all Memory h = h
never-named args ms all (Unmatched spec) h =
    h.1.unmatched (all (string_bytes spec) (subst (λ l. Contains l (string_bytes spec)) (sym h.1.whole) (among h.1.before h.1.behind (string_bytes spec))))

-- a specification that matches no member is an error of a call that names packages
pub named-fault : (args : Args) (ms : List Member) (specs : List Name) (e : PackagesFault) → specs ≡ names_of args.«package».items → names_some args ≡ true → IsNamedFault ms specs e → IsListFault args ms e
named-fault args ms specs Memory same some h = h
named-fault args ms specs (Unmatched spec) same some h = (some, subst (λ l. IsNamedFault ms l (Unmatched spec)) same h)

-- three lists of notices, one after another
pub three-lists : (a b d ab all : List Notice) (x y : List Note) → ab ≡ a ++ b → all ≡ ab ++ d → map note_of b ≡ x → map note_of d ≡ y → map note_of all ≡ map note_of a ++ (x ++ y)
three-lists a b d ab all x y eab eall eb ed =
    ap (map note_of) eall ∙ map-append note_of ab d
    ∙ ap (λ t. t ++ map note_of d) (ap (map note_of) eab ∙ map-append note_of a b)
    ∙ append_assoc (map note_of a) (map note_of b) (map note_of d)
    ∙ ap (λ t. map note_of a ++ (t ++ map note_of d)) eb
    ∙ ap (λ t. map note_of a ++ (x ++ t)) ed
