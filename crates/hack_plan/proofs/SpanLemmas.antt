-- The places of each version, as the plan grows version by version.
use Rattle.std.proofs.Common.{◌≡◌, ℕ, ◌+◌, ◌<◌, ◌≤◌, List, [], ◌∷◌, ◌++◌, length, take, drop, map, arith, refl, ap, sym, ◌∙◌, subst, get_or, length-append, append_assoc, append-nil, Option, Some, Bool}
use Rattle.std.specs.List.{All, Contains}
use Rattle.std.proofs.lemmas.List.{length-map, get_or-map, map-append, take_more}
use Rattle.std.proofs.lemmas.List.Elements.{All-append, All-push, All-map, All-weaker, Contains-get_or}
use Rattle.hack_versions.specs.declared.version.Version.{Version}
use Rattle.hack_versions.specs.declared.version.VersionRange.{VersionRange}
use Rattle.hack_versions.specs.declared.group.VersionGroup.{VersionGroup}
use Rattle.hack_versions.specs.VersionOrder.{IsEarlierVersion}
use Rattle.hack_versions.specs.VersionUses.{UsesAt, AreVersionGroups}
use Rattle.hack_plan.specs.declared.places.PlanEntry.{PlanEntry}
use Rattle.hack_plan.specs.declared.places.Span.{Span}
use Rattle.hack_plan.specs.declared.versions.PlanInput.{PlanInput}
use Rattle.hack_plan.specs.Entries.{AddsEntries, IsOlder}
use Rattle.hack_plan.specs.Parts.{InVersion}
use Rattle.hack_plan.specs.Spans.{Laid, IsSpan, AreSpans, AreTiled}
use Rattle.hack_plan.specs.Internal.{AppendsPlaces, version_at}
use Rattle.hack_plan.proofs.Groups.{InGroups, earlier}

-- the version of a group
abbrev pub version_in : VersionGroup → Option Version
version_in group = Some group.version

-- the plan consists of the places of older versions, this one's from first to end, and those of
-- later versions
pub record IsCut (entries : List PlanEntry) (s : Span) : Type 0 where
  pub older : List PlanEntry
  pub here : List PlanEntry
  pub later : List PlanEntry
  pub all : entries ≡ older ++ here ++ later
  pub first : s.first ≡ length older
  pub end : s.end ≡ length older + length here
  pub before : All (λ q. IsOlder q.version s.version) older
  pub same : All (λ q. q.version ≡ s.version) here
  pub behind : All (λ q. IsOlder s.version q.version) later

front-of : (xs ys : List PlanEntry) → take (length xs) (xs ++ ys) ≡ xs
front-of [] ys = refl
front-of (x ∷ xs) ys = ap (λ l. x ∷ l) (front-of xs ys)

back-of : (xs ys : List PlanEntry) → drop (length xs) (xs ++ ys) ≡ ys
back-of [] ys = refl
back-of (x ∷ xs) ys = back-of xs ys

-- these places are those of the version
cut-span : (entries : List PlanEntry) (s : Span) → IsCut entries s → IsSpan entries s
cut-span entries s f =
    let here_end : s.end ≡ length (f.older ++ f.here) = f.end ∙ sym (length-append f.older f.here) in
    let old : take s.first entries ≡ f.older =
    ap (λ n. take n entries) f.first ∙ ap (take (length f.older)) (f.all ∙ append_assoc f.older f.here f.later) ∙ front-of f.older (f.here ++ f.later) in
    let upto : take s.end entries ≡ f.older ++ f.here =
    ap (λ n. take n entries) here_end ∙ ap (take (length (f.older ++ f.here))) f.all ∙ front-of (f.older ++ f.here) f.later in
    let here : drop s.first (take s.end entries) ≡ f.here =
    ap (drop s.first) upto ∙ ap (λ n. drop n (f.older ++ f.here)) f.first ∙ back-of f.older f.here in
    let later : drop s.end entries ≡ f.later =
    ap (λ n. drop n entries) here_end ∙ ap (drop (length (f.older ++ f.here))) f.all ∙ back-of (f.older ++ f.here) f.later in
    let whole : length entries ≡ length (f.older ++ f.here) + length f.later = ap length f.all ∙ length-append (f.older ++ f.here) f.later in
    record {
      within = (omega (arith, f.first, f.end), omega (arith, here_end, whole));
      before = subst (All (λ q. IsOlder q.version s.version)) (sym old) f.before;
      same = subst (All (λ (q : PlanEntry). q.version ≡ s.version)) (sym here) f.same;
      behind = subst (All (λ q. IsOlder s.version q.version)) (sym later) f.behind;
    }

-- each version with its places, which partition those of the plan
pub record ArePartition (versions : List (Option Version)) (p : Laid) : Type 0 where
  pub names : map version_at p.spans ≡ versions
  pub each : All (IsCut p.entries) p.spans
  pub tiled : AreTiled 0 p.spans (length p.entries)

-- then each has its places
pub spans-in : (versions : List (Option Version)) (p : Laid) → ArePartition versions p → AreSpans versions p.entries p.spans
spans-in versions p f = record { names = f.names; each = All-weaker (IsCut p.entries) (IsSpan p.entries) (cut-span p.entries) p.spans f.each }

abbrev IsOlderEntry : Option Version → PlanEntry → Type 0
IsOlderEntry v q = IsOlder q.version v

abbrev IsHere : Option Version → PlanEntry → Type 0
IsHere v q = q.version ≡ v

abbrev IsLater : Option Version → PlanEntry → Type 0
IsLater v q = IsOlder v q.version

abbrev span_of : Option Version → List PlanEntry → List PlanEntry → Span
span_of v old new = record { version = v; first = length old; end = length new }

span-more : (entries added : List PlanEntry) (s : Span) → IsCut entries s → All (IsLater s.version) added → IsCut (entries ++ added) s
span-more entries added s f h = record {
  older = f.older;
  here = f.here;
  later = f.later ++ added;
  all = ap (λ t. t ++ added) f.all ∙ append_assoc (f.older ++ f.here) f.later added;
  first = f.first;
  end = f.end;
  before = f.before;
  same = f.same;
  behind = All-append (IsLater s.version) f.later added f.behind h;
}

span-last : (v : Option Version) (old added : List PlanEntry) → All (IsOlderEntry v) old → All (IsHere v) added → IsCut (old ++ added) (span_of v old (old ++ added))
span-last v old added f g = record {
  older = old;
  here = added;
  later = [];
  all = sym (append-nil (old ++ added));
  first = refl;
  end = length-append old added;
  before = f;
  same = g;
  behind = λ k d h. absurd (omega arith);
}

All-unmap : {X Y : Type 0} (f : X → Y) (P : Y → Type 0) (xs : List X) → All P (map f xs) → All (λ x. P (f x)) xs
All-unmap f P xs h k d l = subst P (get_or-map f xs k d (f d) l) (h k (f d) (omega (arith, length-map xs f, l)))

later-than : (v w : Option Version) (added : List PlanEntry) → IsOlder w v → All (IsHere v) added → All (IsLater w) added
later-than v w added l h = All-weaker (IsHere v) (IsLater w) (λ q e. subst (IsOlder w) (sym e) l) added h

-- one version's places, added after those before it
tiled-more : (from : ℕ) (ss : List Span) (s : Span) (mid to : ℕ) → AreTiled from ss mid → s.first ≡ mid → mid ≤ s.end → s.end ≡ to → AreTiled from (ss ++ s ∷ []) to
tiled-more from [] s mid to t first le end = (first ∙ sym t, omega (arith, t), end)
tiled-more from (x ∷ ss) s mid to t first le end = (t.0, t.1, tiled-more x.end ss s mid to t.2 first le end)

pub spans-next : (names : List (Option Version)) (v : Option Version) (old new : Laid) (added : List PlanEntry) → new.entries ≡ old.entries ++ added → AppendsPlaces v old new → ArePartition names old
    → All (IsOlderEntry v) old.entries → All (IsHere v) added → All (λ w. IsOlder w v) names → ArePartition (names ++ v ∷ []) new
spans-next names v old new added grown next f before here older = record {
  names = ap (map version_at) next ∙ map-append version_at old.spans (span_of v old.entries new.entries ∷ []) ∙ ap (λ t. t ++ v ∷ []) f.names;
  each = subst (All (IsCut new.entries)) (sym next) (All-push (IsCut new.entries) old.spans (span_of v old.entries new.entries) all last);
  tiled = subst (λ ss. AreTiled 0 ss (length new.entries)) (sym next) (tiled-more 0 old.spans (span_of v old.entries new.entries) (length old.entries) (length new.entries) f.tiled refl longer refl);
}
  where
    longer : length old.entries ≤ length new.entries
    longer = omega (arith, ap length grown, length-append old.entries added)

    lower : All (λ (s : Span). IsOlder s.version v) old.spans
    lower = All-unmap version_at (λ w. IsOlder w v) old.spans (subst (All (λ w. IsOlder w v)) (sym f.names) older)

    all : All (IsCut new.entries) old.spans
    all k d h = subst (λ t. IsCut t (get_or old.spans k d)) (sym grown)
        (span-more old.entries added (get_or old.spans k d) (f.each k d h) (later-than v (get_or old.spans k d).version added (lower k d h) here))

    last : IsCut new.entries (span_of v old.entries new.entries)
    last = subst (λ t. IsCut t (span_of v old.entries t)) (sym grown) (span-last v old.entries added before here)

pub spans-none : (p : Laid) → p.entries ≡ [] → p.spans ≡ [] → ArePartition [] p
spans-none p no_entries e = record {
  names = ap (map version_at) e;
  each = subst (All (IsCut p.entries)) (sym e) (λ k d h. absurd (omega arith));
  tiled = subst (λ ss. AreTiled 0 ss (length p.entries)) (sym e) (ap length (sym no_entries));
}

-- a plan of a single version
pub spans-alone : (whole : Bool) (v : Option Version) (slots : ℕ) (places counts : List ℕ) (old new : Laid) → old.entries ≡ [] → old.spans ≡ [] → AddsEntries (InVersion whole v slots places counts) old.entries new.entries → AppendsPlaces v old new → ArePartition (v ∷ []) new
spans-alone whole v slots places counts old new e f g next =
    spans-next [] v old new g.added g.grown next (spans-none old e f)
    (subst (All (IsOlderEntry v)) (sym e) (λ k d h. absurd (omega arith)))
    (All-weaker (InVersion whole v slots places counts) (IsHere v) (λ q p. p.0) g.added g.lists.sound)
    (λ k d h. absurd (omega arith))

older-here : (v w : Option Version) (a b : Version) → v ≡ Some a → w ≡ Some b → IsEarlierVersion a b → IsOlder v w
older-here v w a b e f l = rw (e, f) l

-- the next group's version, added after those before it
pub spans-group : (s : PlanInput) (counts : List ℕ) (range : VersionRange) (some : s.range ≡ Some range) (steps : List Version) (groups : List VersionGroup) (are : AreVersionGroups (UsesAt range steps s.packages.items) groups) (i : ℕ) (g : VersionGroup) (at : i < length groups) (is : get_or groups i g ≡ g)
    (whole : Bool) (slots : ℕ) (old new : Laid) → AddsEntries (InGroups s counts steps (take i groups)) [] old.entries → ArePartition (map version_in (take i groups)) old
    → AddsEntries (InVersion whole (Some g.version) slots g.packages.items counts) old.entries new.entries → AppendsPlaces (Some g.version) old new → ArePartition (map version_in (take (i + 1) groups)) new
spans-group s counts range some steps groups are i g at is whole slots old new f spans k next =
    subst (λ names. ArePartition names new) (sym names-more)
    (spans-next (map version_in (take i groups)) (Some g.version) old new k.added k.grown next spans before
    (All-weaker (InVersion whole (Some g.version) slots g.packages.items counts) (IsHere (Some g.version)) (λ q p. p.0) k.added k.lists.sound) names-older)
  where
    names-more : map version_in (take (i + 1) groups) ≡ map version_in (take i groups) ++ Some g.version ∷ []
    names-more = ap (map version_in) (take_more groups i g at) ∙ map-append version_in (take i groups) (get_or groups i g ∷ []) ∙ ap (λ (x : VersionGroup). map version_in (take i groups) ++ Some x.version ∷ []) is

    low : (h : VersionGroup) → Contains (take i groups) h → IsEarlierVersion h.version g.version
    low h m = earlier s counts range some steps groups are i g at is h m

    before : All (IsOlderEntry (Some g.version)) old.entries
    before = subst (All (IsOlderEntry (Some g.version))) (sym f.grown)
        (All-weaker (InGroups s counts steps (take i groups)) (IsOlderEntry (Some g.version)) (λ q p. older-here q.version (Some g.version) p.1.0.version g.version p.1.2 refl (low p.1.0 p.1.1)) f.added f.lists.sound)

    names-older : All (λ w. IsOlder w (Some g.version)) (map version_in (take i groups))
    names-older = All-map (λ w. IsOlder w (Some g.version)) version_in (take i groups) (λ m d h. low (get_or (take i groups) m d) (Contains-get_or (take i groups) m d h))
