-- The members so far, and one more.
use Rattle.std.proofs.Common.{◌≡◌, ◌≢◌, inl, inr, ℕ, ◌+◌, ◌<◌, List, [], ◌∷◌, ◌++◌, Bool, true, false, cond, Option, Some, length, get_or, map, take, refl, sym, ◌∙◌, ap, subst, append-nil, append_assoc, arith}
use Rattle.std.specs.Prelude.{◌&&◌, ◌||◌, not, All, Contains, codes}
use Rattle.std.specs.List.{filter, filter_map, flat_map}
use Rattle.std.specs.Str.{bytes_eq}
use Rattle.std.proofs.lemmas.Bool.{cases_Bool, true≢false}
use Rattle.std.proofs.lemmas.List.{map-append}
use Rattle.std.proofs.lemmas.List.Elements.{All-contains, All-push, All-take, Contains-push_cases, filter-append, filter_map-append}
use Rattle.std.proofs.lemmas.List.Folds.{list_any_at}
use Rattle.std.proofs.lemmas.Grind.{flat_map-append}
use Rattle.std.proofs.lemmas.Slice.Eq.{bytes_eq-Decides}
use Rattle.hack_base.specs.Names.{Name}
use Rattle.hack_base.proofs.Steps.{filter_map-found, seen-next}
use Rattle.hack_metadata.specs.RecordViews.{place_at}
use Rattle.hack_metadata.specs.declared.metadata.resolve.PackageId.{PackageId}
use Rattle.hack_edits.specs.DevDeps.{IsWithoutDev}
use Rattle.hack_files.specs.Files.{Contents, KeepsOthers}
use Rattle.hack_base.specs.Counters.{GrowsBy}
use Rattle.hack_base.specs.Notes.{Note}
use Rattle.hack_prepare.specs.Internal.{IsAlonePath, Only, ArePartlyTurned, AreTurned, HoldsText, IsStep, IsTurned, IsTurnedOrNot, KeepsApart}
use Rattle.hack_prepare.specs.Prepared.{HasPrivateRoot, HoldTexts, MemberManifest, Wanted, is_removed, gone_manifests, drops_at_root, is_alone, is_alone_at, is_root}
use Rattle.hack_files.specs.declared.restore.Manager.{Manager}
use Rattle.hack_prepare.proofs.CountLemmas.{none_failed, none_then}
use Rattle.hack_prepare.proofs.StepLemmas.{step_given, step_none, step_then}
use Rattle.hack_prepare.specs.EditNotes.{dev_note, edit_notes, member_notes, notes, root_notes}
use Rattle.hack_prepare.specs.PreparedView.{wanted_in}
use Rattle.hack_load.specs.Contexts.{ContextRecord}
use Rattle.hack_base.specs.PathTexts.{join_of}
use Rattle.hack_words.specs.declared.cli.args.Args.{Args}

pub or_left : (a b : Bool) → (a || b) ≡ false → a ≡ false
or_left true b e = e
or_left false b e = refl

pub or_right : (a b : Bool) → (a || b) ≡ false → b ≡ false
or_right true b e = absurd (true≢false e)
or_right false b e = e

-- a member that is removed isn't edited by itself
pub alone-goes : (w : Wanted) (m : MemberManifest) → is_removed w m ≡ true → is_alone w m ≡ false
alone-goes w m e = by w.drops_dev w.no_private m.is_private (is_root w m) e
  where
    by : (d n p r : Bool) → (n && p) ≡ true → (d && not (n && (p || r))) ≡ false
    by false n p r h = refl
    by true true true r h = refl
    by true true false r h = absurd (true≢false (sym h))
    by true false p r h = absurd (true≢false (sym h))

-- those that are removed
pub gone-more : (w : Wanted) (ms : List MemberManifest) (m : MemberManifest) (before now : List Name) → before ≡ gone_manifests w ms → now ≡ before ++ m.path ∷ [] → is_removed w m ≡ true → now ≡ gone_manifests w (ms ++ m ∷ [])
gone-more w ms m before now is grown e =
    let path : MemberManifest → Name = λ x. x.path in
    grown ∙ ap (λ l. l ++ m.path ∷ []) is
    ∙ ap (λ b. gone_manifests w ms ++ map path (cond b (m ∷ []) [])) (sym e)
    ∙ sym (map-append path (filter (is_removed w) ms) (filter (is_removed w) (m ∷ [])))
    ∙ ap (map path) (sym (filter-append (is_removed w) ms (m ∷ [])))

pub gone-same : (w : Wanted) (ms : List MemberManifest) (m : MemberManifest) (before : List Name) → before ≡ gone_manifests w ms → is_removed w m ≡ false → before ≡ gone_manifests w (ms ++ m ∷ [])
gone-same w ms m before is e =
    let path : MemberManifest → Name = λ x. x.path in
    is ∙ sym (append-nil (gone_manifests w ms))
    ∙ ap (λ b. gone_manifests w ms ++ map path (cond b (m ∷ []) [])) (sym e)
    ∙ sym (map-append path (filter (is_removed w) ms) (filter (is_removed w) (m ∷ [])))
    ∙ ap (map path) (sym (filter-append (is_removed w) ms (m ∷ [])))

-- the notices on them
pub told-more : (w : Wanted) (ms : List MemberManifest) (m : MemberManifest) (old before now : List Note) → before ≡ old ++ flat_map (member_notes w) ms
    → now ≡ before ++ dev_note w.verbose m.path → is_alone w m ≡ true → now ≡ old ++ flat_map (member_notes w) (ms ++ m ∷ [])
told-more w ms m old before now is grown e =
    grown ∙ ap (λ l. l ++ dev_note w.verbose m.path) is ∙ append_assoc old (flat_map (member_notes w) ms) (dev_note w.verbose m.path)
    ∙ ap (λ l. old ++ (flat_map (member_notes w) ms ++ l)) (ap (λ b. cond b (dev_note w.verbose m.path) []) (sym e) ∙ sym (append-nil (member_notes w m)))
    ∙ ap (λ l. old ++ l) (sym (flat_map-append (member_notes w) ms (m ∷ [])))

pub told-same : (w : Wanted) (ms : List MemberManifest) (m : MemberManifest) (old before : List Note) → before ≡ old ++ flat_map (member_notes w) ms
    → is_alone w m ≡ false → before ≡ old ++ flat_map (member_notes w) (ms ++ m ∷ [])
told-same w ms m old before is e =
    is
    ∙ ap (λ l. old ++ l) (sym (append-nil (flat_map (member_notes w) ms)))
    ∙ ap (λ l. old ++ (flat_map (member_notes w) ms ++ l)) (ap (λ b. cond b (dev_note w.verbose m.path) []) (sym e) ∙ sym (append-nil (member_notes w m)))
    ∙ ap (λ l. old ++ l) (sym (flat_map-append (member_notes w) ms (m ∷ [])))

-- a private member at the root
pub never-more : (w : Wanted) (ms : List MemberManifest) (m : MemberManifest) → (is_removed w m ≡ true → is_root w m ≡ false) → ¬ HasPrivateRoot w ms → ¬ HasPrivateRoot w (ms ++ m ∷ [])
never-more w ms m apart before h = elim (Contains-push_cases ms m h.member h.among) [
  | inl earlier ↦ before (record { member = h.member; among = earlier; removed = h.removed; at_root = h.at_root })
  | inr same ↦ true≢false (sym (subst (λ x. is_root w x ≡ true) (sym same) h.at_root) ∙ apart (subst (λ x. is_removed w x ≡ true) (sym same) h.removed))
]

pub never-none : (w : Wanted) → ¬ HasPrivateRoot w []
never-none w h = absurd (omega (arith, h.among.1))

-- a member that is edited by itself has its path edited
pub alone-path : (w : Wanted) (ms : List MemberManifest) (m : MemberManifest) (p : Name) → Contains ms m → is_alone w m ≡ true → p ≡ m.path → IsAlonePath w ms p
alone-path w ms m p among alone is =
    let here : is_alone_at w p m ≡ true = ap (λ b. b && bytes_eq m.path p) alone ∙ (bytes_eq-Decides m.path p).1 (sym is) in
    list_any_at (is_alone_at w p) ms among.0 m among.1 (ap (is_alone_at w p) among.2 ∙ here)

-- what is edited so far
pub turned-none : (w : Wanted) (held : Contents) → AreTurned w [] held
turned-none w held k d lt = absurd (omega (arith, lt))

turned-same : (w : Wanted) (ms : List MemberManifest) (m : MemberManifest) (new : Contents) → is_alone w m ≡ false → AreTurned w ms new → AreTurned w (ms ++ m ∷ []) new
turned-same w ms m new e h = All-push (λ x. is_alone w x ≡ true → IsTurned new x) ms m h (λ is. absurd (true≢false (sym is ∙ e)))

-- what a member's manifest holds stays, or is the edit of the same text
still : (m x : MemberManifest) (mid new : Contents) → (x.path ≡ m.path → x.text ≡ m.text) → IsTurned new m → KeepsOthers m.path mid new → IsTurned mid x → IsTurned new x
still m x mid new same now keeps before = elim (cases_Bool (bytes_eq x.path m.path)) [
  | inl e ↦
      let path : x.path ≡ m.path = (bytes_eq-Decides x.path m.path).0 e in
      (now.0, ap new path ∙ now.1, subst (λ t. IsWithoutDev t now.0) (sym (same path)) now.2)
  | inr e ↦
      let apart : x.path ≢ m.path = λ is. true≢false (sym ((bytes_eq-Decides x.path m.path).1 is) ∙ e) in
      (before.0, keeps x.path apart ∙ before.1, before.2)
]

turned-more : (w : Wanted) (ms : List MemberManifest) (m : MemberManifest) (mid new : Contents) → All (λ x. x.path ≡ m.path → x.text ≡ m.text) ms
    → IsTurned new m → KeepsOthers m.path mid new → AreTurned w ms mid → AreTurned w (ms ++ m ∷ []) new
turned-more w ms m mid new same now keeps h =
    All-push (λ x. is_alone w x ≡ true → IsTurned new x) ms m (λ k d lt is. still m (get_or ms k d) mid new (same k d lt) now keeps (h k d lt is)) (λ is. now)

-- a path at which no member's manifest is edited by itself stays, where such a one is written
apart-more : (w : Wanted) (ms : List MemberManifest) (m : MemberManifest) (old mid new : Contents) → Contains ms m → is_alone w m ≡ true → KeepsOthers m.path mid new → KeepsApart w ms old mid → KeepsApart w ms old new
apart-more w ms m old mid new among alone keeps h q free = keeps q (λ is. true≢false (sym (alone-path w ms m q among alone is) ∙ free)) ∙ h q free

-- a member's manifest that stays
carried : (failed : Type 0) (x : MemberManifest) (old mid new : Contents) → new x.path ≡ mid x.path → IsTurnedOrNot ⊥ old mid x → IsTurnedOrNot failed old new x
carried failed x old mid new same (inl h) = inl (same ∙ h)
carried failed x old mid new same (inr (inl t)) = inr (inl (t.0, same ∙ t.1, t.2))
carried failed x old mid new same (inr (inr f)) = absurd f

-- one at the same path as a member's that is written
written : (failed : Type 0) (m x : MemberManifest) (old mid new : Contents) → x.path ≡ m.path → x.text ≡ m.text → IsTurnedOrNot failed mid new m → IsTurnedOrNot ⊥ old mid x → IsTurnedOrNot failed old new x
written failed m x old mid new path text (inl same) before = carried failed x old mid new (ap new path ∙ same ∙ ap mid (sym path)) before
written failed m x old mid new path text (inr (inl t)) before = inr (inl (t.0, ap new path ∙ t.1, subst (λ s. IsWithoutDev s t.0) (sym text) t.2))
written failed m x old mid new path text (inr (inr f)) before = inr (inr f)

-- a failure of a part is one of the whole
pub turned-fails : (m : MemberManifest) (failed fails : Type 0) (old new : Contents) → (failed → fails) → IsTurnedOrNot failed old new m → IsTurnedOrNot fails old new m
turned-fails m failed fails old new more (inl h) = inl h
turned-fails m failed fails old new more (inr (inl t)) = inr (inl t)
turned-fails m failed fails old new more (inr (inr f)) = inr (inr (more f))

-- each member's manifest holds what it held, or its edit, after one more
partly-more : (w : Wanted) (ms : List MemberManifest) (m : MemberManifest) (failed : Name → Type 0) (old mid new : Contents) → All (λ x. x.path ≡ m.path → x.text ≡ m.text) ms
    → IsTurnedOrNot (failed m.path) mid new m → KeepsOthers m.path mid new → ArePartlyTurned w ms (λ q. ⊥) old mid → ArePartlyTurned w ms failed old new
partly-more w ms m failed old mid new same now keeps h k d lt is =
    let x : MemberManifest = get_or ms k d in
    elim (cases_Bool (bytes_eq x.path m.path)) [
      | inl e ↦ let path : x.path ≡ m.path = (bytes_eq-Decides x.path m.path).0 e in written (failed x.path) m x old mid new path (same k d lt path) (turned-fails m (failed m.path) (failed x.path) mid new (subst failed (sym path)) now) (h k d lt is)
      | inr e ↦ carried (failed x.path) x old mid new (keeps x.path (λ is. true≢false (sym ((bytes_eq-Decides x.path m.path).1 is) ∙ e))) (h k d lt is)
    ]

-- nothing is edited yet
pub partly-none : (w : Wanted) (ms : List MemberManifest) (failed : Name → Type 0) (held : Contents) → ArePartlyTurned w ms failed held held
partly-none w ms failed held k d lt is = inl refl

-- members that are found, one more
pub found-more : (f : ℕ → Option MemberManifest) (ids : List PackageId) (k : ℕ) (id : PackageId) (m : MemberManifest) (old new : List MemberManifest) → k < length ids → id ≡ get_or ids k id
    → f id.index ≡ Some m → new ≡ old ++ m ∷ [] → old ≡ filter_map f (take k (map place_at ids)) → new ≡ filter_map f (take (k + 1) (map place_at ids))
found-more f ids k id m old new lt is found grown so_far =
    grown
    ∙ ap (λ t. t ++ m ∷ []) so_far
    ∙ ap (λ t. filter_map f (take k (map place_at ids)) ++ t) (sym (filter_map-found f id.index m found))
    ∙ sym (filter_map-append f (take k (map place_at ids)) (id.index ∷ []))
    ∙ ap (filter_map f) (sym (seen-next place_at ids k id lt is))

-- members at one path have one text
one-text : (held : Contents) (ms : List MemberManifest) (m : MemberManifest) → HoldTexts held ms → HoldsText m held → All (λ x. x.path ≡ m.path → x.text ≡ m.text) ms
one-text held ms m holds is k d lt same = let here = holds k d lt in let there : held m.path ≡ Some (get_or ms k d).text = ap held (sym same) ∙ here in cc

-- one more member's step, after earlier ones
pub visited-fails : (tells : Type 0) (w : Wanted) (ms : List MemberManifest) (m : MemberManifest) (old mid new : Manager) (start held now : Contents) → Contains ms m → is_alone w m ≡ true
    → IsStep tells (λ s. HoldTexts s ms) (IsAlonePath w ms) old mid start held → IsStep tells (HoldsText m) (Only m.path) mid new held now
    → IsStep tells (λ s. HoldTexts s ms) (IsAlonePath w ms) old new start now
visited-fails tells w ms m old mid new start held now among alone first step =
    step_then tells (λ s. HoldTexts s ms) (IsAlonePath w ms) old mid new start held now first
    (step_given tells (HoldsText m) (λ s. HoldTexts s ms) (Only m.path) (IsAlonePath w ms) mid new held now (λ s holds. All-contains (λ x. s x.path ≡ Some x.text) ms m holds among) (λ q is. alone-path w ms m q among alone is) step)

-- what the others hold then
pub others-fail : (tells : Type 0) (w : Wanted) (ms : List MemberManifest) (m : MemberManifest) (old mid new : Contents) → Contains ms m → is_alone w m ≡ true
    → (tells → KeepsApart w ms old mid) → (tells → KeepsOthers m.path mid new) → tells → KeepsApart w ms old new
others-fail tells w ms m old mid new among alone h keeps t = apart-more w ms m old mid new among alone (keeps t) (h t)

-- and what the members' manifests hold
pub partly-fails : (tells : Type 0) (w : Wanted) (ms : List MemberManifest) (m : MemberManifest) (failed : Name → Type 0) (old mid new : Contents) → Contains ms m
    → (tells → HoldTexts old ms → ArePartlyTurned w ms (λ q. ⊥) old mid) → (tells → IsTurnedOrNot (failed m.path) mid new m) → (tells → KeepsOthers m.path mid new)
    → tells → HoldTexts old ms → ArePartlyTurned w ms failed old new
partly-fails tells w ms m failed old mid new among h now keeps t holds =
    partly-more w ms m failed old mid new (one-text old ms m holds (All-contains (λ x. old x.path ≡ Some x.text) ms m holds among)) (now t) (keeps t) (h t holds)

-- what was done for the first k members
abbrev pub Visited : (tells : Type 0) → Wanted → List MemberManifest → ℕ → Manager → Manager → Contents → Contents → ℕ → ℕ → List Name → List Note → List Note → Type 0
Visited tells w ms k old new start now before after private told notes =
    IsStep tells (λ s. HoldTexts s ms) (IsAlonePath w ms) old new start now
    × GrowsBy 0 before after
    × (tells → KeepsApart w ms start now)
    × (tells → HoldTexts start ms → AreTurned w (take k ms) now)
    × (tells → HoldTexts start ms → ArePartlyTurned w ms (λ q. ⊥) start now)
    × (private ≡ gone_manifests w (take k ms))
    × (¬ HasPrivateRoot w (take k ms))
    × (notes ≡ told ++ flat_map (member_notes w) (take k ms))

-- and for none
pub visited-none : (tells : Type 0) (w : Wanted) (ms : List MemberManifest) (manager : Manager) (held : Contents) (n : ℕ) (private : List Name) (told : List Note) → private ≡ [] → Visited tells w ms 0 manager manager held held n n private told told
visited-none tells w ms manager held n private told none-gone = (
  step_none tells (λ s. HoldTexts s ms) (IsAlonePath w ms) manager held,
  none_failed n,
  λ t q free. refl,
  λ t holds. turned-none w held,
  λ t holds. partly-none w ms (λ q. ⊥) held,
  none-gone,
  never-none w,
  sym (append-nil told),
)

module _ (tells : Type 0) (w : Wanted) (ms : List MemberManifest) (k : ℕ) (m : MemberManifest) (one : take (k + 1) ms ≡ take k ms ++ m ∷ []) (old : Manager) (start : Contents) (before : ℕ) (told : List Note) where
  -- and for one more, which is removed
  pub visited-goes : (new : Manager) (now : Contents) (after : ℕ) (private more : List Name) (notes : List Note) → is_removed w m ≡ true → is_root w m ≡ false → more ≡ private ++ m.path ∷ []
      → Visited tells w ms k old new start now before after private told notes → Visited tells w ms (k + 1) old new start now before after more told notes
  visited-goes new now after private more notes go apart grown h =
      let alone = alone-goes w m go in (
        h.0,
        h.1,
        h.2,
        λ t holds. subst (λ l. AreTurned w l now) (sym one) (turned-same w (take k ms) m now alone (h.3 t holds)),
        h.4,
        gone-more w (take k ms) m private more h.5 grown go ∙ ap (gone_manifests w) (sym one),
        subst (λ l. ¬ HasPrivateRoot w l) (sym one) (never-more w (take k ms) m (λ _. apart) h.6),
        told-same w (take k ms) m told notes h.7 alone ∙ ap (λ l. told ++ flat_map (member_notes w) l) (sym one),
      )

  -- one more that is left as it is
  pub visited-left : (new : Manager) (now : Contents) (after : ℕ) (private : List Name) (notes : List Note) → is_removed w m ≡ false → is_alone w m ≡ false
      → Visited tells w ms k old new start now before after private told notes → Visited tells w ms (k + 1) old new start now before after private told notes
  visited-left new now after private notes stay alone h = (
    h.0,
    h.1,
    h.2,
    λ t holds. subst (λ l. AreTurned w l now) (sym one) (turned-same w (take k ms) m now alone (h.3 t holds)),
    h.4,
    gone-same w (take k ms) m private h.5 stay ∙ ap (gone_manifests w) (sym one),
    subst (λ l. ¬ HasPrivateRoot w l) (sym one) (never-more w (take k ms) m (λ go. absurd (true≢false (sym go ∙ stay))) h.6),
    told-same w (take k ms) m told notes h.7 alone ∙ ap (λ l. told ++ flat_map (member_notes w) l) (sym one),
  )

  -- one more that is edited by itself
  pub visited-alone : (mid new : Manager) (held now : Contents) (between after : ℕ) (private : List Name) (notes more : List Note) → Contains ms m → is_removed w m ≡ false → is_alone w m ≡ true
      → IsStep tells (HoldsText m) (Only m.path) mid new held now → GrowsBy 0 between after → (tells → IsTurned now m) → (tells → KeepsOthers m.path held now) → more ≡ notes ++ dev_note w.verbose m.path
      → Visited tells w ms k old mid start held before between private told notes → Visited tells w ms (k + 1) old new start now before after private told more
  visited-alone mid new held now between after private notes more among stay alone step quiet turned keeps grown h = (
    visited-fails tells w ms m old mid new start held now among alone h.0 step,
    none_then 0 before between after h.1 quiet,
    others-fail tells w ms m start held now among alone h.2 keeps,
    λ t holds. subst (λ l. AreTurned w l now) (sym one)
        (turned-more w (take k ms) m held now
        (All-take (λ x. x.path ≡ m.path → x.text ≡ m.text) k ms (one-text start ms m holds (All-contains (λ x. start x.path ≡ Some x.text) ms m holds among))) (turned t) (keeps t) (h.3 t holds)),
    partly-fails tells w ms m (λ q. ⊥) start held now among h.4 (λ t. inr (inl (turned t))) keeps,
    gone-same w (take k ms) m private h.5 stay ∙ ap (gone_manifests w) (sym one),
    subst (λ l. ¬ HasPrivateRoot w l) (sym one) (never-more w (take k ms) m (λ go. absurd (true≢false (sym go ∙ stay))) h.6),
    told-more w (take k ms) m told notes more h.7 grown alone ∙ ap (λ l. told ++ flat_map (member_notes w) l) (sym one),
  )

-- the edits that are asked for, by their parts
abbrev pub wanted_of : Args → Bool → Name → Name → Name → Wanted
wanted_of args drops folder root lockfile = record { drops_dev = drops; no_private = args.no_private; verbose = args.verbose; folder = folder; root = root; lockfile = lockfile }

flat-none : (w : Wanted) (ms : List MemberManifest) → w.drops_dev ≡ false → flat_map (member_notes w) ms ≡ []
flat-none w [] d = refl
flat-none w (m ∷ ms) d = ap (λ b. cond (b && not (w.no_private && (m.is_private || is_root w m))) (dev_note w.verbose m.path) [] ++ flat_map (member_notes w) ms) d ∙ flat-none w ms d

-- where nothing is asked for, there is no notice
pub told-none : (w : Wanted) (ms : List MemberManifest) → w.drops_dev ≡ false → w.no_private ≡ false → notes w ms ≡ []
told-none w ms d n = ap (λ l. l ++ root_notes w ms) (flat-none w ms d) ∙ ap (λ b. cond b (edit_notes w (drops_at_root w ms) (gone_manifests w ms)) []) n

-- the edits that are asked for, from what is loaded
pub wanted-is : (cx : ContextRecord) (args : Args) (drops : Bool) (folder root lockfile : Name) → args ≡ cx.args → drops ≡ (args.no_dev_deps || args.remove_dev_deps)
    → folder ≡ cx.metadata.workspace_root → root ≡ join_of folder (codes "Cargo.toml") → lockfile ≡ join_of folder (codes "Cargo.lock")
    → wanted_of args drops folder root lockfile ≡ wanted_in cx
wanted-is cx args drops folder root lockfile a d f r l = λ i. record {
  drops_dev = (d ∙ ap (λ (x : Args). x.no_dev_deps || x.remove_dev_deps) a) i;
  no_private = (a i).no_private;
  verbose = (a i).verbose;
  folder = f i;
  root = (r ∙ ap (λ x. join_of x (codes "Cargo.toml")) f) i;
  lockfile = (l ∙ ap (λ x. join_of x (codes "Cargo.lock")) f) i;
}
