-- The manifest in the folder of the workspace, and all edits together.
use Rattle.std.proofs.Common.{◌≡◌, inl, inr, ℕ, suc, List, [], ◌∷◌, Bool, true, false, cond, Option, Some, None, Result, Ok, Err, OnOk, refl, sym, ◌∙◌, ap, subst, arith, get_or, length, ◌==◌, Bor}
use Rattle.std.specs.Prelude.{◌&&◌, ◌||◌, not, MatchOption, option_map}
use Rattle.std.specs.List.{find, list_any}
use Rattle.std.specs.Str.{bytes_eq}
use Rattle.std.proofs.lemmas.Bool.{cases_Bool, true≢false}
use Rattle.std.proofs.lemmas.Bool.Decides.{eqb_tells}
use Rattle.std.proofs.lemmas.Slice.Eq.{bytes_eq-Decides}
use Rattle.hack_base.specs.Names.{Name, names_behind}
use Rattle.hack_files.specs.Files.{Contents, KeepsAll, KeepsOthers}
use Rattle.hack_edits.specs.DevDeps.{IsWithoutDev}
use Rattle.hack_prepare.specs.Internal.{Only, ArePartlyTurned, AreTurned, IsTurnedOrNot, KeepsApart, KeepsBut, MakesRoot, MakesRootOrNot}
use Rattle.hack_prepare.specs.Prepared.{HoldTexts, IsPartlyPrepared, IsPrepared, IsRootEdit, KeepsUnedited, MemberManifest, TurnsOrStays, Wanted, drops_at_root, edits_root, gone_manifests, is_alone, is_alone_at, is_root}
use Rattle.hack_manifest.specs.LineRuns.{has_some}
use Rattle.hack_prepare.specs.EditSteps.{IsRootText}
use Rattle.hack_prepare.specs.EditNotes.{edit_notes, root_notes}
use Rattle.hack_prepare.proofs.MemberLemmas.{or_left, or_right}

-- what a write of the root's manifest keeps
pub keeps-but : (w : Wanted) (b : Bool) (old new : Contents) → b ≡ true → KeepsOthers w.root old new → KeepsBut w b old new
keeps-but w b old new e keeps q free = keeps q (λ is. true≢false (sym (ap (λ x. x && bytes_eq q w.root) e ∙ (bytes_eq-Decides q w.root).1 is) ∙ free))

abbrev pub text_in : MemberManifest → Name
text_in m = m.text

-- a list of paths that isn't empty has some
pub some-left : (l : List (Bor (List ℕ))) → false ≡ (length l == 0) → has_some (names_behind l) ≡ true
some-left [] h = absurd (true≢false (sym h))
some-left (x ∷ xs) h = refl

pub none-left : (l : List (Bor (List ℕ))) → true ≡ (length l == 0) → has_some (names_behind l) ≡ false
none-left [] h = refl
none-left (x ∷ xs) h = elim (eqb_tells (length (x ∷ xs)) 0) [ inl e ↦ absurd (let empty : length (x ∷ xs) ≡ 0 = e.1 in omega arith) | inr w ↦ absurd (true≢false (h ∙ w.0)) ]

-- ---- the member there

found-by : (text : Name) (m : MemberManifest) (o : Option MemberManifest) (b rest : Bool) → Some text ≡ option_map text_in (cond b (Some m) o) → (Some text ≡ option_map text_in o → rest ≡ true) → (b || rest) ≡ true
found-by text m o true rest h k = refl
found-by text m o false rest h k = k h

-- where one is found there is one
pub root-found : (w : Wanted) (ms : List MemberManifest) (text : Name) → Some text ≡ option_map text_in (find (is_root w) ms) → list_any (is_root w) ms ≡ true
root-found w [] text h = absurd (cc)
root-found w (m ∷ ms) text h = found-by text m (find (is_root w) ms) (is_root w m) (list_any (is_root w) ms) h (root-found w ms text)

missed-by : (m : MemberManifest) (o : Option MemberManifest) (b rest : Bool) → None ≡ option_map text_in (cond b (Some m) o) → (None ≡ option_map text_in o → rest ≡ false) → (b || rest) ≡ false
missed-by m o true rest h k = absurd (cc)
missed-by m o false rest h k = k h

-- where none is found there is none
pub root-missed : (w : Wanted) (ms : List MemberManifest) → None ≡ option_map text_in (find (is_root w) ms) → list_any (is_root w) ms ≡ false
root-missed w [] h = refl
root-missed w (m ∷ ms) h = missed-by m (find (is_root w) ms) (is_root w m) (list_any (is_root w) ms) h (root-missed w ms)

-- what the one that is found has read is what the root's manifest holds
pub root-held : (w : Wanted) (ms : List MemberManifest) (text : Name) (held : Contents) → HoldTexts held ms → Some text ≡ option_map text_in (find (is_root w) ms) → held w.root ≡ Some text
root-held w [] text held holds h = absurd (cc)
root-held w (m ∷ ms) text held holds h = elim (cases_Bool (is_root w m)) [
  | inl e ↦
      let path : m.path ≡ w.root = (bytes_eq-Decides m.path w.root).0 e in
      ap held (sym path) ∙ holds 0 m (omega arith) ∙ sym (h ∙ ap (λ b. option_map text_in (cond b (Some m) (find (is_root w) ms))) e)
  | inr e ↦ root-held w ms text held (λ k d lt. holds (suc k) d (omega (arith, lt))) (h ∙ ap (λ b. option_map text_in (cond b (Some m) (find (is_root w) ms))) e)
]

pub text-found : (w : Wanted) (ms : List MemberManifest) (text : Name) (held : Contents) → Some text ≡ option_map text_in (find (is_root w) ms) → IsRootText w ms held text
text-found w ms text held h = by (find (is_root w) ms) h
  where
    by : (o : Option MemberManifest) → Some text ≡ option_map text_in o → MatchOption o (held w.root ≡ Some text) (λ m. text ≡ m.text)
    by None e = absurd (cc)
    by (Some m) e = cc

pub text-missed : (w : Wanted) (ms : List MemberManifest) (text : Name) (held : Contents) → None ≡ option_map text_in (find (is_root w) ms) → held w.root ≡ Some text → IsRootText w ms held text
text-missed w ms text held h is = by (find (is_root w) ms) h
  where
    by : (o : Option MemberManifest) → None ≡ option_map text_in o → MatchOption o (held w.root ≡ Some text) (λ m. text ≡ m.text)
    by None e = is
    by (Some m) e = absurd (cc)

-- ---- what is asked for at the root

drops-by : (d r : Bool) → r ≡ true → (d && r) ≡ d
drops-by true r e = e
drops-by false r e = refl

keeps-by : (d r : Bool) → r ≡ false → (d && r) ≡ false
keeps-by true r e = e
keeps-by false r e = refl

-- where a member is there, its development dependencies are removed too
pub drops-found : (w : Wanted) (ms : List MemberManifest) → list_any (is_root w) ms ≡ true → drops_at_root w ms ≡ w.drops_dev
drops-found w ms e = drops-by w.drops_dev (list_any (is_root w) ms) e

pub drops-missed : (w : Wanted) (ms : List MemberManifest) → list_any (is_root w) ms ≡ false → drops_at_root w ms ≡ false
drops-missed w ms e = keeps-by w.drops_dev (list_any (is_root w) ms) e

-- whether it is edited
pub edits-is : (w : Wanted) (ms : List MemberManifest) (drops : Bool) (private : List Name) → w.no_private ≡ true → drops_at_root w ms ≡ drops → private ≡ gone_manifests w ms
    → edits_root w ms ≡ (drops || has_some private)
edits-is w ms drops private wanted is same = ap (λ b. b && (drops_at_root w ms || has_some (gone_manifests w ms))) wanted ∙ ap (λ b. b || has_some (gone_manifests w ms)) is ∙ ap (λ l. drops || has_some l) (sym same)

-- the notices on it
pub notes-are : (w : Wanted) (ms : List MemberManifest) (drops : Bool) (private : List Name) → w.no_private ≡ true → drops_at_root w ms ≡ drops → private ≡ gone_manifests w ms
    → edit_notes w drops private ≡ root_notes w ms
notes-are w ms drops private wanted is same =
    sym (ap (λ b. cond b (edit_notes w (drops_at_root w ms) (gone_manifests w ms)) []) wanted ∙ ap (λ b. edit_notes w b (gone_manifests w ms)) is ∙ ap (λ l. edit_notes w drops l) (sym same))

on_ok : {T E : Type 0} (P Q : Type 0) (r : Result T E) → (P → Q) → OnOk r P → OnOk r Q
on_ok P Q (Ok v) f p = f p
on_ok P Q (Err e) f p = tt

-- a member's text at the root is edited
pub edited-found : {T E : Type 0} (tells : Type 0) (r : Result T E) (w : Wanted) (ms : List MemberManifest) (private : List Name) (text : Name) (old new : Contents)
    → Some text ≡ option_map text_in (find (is_root w) ms) → OnOk r (tells → MakesRoot w w.drops_dev private text new)
    → OnOk r (tells → edits_root w ms ≡ true → (x : Name) × IsRootText w ms old x × MakesRoot w (drops_at_root w ms) private x new)
edited-found tells r w ms private text old new found made =
    on_ok (tells → MakesRoot w w.drops_dev private text new) _ r
    (λ f t asked. (text, text-found w ms text old found, subst (λ b. MakesRoot w b private text new) (sym (drops-found w ms (root-found w ms text found))) (f t))) made

-- a text that no member has read is edited
pub edited-missed : {T E : Type 0} (tells : Type 0) (r : Result T E) (w : Wanted) (ms : List MemberManifest) (private : List Name) (old new : Contents)
    → None ≡ option_map text_in (find (is_root w) ms) → w.no_private ≡ true → private ≡ gone_manifests w ms
    → OnOk r (tells → has_some private ≡ true → (x : Name) × (old w.root ≡ Some x) × MakesRoot w false private x new)
    → OnOk r (tells → edits_root w ms ≡ true → (x : Name) × IsRootText w ms old x × MakesRoot w (drops_at_root w ms) private x new)
edited-missed tells r w ms private old new missed wanted same made =
    let drops = drops-missed w ms (root-missed w ms missed) in
    on_ok (tells → has_some private ≡ true → (x : Name) × (old w.root ≡ Some x) × MakesRoot w false private x new) _ r
    (λ f t asked.
    let h = f t (sym (edits-is w ms false private wanted drops same) ∙ asked) in
    (h.0, text-missed w ms h.0 old missed h.1, subst (λ b. MakesRoot w b private h.0 new) (sym drops) h.2)) made

-- what was read is edited
pub edited-read : {T E : Type 0} (tells : Type 0) (r : Result T E) (w : Wanted) (private : List Name) (text held : Name) (old new : Contents)
    → held ≡ text → (tells → old w.root ≡ Some text) → OnOk r (tells → MakesRoot w false private held new)
    → OnOk r (tells → has_some private ≡ true → (x : Name) × (old w.root ≡ Some x) × MakesRoot w false private x new)
edited-read tells r w private text held old new same read made =
    on_ok (tells → MakesRoot w false private held new) _ r (λ f t some. (text, read t, subst (λ x. MakesRoot w false private x new) same (f t))) made

-- ---- all together

apart-by : (d n p r x : Bool) → (d && not (n && (p || r))) ≡ true → ((n && x) && r) ≡ false
apart-by d false p r x h = refl
apart-by d true p false false h = refl
apart-by d true p false true h = refl
apart-by false true p true x h = absurd (true≢false (sym h))
apart-by true true true true x h = absurd (true≢false (sym h))
apart-by true true false true x h = absurd (true≢false (sym h))

-- a member that is edited by itself isn't at the root
alone-apart : (w : Wanted) (ms : List MemberManifest) (m : MemberManifest) → is_alone w m ≡ true → (edits_root w ms && bytes_eq m.path w.root) ≡ false
alone-apart w ms m e = apart-by w.drops_dev w.no_private m.is_private (is_root w m) (drops_at_root w ms || has_some (gone_manifests w ms)) e

free-by : (a b rest : Bool) → b ≡ false → rest ≡ false → ((a && b) || rest) ≡ false
free-by true b rest e f = ap (λ x. x || rest) e ∙ f
free-by false b rest e f = f

-- where no member is there, none is edited there by itself
pub alone-free : (w : Wanted) (ms : List MemberManifest) → list_any (is_root w) ms ≡ false → list_any (is_alone_at w w.root) ms ≡ false
alone-free w [] e = refl
alone-free w (m ∷ ms) e = free-by (is_alone w m) (is_root w m) (list_any (is_alone_at w w.root) ms) (or_left (is_root w m) (list_any (is_root w) ms) e) (alone-free w ms (or_right (is_root w m) (list_any (is_root w) ms) e))

and_second : (a b : Bool) → (a && b) ≡ true → b ≡ true
and_second true b e = e
and_second false b e = absurd (true≢false (sym e))

alone-by : (d n p r : Bool) → n ≡ true → ((d && not (n && (p || r))) && r) ≡ false
alone-by false n p r h = refl
alone-by true true true r h = refl
alone-by true true false true h = refl
alone-by true true false false h = refl
alone-by true false p r h = absurd (true≢false (sym h))

none-alone : (w : Wanted) (ms : List MemberManifest) → w.no_private ≡ true → list_any (is_alone_at w w.root) ms ≡ false
none-alone w [] e = refl
none-alone w (m ∷ ms) e = ap (λ b. b || list_any (is_alone_at w w.root) ms) (alone-by w.drops_dev w.no_private m.is_private (is_root w m) e) ∙ none-alone w ms e

and_first : (a b : Bool) → (a && b) ≡ true → a ≡ true
and_first true b e = refl
and_first false b e = e

-- where the root's manifest is edited at the end, no member's is edited there by itself
pub root-apart : (w : Wanted) (ms : List MemberManifest) → edits_root w ms ≡ true → list_any (is_alone_at w w.root) ms ≡ false
root-apart w ms e = none-alone w ms (and_first w.no_private (drops_at_root w ms || has_some (gone_manifests w ms)) e)

-- what the root's manifest held
root-old : (w : Wanted) (ms : List MemberManifest) (old mid : Contents) (text : Name) → HoldTexts old ms → KeepsApart w ms old mid → IsRootText w ms mid text → old w.root ≡ Some text
root-old w ms old mid text holds apart h = by (find (is_root w) ms) refl h
  where
    by : (o : Option MemberManifest) → o ≡ find (is_root w) ms → MatchOption o (mid w.root ≡ Some text) (λ m. text ≡ m.text) → old w.root ≡ Some text
    by None e k = sym (apart w.root (alone-free w ms (root-missed w ms (ap (option_map text_in) e)))) ∙ k
    by (Some m) e k = root-held w ms text old holds (ap Some k ∙ ap (option_map text_in) e)

-- and that it is the text that is read
pub root-read : (w : Wanted) (ms : List MemberManifest) (old mid : Contents) (text : Name) → KeepsApart w ms old mid → IsRootText w ms mid text → IsRootText w ms old text
root-read w ms old mid text apart h = by (find (is_root w) ms) refl h
  where
    by : (o : Option MemberManifest) → o ≡ find (is_root w) ms → MatchOption o (mid w.root ≡ Some text) (λ m. text ≡ m.text) → MatchOption o (old w.root ≡ Some text) (λ m. text ≡ m.text)
    by None e k = sym (apart w.root (alone-free w ms (root-missed w ms (ap (option_map text_in) e)))) ∙ k
    by (Some m) e k = k

-- what isn't edited stays
pub unedited : (w : Wanted) (ms : List MemberManifest) (old mid late : Contents) → KeepsApart w ms old mid → KeepsBut w (edits_root w ms) mid late → KeepsUnedited w ms old late
unedited w ms old mid late apart keeps q free =
    keeps q (or_right (list_any (is_alone_at w q) ms) (edits_root w ms && bytes_eq q w.root) free)
    ∙ apart q (or_left (list_any (is_alone_at w q) ms) (edits_root w ms && bytes_eq q w.root) free)

-- also where only members' manifests were written
pub unedited-apart : (w : Wanted) (ms : List MemberManifest) (old mid : Contents) → KeepsApart w ms old mid → KeepsUnedited w ms old mid
unedited-apart w ms old mid apart q free = apart q (or_left (list_any (is_alone_at w q) ms) (edits_root w ms && bytes_eq q w.root) free)

pub prepared : (w : Wanted) (ms : List MemberManifest) (private : List Name) (old mid late new : Contents) → private ≡ gone_manifests w ms → HoldTexts old ms → AreTurned w ms mid → KeepsApart w ms old mid
    → (edits_root w ms ≡ true → (x : Name) × IsRootText w ms mid x × MakesRoot w (drops_at_root w ms) private x late)
    → KeepsBut w (edits_root w ms) mid late → KeepsAll late new → IsPrepared w ms old new
prepared w ms private old mid late new are holds turned apart made keeps same = record {
  alone = λ k d lt is.
      let t = turned k d lt is in
      let m : MemberManifest = get_or ms k d in (m.text, t.0, holds k d lt, same m.path ∙ keeps m.path (alone-apart w ms m is) ∙ t.1, t.2);
  root = λ asked.
      let h = made asked in
      let m = h.2 (ap (λ l. drops_at_root w ms || has_some l) are ∙ and_second w.no_private (drops_at_root w ms || has_some (gone_manifests w ms)) asked) in
      (h.0, m.0, root-old w ms old mid h.0 holds apart h.1, same w.root ∙ m.1, subst (λ l. IsRootEdit w.folder (drops_at_root w ms) l h.0 m.0) are m.2);
  others = λ q free. same q ∙ unedited w ms old mid late apart keeps q free;
}

-- ---- what holds where not all is done

-- all is done
pub partly-all : (w : Wanted) (ms : List MemberManifest) (failed : Name → Type 0) (old new : Contents) → IsPrepared w ms old new → IsPartlyPrepared w ms failed old new
partly-all w ms failed old new h = record { alone = λ k d lt is. inr (inl (h.alone k d lt is)); root = λ asked. inr (inl (h.root asked)) }

turns-by : (m : MemberManifest) (failed : Type 0) (old new : Contents) → old m.path ≡ Some m.text → IsTurnedOrNot failed old new m → TurnsOrStays failed IsWithoutDev m.path old new
turns-by m failed old new holds (inl h) = inl h
turns-by m failed old new holds (inr (inl t)) = inr (inl (m.text, t.0, holds, t.1, t.2))
turns-by m failed old new holds (inr (inr f)) = inr (inr f)

-- the root's manifest isn't written yet
pub partly-members : (w : Wanted) (ms : List MemberManifest) (failed : Name → Type 0) (old new : Contents) → HoldTexts old ms → KeepsApart w ms old new → ArePartlyTurned w ms failed old new → IsPartlyPrepared w ms failed old new
partly-members w ms failed old new holds apart h = record {
  alone = λ k d lt is. turns-by (get_or ms k d) (failed (get_or ms k d).path) old new (holds k d lt) (h k d lt is);
  root = λ asked. inl (apart w.root (root-apart w ms asked));
}

-- where it held the same before, from a text that is read so
pub root-or-not : (w : Wanted) (drops : Bool) (private : List Name) (R S : Name → Type 0) (F G : Type 0) (old mid new : Contents) → mid w.root ≡ old w.root → ((t : Name) → R t → S t) → (F → G)
    → MakesRootOrNot w drops private R F mid new → MakesRootOrNot w drops private S G old new
root-or-not w drops private R S F G old mid new same reads fails (inl h) = inl (h ∙ same)
root-or-not w drops private R S F G old mid new same reads fails (inr (inl x)) = inr (inl (x.0, reads x.0 x.1, x.2))
root-or-not w drops private R S F G old mid new same reads fails (inr (inr f)) = inr (inr (fails f))

root-by : (w : Wanted) (ms : List MemberManifest) (private : List Name) (failed fails : Type 0) (old mid late : Contents) → private ≡ gone_manifests w ms → HoldTexts old ms → KeepsApart w ms old mid → edits_root w ms ≡ true
    → (failed → fails) → MakesRootOrNot w (drops_at_root w ms) private (IsRootText w ms mid) failed mid late → TurnsOrStays fails (IsRootEdit w.folder (drops_at_root w ms) (gone_manifests w ms)) w.root old late
root-by w ms private failed fails old mid late are holds apart asked more (inl h) = inl (h ∙ apart w.root (root-apart w ms asked))
root-by w ms private failed fails old mid late are holds apart asked more (inr (inl x)) =
    inr (inl (x.0, x.2.0, root-old w ms old mid x.0 holds apart x.1, x.2.1, subst (λ l. IsRootEdit w.folder (drops_at_root w ms) l x.0 x.2.0) are x.2.2))
root-by w ms private failed fails old mid late are holds apart asked more (inr (inr f)) = inr (inr (more f))

-- the members' manifests are written, and the root's may be
pub partly-root : (w : Wanted) (ms : List MemberManifest) (private : List Name) (failed : Type 0) (fails : Name → Type 0) (old mid late : Contents) → private ≡ gone_manifests w ms → HoldTexts old ms → AreTurned w ms mid → KeepsApart w ms old mid
    → KeepsBut w (edits_root w ms) mid late → (failed → fails w.root) → MakesRootOrNot w (drops_at_root w ms) private (IsRootText w ms mid) failed mid late → IsPartlyPrepared w ms fails old late
partly-root w ms private failed fails old mid late are holds turned apart keeps more made = record {
  alone = λ k d lt is.
      let t = turned k d lt is in
      let m : MemberManifest = get_or ms k d in inr (inl (m.text, t.0, holds k d lt, keeps m.path (alone-apart w ms m is) ∙ t.1, t.2));
  root = λ asked. root-by w ms private failed (fails w.root) old mid late are holds apart asked more made;
}

-- a member's text at the root is edited or not
pub partly-found : (tells failed : Type 0) (w : Wanted) (ms : List MemberManifest) (private : List Name) (text : Name) (old new : Contents) → Some text ≡ option_map text_in (find (is_root w) ms)
    → (tells → MakesRootOrNot w w.drops_dev private (Only text) failed old new) → tells → MakesRootOrNot w (drops_at_root w ms) private (IsRootText w ms old) failed old new
partly-found tells failed w ms private text old new found h t =
    subst (λ b. MakesRootOrNot w b private (IsRootText w ms old) failed old new) (sym (drops-found w ms (root-found w ms text found)))
    (root-or-not w w.drops_dev private (Only text) (IsRootText w ms old) failed failed old old new refl (λ x is. subst (λ s. IsRootText w ms old s) (sym is) (text-found w ms text old found)) (λ f. f) (h t))

-- and one that no member has read
pub partly-missed : (tells failed : Type 0) (w : Wanted) (ms : List MemberManifest) (private : List Name) (old new : Contents) → None ≡ option_map text_in (find (is_root w) ms)
    → (tells → MakesRootOrNot w false private (λ x. old w.root ≡ Some x) failed old new) → tells → MakesRootOrNot w (drops_at_root w ms) private (IsRootText w ms old) failed old new
partly-missed tells failed w ms private old new missed h t =
    subst (λ b. MakesRootOrNot w b private (IsRootText w ms old) failed old new) (sym (drops-missed w ms (root-missed w ms missed)))
    (root-or-not w false private (λ x. old w.root ≡ Some x) (IsRootText w ms old) failed failed old old new refl (λ x is. text-missed w ms x old missed is) (λ f. f) (h t))

-- what was read is edited or not
pub partly-read : (tells failed fails : Type 0) (w : Wanted) (private : List Name) (text held : Name) (old mid new : Contents) → held ≡ text → (tells → old w.root ≡ Some text) → (tells → KeepsAll old mid)
    → (failed → fails) → (tells → MakesRootOrNot w false private (Only held) failed mid new)
    → tells → MakesRootOrNot w false private (λ x. old w.root ≡ Some x) fails old new
partly-read tells failed fails w private text held old mid new is read same more h t =
    root-or-not w false private (Only held) (λ x. old w.root ≡ Some x) failed fails old mid new (same t w.root) (λ x here. read t ∙ ap Some (sym (here ∙ is))) more (h t)

-- what is held is the same before and after
pub prepared-moved : (w : Wanted) (ms : List MemberManifest) (first old new last : Contents) → KeepsAll first old → KeepsAll new last → IsPrepared w ms old new → IsPrepared w ms first last
prepared-moved w ms first old new last same stay h = record {
  alone = λ k d lt is. let t = h.alone k d lt is in let m : MemberManifest = get_or ms k d in (t.0, t.1, sym (same m.path) ∙ t.2, stay m.path ∙ t.3, t.4);
  root = λ asked. let t = h.root asked in (t.0, t.1, sym (same w.root) ∙ t.2, stay w.root ∙ t.3, t.4);
  others = λ q free. stay q ∙ h.others q free ∙ same q;
}
