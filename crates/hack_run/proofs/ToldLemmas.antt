-- Which warnings are noted.
use Rattle.std.proofs.Common.{◌≡◌, ℕ, List, [], ◌∷◌, ◌++◌, Bool, true, false, refl, ap, ◌∙◌, codes, append_assoc, if◌then◌else◌}
use Rattle.std.specs.Prelude.{◌||◌, ◌&&◌}
use Rattle.std.specs.List.{flat_map}
use Rattle.hack_base.specs.Notes.{Note, note_if}
use Rattle.hack_base.specs.declared.notice.NoticeKind.TheVariants.{Info}
use Rattle.hack_load.specs.Contexts.{ContextRecord}
use Rattle.hack_manifest.specs.LineRuns.{has_some}
use Rattle.hack_prepare.specs.Prepared.{MemberManifest, Wanted, drops_at_root, gone_manifests, is_alone}
use Rattle.hack_prepare.specs.PreparedView.{member_manifests_in, notes_in, wanted_in}
use Rattle.hack_prepare.specs.EditNotes.{dev_note, edit_notes, member_notes, private_note, root_notes}
use Rattle.hack_term.specs.declared.term.Term.{Term}
use Rattle.hack_drive.specs.Warnings.{Warned, after_notes, have_warning}

-- no notice on edits counts as a warning
none_if : (b : Bool) (text : List ℕ) (rest : List Note) → have_warning (note_if b Info text ++ rest) ≡ have_warning rest
none_if true text rest = refl
none_if false text rest = refl

none_of : (w : Wanted) (m : MemberManifest) (rest : List Note) → have_warning (member_notes w m ++ rest) ≡ have_warning rest
none_of w m rest = go (is_alone w m)
  where
    go : (b : Bool) → have_warning ((if b then dev_note w.verbose m.path else []) ++ rest) ≡ have_warning rest
    go true = none_if w.verbose (codes "removing dev-dependencies from " ++ m.path) rest
    go false = refl

none_of_root : (w : Wanted) (ms : List MemberManifest) → have_warning (root_notes w ms) ≡ false
none_of_root w ms = go w.no_private
  where
    go : (b : Bool) → have_warning (if b then edit_notes w (drops_at_root w ms) (gone_manifests w ms) else []) ≡ false
    go true = none_if (drops_at_root w ms && w.verbose) (codes "removing dev-dependencies from " ++ w.root) (private_note (has_some (gone_manifests w ms) && w.verbose) w.root)
        ∙ none_last (has_some (gone_manifests w ms) && w.verbose)
      where
        none_last : (b : Bool) → have_warning (private_note b w.root) ≡ false
        none_last true = refl
        none_last false = refl
    go false = refl

none_of_all : (w : Wanted) (ms : List MemberManifest) (rest : List Note) → have_warning rest ≡ false → have_warning (flat_map (member_notes w) ms ++ rest) ≡ false
none_of_all w [] rest none = none
none_of_all w (m ∷ ms) rest none =
    ap have_warning (append_assoc (member_notes w m) (flat_map (member_notes w) ms) rest) ∙ none_of w m (flat_map (member_notes w) ms ++ rest) ∙ none_of_all w ms rest none

pub edits_warn_of_nothing : (cx : ContextRecord) → have_warning (notes_in cx) ≡ false
edits_warn_of_nothing cx = none_of_all (wanted_in cx) (member_manifests_in cx) (root_notes (wanted_in cx) (member_manifests_in cx)) (none_of_root (wanted_in cx) (member_manifests_in cx))

-- after the notices on what is loaded and on its edits
pub warned_first : (a b c : Term) (first : List Note) (cx : ContextRecord) → b ≡ after_notes a first → c ≡ after_notes b (notes_in cx) → c.warn ≡ (have_warning first || a.warn)
warned_first a b c first cx e f = ap (λ (k : Term). k.warn) f ∙ ap (λ (more : Bool). more || b.warn) (edits_warn_of_nothing cx) ∙ ap (λ (k : Term). k.warn) e

-- a runner printed notices, and then its steps warned of nothing
pub warned_run : (old start mid last : Term) (notes : List Note) → start ≡ old → mid ≡ after_notes start notes → last.warn ≡ mid.warn → Warned notes old.warn last.warn
warned_run old start mid last notes e f g = g ∙ ap (λ (k : Term). k.warn) f ∙ ap (λ (k : Term). have_warning notes || k.warn) e
