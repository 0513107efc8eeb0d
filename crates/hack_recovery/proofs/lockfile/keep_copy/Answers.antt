use Rattle.std.proofs.Common.{◌∙◌, [], inl, inr, refl, string_bytes, sym}
use Rattle.hack_files.specs.TraceLaws.{makes_more}
use Rattle.hack_journal.proofs.RecoverLemmas.{put_or_not}
use Rattle.hack_journal.specs.RefusingLaws.{grows_none}
use Rattle.hack_files.specs.View.{files_view}
use Rattle.hack_places.specs.PlacesView.{places_view}
use Rattle.hack_recovery.proofs.CopyLemmas.{ends_then, undone_then}
use Rattle.hack_recovery.proofs.lockfile.keep_copy.Goals as goal

pub returns-in-Ok-false-clause-ends : goal.returns-in-Ok-false-clause-ends
returns-in-Ok-false-clause-ends g c =
    ends_then g.F.Files g.L.Files (places_view c.args.places.now) _ _ _ _ _ c.in-Ok-false.ensures.counted c.args.term.now.coloring c.copy_lockfile.result _ _ c.copy_lockfile.ensures.ends

pub returns-in-Ok-false-clause-made : goal.returns-in-Ok-false-clause-made
returns-in-Ok-false-clause-made g c = λ whole.
    elim (c.copy_lockfile.ensures.made whole) [
      | inl none ↦ inl (makes_more [] [] _ _ _ _ _ _ (c.in-Ok-false.ensures.untraced whole) none)
      | inr some ↦ inr (
        some.0,
        (λ t. sym ((rw (c.as_str.ensures.value, c.as_str-2.ensures.value) at c.in-Ok-false.ensures.found) t) ∙ c.in-Ok-false.field-0-test),
        some.1,
        put_or_not (string_bytes c.args.places.now.copy) _ _ _ _ _ _ _ _ _ refl refl (c.in-Ok-false.ensures.untraced whole) some.2,
      )
    ]

pub returns-in-Ok-false-clause-undone : goal.returns-in-Ok-false-clause-undone
returns-in-Ok-false-clause-undone g c = λ undone.
    undone_then g.F.Files.tells g.F.Files.whole _ (files_view g.F.Files c.args.files.now) (files_view g.F.Files c.leaves_out.new.files) (files_view g.F.Files c.copy_lockfile.new.files)
    (record { same = c.in-Ok-false.ensures.same; untraced = c.in-Ok-false.ensures.untraced }) (c.copy_lockfile.ensures.undone undone)

pub returns-in-Err-Device-clause-ends : goal.returns-in-Err-Device-clause-ends
returns-in-Err-Device-clause-ends g c =
    let seen = rw c.in-Err-Device.field-0-is at c.in-Err-Device.ensures.seen in (
      string_bytes c.in-Err-Device.path,
      inr (
        rw c.in-Err-Device.field-0-is at c.in-Err-Device.ensures.counted,
        grows_none _,
        inr (
          rw (c.in-Err-Device.field-0-is, c.as_str.ensures.value) at c.in-Err-Device.ensures.named,
          record { before = c.args.files.now; after = c.leaves_out.new.files; unseen = seen.unseen },
        ),
      ),
      rw c.as_str-in-Err-Device.ensures.value at c.tell_failed.ensures.said,
    )
