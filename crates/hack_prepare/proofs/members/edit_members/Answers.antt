use Rattle.std.proofs.Common.{◌≡◌, ◌≤◌, ◌∙◌, [], ◌∷◌, get_or, false, ℕ, List, Bor, map, ap, refl, subst, sym}
use Rattle.std.proofs.lemmas.List.{get_or_default, length-map, map-append}
use Rattle.std.proofs.lemmas.Result.{err_from_is_err_and}
use Rattle.hack_prepare.proofs.FaultLemmas.{member-fault, member-spared, root-fault}
use Rattle.hack_base.proofs.Steps.{seen-next, seen_here}
use Rattle.hack_base.specs.Names.{names_behind}
use Rattle.hack_base.specs.Notes.{note_of}
use Rattle.hack_prepare.specs.PreparedView.{member_manifest_view, wanted_view}
use Rattle.hack_prepare.specs.Internal.{members_view, IsAlonePath, Nowhere, Only}
use Rattle.hack_prepare.specs.declared.wanted.Member.{Member}
use Rattle.hack_prepare.specs.FailureCounts.{WriteFails}
use Rattle.hack_prepare.proofs.CountLemmas.{fault_then, write_then}
use Rattle.hack_prepare.proofs.FailedLemmas.{calls-on, failed-on, fault-wider, no-call}
use Rattle.hack_prepare.proofs.MemberLemmas.{alone-goes, alone-path, others-fail, partly-fails, turned-fails, visited-alone, visited-fails, visited-goes, visited-left, visited-none}
use Rattle.hack_prepare.proofs.members.edit_members.Goals.{then-goes+else-is_root+in_ok-push, else-goes+then-is_alone+in_ok-edit_member, else-goes+else-is_alone}
use Rattle.hack_prepare.proofs.OrderLemmas.{next-all, next-alone, next-left}
use Rattle.hack_prepare.proofs.WriteLemmas.{alone-begun, alone-made, dev_none, left-made, so-far-begun}
use Rattle.hack_prepare.proofs.members.edit_members.Goals as goal

pub loop-member-init : goal.loop-member-init
loop-member-init g c =
    let w = wanted_view c.args.wanted.now in
    let ms = members_view c.args.members.now in
    let held = g.F.Files.bytes_at c.args.files.now in (
      (g.F.Files.stays_none c.args.files.now, dev_none g.F.Files.whole w (g.F.Files.trace c.args.files.now) held, no-call g.F.Files c.args.files.now, λ _. refl),
      visited-none g.F.Files.tells w ms c.args.manager.now held (g.F.Files.failed c.args.files.now) (names_behind c.new-gone.result.items) (map note_of c.args.notices.now.items) (ap names_behind c.new-gone.ensures.items),
    )

pub loop-member-preserved : goal.loop-member-preserved
loop-member-preserved g c =
    let xs : List Member = c.args.members.now in
    let k = c.loop-member.member-index in
    let d : Member = record { path = record { ref_ptr = (0, 0); now = [] }; text = record { ref_ptr = (0, 0); now = [] }; is_private = false } in
    let x : Member = get_or xs k d in
    let w = wanted_view c.args.wanted.now in
    let same : x ≡ get_or xs k x = get_or_default xs k d x c.loop-member-test.true in
    let one = seen-next member_manifest_view xs k x c.loop-member-test.true same in
    let tells = g.F.Files.tells in
    let ms = members_view xs in
    let m = member_manifest_view x in
    let h = c.loop-member.invariant in
    let start = g.F.Files.bytes_at c.args.files.now in
    let before = g.F.Files.failed c.args.files.now in
    let told = map note_of c.args.notices.now.items in
    let now = g.F.Files.bytes_at c.loop-member.files in
    let after = g.F.Files.failed c.loop-member.files in
    let private = names_behind c.loop-member.gone.items in
    let notes = map note_of c.loop-member.notices.items in
    let trace = g.F.Files.trace c.args.files.now in
    let so_far = g.F.Files.trace c.loop-member.files in
    elim c.if-goes.branch [
      | then-goes+else-is_root+in_ok-push b ↦
          rw (b.files-is, b.manager-is, b.notices-is, b.gone-is) (
            (h.0.0, λ y. left-made w ms k m one trace so_far so_far start now now (alone-goes w m (sym b.if-goes.ensures)) (h.0.1 y), h.0.2, next-left w ms k m one c.args.manager.now c.loop-member.manager (alone-goes w m (sym b.if-goes.ensures)) h.0.3),
            visited-goes tells w ms k m one c.args.manager.now start before told c.loop-member.manager now after private (names_behind b.push.new.self.items) notes
                (sym b.if-goes.ensures) (sym b.if-is_root.ensures)
                (ap names_behind b.in_ok-push.ensures.items ∙ map-append (λ (r : Bor (List ℕ)). r.now) c.loop-member.gone.items (x.path ∷ [])) h.1,
          )
      | else-goes+then-is_alone+in_ok-edit_member b ↦
          rw (b.files-is, b.manager-is, b.notices-is, b.gone-is) (
            (
              g.F.Files.stays_more _ _ _ h.0.0 b.edit_member.ensures.stays,
              λ y. alone-made w ms k m one trace so_far (g.F.Files.trace b.edit_member.new.files) start now (g.F.Files.bytes_at b.edit_member.new.files) (sym b.if-is_alone.ensures) (b.in_ok-edit_member.ensures.traced y) (h.0.1 y),
              calls-on g.F.Files c.args.files.now c.loop-member.files b.edit_member.new.files h.0.2 b.in_ok-edit_member.ensures.calls,
              next-alone w ms k m one c.args.manager.now c.loop-member.manager b.edit_member.new.manager (sym b.if-is_alone.ensures) h.1.0.needs b.in_ok-edit_member.ensures.order h.0.3,
            ),
            visited-alone tells w ms k m one c.args.manager.now start before told c.loop-member.manager b.edit_member.new.manager now (g.F.Files.bytes_at b.edit_member.new.files) after (g.F.Files.failed b.edit_member.new.files)
                private notes (map note_of b.edit_member.new.notices.items) (seen_here member_manifest_view xs k x c.loop-member-test.true same) (sym b.if-goes.ensures) (sym b.if-is_alone.ensures)
                b.edit_member.ensures.step b.in_ok-edit_member.ensures.counted b.in_ok-edit_member.ensures.turned b.edit_member.ensures.others b.in_ok-edit_member.ensures.told h.1,
          )
      | else-goes+else-is_alone b ↦
          rw (b.files-is, b.manager-is, b.notices-is, b.gone-is) (
            (h.0.0, λ y. left-made w ms k m one trace so_far so_far start now now (sym b.if-is_alone.ensures) (h.0.1 y), h.0.2, next-left w ms k m one c.args.manager.now c.loop-member.manager (sym b.if-is_alone.ensures) h.0.3),
            visited-left tells w ms k m one c.args.manager.now start before told c.loop-member.manager now after private notes (sym b.if-goes.ensures) (sym b.if-is_alone.ensures) h.1,
          )
    ]

pub returns-in_err-edit_member-clause-counted : goal.returns-in_err-edit_member-clause-counted
returns-in_err-edit_member-clause-counted g c =
    let p = err_from_is_err_and c.from_residual-in_err-edit_member.result c.from_residual-in_err-edit_member.ensures.1 in
    rw (p.1, p.2) (fault_then (g.F.Files.failed c.args.files.now) (g.F.Files.failed c.loop-member.files) (g.F.Files.failed c.edit_member.new.files) _ c.loop-member.invariant.1.1 c.in_err-edit_member.ensures.counted)

pub returns-in_err-edit_member-clause-calls : goal.returns-in_err-edit_member-clause-calls
returns-in_err-edit_member-clause-calls g c =
    let xs : List Member = c.args.members.now in
    let k = c.loop-member.member-index in
    let d : Member = record { path = record { ref_ptr = (0, 0); now = [] }; text = record { ref_ptr = (0, 0); now = [] }; is_private = false } in
    let x : Member = get_or xs k d in
    let w = wanted_view c.args.wanted.now in
    let among = seen_here member_manifest_view xs k x c.loop-member-test.true (get_or_default xs k d x c.loop-member-test.true) in
    let p = err_from_is_err_and c.from_residual-in_err-edit_member.result c.from_residual-in_err-edit_member.ensures.1 in
    rw (p.1, p.2) (failed-on g.F.Files Nowhere Nowhere (IsAlonePath w (members_view xs)) _ c.args.files.now c.loop-member.files c.edit_member.new.files c.loop-member.invariant.0.2
    (fault-wider g.F.Files Nowhere Nowhere Nowhere Nowhere (Only x.path.now) (IsAlonePath w (members_view xs)) _ c.loop-member.files c.edit_member.new.files (λ q h. h) (λ q h. h)
    (λ q is. alone-path w (members_view xs) (member_manifest_view x) q among (sym c.if-is_alone.ensures) is) c.in_err-edit_member.ensures.calls))

pub returns-in_err-edit_member-clause-stays : goal.returns-in_err-edit_member-clause-stays
returns-in_err-edit_member-clause-stays g c = g.F.Files.stays_more _ _ _ c.loop-member.invariant.0.0 c.edit_member.ensures.stays

pub returns-in_err-edit_member-clause-step : goal.returns-in_err-edit_member-clause-step
returns-in_err-edit_member-clause-step g c =
    let xs : List Member = c.args.members.now in
    let k = c.loop-member.member-index in
    let d : Member = record { path = record { ref_ptr = (0, 0); now = [] }; text = record { ref_ptr = (0, 0); now = [] }; is_private = false } in
    let x : Member = get_or xs k d in
    let among = seen_here member_manifest_view xs k x c.loop-member-test.true (get_or_default xs k d x c.loop-member-test.true) in
    visited-fails g.F.Files.tells (wanted_view c.args.wanted.now) (members_view xs) (member_manifest_view x) c.args.manager.now c.loop-member.manager c.edit_member.new.manager
    (g.F.Files.bytes_at c.args.files.now) (g.F.Files.bytes_at c.loop-member.files) (g.F.Files.bytes_at c.edit_member.new.files)
    among (sym c.if-is_alone.ensures) c.loop-member.invariant.1.0 c.edit_member.ensures.step

pub returns-in_err-edit_member-clause-partly : goal.returns-in_err-edit_member-clause-partly
returns-in_err-edit_member-clause-partly g c =
    let xs : List Member = c.args.members.now in
    let k = c.loop-member.member-index in
    let d : Member = record { path = record { ref_ptr = (0, 0); now = [] }; text = record { ref_ptr = (0, 0); now = [] }; is_private = false } in
    let x : Member = get_or xs k d in
    let among = seen_here member_manifest_view xs k x c.loop-member-test.true (get_or_default xs k d x c.loop-member-test.true) in
    let fails = WriteFails (g.F.Files.refuses c.args.files.now c.edit_member.new.files) (g.F.Files.failed c.args.files.now) (g.F.Files.failed c.edit_member.new.files) in
    partly-fails g.F.Files.tells (wanted_view c.args.wanted.now) (members_view xs) (member_manifest_view x) fails
    (g.F.Files.bytes_at c.args.files.now) (g.F.Files.bytes_at c.loop-member.files) (g.F.Files.bytes_at c.edit_member.new.files)
    among c.loop-member.invariant.1.4
    (λ t. turned-fails (member_manifest_view x) _ (fails (member_manifest_view x).path) (g.F.Files.bytes_at c.loop-member.files) (g.F.Files.bytes_at c.edit_member.new.files)
    (write_then (g.F.Files.refuses c.args.files.now c.loop-member.files) (g.F.Files.refuses c.loop-member.files c.edit_member.new.files) (g.F.Files.refuses c.args.files.now c.edit_member.new.files) (g.F.Files.failed c.args.files.now) (g.F.Files.failed c.loop-member.files) (g.F.Files.failed c.edit_member.new.files) (member_manifest_view x).path
    (λ ps qs one other. g.F.Files.refuses_more _ _ _ ps qs one other) c.loop-member.invariant.1.1 c.loop-member.invariant.0.2.refused) (c.edit_member.ensures.partly t))
    c.edit_member.ensures.others

pub returns-in_err-edit_member-clause-others : goal.returns-in_err-edit_member-clause-others
returns-in_err-edit_member-clause-others g c =
    let xs : List Member = c.args.members.now in
    let k = c.loop-member.member-index in
    let d : Member = record { path = record { ref_ptr = (0, 0); now = [] }; text = record { ref_ptr = (0, 0); now = [] }; is_private = false } in
    let x : Member = get_or xs k d in
    let among = seen_here member_manifest_view xs k x c.loop-member-test.true (get_or_default xs k d x c.loop-member-test.true) in
    others-fail g.F.Files.tells (wanted_view c.args.wanted.now) (members_view xs) (member_manifest_view x)
    (g.F.Files.bytes_at c.args.files.now) (g.F.Files.bytes_at c.loop-member.files) (g.F.Files.bytes_at c.edit_member.new.files)
    among (sym c.if-is_alone.ensures) c.loop-member.invariant.1.2 c.edit_member.ensures.others

pub returns-in_err-edit_member-clause-err : goal.returns-in_err-edit_member-clause-err
returns-in_err-edit_member-clause-err g c =
    let xs : List Member = c.args.members.now in
    let k = c.loop-member.member-index in
    let d : Member = record { path = record { ref_ptr = (0, 0); now = [] }; text = record { ref_ptr = (0, 0); now = [] }; is_private = false } in
    let x : Member = get_or xs k d in
    let p = err_from_is_err_and c.from_residual-in_err-edit_member.result c.from_residual-in_err-edit_member.ensures.1 in
    let among = seen_here member_manifest_view xs k x c.loop-member-test.true (get_or_default xs k d x c.loop-member-test.true) in
    rw (p.1, p.2) (member-fault (wanted_view c.args.wanted.now) (members_view xs) (member_manifest_view x) _ among (sym c.if-is_alone.ensures) c.in_err-edit_member.ensures.err)

pub returns-then-is_root-clause-err : goal.returns-then-is_root-clause-err
returns-then-is_root-clause-err g c =
    let xs : List Member = c.args.members.now in
    let k = c.loop-member.member-index in
    let d : Member = record { path = record { ref_ptr = (0, 0); now = [] }; text = record { ref_ptr = (0, 0); now = [] }; is_private = false } in
    let x : Member = get_or xs k d in
    let among = seen_here member_manifest_view xs k x c.loop-member-test.true (get_or_default xs k d x c.loop-member-test.true) in
    root-fault (wanted_view c.args.wanted.now) (members_view xs) (member_manifest_view x) among (sym c.if-goes.ensures) (sym c.if-is_root.ensures)

pub returns-in_err-edit_member-clause-refused : goal.returns-in_err-edit_member-clause-refused
returns-in_err-edit_member-clause-refused g c =
    let xs : List Member = c.args.members.now in
    let k = c.loop-member.member-index in
    let d : Member = record { path = record { ref_ptr = (0, 0); now = [] }; text = record { ref_ptr = (0, 0); now = [] }; is_private = false } in
    let x : Member = get_or xs k d in
    let one = seen-next member_manifest_view xs k x c.loop-member-test.true (get_or_default xs k d x c.loop-member-test.true) in
    let p = err_from_is_err_and c.from_residual-in_err-edit_member.result c.from_residual-in_err-edit_member.ensures.1 in
    rw p.1 (λ y. alone-begun (wanted_view c.args.wanted.now) (members_view xs) k (member_manifest_view x) one (g.F.Files.trace c.args.files.now) (g.F.Files.trace c.loop-member.files) (g.F.Files.trace c.edit_member.new.files)
    (g.F.Files.bytes_at c.args.files.now) (g.F.Files.bytes_at c.loop-member.files) (g.F.Files.bytes_at c.edit_member.new.files)
    (sym c.if-is_alone.ensures) (c.in_err-edit_member.ensures.refused y) (c.loop-member.invariant.0.1 y))

pub returns-then-is_root-clause-refused : goal.returns-then-is_root-clause-refused
returns-then-is_root-clause-refused g c = λ y.
    so-far-begun (wanted_view c.args.wanted.now) (members_view c.args.members.now) c.loop-member.member-index (g.F.Files.trace c.args.files.now) (g.F.Files.trace c.loop-member.files)
    (g.F.Files.bytes_at c.args.files.now) (g.F.Files.bytes_at c.loop-member.files) (c.loop-member.invariant.0.1 y)

pub returns-in_err-push-clause-refused : goal.returns-in_err-push-clause-refused
returns-in_err-push-clause-refused g c =
    let p = err_from_is_err_and c.from_residual.result c.from_residual.ensures.1 in
    rw p.1 (λ y. so-far-begun (wanted_view c.args.wanted.now) (members_view c.args.members.now) c.loop-member.member-index (g.F.Files.trace c.args.files.now) (g.F.Files.trace c.loop-member.files)
    (g.F.Files.bytes_at c.args.files.now) (g.F.Files.bytes_at c.loop-member.files) (c.loop-member.invariant.0.1 y))

pub returns-in_err-edit_member-clause-spared : goal.returns-in_err-edit_member-clause-spared
returns-in_err-edit_member-clause-spared g c =
    let xs : List Member = c.args.members.now in
    let k = c.loop-member.member-index in
    let d : Member = record { path = record { ref_ptr = (0, 0); now = [] }; text = record { ref_ptr = (0, 0); now = [] }; is_private = false } in
    let x : Member = get_or xs k d in
    let p = err_from_is_err_and c.from_residual-in_err-edit_member.result c.from_residual-in_err-edit_member.ensures.1 in
    let among = seen_here member_manifest_view xs k x c.loop-member-test.true (get_or_default xs k d x c.loop-member-test.true) in
    rw (p.1, p.2) (member-spared g.F.Files.tells (wanted_view c.args.wanted.now) (members_view xs) (member_manifest_view x)
    (g.F.Files.bytes_at c.args.files.now) (g.F.Files.bytes_at c.loop-member.files) (g.F.Files.bytes_at c.edit_member.new.files) _ among c.loop-member.invariant.1.4 c.edit_member.ensures.others c.in_err-edit_member.ensures.err)

pub returns-clause-order : goal.returns-clause-order
returns-clause-order g c =
    next-all (wanted_view c.args.wanted.now) (members_view c.args.members.now) c.loop-member.member-index c.args.manager.now c.loop-member.manager
    (subst (λ n. n ≤ c.loop-member.member-index) (sym (length-map c.args.members.now member_manifest_view)) c.loop-member-test.false) c.loop-member.invariant.0.3
