use Rattle.std.proofs.Common.{[], append-nil, false, length, true, ap, ◌<◌, ◌∙◌, arith, refl, rules, map, sym}
use Rattle.hack_base.specs.Streams.{stream_of}
use Rattle.hack_files.proofs.WriteBackLemmas.{says_all, says_more, says_none}
use Rattle.hack_files.specs.Restore.{kept_file}
use Rattle.hack_files.proofs.RestoreLemmas.{back_none, back_written, back_refused, back_all, brings_of, tried_none, tried_written, tried_failed, grows_more, is_at, IsAt, noted_none, noted_failed, noted_written, grows_still, below_kept, end_kept}
use Rattle.hack_files.proofs.restore.Manager.restore_all.Goals as goal
use Rattle.hack_files.proofs.restore.Manager.restore_all.Goals.{then-not-put_back, else-not-put_back}

pub loop-file-init : goal.loop-file-init
loop-file-init g c =
    (omega arith, search rules, (λ low. omega (arith, low)), (back_none (g.F.Files.refuses _ _) _ _ _ (g.F.Files.refuses_none _), says_none _ _ _ (map kept_file c.deref-file-items.result.now) _), (λ _. tried_none (map kept_file c.deref-file-items.result.now) _ _), noted_none _, search rules, (λ plain none. refl), g.F.Files.unseen_none _)

pub loop-file-preserved : goal.loop-file-preserved
loop-file-preserved g c =
    let at : IsAt (map kept_file c.deref-file-items.result.now) c.loop-file.file-index (kept_file c.file-item.result) = is_at c.deref-file-items.result.now c.loop-file.file-index c.file-item.result c.loop-file-test.true c.file-item.is in
    let lt : c.loop-file.file-index < length (map kept_file c.deref-file-items.result.now) = below_kept _ _ c.loop-file-test.true in
    let before = c.loop-file.invariant in
    elim c.if-not-put_back.branch [
      | then-not-put_back w ↦
          let told = w.if-not-put_back.ensures in (
            omega (arith, w.failures-is),
            g.F.Files.stays_more _ c.loop-file.files _ before.1 told.stays,
            rw w.failures-is (grows_more c.loop-file.failures 1 _ _ _ before.2 told.counted),
            rw w.failures-is (
              back_refused _ (g.F.Files.refuses _ _) _ _ _ _ _ _ _ _ lt at (λ ps h. g.F.Files.refuses_more _ _ _ ps _ h told.refused_path) told.others before.3.0,
              says_more _ _ _ _ _ _ _ _ false before.3.0.spoilt _ _ (stream_of g.W.Sink c.loop-file.err) _ lt at refl (ap (λ t. t.coloring) before.6) (ap (λ t. t.verbose) before.6) told.shown before.3.1,
            ),
            (λ whole. rw w.failures-is (tried_failed _ _ _ _ _ _ _ _ _ _ lt at (told.refused whole) (before.4 whole))),
            rw w.failures-is (noted_failed _ _ _ (ap (λ t. t.error) told.noted)),
            search rules,
            (λ plain none. absurd (omega (arith, w.failures-is, none))),
            g.F.Files.unseen_more _ _ _ [] [] before.8 told.unseen_none,
          )
      | else-not-put_back w ↦
          let told = w.if-not-put_back.ensures in (
            omega (arith, w.failures-is),
            g.F.Files.stays_more _ c.loop-file.files _ before.1 told.stays,
            rw w.failures-is (grows_still c.loop-file.failures _ _ _ before.2 told.counted),
            rw w.failures-is (
              back_written _ (g.F.Files.refuses _ _) _ _ _ _ _ _ _ _ lt at (λ ps h. g.F.Files.refuses_more _ _ _ ps _ h told.refused_path) told.others told.written before.3.0,
              says_more _ _ _ _ _ _ _ _ true before.3.0.spoilt _ _ (stream_of g.W.Sink c.loop-file.err) _ lt at (sym (append-nil _)) (ap (λ t. t.coloring) before.6) (ap (λ t. t.verbose) before.6) told.shown before.3.1,
            ),
            (λ whole. rw w.failures-is (tried_written _ _ _ _ _ _ _ _ _ _ lt at (told.traced whole) (before.4 whole))),
            rw w.failures-is (noted_written _ _ _ _ (ap (λ t. t.error) told.noted) before.5),
            search rules,
            (λ plain none. told.quiet (ap (λ t. t.verbose) before.6 ∙ plain) ∙ before.7 plain (sym w.failures-is ∙ none)),
            g.F.Files.unseen_more _ _ _ [] [] before.8 told.unseen_none,
          )
    ]

pub returns-clause-refused : goal.returns-clause-refused
returns-clause-refused g c = rw (← c.deref-file-items.ensures.value) (back_all _ _ _ _ _ _ _ (end_kept _ _ c.loop-file-test.false) c.loop-file.invariant.3.0)

pub returns-clause-restored : goal.returns-clause-restored
returns-clause-restored g c = brings_of _ _ _ _ _ _ (returns-clause-refused g c)

pub returns-clause-shown : goal.returns-clause-shown
returns-clause-shown g c = rw (← c.deref-file-items.ensures.value) (says_all g.F.Files _ _ _ _ _ _ _ _ _ _ (end_kept _ _ c.loop-file-test.false) c.loop-file.invariant.2 c.loop-file.invariant.3.0 c.loop-file.invariant.3.1)

pub returns-clause-quiet : goal.returns-clause-quiet
returns-clause-quiet g c = c.loop-file.invariant.7
