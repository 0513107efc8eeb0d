use Rattle.std.proofs.Common.{◌≡◌, ◌∙◌, ◌<◌, ◌≤◌, ◌+◌, ◌++◌, ◌∷◌, [], ℕ, zero, List, Bool, length, filter, map, true, false, ap, sym, subst, arith, drop, append_assoc, string_bytes, All}
use Rattle.hack_base.specs.Writes.{AppendsFront, NoFewer}
use Rattle.hack_base.proofs.WriteLemmas.{stayed}
use Rattle.hack_base.specs.WriteLaws.{NoFewer-trans}
use Rattle.hack_base.specs.Names.{Name}
use Rattle.hack_features.specs.Feature.{name_of}
use Rattle.hack_sets.specs.Sets.{IsSelection, items_at}
use Rattle.hack_features.specs.View.{may_of, size_of, whole_of}
use Rattle.hack_powerset_list.specs.LineWords.{PrintsText, others_text}
use Rattle.hack_powerset_list.specs.Room.{set_in, most_in}
use Rattle.hack_sets.specs.Walk.{below}
use Rattle.hack_powerset_list.specs.Walks.{is_other, set_lines}
use Rattle.hack_powerset_list.proofs.PageLemmas.{prints-none, prints-then, prints-front, prints-stopped, on_err-any}
use Rattle.hack_powerset_list.proofs.StreamLemmas.{stops-refused}
use Rattle.hack_powerset_list.proofs.WalkLemmas.{selection-front, selection-short, above-front, above-cons}
use Rattle.hack_powerset_list.proofs.ListedLemmas.{other-same, below-full, lines_below, line_at, lines_under, text-step, text-skip, text-all}
use Rattle.hack_powerset_list.proofs.walk.+print_below.Goals as goal
use Rattle.hack_powerset_list.proofs.walk.+print_below.Goals.{then-p-gt0+then-not-is_full+in_ok-longer+in_ok-print_below, else-p-gt0, else-p-gt0-via-then-p-gt0+else-not-is_full, else-p-gt0-via-else-p-gt0}

pub may_begin-requires : goal.may_begin-requires
may_begin-requires g t c =
    let asked = c.requires in
    let r = c.args.rules.now in
    let n : ℕ = size_of r in
    let s : List ℕ = set_in c.args.room.now in
    let p : ℕ = c.loop-p.p in
    let lt : p < c.args.end.limit = c.loop-p-test.true in
    let selection : IsSelection n (p ∷ s) =
    selection-front n p s (omega (arith, lt, asked.limit)) (above-front c.args.end.limit p s lt asked.above) asked.set in
    subst (λ m. IsSelection m (p ∷ c.set.result.now)) (sym c.loop-p.invariant.same_size) (subst (λ l. IsSelection n (p ∷ l)) (sym (c.set.ensures ∙ c.loop-p.invariant.kept)) selection)

pub loop-p-preserved-then-not-may_begin : goal.loop-p-preserved-then-not-may_begin
loop-p-preserved-then-not-may_begin g t c =
    let r = c.args.rules.now in
    let may : List ℕ → Bool = may_of r in
    let test : List ℕ → Bool = is_other r c.args.lines.now.last.now in
    let names : List Name = map name_of c.args.lines.now.features.now in
    let s : List ℕ = set_in c.args.room.now in
    let p : ℕ = c.loop-p.p in
    let refused : may (p ∷ s) ≡ false =
    ap (λ l. may (p ∷ l)) (sym (c.set.ensures ∙ c.loop-p.invariant.kept)) ∙ sym (c.may_begin.ensures.answer ∙ ap (λ f. f (p ∷ c.set.result.now)) c.loop-p.invariant.same_may) ∙ c.if-not-may_begin.true in
    record {
      printed = subst (PrintsText (g.W.Sink.contents c.args.out.now) (g.W.Sink.contents c.loop-p.out) (string_bytes c.args.page.now) (string_bytes c.loop-p.page))
          (sym (text-skip names test may s p refused)) c.loop-p.invariant.printed;
      count = c.loop-p.invariant.count;
      kept = c.loop-p.invariant.kept;
      room = c.loop-p.invariant.room;
      same_size = c.may_begin.ensures.same_size ∙ c.loop-p.invariant.same_size;
      same_may = c.may_begin.ensures.same_may ∙ c.loop-p.invariant.same_may;
      same_whole = c.may_begin.ensures.same_whole ∙ c.loop-p.invariant.same_whole;
    }

pub put-requires : goal.put-requires
put-requires g t c =
    let asked = c.requires in
    let r = c.args.rules.now in
    let n : ℕ = size_of r in
    let s : List ℕ = set_in c.args.room.now in
    let p : ℕ = c.loop-p.p in
    let lt : p < c.args.end.limit = c.loop-p-test.true in
    let selection : IsSelection n (p ∷ s) =
    selection-front n p s (omega (arith, lt, asked.limit)) (above-front c.args.end.limit p s lt asked.above) asked.set in
    omega (arith, selection-short n (p ∷ s) selection, ap length c.loop-p.invariant.kept, c.loop-p.invariant.room, asked.room)

pub print_other-requires-clause-set : goal.print_other-requires-clause-set
print_other-requires-clause-set g t c =
    let asked = c.requires in
    let r = c.args.rules.now in
    let n : ℕ = size_of r in
    let s : List ℕ = set_in c.args.room.now in
    let p : ℕ = c.loop-p.p in
    let lt : p < c.args.end.limit = c.loop-p-test.true in
    let selection : IsSelection n (p ∷ s) =
    selection-front n p s (omega (arith, lt, asked.limit)) (above-front c.args.end.limit p s lt asked.above) asked.set in
    subst (λ m. IsSelection m c.set-in-loop-p.result.now) (sym (c.may_begin.ensures.same_size ∙ c.loop-p.invariant.same_size)) (subst (IsSelection n) (sym (c.set-in-loop-p.ensures ∙ c.put.ensures.set ∙ ap (λ l. p ∷ l) c.loop-p.invariant.kept)) selection)

pub returns-in_err-print_other-clause-err : goal.returns-in_err-print_other-clause-err
returns-in_err-print_other-clause-err g t c =
    let asked = c.requires in
    let r = c.args.rules.now in
    let may : List ℕ → Bool = may_of r in
    let test : List ℕ → Bool = is_other r c.args.lines.now.last.now in
    let names : List Name = map name_of c.args.lines.now.features.now in
    let s : List ℕ = set_in c.args.room.now in
    let p : ℕ = c.loop-p.p in
    let lt : p < c.args.end.limit = c.loop-p-test.true in
    let permitted : may (p ∷ s) ≡ true =
    ap (λ l. may (p ∷ l)) (sym (c.set.ensures ∙ c.loop-p.invariant.kept)) ∙ sym (c.may_begin.ensures.answer ∙ ap (λ f. f (p ∷ c.set.result.now)) c.loop-p.invariant.same_may) ∙ c.if-not-may_begin.false in
    let stood : set_in c.put.new.self ≡ p ∷ s = c.put.ensures.set ∙ ap (λ l. p ∷ l) c.loop-p.invariant.kept in
    let set : c.set-in-loop-p.result.now ≡ p ∷ s = c.set-in-loop-p.ensures ∙ stood in
    let back : is_other c.may_begin.new.self c.args.lines.now.last.now ≡ test = other-same r c.may_begin.new.self c.args.lines.now.last.now (c.may_begin.ensures.same_whole ∙ c.loop-p.invariant.same_whole) in
    let others : c.args.end.names.now ≡ others_text (items_at names s) = asked.names in
    let all = text-all names test may s p c.args.end.limit lt permitted in
    let stopped : AppendsFront (g.W.Sink.contents c.loop-p.out) (g.W.Sink.contents c.print_other.new.out) (string_bytes c.loop-p.page ++ line_at names test may s p) =
    subst (λ x. AppendsFront (g.W.Sink.contents c.loop-p.out) (g.W.Sink.contents c.print_other.new.out) (string_bytes c.loop-p.page ++ set_lines names (filter test (x ∷ []))))
    set (subst (λ f. AppendsFront (g.W.Sink.contents c.loop-p.out) (g.W.Sink.contents c.print_other.new.out) (string_bytes c.loop-p.page ++ set_lines names (filter f (c.set-in-loop-p.result.now ∷ [])))) back (c.in_err-print_other.ensures.err p s set others)) in
    on_err-any c.from_residual.result _
    (prints-stopped _ _ _ (string_bytes c.args.page.now) (string_bytes c.loop-p.page) (lines_below names test may s p) (line_at names test may s p) (lines_under names test may s p ++ all.0) (lines_below names test may s c.args.end.limit)
    c.loop-p.invariant.printed stopped all.1)

pub returns-in_err-longer-clause-err : goal.returns-in_err-longer-clause-err
returns-in_err-longer-clause-err g t c =
    let asked = c.requires in
    let r = c.args.rules.now in
    let may : List ℕ → Bool = may_of r in
    let test : List ℕ → Bool = is_other r c.args.lines.now.last.now in
    let names : List Name = map name_of c.args.lines.now.features.now in
    let s : List ℕ = set_in c.args.room.now in
    let p : ℕ = c.loop-p.p in
    let lt : p < c.args.end.limit = c.loop-p-test.true in
    let permitted : may (p ∷ s) ≡ true =
    ap (λ l. may (p ∷ l)) (sym (c.set.ensures ∙ c.loop-p.invariant.kept)) ∙ sym (c.may_begin.ensures.answer ∙ ap (λ f. f (p ∷ c.set.result.now)) c.loop-p.invariant.same_may) ∙ c.if-not-may_begin.false in
    let stood : set_in c.put.new.self ≡ p ∷ s = c.put.ensures.set ∙ ap (λ l. p ∷ l) c.loop-p.invariant.kept in
    let set : c.set-in-loop-p.result.now ≡ p ∷ s = c.set-in-loop-p.ensures ∙ stood in
    let back : is_other c.may_begin.new.self c.args.lines.now.last.now ≡ test = other-same r c.may_begin.new.self c.args.lines.now.last.now (c.may_begin.ensures.same_whole ∙ c.loop-p.invariant.same_whole) in
    let others : c.args.end.names.now ≡ others_text (items_at names s) = asked.names in
    let all = text-all names test may s p c.args.end.limit lt permitted in
    let line : PrintsText (g.W.Sink.contents c.loop-p.out) (g.W.Sink.contents c.print_other.new.out) (string_bytes c.loop-p.page) (string_bytes c.print_other.new.page) (line_at names test may s p) =
    subst (λ x. PrintsText (g.W.Sink.contents c.loop-p.out) (g.W.Sink.contents c.print_other.new.out) (string_bytes c.loop-p.page) (string_bytes c.print_other.new.page) (set_lines names (filter test (x ∷ []))))
    set (subst (λ f. PrintsText (g.W.Sink.contents c.loop-p.out) (g.W.Sink.contents c.print_other.new.out) (string_bytes c.loop-p.page) (string_bytes c.print_other.new.page) (set_lines names (filter f (c.set-in-loop-p.result.now ∷ [])))) back (c.in_ok-print_other.ensures.ok p s set others)) in
    let so_far : PrintsText (g.W.Sink.contents c.args.out.now) (g.W.Sink.contents c.print_other.new.out) (string_bytes c.args.page.now) (string_bytes c.print_other.new.page) (lines_below names test may s p ++ line_at names test may s p) =
    prints-then _ _ _ (string_bytes c.args.page.now) (string_bytes c.loop-p.page) (string_bytes c.print_other.new.page) (lines_below names test may s p) (line_at names test may s p) c.loop-p.invariant.printed line in
    on_err-any c.from_residual-in_err-longer.result _
    (prints-front _ _ (string_bytes c.args.page.now) (string_bytes c.print_other.new.page) (lines_below names test may s p ++ line_at names test may s p) (lines_under names test may s p ++ all.0) (lines_below names test may s c.args.end.limit)
    so_far (all.1 ∙ sym (append_assoc (lines_below names test may s p) (line_at names test may s p) (lines_under names test may s p ++ all.0))))

pub print_below-requires : goal.print_below-requires
print_below-requires g t c κs within =
    let asked = c.requires in
    let r = c.args.rules.now in
    let n : ℕ = size_of r in
    let names : List Name = map name_of c.args.lines.now.features.now in
    let s : List ℕ = set_in c.args.room.now in
    let p : ℕ = c.loop-p.p in
    let lt : p < c.args.end.limit = c.loop-p-test.true in
    let selection : IsSelection n (p ∷ s) =
    selection-front n p s (omega (arith, lt, asked.limit)) (above-front c.args.end.limit p s lt asked.above) asked.set in
    let stood : set_in c.put.new.self ≡ p ∷ s = c.put.ensures.set ∙ ap (λ l. p ∷ l) c.loop-p.invariant.kept in
    let others : c.args.end.names.now ≡ others_text (items_at names s) = asked.names in (
      omega (arith, lt),
      (
        within,
        (
          asked.texts,
          (
            c.may_begin.ensures.same_size ∙ c.loop-p.invariant.same_size ∙ asked.size,
            (
              c.put.ensures.most ∙ c.loop-p.invariant.room ∙ asked.room ∙ sym (c.may_begin.ensures.same_size ∙ c.loop-p.invariant.same_size),
              (
                subst (λ m. IsSelection m (set_in c.put.new.self)) (sym (c.may_begin.ensures.same_size ∙ c.loop-p.invariant.same_size)) (subst (IsSelection n) (sym stood) selection),
                (
                  subst (All (λ q. p ≤ q)) (sym stood) (above-cons p s (above-front c.args.end.limit p s lt asked.above)),
                  (
                    omega (arith, lt, asked.limit, c.may_begin.ensures.same_size ∙ c.loop-p.invariant.same_size),
                    c.as_str.ensures.value ∙ c.in_ok-longer.ensures s others ∙ ap (λ l. others_text (items_at names l)) (sym stood),
                  ),
                ),
              ),
            ),
          ),
        ),
      ),
    )

pub returns-in_err-print_below-clause-err : goal.returns-in_err-print_below-clause-err
returns-in_err-print_below-clause-err g t c =
    let asked = c.requires in
    let r = c.args.rules.now in
    let may : List ℕ → Bool = may_of r in
    let test : List ℕ → Bool = is_other r c.args.lines.now.last.now in
    let names : List Name = map name_of c.args.lines.now.features.now in
    let s : List ℕ = set_in c.args.room.now in
    let p : ℕ = c.loop-p.p in
    let lt : p < c.args.end.limit = c.loop-p-test.true in
    let permitted : may (p ∷ s) ≡ true =
    ap (λ l. may (p ∷ l)) (sym (c.set.ensures ∙ c.loop-p.invariant.kept)) ∙ sym (c.may_begin.ensures.answer ∙ ap (λ f. f (p ∷ c.set.result.now)) c.loop-p.invariant.same_may) ∙ c.if-not-may_begin.false in
    let stood : set_in c.put.new.self ≡ p ∷ s = c.put.ensures.set ∙ ap (λ l. p ∷ l) c.loop-p.invariant.kept in
    let set : c.set-in-loop-p.result.now ≡ p ∷ s = c.set-in-loop-p.ensures ∙ stood in
    let back : is_other c.may_begin.new.self c.args.lines.now.last.now ≡ test = other-same r c.may_begin.new.self c.args.lines.now.last.now (c.may_begin.ensures.same_whole ∙ c.loop-p.invariant.same_whole) in
    let others : c.args.end.names.now ≡ others_text (items_at names s) = asked.names in
    let all = text-all names test may s p c.args.end.limit lt permitted in
    let line : PrintsText (g.W.Sink.contents c.loop-p.out) (g.W.Sink.contents c.print_other.new.out) (string_bytes c.loop-p.page) (string_bytes c.print_other.new.page) (line_at names test may s p) =
    subst (λ x. PrintsText (g.W.Sink.contents c.loop-p.out) (g.W.Sink.contents c.print_other.new.out) (string_bytes c.loop-p.page) (string_bytes c.print_other.new.page) (set_lines names (filter test (x ∷ []))))
    set (subst (λ f. PrintsText (g.W.Sink.contents c.loop-p.out) (g.W.Sink.contents c.print_other.new.out) (string_bytes c.loop-p.page) (string_bytes c.print_other.new.page) (set_lines names (filter f (c.set-in-loop-p.result.now ∷ [])))) back (c.in_ok-print_other.ensures.ok p s set others)) in
    let so_far : PrintsText (g.W.Sink.contents c.args.out.now) (g.W.Sink.contents c.print_other.new.out) (string_bytes c.args.page.now) (string_bytes c.print_other.new.page) (lines_below names test may s p ++ line_at names test may s p) =
    prints-then _ _ _ (string_bytes c.args.page.now) (string_bytes c.loop-p.page) (string_bytes c.print_other.new.page) (lines_below names test may s p) (line_at names test may s p) c.loop-p.invariant.printed line in
    let put : List ℕ = set_in c.put.new.self in
    let under : lines_under names test may s p ≡ set_lines names (filter (is_other c.may_begin.new.self c.args.lines.now.last.now) (below (may_of c.may_begin.new.self) p put)) =
    ap (λ l. set_lines names (filter test (below may p l))) (sym stood) ∙ ap (λ f. set_lines names (filter f (below may p put))) (sym back)
    ∙ ap (λ m. set_lines names (filter (is_other c.may_begin.new.self c.args.lines.now.last.now) (below m p put))) (sym (c.may_begin.ensures.same_may ∙ c.loop-p.invariant.same_may)) in
    let stopped : AppendsFront (g.W.Sink.contents c.print_other.new.out) (g.W.Sink.contents c.print_below.new.out) (string_bytes c.print_other.new.page ++ lines_under names test may s p) =
    subst (λ l. AppendsFront (g.W.Sink.contents c.print_other.new.out) (g.W.Sink.contents c.print_below.new.out) (string_bytes c.print_other.new.page ++ l)) (sym under) c.in_err-print_below.ensures.err in
    on_err-any c.from_residual-in_err-print_below.result _
    (prints-stopped _ _ _ (string_bytes c.args.page.now) (string_bytes c.print_other.new.page) (lines_below names test may s p ++ line_at names test may s p) (lines_under names test may s p) all.0 (lines_below names test may s c.args.end.limit)
    so_far stopped (all.1 ∙ sym (append_assoc (lines_below names test may s p) (line_at names test may s p) (lines_under names test may s p ++ all.0))))

pub loop-p-preserved : goal.loop-p-preserved
loop-p-preserved g t c =
    let asked = c.requires in
    let r = c.args.rules.now in
    let n : ℕ = size_of r in
    let may : List ℕ → Bool = may_of r in
    let test : List ℕ → Bool = is_other r c.args.lines.now.last.now in
    let names : List Name = map name_of c.args.lines.now.features.now in
    let s : List ℕ = set_in c.args.room.now in
    let p : ℕ = c.loop-p.p in
    let lt : p < c.args.end.limit = c.loop-p-test.true in
    let selection : IsSelection n (p ∷ s) =
    selection-front n p s (omega (arith, lt, asked.limit)) (above-front c.args.end.limit p s lt asked.above) asked.set in
    let permitted : may (p ∷ s) ≡ true =
    ap (λ l. may (p ∷ l)) (sym (c.set.ensures ∙ c.loop-p.invariant.kept)) ∙ sym (c.may_begin.ensures.answer ∙ ap (λ f. f (p ∷ c.set.result.now)) c.loop-p.invariant.same_may) ∙ c.if-not-may_begin.false in
    let stood : set_in c.put.new.self ≡ p ∷ s = c.put.ensures.set ∙ ap (λ l. p ∷ l) c.loop-p.invariant.kept in
    let set : c.set-in-loop-p.result.now ≡ p ∷ s = c.set-in-loop-p.ensures ∙ stood in
    let back : is_other c.may_begin.new.self c.args.lines.now.last.now ≡ test = other-same r c.may_begin.new.self c.args.lines.now.last.now (c.may_begin.ensures.same_whole ∙ c.loop-p.invariant.same_whole) in
    let others : c.args.end.names.now ≡ others_text (items_at names s) = asked.names in
    let all = text-all names test may s p c.args.end.limit lt permitted in
    let line : PrintsText (g.W.Sink.contents c.loop-p.out) (g.W.Sink.contents c.print_other.new.out) (string_bytes c.loop-p.page) (string_bytes c.print_other.new.page) (line_at names test may s p) =
    subst (λ x. PrintsText (g.W.Sink.contents c.loop-p.out) (g.W.Sink.contents c.print_other.new.out) (string_bytes c.loop-p.page) (string_bytes c.print_other.new.page) (set_lines names (filter test (x ∷ []))))
    set (subst (λ f. PrintsText (g.W.Sink.contents c.loop-p.out) (g.W.Sink.contents c.print_other.new.out) (string_bytes c.loop-p.page) (string_bytes c.print_other.new.page) (set_lines names (filter f (c.set-in-loop-p.result.now ∷ [])))) back (c.in_ok-print_other.ensures.ok p s set others)) in
    let so_far : PrintsText (g.W.Sink.contents c.args.out.now) (g.W.Sink.contents c.print_other.new.out) (string_bytes c.args.page.now) (string_bytes c.print_other.new.page) (lines_below names test may s p ++ line_at names test may s p) =
    prints-then _ _ _ (string_bytes c.args.page.now) (string_bytes c.loop-p.page) (string_bytes c.print_other.new.page) (lines_below names test may s p) (line_at names test may s p) c.loop-p.invariant.printed line in
    let put : List ℕ = set_in c.put.new.self in
    let under : lines_under names test may s p ≡ set_lines names (filter (is_other c.may_begin.new.self c.args.lines.now.last.now) (below (may_of c.may_begin.new.self) p put)) =
    ap (λ l. set_lines names (filter test (below may p l))) (sym stood) ∙ ap (λ f. set_lines names (filter f (below may p put))) (sym back)
    ∙ ap (λ m. set_lines names (filter (is_other c.may_begin.new.self c.args.lines.now.last.now) (below m p put))) (sym (c.may_begin.ensures.same_may ∙ c.loop-p.invariant.same_may)) in
    let next : lines_below names test may s (p + 1) ≡ (lines_below names test may s p ++ line_at names test may s p) ++ lines_under names test may s p =
    text-step names test may s p permitted ∙ sym (append_assoc (lines_below names test may s p) (line_at names test may s p) (lines_under names test may s p)) in
    let out_new = g.W.Sink.contents c.if-p-gt0.out in
    let page_new : List ℕ = string_bytes c.if-p-gt0.page in
    let kept : set_in c.if-p-gt0.room ≡ p ∷ s =
    elim c.if-p-gt0.branch [
      | then-p-gt0+then-not-is_full+in_ok-longer+in_ok-print_below w ↦ ap set_in w.room-is ∙ w.in_ok-print_below.ensures.kept ∙ stood
      | else-p-gt0 w ↦ ap set_in w.room-is ∙ stood
    ] in
    let room : most_in c.if-p-gt0.room ≡ most_in c.args.room.now =
    elim c.if-p-gt0.branch [
      | then-p-gt0+then-not-is_full+in_ok-longer+in_ok-print_below w ↦ ap most_in w.room-is ∙ w.in_ok-print_below.ensures.room ∙ c.put.ensures.most ∙ c.loop-p.invariant.room
      | else-p-gt0 w ↦ ap most_in w.room-is ∙ c.put.ensures.most ∙ c.loop-p.invariant.room
    ] in
    let behind : PrintsText (g.W.Sink.contents c.print_other.new.out) out_new (string_bytes c.print_other.new.page) page_new (lines_under names test may s p) =
    elim c.if-p-gt0.branch [
      | then-p-gt0+then-not-is_full+in_ok-longer+in_ok-print_below w ↦
          subst (λ o. PrintsText (g.W.Sink.contents c.print_other.new.out) (g.W.Sink.contents o) (string_bytes c.print_other.new.page) page_new (lines_under names test may s p)) (sym w.out-is)
          (subst (λ b. PrintsText (g.W.Sink.contents c.print_other.new.out) (g.W.Sink.contents w.print_below.new.out) (string_bytes c.print_other.new.page) (string_bytes b) (lines_under names test may s p)) (sym w.page-is)
          (subst (PrintsText (g.W.Sink.contents c.print_other.new.out) (g.W.Sink.contents w.print_below.new.out) (string_bytes c.print_other.new.page) (string_bytes w.print_below.new.page)) (sym under)
          w.in_ok-print_below.ensures.ok))
      | else-p-gt0 w ↦
          let none : lines_under names test may s p ≡ [] =
          elim w.else-p-gt0.branch [
            | else-p-gt0-via-then-p-gt0+else-not-is_full w' ↦
                let full : (q : ℕ) → may (q ∷ p ∷ s) ≡ false = λ q. ap (λ f. f (q ∷ p ∷ s)) (sym (c.may_begin.ensures.same_may ∙ c.loop-p.invariant.same_may)) ∙ w'.is_full.ensures w'.if-not-is_full.false (p ∷ s) (ap length (sym (w'.set-then-p-gt0.ensures ∙ stood))) q in
                ap (λ l. set_lines names (filter test l)) (below-full may (p ∷ s) p full)
            | else-p-gt0-via-else-p-gt0 w' ↦ let least : p ≡ zero = omega (arith, w'.if-p-gt0.false) in ap (lines_under names test may s) least
          ] in
          subst (λ o. PrintsText (g.W.Sink.contents c.print_other.new.out) (g.W.Sink.contents o) (string_bytes c.print_other.new.page) page_new (lines_under names test may s p)) (sym w.out-is)
          (subst (λ b. PrintsText (g.W.Sink.contents c.print_other.new.out) (g.W.Sink.contents c.print_other.new.out) (string_bytes c.print_other.new.page) (string_bytes b) (lines_under names test may s p)) (sym w.page-is)
          (subst (PrintsText (g.W.Sink.contents c.print_other.new.out) (g.W.Sink.contents c.print_other.new.out) (string_bytes c.print_other.new.page) (string_bytes c.print_other.new.page)) (sym none)
          (prints-none (g.W.Sink.contents c.print_other.new.out) (string_bytes c.print_other.new.page))))
    ] in
    let count : NoFewer (g.W.Sink.failed c.print_other.new.out) (g.W.Sink.failed c.if-p-gt0.out) =
    elim c.if-p-gt0.branch [
      | then-p-gt0+then-not-is_full+in_ok-longer+in_ok-print_below w ↦ subst (λ o. NoFewer (g.W.Sink.failed c.print_other.new.out) (g.W.Sink.failed o)) (sym w.out-is) w.in_ok-print_below.ensures.counted
      | else-p-gt0 w ↦ stayed _ _ (ap g.W.Sink.failed w.out-is)
    ] in
    record {
      printed = subst (PrintsText (g.W.Sink.contents c.args.out.now) out_new (string_bytes c.args.page.now) page_new) (sym next)
          (prints-then _ _ _ (string_bytes c.args.page.now) (string_bytes c.print_other.new.page) page_new (lines_below names test may s p ++ line_at names test may s p) (lines_under names test may s p) so_far behind);
      count = NoFewer-trans _ _ _ c.loop-p.invariant.count (NoFewer-trans _ _ _ c.in_ok-print_other.ensures.counted count);
      kept = c.take.ensures.set ∙ ap (drop 1) kept;
      room = c.take.ensures.most ∙ room;
      same_size = elim c.if-p-gt0.branch [
        | then-p-gt0+then-not-is_full+in_ok-longer+in_ok-print_below w ↦ ap size_of w.rules-is ∙ w.in_ok-print_below.ensures.same_size ∙ c.may_begin.ensures.same_size ∙ c.loop-p.invariant.same_size
        | else-p-gt0 w ↦ ap size_of w.rules-is ∙ c.may_begin.ensures.same_size ∙ c.loop-p.invariant.same_size
      ];
      same_may = elim c.if-p-gt0.branch [
        | then-p-gt0+then-not-is_full+in_ok-longer+in_ok-print_below w ↦ ap may_of w.rules-is ∙ w.in_ok-print_below.ensures.same_may ∙ c.may_begin.ensures.same_may ∙ c.loop-p.invariant.same_may
        | else-p-gt0 w ↦ ap may_of w.rules-is ∙ c.may_begin.ensures.same_may ∙ c.loop-p.invariant.same_may
      ];
      same_whole = elim c.if-p-gt0.branch [
        | then-p-gt0+then-not-is_full+in_ok-longer+in_ok-print_below w ↦ ap whole_of w.rules-is ∙ w.in_ok-print_below.ensures.same_whole ∙ c.may_begin.ensures.same_whole ∙ c.loop-p.invariant.same_whole
        | else-p-gt0 w ↦ ap whole_of w.rules-is ∙ c.may_begin.ensures.same_whole ∙ c.loop-p.invariant.same_whole
      ];
    }

pub returns-in_err-print_other-clause-counted : goal.returns-in_err-print_other-clause-counted
returns-in_err-print_other-clause-counted g t c =
    stops-refused Unit _ _ _ _ _ c.from_residual.ensures.1 c.loop-p.invariant.count c.in_err-print_other.ensures.counted

pub returns-in_err-print_below-clause-counted : goal.returns-in_err-print_below-clause-counted
returns-in_err-print_below-clause-counted g t c =
    stops-refused Unit _ _ _ _ _ c.from_residual-in_err-print_below.ensures.1 (NoFewer-trans _ _ _ c.loop-p.invariant.count c.in_ok-print_other.ensures.counted) c.in_err-print_below.ensures.counted

pub returns-clause-ok : goal.returns-clause-ok
returns-clause-ok g t c =
    let asked = c.requires in
    let r = c.args.rules.now in
    let may : List ℕ → Bool = may_of r in
    let test : List ℕ → Bool = is_other r c.args.lines.now.last.now in
    let names : List Name = map name_of c.args.lines.now.features.now in
    let s : List ℕ = set_in c.args.room.now in
    let ended : c.loop-p.p ≡ c.args.end.limit = omega (arith, c.loop-p-test.false) in
    subst (λ k. PrintsText (g.W.Sink.contents c.args.out.now) (g.W.Sink.contents c.loop-p.out) (string_bytes c.args.page.now) (string_bytes c.loop-p.page) (lines_below names test may s k)) ended c.loop-p.invariant.printed
