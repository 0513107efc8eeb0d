use Rattle.std.proofs.Common.{◌≡◌, ◌+◌, ◌∙◌, ◌≤◌, ℕ, sym, subst, ap, arith, length, cond, true}
use Rattle.std.specs.Prelude.{◌==◌, ◌&&◌, not}
use Rattle.std.specs.Cmp.Lexicographic.{slice_cmp}
use Rattle.std.specs.Ordering.{nat_cmp, is_eq}
use Rattle.hack_routes.specs.NameSets.{has_name}
use Rattle.hack_samples.specs.Sets.{rows_of}
use Rattle.hack_routes.specs.Rows.{cell}
use Rattle.hack_routes.specs.RoutesView.{routed_names}
use Rattle.hack_base.proofs.NameLemmas.{length-shown}
use Rattle.hack_features.proofs.RouteDeps.{Tells, here_at, tells-more, tells-skip, tells-end}
use Rattle.hack_features.proofs.deps.deps_at.Goals as goal
use Rattle.hack_features.proofs.deps.deps_at.Goals.{then-leads_on+in_ok-insert, else-leads_on}

pub loop-to-preserved : goal.loop-to-preserved
loop-to-preserved c =
    let routes = c.args.routes.now in
    let names = routed_names routes in
    let to = c.loop-to.to in
    let test = λ (k : ℕ). not (c.args.from == k) && cell (rows_of routes.marks.items) c.args.from k in
    elim c.if-leads_on.branch [
      | then-leads_on+in_ok-insert w ↦
          subst (λ s. Tells s names test (to + 1)) (sym w.set-is)
          (tells-more names test to c.loop-to.set w.insert.new.self c.loop-to.invariant
          (λ y. subst (λ n. has_name w.insert.new.self y ≡ cond (is_eq (slice_cmp nat_cmp n y)) true (has_name c.loop-to.set y)) (sym (here_at routes.names.items c.names-name-items.result.now to c.names-name-items.ensures c.loop-to-test.true))
          (w.in_ok-insert.ensures.updates.0 (record { ref_ptr = (0, 0); now = y })))
          (sym c.leads_on.ensures ∙ w.if-leads_on.true))
      | else-leads_on w ↦ subst (λ s. Tells s names test (to + 1)) (sym w.set-is) (tells-skip names test to c.loop-to.set c.loop-to.invariant (sym c.leads_on.ensures ∙ w.if-leads_on.false))
    ]

pub returns : goal.returns
returns c = λ m h.
    let routes = c.args.routes.now in
    let all : length (routed_names routes) ≤ c.loop-to.to = omega (arith, length-shown routes.names.items, ap length c.names-name-items.ensures, c.loop-to-test.false) in
    tells-end m (routed_names routes) routes.keys.items (rows_of routes.marks.items) h c.args.from c.loop-to.to c.requires
    (omega (arith, all, length-shown routes.names.items, ap length c.names-name-items.ensures, c.loop-to.auto.to-end)) c.loop-to.set c.loop-to.invariant
