use Rattle.std.proofs.Common.{◌≡◌, ◌<◌, ◌≤◌, ◌∙◌, ◌∷◌, sym, ap, subst, List, Bool, ℕ, length, get_or, set, take, true, false, arith, rules, MatchOption}
use Rattle.std.proofs.lemmas.List.{take_all}
use Rattle.hack_samples.specs.Sets.{has, has_one_of, rows_of, IsInside}
use Rattle.hack_samples.specs.Internal.{may_join, IsSuited, Meets, NoneMeets}
use Rattle.hack_samples.proofs.SetLemmas.{not_both, none-at, has_one_of-inside, inside-then, inside-more, suited-join, suited-turned, both_turned, Joins, join-true, join-false}
use Rattle.hack_samples.proofs.MeetLemmas.{passed, some-passed, none-passed, some-inside, meets-here, meets-tail, meets-cons, meets-head, tried, tried-more}
use Rattle.hack_samples.proofs.search.+meet.Goals as goal
use Rattle.hack_samples.proofs.search.+meet.Goals.{then-branch+in_ok-more+in_ok-found+else-is_some, else-branch}

pub returns-then-has_one_of-clause-meets : goal.returns-then-has_one_of-clause-meets
returns-then-has_one_of-clause-meets g t c =
    let may : List Bool → Bool = g.A.Allowed.may c.args.allowed.now in
    let n : ℕ = g.A.Allowed.size c.args.allowed.now in
    let group : List ℕ = c.in-Some.group.now.items in
    let rest : List (List ℕ) = rows_of c.in-Some.rest.now in
    let is : rows_of c.args.groups.now ≡ group ∷ rest = ap rows_of c.in-Some.ensures.cases.0 in
    let here : has_one_of c.args.set.now group ≡ true = ap (has_one_of c.args.set.now) (sym c.as_slice.ensures.value) ∙ sym c.has_one_of.ensures ∙ c.if-has_one_of.true in
    passed _ _ _ _ _ c.meet.result c.meet.ensures.meets c.meet.ensures.inside
    (λ none s inside h. none s inside (meets-tail may n group rest c.args.banned.now s (subst (λ l. Meets may n l c.args.banned.now s) is h)))
    (λ v met inside. subst (λ l. Meets may n l c.args.banned.now v.items) (sym is)
    (meets-cons may n group rest c.args.banned.now v.items (has_one_of-inside c.args.set.now v.items group inside here) met))

pub may_join-requires : goal.may_join-requires
may_join-requires g t c = suited-turned c.loop-position.invariant.same_may c.loop-position.invariant.same_size c.args.banned.now c.args.set.now c.requires

pub returns-in_err-may_join-clause-within : goal.returns-in_err-may_join-clause-within
returns-in_err-may_join-clause-within g t c = λ k end old. c.may_join.ensures.within k end (c.loop-position.invariant.within k end old)

pub returns-in_err-more-clause-within : goal.returns-in_err-more-clause-within
returns-in_err-more-clause-within g t c = λ k end old. c.may_join.ensures.within k end (c.loop-position.invariant.within k end old)

pub meet-requires-then-branch : goal.meet-requires-then-branch
meet-requires-then-branch g t c =
    let may : List Bool → Bool = g.A.Allowed.may c.args.allowed.now in
    let n : ℕ = g.A.Allowed.size c.args.allowed.now in
    let banned : List Bool = c.args.banned.now in
    let s : List Bool = c.args.set.now in
    let p : ℕ = get_or c.as_slice-position-items.result.now c.loop-position.position-index 0 in
    let yes' : may_join may banned s p ≡ true =
    ap (λ m. may_join m banned s p) (sym c.loop-position.invariant.same_may) ∙ sym c.in_ok-may_join.ensures.joins ∙ c.if-branch.true in
    let joins : Joins may banned s p = join-true may banned s p yes' in
    let more : c.as_slice-then-branch.result.now ≡ set s p true = c.as_slice-then-branch.ensures.value ∙ c.in_ok-more.ensures in
    let suited : IsSuited (g.A.Allowed.may c.may_join.new.allowed) (g.A.Allowed.size c.may_join.new.allowed) banned c.as_slice-then-branch.result.now =
    suited-turned (c.may_join.ensures.same_may ∙ c.loop-position.invariant.same_may) (c.may_join.ensures.same_size ∙ c.loop-position.invariant.same_size) banned c.as_slice-then-branch.result.now
    (subst (IsSuited may n banned) (sym more) (suited-join may n banned s p c.requires joins.free joins.allowed)) in
    search (rules, suited)

pub returns-in_err-found-clause-within : goal.returns-in_err-found-clause-within
returns-in_err-found-clause-within g t c = λ k end old. c.meet-then-branch.ensures.within k end (c.may_join.ensures.within k end (c.loop-position.invariant.within k end old))

pub returns-then-is_some-clause-meets : goal.returns-then-is_some-clause-meets
returns-then-is_some-clause-meets g t c =
    let may : List Bool → Bool = g.A.Allowed.may c.args.allowed.now in
    let n : ℕ = g.A.Allowed.size c.args.allowed.now in
    let banned : List Bool = c.args.banned.now in
    let s : List Bool = c.args.set.now in
    let group : List ℕ = c.in-Some.group.now.items in
    let rest : List (List ℕ) = rows_of c.in-Some.rest.now in
    let is : rows_of c.args.groups.now ≡ group ∷ rest = ap rows_of c.in-Some.ensures.cases.0 in
    let items : List ℕ = c.as_slice-position-items.result.now in
    let i : ℕ = c.loop-position.position-index in
    let lt : i < length items = omega (arith, c.loop-position-test.true) in
    let p : ℕ = get_or items i 0 in
    let more : c.as_slice-then-branch.result.now ≡ set s p true = c.as_slice-then-branch.ensures.value ∙ c.in_ok-more.ensures in
    let yes' : may_join may banned s p ≡ true =
    ap (λ m. may_join m banned s p) (sym c.loop-position.invariant.same_may) ∙ sym c.in_ok-may_join.ensures.joins ∙ c.if-branch.true in
    let joins : Joins may banned s p = join-true may banned s p yes' in
    let found : MatchOption c.in_ok-found.found (NoneMeets may n rest banned c.as_slice-then-branch.result.now) (λ v. Meets may n rest banned v.items) =
    both_turned (λ m k. MatchOption c.in_ok-found.found (NoneMeets m k rest banned c.as_slice-then-branch.result.now) (λ v. Meets m k rest banned v.items))
    (c.may_join.ensures.same_may ∙ c.loop-position.invariant.same_may) (c.may_join.ensures.same_size ∙ c.loop-position.invariant.same_size) c.in_ok-found.ensures.meets in
    some-passed _ _ _ _ _ c.in_ok-found.found (sym c.is_some.ensures ∙ c.if-is_some.true) found c.in_ok-found.ensures.inside
    (λ v met inside. subst (λ l. Meets may n l banned v.items) (ap (λ l. l ∷ rest) c.as_slice-position-items.ensures.value ∙ sym is)
    (meets-here may n items rest banned s v.items i lt joins.below (subst (λ l. IsInside l v.items) more inside) met))

pub returns-then-is_some-clause-inside : goal.returns-then-is_some-clause-inside
returns-then-is_some-clause-inside g t c =
    let s : List Bool = c.args.set.now in
    let p : ℕ = get_or c.as_slice-position-items.result.now c.loop-position.position-index 0 in
    let more : c.as_slice-then-branch.result.now ≡ set s p true = c.as_slice-then-branch.ensures.value ∙ c.in_ok-more.ensures in
    some-inside _ _ c.in_ok-found.found c.in_ok-found.ensures.inside
    (λ v inside. inside-then s (set s p true) v.items (inside-more s p) (subst (λ l. IsInside l v.items) more inside))

pub returns-then-is_some-clause-within : goal.returns-then-is_some-clause-within
returns-then-is_some-clause-within g t c = λ k end old. c.meet-then-branch.ensures.within k end (c.may_join.ensures.within k end (c.loop-position.invariant.within k end old))

pub loop-position-preserved : goal.loop-position-preserved
loop-position-preserved g t c =
    let may : List Bool → Bool = g.A.Allowed.may c.args.allowed.now in
    let n : ℕ = g.A.Allowed.size c.args.allowed.now in
    let banned : List Bool = c.args.banned.now in
    let b : List Bool = c.args.set.now in
    let group : List ℕ = c.in-Some.group.now.items in
    let rest : List (List ℕ) = rows_of c.in-Some.rest.now in
    let is : rows_of c.args.groups.now ≡ group ∷ rest = ap rows_of c.in-Some.ensures.cases.0 in
    let items : List ℕ = c.as_slice-position-items.result.now in
    let i : ℕ = c.loop-position.position-index in
    let lt : i < length items = omega (arith, c.loop-position-test.true) in
    let p : ℕ = get_or items i 0 in
    let inv = c.loop-position.invariant in
    let joins : c.in_ok-may_join.field-0 ≡ may_join may banned b p = c.in_ok-may_join.ensures.joins ∙ ap (λ m. may_join m banned b p) inv.same_may in
    let fresh : has b p ≡ false =
    none-at b items i lt (ap (has_one_of b) (c.as_slice-position-items.ensures.value ∙ sym c.as_slice.ensures.value) ∙ sym c.has_one_of.ensures ∙ c.if-has_one_of.false) in
    record {
      tried = λ s inside h.
          let met : Meets may n (group ∷ rest) banned s = subst (λ l. Meets may n l banned s) is h in
          tried-more items i s lt (inv.tried s inside h)
          (elim c.if-branch.branch [
            | then-branch+in_ok-more+in_ok-found+else-is_some w ↦
                let more : w.as_slice-then-branch.result.now ≡ set b p true = w.as_slice-then-branch.ensures.value ∙ w.in_ok-more.ensures in
                let found : MatchOption w.in_ok-found.found (NoneMeets may n rest banned w.as_slice-then-branch.result.now) (λ v. Meets may n rest banned v.items) =
                both_turned (λ m k. MatchOption w.in_ok-found.found (NoneMeets m k rest banned w.as_slice-then-branch.result.now) (λ v. Meets m k rest banned v.items))
                (c.may_join.ensures.same_may ∙ inv.same_may) (c.may_join.ensures.same_size ∙ inv.same_size) w.in_ok-found.ensures.meets in
                tried may n group rest banned b p
                (subst (λ l. NoneMeets may n rest banned l) more (none-passed _ _ _ (sym w.is_some.ensures ∙ w.if-is_some.false) found))
                s inside met
            | else-branch w ↦
                join-false may (g.met.A.Allowed.closed c.args.allowed.now) n banned b p (sym joins ∙ w.if-branch.false) fresh s inside met.suited
          ]);
      within = λ k end old. elim c.if-branch.branch [
        | then-branch+in_ok-more+in_ok-found+else-is_some w ↦
            subst (λ a. g.A.Allowed.count a ≤ k) (sym w.allowed-is) (w.meet-then-branch.ensures.within k end (c.may_join.ensures.within k end (inv.within k end old)))
        | else-branch w ↦ subst (λ a. g.A.Allowed.count a ≤ k) (sym w.allowed-is) (c.may_join.ensures.within k end (inv.within k end old))
      ];
      same_size = elim c.if-branch.branch [
        | then-branch+in_ok-more+in_ok-found+else-is_some w ↦ ap (λ a. g.A.Allowed.size a) w.allowed-is ∙ w.meet-then-branch.ensures.same_size ∙ c.may_join.ensures.same_size ∙ inv.same_size
        | else-branch w ↦ ap (λ a. g.A.Allowed.size a) w.allowed-is ∙ c.may_join.ensures.same_size ∙ inv.same_size
      ];
      same_may = elim c.if-branch.branch [
        | then-branch+in_ok-more+in_ok-found+else-is_some w ↦ ap (λ a. g.A.Allowed.may a) w.allowed-is ∙ w.meet-then-branch.ensures.same_may ∙ c.may_join.ensures.same_may ∙ inv.same_may
        | else-branch w ↦ ap (λ a. g.A.Allowed.may a) w.allowed-is ∙ c.may_join.ensures.same_may ∙ inv.same_may
      ];
      stays = λ first old. elim c.if-branch.branch [
        | then-branch+in_ok-more+in_ok-found+else-is_some w ↦
            subst (g.A.Allowed.stays first) (sym w.allowed-is) (w.meet-then-branch.ensures.stays first (c.may_join.ensures.stays first (inv.stays first old)))
        | else-branch w ↦ subst (g.A.Allowed.stays first) (sym w.allowed-is) (c.may_join.ensures.stays first (inv.stays first old))
      ];
    }

pub returns-clause-meets : goal.returns-clause-meets
returns-clause-meets g t c = λ s inside h.
    let may : List Bool → Bool = g.A.Allowed.may c.args.allowed.now in
    let n : ℕ = g.A.Allowed.size c.args.allowed.now in
    let group : List ℕ = c.in-Some.group.now.items in
    let rest : List (List ℕ) = rows_of c.in-Some.rest.now in
    let is : rows_of c.args.groups.now ≡ group ∷ rest = ap rows_of c.in-Some.ensures.cases.0 in
    let items : List ℕ = c.as_slice-position-items.result.now in
    let all : take c.loop-position.position-index items ≡ group = take_all c.loop-position.position-index items (omega (arith, c.loop-position-test.false)) ∙ c.as_slice-position-items.ensures.value in
    not_both (meets-head may n group rest c.args.banned.now s (subst (λ l. Meets may n l c.args.banned.now s) is h))
    (ap (has_one_of s) (sym all) ∙ c.loop-position.invariant.tried s inside h)
