use Rattle.std.proofs.Common.{◌≡◌, ◌≢◌, ◌+◌, ◌++◌, ◌∷◌, [], ℕ, List, length, arith, ap, inl, rules, subst, sym, ◌∙◌}
use Rattle.hack_msrv.specs.Internal.{AreSearched}
use Rattle.hack_msrv.specs.Searches.{AreUnbroken}
use Rattle.hack_msrv.specs.declared.found.Found.{Found}
use Rattle.std.proofs.lemmas.Bool.{false≢true}
use Rattle.std.proofs.lemmas.List.{length-append}
use Rattle.std.proofs.lemmas.List.Elements.{All-append, All-cons, All-nil}
use Rattle.hack_msrv.specs.declared.found.Found.TheVariants.{Broken}
use Rattle.hack_msrv.proofs.SearchLemmas.{searched-next}
use Rattle.hack_msrv.proofs.UseLemmas.{uses-at, uses-long}
use Rattle.hack_msrv.proofs.search.search_all.Goals as goal

pub find_version-one-requires : goal.find_version-one-requires
find_version-one-requires g c = c.deref.ensures.value ∙ uses-at c.args.plan.now c.args.uses.now c.loop-member.member c.index-uses-member.result c.requires.uses c.loop-member-test.true c.index-uses-member.is

pub returns-then-is_broken-clause-searched : goal.returns-then-is_broken-clause-searched
returns-then-is_broken-clause-searched g c =
    let items : c.push.new.self.items ≡ c.loop-member.found.items ++ c.find_version-one.result ∷ [] = search rules in
    let inv = c.loop-member.invariant in
    let did = c.find_version-one.ensures in
    subst (λ (l : List Found). AreSearched g.R.Runner.ran g.R.Judge.ended c.args.plan.now l c.args.runner.now c.find_version-one.new.runner) (sym items)
    (searched-next g.R.Runner.ran g.R.Judge.ended c.args.plan.now c.loop-member.member c.loop-member.found.items c.find_version-one.result c.args.runner.now c.loop-member.runner c.find_version-one.new.runner inv.long inv.searched did)

pub loop-member-preserved : goal.loop-member-preserved
loop-member-preserved g c =
    let items : c.push.new.self.items ≡ c.loop-member.found.items ++ c.find_version-one.result ∷ [] = search rules in
    let inv = c.loop-member.invariant in
    let did = c.find_version-one.ensures in
    let P : Found → Type 0 = λ one. one ≢ Broken in
    record {
      searched = subst (λ (l : List Found). AreSearched g.R.Runner.ran g.R.Judge.ended c.args.plan.now l c.args.runner.now c.find_version-one.new.runner) (sym items)
          (searched-next g.R.Runner.ran g.R.Judge.ended c.args.plan.now c.loop-member.member c.loop-member.found.items c.find_version-one.result c.args.runner.now c.loop-member.runner c.find_version-one.new.runner inv.long inv.searched did);
      whole = subst AreUnbroken (sym items) (All-append P c.loop-member.found.items (c.find_version-one.result ∷ []) inv.whole (All-cons P c.find_version-one.result [] (λ e. false≢true (c.if-is_broken.ensures.1 e)) (All-nil P)));
      long = ap length items ∙ length-append c.loop-member.found.items (c.find_version-one.result ∷ []) ∙ ap (λ (n : ℕ). n + 1) inv.long;
      room = omega (arith, inv.room, c.push.ensures.capacity);
    }

pub returns-clause-end : goal.returns-clause-end
returns-clause-end g c =
    inl (c.loop-member.invariant.whole, let long = uses-long c.args.plan.now c.args.uses.now c.requires.uses in omega (arith, c.loop-member.invariant.long, c.loop-member-test.false, c.loop-member.auto.member-end, long))
