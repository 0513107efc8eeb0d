use Rattle.std.proofs.Common.{◌∷◌, ◌∙◌, sym, subst}
use Rattle.std.specs.Map.Iter.{deref_pair}
use Rattle.std.specs.Borrow.{Bor}
use Rattle.std.proofs.lemmas.Map.Iter.{rest_more}
use Rattle.hack_base.specs.Names.{Name}
use Rattle.hack_features.specs.Feature.{group_of}
use Rattle.hack_routes.specs.NameSets.{NameSet}
use Rattle.hack_base.proofs.Members.{not_from}
use Rattle.hack_features.proofs.DepsLemmas.{Serving, serving-start, serving-kept, serving-left_out, serving-end}
use Rattle.hack_features.proofs.deps.servers.Goals as goal

pub loop-key-init : goal.loop-key-init
loop-key-init c =
    subst (λ left. Serving (group_of c.args.group.now) c.args.deps.now c.new-keys.result left) (sym (c.into_iter-key-iterator.ensures.into_iter_gives ∙ c.iter-key-items.ensures.rest))
    (serving-start (group_of c.args.group.now) c.args.deps.now c.new-keys.result c.new-keys.ensures.empty c.iter-key-items.ensures.found)

pub loop-key-preserved-in_ok-insert : goal.loop-key-preserved-in_ok-insert
loop-key-preserved-in_ok-insert c =
    let group = group_of c.args.group.now in
    let e : Bor Name × NameSet = (c.in-Some.key.now, c.in-Some.enabled.now) in
    let before : Serving group c.args.deps.now c.loop-key.keys (e ∷ c.next.new.self) =
    subst (λ left. Serving group c.args.deps.now c.loop-key.keys left) (rest_more deref_pair c.loop-key.key-iterator c.next.new.self c.next.result (c.in-Some.key, c.in-Some.enabled) c.in-Some.is c.next.ensures.steps) c.loop-key.invariant in
    serving-kept group c.args.deps.now c.loop-key.keys c.insert.new.self e c.next.new.self before (c.serves.ensures.0 c.if-serves.true) (λ y. c.in_ok-insert.ensures.updates.0 (record { ref_ptr = (0, 0); now = y }))

pub loop-key-preserved : goal.loop-key-preserved
loop-key-preserved c =
    let group = group_of c.args.group.now in
    let e : Bor Name × NameSet = (c.in-Some.key.now, c.in-Some.enabled.now) in
    let before : Serving group c.args.deps.now c.loop-key.keys (e ∷ c.next.new.self) =
    subst (λ left. Serving group c.args.deps.now c.loop-key.keys left) (rest_more deref_pair c.loop-key.key-iterator c.next.new.self c.next.result (c.in-Some.key, c.in-Some.enabled) c.in-Some.is c.next.ensures.steps) c.loop-key.invariant in
    serving-left_out group c.args.deps.now c.loop-key.keys e c.next.new.self before (not_from c.serves.result c.if-serves.false c.serves.ensures.1)

pub returns : goal.returns
returns c = serving-end (group_of c.args.group.now) c.args.deps.now c.loop-key.keys c.loop-key.key-iterator c.loop-key.invariant c.in-None.ensures.steps.0
