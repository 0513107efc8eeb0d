use Rattle.std.proofs.Common.{rules, ◌≡◌, ◌+◌, ◌++◌, ◌∷◌, [], ◌∙◌, ap, sym, drop, map, take, string_bytes, Some}
use Rattle.std.proofs.lemmas.List.{drop_more, take_more}
use Rattle.std.specs.List.{find}
use Rattle.std.specs.Option.{is_none}
use Rattle.hack_features.specs.Feature.{IsGroup}
use Rattle.hack_rules.specs.CliLists.{lift_of}
use Rattle.hack_base.specs.Lists.{group_names}
use Rattle.hack_rules.proofs.GroupLemmas.{lift-passes, lift-read, lift-some, read-more}
use Rattle.hack_rules.proofs.named.lifts_of.Goals as goal

pub loop-text-preserved : goal.loop-text-preserved
loop-text-preserved c =
    let texts = c.args.texts.now in
    let i = c.loop-text.text-index in
    let text = c.text-item.result in
    let taken : take (i + 1) texts ≡ take i texts ++ text ∷ [] = take_more texts i text c.loop-text-test.true ∙ ap (λ x. take i texts ++ x ∷ []) (sym c.text-item.is) in
    let lift : lift_of (string_bytes text) ≡ Some (record { owner = c.in-Some.owner.now; group = group_names c.in-Some.features.now }) = search rules in
    let owner : string_bytes c.in_ok-owner.owner ≡ c.in-Some.owner.now = search rules in
    let group : IsGroup (group_names c.in-Some.features.now) c.in_ok-features.features = search rules in
    let items : c.push.new.self.items ≡ c.loop-text.lifts.items ++ (c.in_ok-owner.owner, c.in_ok-features.features) ∷ [] = search rules in
    let rest : find (λ t. is_none (lift_of t)) (map string_bytes texts) ≡ find (λ t. is_none (lift_of t)) (map string_bytes (drop (i + 1) texts)) =
    c.loop-text.invariant.2 ∙ ap (λ ts. find (λ t. is_none (lift_of t)) (map string_bytes ts)) (drop_more texts i text c.loop-text-test.true ∙ ap (λ t. t ∷ drop (i + 1) texts) (sym c.text-item.is)) ∙ lift-passes text (drop (i + 1) texts) _ lift in (
      rw (taken, items) (lift-some (take i texts) c.loop-text.lifts.items text _ (c.in_ok-owner.owner, c.in_ok-features.features) c.loop-text.invariant.0 lift owner group),
      rw (taken, items) (read-more (take i texts) c.loop-text.lifts.items text (c.in_ok-owner.owner, c.in_ok-features.features) c.loop-text.invariant.1 (lift-read (string_bytes text) _ _ (c.in_ok-owner.owner, c.in_ok-features.features) lift owner group)),
      rest,
    )
