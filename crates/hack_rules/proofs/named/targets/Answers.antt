use Rattle.std.proofs.Common.{rules, ◌≡◌, ◌∙◌, [], sym, subst, List, ℕ, String, map, string_bytes, Global}
use Rattle.std.proofs.lemmas.Result.{IfOk-weaker}
use Rattle.hack_options.specs.declared.opt.Opt.TheVariants as opt
use Rattle.hack_rules.specs.Uses.{views}
use Rattle.hack_rules.specs.Values.{values_given}
use Rattle.hack_rules.specs.Internal.{put_all}
use Rattle.hack_rules.proofs.TargetLemmas.{HaveSameTexts, put_all-same}
use Rattle.hack_rules.proofs.named.targets.Goals as goal

pub returns-clause-same : goal.returns-clause-same
returns-clause-same c =
    let texts = c.in_ok-texts.texts.items in
    let set : c.in_ok-set.set.keys ≡ put_all [] texts = search rules in
    let given : map string_bytes texts ≡ values_given opt.Target (views c.args.uses.now) = search rules in
    let same = subst (λ (ts : List (List ℕ)). HaveSameTexts (map string_bytes (put_all [] texts)) ts) given (put_all-same texts) in
    IfOk-weaker c.in_order.result _ _ (λ targets e. subst (λ (ts : List (String Global)). HaveSameTexts (map string_bytes ts) (values_given opt.Target (views c.args.uses.now))) (sym (e ∙ set)) same) c.in_order.ensures.keys
