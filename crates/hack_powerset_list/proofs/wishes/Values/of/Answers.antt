use Rattle.std.proofs.Common.{◌≡◌, ◌∙◌, arith, ap, sym, subst, string_bytes, Bool, MatchBool, Option, Some, None}
use Rattle.hack_powerset_list.specs.Words.{Written, with_option_value}
use Rattle.hack_powerset_list.specs.InternalWishesView.{written_in}
use Rattle.hack_powerset_list.proofs.WishLemmas.{words-more}
use Rattle.hack_powerset_list.proofs.wishes.Values.of.Goals as goal

pub loop-left-preserved : goal.loop-left-preserved
loop-left-preserved c =
    let so_far = written_in c.loop-left.values in
    let more : Written = written_in c.take.new.self in
    let given : Option Written = with_option_value so_far c.as_str.result.now c.as_str-in-len2-up.result.now in
    let taken : given ≡ Some more = subst (λ (b : Bool). MatchBool b (given ≡ Some more) (given ≡ None)) c.if-not-branch.false c.in_ok-take.ensures in
    c.loop-left.invariant
    ∙ words-more so_far more c.loop-left.left.now c.option-item.result c.value-item.result (omega arith) c.option-item.is c.value-item.is
    (ap (λ option. with_option_value so_far option (string_bytes c.value-item.result)) (sym c.as_str.ensures.value)
    ∙ ap (with_option_value so_far c.as_str.result.now) (sym c.as_str-in-len2-up.ensures.value)
    ∙ taken)
