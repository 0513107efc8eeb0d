use Rattle.std.proofs.Common.{rules, ◌≡◌, ◌∙◌, ap, subst, ℕ, List, None, Some, Option, MatchOption, map, not, string_bytes}
use Rattle.std.specs.Option.{option_or, is_none, option_map}
use Rattle.std.proofs.lemmas.Result.{err_from_is_err_and}
use Rattle.hack_features.specs.Feature.{group_of}
use Rattle.hack_rules.specs.CliFaults.{Fault, fault_of, LiftForm, LiftGroup}
use Rattle.hack_rules.specs.declared.fault.CliFault.TheVariants as fault
use Rattle.std.specs.List.{find}
use Rattle.hack_options.specs.declared.opt.Opt.TheVariants as opt
use Rattle.hack_rules.specs.CliLists.{lift_of, lifts_one_of}
use Rattle.hack_rules.specs.Values.{values_given}
use Rattle.hack_rules.specs.Uses.{views}
use Rattle.hack_rules.proofs.named.lifts.Goals as goal

later-fault : (o : Option Fault) (Q : Type 0) (a b : Option Fault) → a ≡ None → MatchOption o Q (λ told. b ≡ Some told) → MatchOption o Q (λ told. option_or a b ≡ Some told)
later-fault (Some told) Q a b e h = rw e h
later-fault None Q a b e h = h

pub returns-in_err-check_groups-clause-checks : goal.returns-in_err-check_groups-clause-checks
returns-in_err-check_groups-clause-checks c =
    let p = err_from_is_err_and c.from_residual-in_err-check_groups.result c.from_residual-in_err-check_groups.ensures.1 in
    let e = c.in_err-check_groups.field-0.0 in
    let texts = values_given opt.AllowTogether (views c.args.uses.now) in
    let group = λ (ts : List (List ℕ)). option_map LiftGroup (find (λ text. not (lifts_one_of (map group_of c.args.exclusive.now) text)) ts) in
    let form = option_map LiftForm (find (λ text. is_none (lift_of text)) texts) in
    let kept : form ≡ None = search rules in
    let given = ap (λ ts. map string_bytes ts) c.deref-2.ensures.value ∙ c.in_ok-texts.ensures in
    let told = subst (λ (ts : List (List ℕ)). MatchOption (fault_of e) (e ≡ fault.Memory) (λ told. group ts ≡ Some told)) given c.in_err-check_groups.ensures in
    rw (p.1, p.2) (later-fault (fault_of e) (e ≡ fault.Memory) form (group texts) kept told)
