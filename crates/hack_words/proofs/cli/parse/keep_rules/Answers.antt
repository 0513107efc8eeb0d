use Rattle.std.proofs.Common.{◌≡◌, ◌∙◌, ap, sym, subst, ℕ, List, Option, None, Some, MatchOption, [], ◌∷◌, rules}
use Rattle.std.proofs.lemmas.Result.{err_from_is_err_and}
use Rattle.hack_base.specs.Names.{names_of, optional_text}
use Rattle.hack_features.specs.Feature.{groups_of}
use Rattle.hack_options.specs.declared.opt.Opt.TheVariants as opt
use Rattle.hack_rules.specs.AskedFields.{coloring_asked}
use Rattle.hack_rules.specs.Uses.{views}
use Rattle.hack_rules.specs.CliFaults.{fault_of}
use Rattle.hack_rules.specs.CliLists.{groups_given}
use Rattle.hack_rules.specs.declared.fault.CliFault.TheVariants as fault
use Rattle.hack_rules.specs.Rules.{first_of}
use Rattle.hack_rules.specs.EarlyRules.{early_rules, together_rules}
use Rattle.hack_rules.specs.MissingSubcommand.{lists_commands, missing_subcommand}
use Rattle.hack_rules.specs.LateRules.{rules_after}
use Rattle.hack_words.specs.CommandLine.{Listing, Parsed}
use Rattle.hack_words.specs.Internal.{around_in}
use Rattle.hack_words.proofs.AnswerLemmas.{late-refused, listing-outcome, missing-refused, parsed-outcome}
use Rattle.hack_words.proofs.cli.parse.keep_rules.Goals as goal

pub returns-in_err-lists_commands : goal.returns-in_err-lists_commands
returns-in_err-lists_commands c =
    let p = err_from_is_err_and c.from_residual-in_err-lists_commands.result c.from_residual-in_err-lists_commands.ensures.1 in
    let e = c.in_err-lists_commands.field-0.0 in
    let around = around_in c.args.around in
    let behavior = c.args.call.now.behavior in
    let trailing = names_of c.args.call.now.trailing.items in
    let us = views c.args.uses.now in
    let early = first_of (first_of (early_rules around.term_color us) ∷ first_of (together_rules behavior us) ∷ []) in
    let after = first_of (rules_after around.rustup (groups_given opt.MutuallyExclusiveFeatures us) behavior trailing us) in
    let kept : early ≡ None = search rules in
    rw (p.1, p.2) (missing-refused (fault_of e) (e ≡ fault.Memory) early (lists_commands behavior us) (missing_subcommand us) after (Listing us) (Parsed behavior trailing us) kept (c.in_err-lists_commands.ensures.rule behavior (search rules)))

pub returns-then-branch : goal.returns-then-branch
returns-then-branch c =
    let around = around_in c.args.around in
    let behavior = c.args.call.now.behavior in
    let trailing = names_of c.args.call.now.trailing.items in
    let us = views c.args.uses.now in
    let early = first_of (first_of (early_rules around.term_color us) ∷ first_of (together_rules behavior us) ∷ []) in
    let after = first_of (rules_after around.rustup (groups_given opt.MutuallyExclusiveFeatures us) behavior trailing us) in
    let kept : early ≡ None = search rules in
    let asked = c.in_ok-lists_commands.ensures.asked behavior (search rules) in
    let coloring : c.in_ok-early.early.coloring ≡ coloring_asked (optional_text c.args.around.env.now.term_color) us = search rules in (
      listing-outcome early (lists_commands behavior us) (missing_subcommand us) after (Listing us) (Parsed behavior trailing us) kept (sym asked ∙ c.if-branch.true),
      coloring,
      c.in_ok-early.ensures.depth,
      c.in_ok-early.ensures.lists,
      tt,
    )

pub returns-in_err-late : goal.returns-in_err-late
returns-in_err-late c =
    let p = err_from_is_err_and c.from_residual-in_err-late.result c.from_residual-in_err-late.ensures.1 in
    let e = c.in_err-late.field-0.0 in
    let around = around_in c.args.around in
    let behavior = c.args.call.now.behavior in
    let trailing = names_of c.args.call.now.trailing.items in
    let us = views c.args.uses.now in
    let early = first_of (first_of (early_rules around.term_color us) ∷ first_of (together_rules behavior us) ∷ []) in
    let after = first_of (rules_after around.rustup (groups_given opt.MutuallyExclusiveFeatures us) behavior trailing us) in
    let kept : early ≡ None = search rules in
    let asked = c.in_ok-lists_commands.ensures.asked behavior (search rules) in
    let told = λ (minor : Option ℕ) (groups : List (List (List ℕ))) (words : List (List ℕ)). MatchOption (fault_of e) (e ≡ fault.Memory) (λ fault. first_of (rules_after minor groups behavior words us) ≡ Some fault) in
    let groups : groups_of c.as_slice-exclusive.result.now ≡ groups_given opt.MutuallyExclusiveFeatures us = ap (λ fs. groups_of fs) c.as_slice-exclusive.ensures.value ∙ c.in_ok-early.ensures.lists.exclusive in
    let words : names_of c.as_slice-trailing.result.now ≡ trailing = ap (λ ts. names_of ts) c.as_slice-trailing.ensures.value in
    let with_groups = subst (λ gs. told c.known_minor.result gs (names_of c.as_slice-trailing.result.now)) groups c.in_err-late.ensures.rules in
    let with_words = subst (λ ws. told c.known_minor.result (groups_given opt.MutuallyExclusiveFeatures us) ws) words with_groups in
    let late = subst (λ minor. told minor (groups_given opt.MutuallyExclusiveFeatures us) trailing) c.known_minor.ensures with_words in
    rw (p.1, p.2) (late-refused (fault_of e) (e ≡ fault.Memory) early (lists_commands behavior us) (missing_subcommand us) after (Listing us) (Parsed behavior trailing us) kept (sym asked ∙ c.if-branch.false) (c.in_ok-lists_commands.ensures.rule behavior (search rules)) late)

pub returns : goal.returns
returns c =
    let around = around_in c.args.around in
    let behavior = c.args.call.now.behavior in
    let trailing = names_of c.args.call.now.trailing.items in
    let us = views c.args.uses.now in
    let early = first_of (first_of (early_rules around.term_color us) ∷ first_of (together_rules behavior us) ∷ []) in
    let after = first_of (rules_after around.rustup (groups_given opt.MutuallyExclusiveFeatures us) behavior trailing us) in
    let kept : early ≡ None = search rules in
    let asked = c.in_ok-lists_commands.ensures.asked behavior (search rules) in
    let none = λ (minor : Option ℕ) (groups : List (List (List ℕ))) (words : List (List ℕ)). first_of (rules_after minor groups behavior words us) ≡ None in
    let groups : groups_of c.as_slice-exclusive.result.now ≡ groups_given opt.MutuallyExclusiveFeatures us = ap (λ fs. groups_of fs) c.as_slice-exclusive.ensures.value ∙ c.in_ok-early.ensures.lists.exclusive in
    let words : names_of c.as_slice-trailing.result.now ≡ trailing = ap (λ ts. names_of ts) c.as_slice-trailing.ensures.value in
    let with_groups = subst (λ gs. none c.known_minor.result gs (names_of c.as_slice-trailing.result.now)) groups c.in_ok-late.ensures.rules in
    let with_words = subst (λ ws. none c.known_minor.result (groups_given opt.MutuallyExclusiveFeatures us) ws) words with_groups in
    let late = subst (λ minor. none minor (groups_given opt.MutuallyExclusiveFeatures us) trailing) c.known_minor.ensures with_words in
    let coloring : c.in_ok-early.early.coloring ≡ coloring_asked (optional_text c.args.around.env.now.term_color) us = search rules in (
      parsed-outcome early (lists_commands behavior us) (missing_subcommand us) after (Listing us) (Parsed behavior trailing us) kept (sym asked ∙ c.if-branch.false) (c.in_ok-lists_commands.ensures.rule behavior (search rules)) late,
      coloring,
      c.in_ok-early.ensures.depth,
      c.in_ok-early.ensures.lists,
      c.in_ok-late.ensures.late,
    )
