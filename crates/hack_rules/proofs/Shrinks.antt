-- Reading a use leaves less to read than before.
use Rattle.std.proofs.Common.{◌≡◌, ◌==◌, ◌||◌, bytes_eq, ◌+◌, ◌<◌, ◌≤◌, ℕ, List, [], ◌∷◌, ◌&&◌, ◌++◌, append-nil, append_assoc, Ok, Some, ◌∙◌, true, false, length, ap, sym, refl, Err, None, Option, Result, zero, suc, cond, codes, nat_eq, subst, drop, encode_utf8, length-drop, arith}
use Rattle.std.specs.List.{starts_with}
use Rattle.std.specs.Option.{is_some, option_map_or, option_zip}
use Rattle.std.proofs.lemmas.Str.{length-encode, len_utf8_bounds}
use Rattle.hack_lexopt.specs.declared.fault.LexFault.{LexFault}
use Rattle.hack_lexopt.specs.declared.fault.LexFault.TheVariants.{UnexpectedValue}
use Rattle.hack_lexopt.specs.Cuts.{LeftArguments, Untaken, Nothing, Pending, Chain, Flag, LongFlag, ShortFlag, Cut, FlagCut, ValueCut, is_long, is_chain, first_letter, after_letter, chain_of, untaken_of, next_cut, after_cut, after_value, after_attached, value_of, optional_of, attached_value, unexpected_of}
use Rattle.hack_base.specs.Cuts.{rest_of}
use Rattle.hack_options.specs.declared.opt.Opt.{Opt}
use Rattle.hack_options.specs.declared.table.Kind.{Kind}
use Rattle.hack_options.specs.declared.table.Kind.TheVariants as kind
use Rattle.hack_options.specs.Table.{entry_of, meaning_of}
use Rattle.hack_options.specs.Find.{long_option, short_option}
use Rattle.hack_rules.specs.declared.uses.cut.Print.{Print}
use Rattle.hack_rules.specs.declared.uses.cut.Print.TheVariants as print
use Rattle.hack_rules.specs.Faults.{Unexpected, Repeat, LoneQuote}
use Rattle.hack_rules.specs.Uses.{Use, Unknown, is_given, subcommand_of}
use Rattle.hack_rules.specs.UseReading.{Reading, Met, End, Prints, Fails, unknown_option, option_with, option_with_value, unless_quote, print_request, help_of, by_kind, known_option, removed_of, similar_of, other, of_cut, of_next, read_of, Reads}

-- a measure of how much is left to read
abbrev pub weight_of : Untaken → ℕ
weight_of Nothing = 0
weight_of (Pending value) = 1
weight_of (Chain letters) = length letters + 1

abbrev pub words_weight : List (List ℕ) → ℕ
words_weight [] = 0
words_weight (w ∷ ws) = (length w + 2) + words_weight ws

abbrev pub weight : LeftArguments → ℕ
weight l = weight_of l.untaken + words_weight l.words

chain_weight : (xs : List ℕ) → weight_of (chain_of xs) ≤ length xs + 1
chain_weight [] = omega arith
chain_weight (x ∷ xs) = omega arith

drop_none : (n : ℕ) → drop {A = ℕ} n [] ≡ []
drop_none zero = refl
drop_none (suc n) = refl

letter_weight : (c : ℕ) (xs : List ℕ) → weight_of (chain_of (drop (length (encode_utf8 c)) xs)) < length xs + 1
letter_weight c [] = rw (drop_none (length (encode_utf8 c))) (omega arith)
letter_weight c (x ∷ xs) = omega (arith, chain_weight (drop (length (encode_utf8 c)) (x ∷ xs)), length-drop (length (encode_utf8 c)) (x ∷ xs), length-encode c, (len_utf8_bounds c).0)

pending_weight : (value : Option (List ℕ)) (n : ℕ) → weight_of (option_map_or Pending value Nothing) < n + 2
pending_weight None n = omega arith
pending_weight (Some value) n = omega arith

word_weight : (w : List ℕ) → weight_of (untaken_of w) < length w + 2
word_weight w = elim (is_long w) as (λ b. weight_of (cond b (option_map_or Pending (rest_of 61 (drop 2 w)) Nothing) (cond (is_chain w) (after_letter (drop 1 w)) Nothing)) < length w + 2) [
  | true ↦ pending_weight (rest_of 61 (drop 2 w)) (length w)
  | false ↦ elim (is_chain w) as (λ b. weight_of (cond b (after_letter (drop 1 w)) Nothing) < length w + 2) [ true ↦ omega (arith, letter_weight (first_letter (drop 1 w)) (drop 1 w), length-drop 1 w) | false ↦ omega arith ]
]

-- reading an item leaves less
after_cut-smaller : (o : Option Flag) (t : Untaken) (ws : List (List ℕ)) (cut : Cut) → next_cut (record { option = o; untaken = t; words = ws }) ≡ Ok (Some cut) → weight (after_cut (record { option = o; untaken = t; words = ws })) < weight (record { option = o; untaken = t; words = ws })
after_cut-smaller o (Pending v) ws cut h = cc
after_cut-smaller o (Chain letters) ws cut h =
    elim (starts_with nat_eq letters (codes "=")) as (λ b. cond (is_some (cond b (Some (drop 1 letters)) None)) (Err UnexpectedValue) (Ok (Some (FlagCut (ShortFlag (first_letter letters))))) ≡ Ok (Some cut) → weight (cond (is_some (cond b (Some (drop 1 letters)) None)) (record { option = o; untaken = Nothing; words = ws }) (record { option = Some (ShortFlag (first_letter letters)); untaken = after_letter letters; words = ws })) < (length letters + 1) + words_weight ws)
    [ true ↦ λ e. cc | false ↦ λ e. omega (arith, letter_weight (first_letter letters) letters) ] h
after_cut-smaller o Nothing [] cut h = cc
after_cut-smaller o Nothing (w ∷ ws) cut h = omega (arith, word_weight w)

after_value-le : (value : Option (List ℕ)) (o : Option Flag) (t : Untaken) (ws : List (List ℕ)) → weight (after_value value (record { option = o; untaken = t; words = ws })) ≤ weight (record { option = o; untaken = t; words = ws })
after_value-le None o t ws = omega arith
after_value-le (Some value) o (Pending v) ws = omega arith
after_value-le (Some value) o (Chain letters) ws = omega arith
after_value-le (Some value) o Nothing [] = omega arith
after_value-le (Some value) o Nothing (w ∷ ws) = omega arith

-- where a use was read, P holds for what is left
abbrev Leaves : (LeftArguments → Type 0) → Reading → Type 0
Leaves P (Met u left) = P left
Leaves P End = Unit {0}
Leaves P (Prints print) = Unit {0}
Leaves P (Fails fault) = Unit {0}

-- P still holds for what is left, whatever is taken as a value
abbrev Kept : (LeftArguments → Type 0) → Type 0
Kept P = (l : LeftArguments) → P l → P (after_attached l) × ((value : Option (List ℕ)) → P (after_value value l))

leaves-unknown : (P : LeftArguments → Type 0) (k : Kept P) (flag : Flag) (l : LeftArguments) → P l → Leaves P (unknown_option flag l)
leaves-unknown P k (LongFlag name) l p = (k l p).0
leaves-unknown P k (ShortFlag c) l p = elim ((c == 110) || (c == 113) || (c == 114)) as (λ b. Leaves P (cond b (Met (Unknown (ShortFlag c) None) l) (Met (Unknown (ShortFlag c) (attached_value l.untaken)) (after_attached l)))) [ true ↦ p | false ↦ (k l p).0 ]

leaves-value : (P : LeftArguments → Type 0) (k : Kept P) (o : Opt) (flag : Flag) (v : Option (List ℕ)) (l : LeftArguments) → P l → Leaves P (option_with_value o flag v l)
leaves-value P k o flag (Some v) l p = (k l p).1 (Some v)
leaves-value P k o flag None l p = tt

leaves-names : (P : LeftArguments → Type 0) (flag : Flag) (v : Option (List ℕ)) (r : Reading) → Leaves P r → Leaves P (unless_quote flag v r)
leaves-names P flag (Some v) r p = elim (bytes_eq v (codes "'") || bytes_eq v (codes "\"")) as (λ b. Leaves P (cond b (Fails (LoneQuote flag)) r)) [ true ↦ tt | false ↦ p ]
leaves-names P flag None r p = p

leaves-question : (P : LeftArguments → Type 0) (k : Kept P) (print : Print) (sub : Option (List ℕ)) (flag : Flag) (l : LeftArguments) → P l → Leaves P (print_request print sub flag l)
leaves-question P k print (Some sub) flag l p = leaves-unknown P k flag l p
leaves-question P k print None flag l p = tt

leaves-kind : (P : LeftArguments → Type 0) (k : Kept P) (takes : Kind) (us : List Use) (o : Opt) (flag : Flag) (l : LeftArguments) → P l → Leaves P (by_kind takes us o flag l)
leaves-kind P k kind.Flag us o flag l p = p
leaves-kind P k kind.Value us o flag l p = leaves-value P k o flag (value_of l) l p
leaves-kind P k kind.Names us o flag l p = leaves-names P flag (value_of l) (option_with_value o flag (value_of l) l) (leaves-value P k o flag (value_of l) l p)
leaves-kind P k kind.OptionalNames us o flag l p = leaves-names P flag (optional_of l) (option_with o flag (optional_of l) l) ((k l p).1 (optional_of l))
leaves-kind P k kind.Help us o flag l p = leaves-question P k (help_of flag) (subcommand_of us) flag l p
leaves-kind P k kind.Version us o flag l p = leaves-question P k print.Version (subcommand_of us) flag l p
leaves-kind P k kind.Refused us o flag l p = tt

leaves-known : (P : LeftArguments → Type 0) (k : Kept P) (us : List Use) (o : Opt) (flag : Flag) (l : LeftArguments) → P l → Leaves P (known_option us o flag l)
leaves-known P k us o flag l p = elim ((entry_of o).once && is_given (meaning_of o) us) as (λ b. Leaves P (cond b (Fails (Repeat flag o (subcommand_of us))) (by_kind (entry_of o).kind us o flag l))) [ true ↦ tt | false ↦ leaves-kind P k (entry_of o).kind us o flag l p ]

leaves-other : (P : LeftArguments → Type 0) (k : Kept P) (r s : Option Opt) (us : List Use) (name : List ℕ) (l : LeftArguments) → P l → Leaves P (other r s us name l)
leaves-other P k (Some o) s us name l p = tt
leaves-other P k None (Some o) us name l p = tt
leaves-other P k None None us name l p = leaves-unknown P k (LongFlag name) l p

leaves-table : (P : LeftArguments → Type 0) (k : Kept P) (o : Option Opt) (us : List Use) (flag : Flag) (r : Reading) (l : LeftArguments) → P l → Leaves P r → Leaves P (option_map_or (λ o. known_option us o flag l) o r)
leaves-table P k (Some o) us flag r l p q = leaves-known P k us o flag l p
leaves-table P k None us flag r l p q = q

leaves-cut : (P : LeftArguments → Type 0) (k : Kept P) (us : List Use) (cut : Cut) (l : LeftArguments) → P l → Leaves P (of_cut us cut l)
leaves-cut P k us (FlagCut (LongFlag name)) l p = leaves-table P k (long_option name) us (LongFlag name) (other (removed_of name) (similar_of name) us name l) l p (leaves-other P k (removed_of name) (similar_of name) us name l p)
leaves-cut P k us (FlagCut (ShortFlag c)) l p = leaves-table P k (short_option c) us (ShortFlag c) (unknown_option (ShortFlag c) l) l p (leaves-unknown P k (ShortFlag c) l p)
leaves-cut P k us (ValueCut word) l p = p

refused-no_use : (option : Option Flag) (v : Option (List ℕ)) (u : Use) (l : LeftArguments) → option_map_or (λ p. Fails (Unexpected p.0 p.1)) (option_zip option v) End ≡ Met u l → ⊥
refused-no_use (Some flag) (Some v) u l h = cc
refused-no_use (Some flag) None u l h = cc
refused-no_use None v u l h = cc

-- what holds after each item, and whatever is taken as a value, holds after a use that was read
read-leaves : (P : LeftArguments → Type 0) (k : Kept P) (us : List Use) (l : LeftArguments) (u : Use) (new : LeftArguments) → ((cut : Cut) → next_cut l ≡ Ok (Some cut) → P (after_cut l)) → read_of us l ≡ Met u new → P new
read-leaves P k us l u new behind h = cases (next_cut l) refl
  where
    cases : (r : Result (Option Cut) LexFault) → next_cut l ≡ r → P new
    cases (Ok (Some cut)) e = subst (λ r. Leaves P r) (sym (ap (λ r. of_next r us l) e) ∙ h) (leaves-cut P k us cut (after_cut l) (behind cut e))
    cases (Ok None) e = let none = sym (ap (λ r. of_next r us l) e) ∙ h in cc
    cases (Err fault) e = absurd (refused-no_use l.option (unexpected_of l.untaken) u new (sym (ap (λ r. of_next r us l) e) ∙ h))

-- the measure of what is left is below n
abbrev Below : ℕ → LeftArguments → Type 0
Below n l = weight l < n

kept-below : (n : ℕ) → Kept (Below n)
kept-below n l p = (omega arith, λ value. omega (arith, after_value-le value l.option l.untaken l.words))

-- reading a use leaves less
pub read-smaller : (us : List Use) (l : LeftArguments) (u : Use) (new : LeftArguments) → read_of us l ≡ Met u new → weight new < weight l
read-smaller us l u new h = read-leaves (Below (weight l)) (kept-below (weight l)) us l u new (λ cut e. after_cut-smaller l.option l.untaken l.words cut e) h

-- one more use is read
pub Reads-more : (before us : List Use) (u : Use) (old mid new : LeftArguments) → Reads before old us mid → read_of (before ++ us) mid ≡ Met u new → Reads before old (us ++ u ∷ []) new
Reads-more before [] u old mid new r h = (new, subst (λ (x : LeftArguments). read_of before x ≡ Met u new) r at-end, refl)
  where
    at-end : read_of before mid ≡ Met u new
    at-end = rw append-nil at h
Reads-more before (v ∷ us) u old mid new r h = (r.0, r.1, Reads-more (before ++ v ∷ []) us u r.0 mid new r.2 (rw append_assoc h))
