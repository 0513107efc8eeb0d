-- What the own arguments of a run show, and the names of its features.
use Rattle.std.proofs.Common.{◌≡◌, arith, ℕ, ◌+◌, ◌-◌, ◌<◌, List, [], ◌∷◌, ◌++◌, length, take, get_or, map, refl, ap, sym, ◌∙◌, append_assoc, append-nil, suc, Option, Some, None, Bool, true, false, eqb, not, ◌&&◌, inl, inr, codes, nat_eq, subst}
use Rattle.std.specs.List.{flat_map, join_with_byte, list_all, slice_index_or, starts_with}
use Rattle.std.proofs.Math.Dec.{eqb-suc-zero}
use Rattle.std.proofs.lemmas.Bool.{cases_Bool}
use Rattle.std.proofs.lemmas.Bool.Decides.{Decides-eqb}
use Rattle.std.proofs.lemmas.Grind.{flat_map-append}
use Rattle.std.proofs.lemmas.List.{take_more, flat_map_more}
use Rattle.std.proofs.lemmas.Slice.Eq.{slice_eq-Decides}
use Rattle.hack_base.specs.PathTexts.{stem_of, under_of}
use Rattle.hack_plan.specs.Runs.{PackageRun, Plain, AllFeatures, NoDefaultFeatures, Set, run_of}
use Rattle.hack_plan.specs.declared.runs.Run.{Run}
use Rattle.hack_plan.specs.declared.runs.Run.TheVariants as code
use Rattle.hack_versions.specs.declared.version.Version.{Version}
use Rattle.hack_process.specs.CommandTexts.{spaced_word, each_spaced, is_manifest_path, listed_of, shown_features, shown_trailing, shown_words, with_names}
use Rattle.hack_process.proofs.CommandLemmas.{shown-plain}
use Rattle.hack_plan.specs.Commands.{call_command, rustup_run_words, candidate_names_at, program_of, run_words, target_pair}
use Rattle.hack_process.specs.Commands.{manifest_words}
use Rattle.hack_plan.specs.View.{CallView}
use Rattle.hack_plan.specs.Lines.{shown_manifest, shown_target}
use Rattle.hack_plan.specs.Internal.{folder_behind, before_name, is_still_first, joined_names}

-- the option before a manifest's path
abbrev option : List ℕ
option = codes "--manifest-path"

-- a text has no `/`
abbrev is_plain : List ℕ → Bool
is_plain text = list_all (λ b. not (eqb 47 b)) text

unequal : (a b : Bool) → not a && b ≡ true → a ≡ false
unequal true b e = absurd (cc)
unequal false b e = refl

rest-of : (a b : Bool) → not a && b ≡ true → b ≡ true
rest-of true b e = absurd (cc)
rest-of false b e = e

-- a text without `/` doesn't begin with a folder and a `/`
outside : (dir text : List ℕ) → is_plain text ≡ true → starts_with eqb text (dir ++ codes "/") ≡ false
outside [] [] e = refl
outside [] (b ∷ text) e = ap (λ t. t && true) (unequal (eqb 47 b) (is_plain text) e)
outside (a ∷ dir) [] e = refl
outside (a ∷ dir) (b ∷ text) e =
    let rest = rest-of (eqb 47 b) (is_plain text) e in
    ap (λ t. eqb a b && t) (outside dir text rest) ∙ and-false (eqb a b)
  where
    and-false : (a : Bool) → (a && false) ≡ false
    and-false true = refl
    and-false false = refl

-- so it is shown as it is
under-plain : (dir text : List ℕ) → is_plain text ≡ true → under_of text dir ≡ text
under-plain [] text e = refl
under-plain (b ∷ dir) text e = rw (outside (b ∷ dir) text e) refl

-- what follows `--manifest-path` is taken for its value, and a text without `/` is shown as it is
value-plain : (dir text : List ℕ) (words : List (List ℕ)) → is_plain text ≡ true → each_spaced (shown_words true dir (option ∷ text ∷ words)) ≡ spaced_word option ++ (spaced_word text ++ each_spaced (shown_words true dir words))
value-plain dir text words e = ap (λ (t : List ℕ). spaced_word option ++ (spaced_word t ++ each_spaced (shown_words true dir words))) (under-plain dir text e)

-- `--manifest-path` is that text
is-option : (text : List ℕ) → is_manifest_path text ≡ true → text ≡ option
is-option text t = (slice_eq-Decides Decides-eqb text option _ refl).0 t

-- an argument before one that is neither `--manifest-path` nor has a `/`
before-plain : (dir text word : List ℕ) (words : List (List ℕ)) → is_plain word ≡ true → is_manifest_path word ≡ false → each_spaced (shown_words true dir (text ∷ word ∷ words)) ≡ spaced_word text ++ each_spaced (shown_words true dir (word ∷ words))
before-plain dir text word words e n =
    elim (cases_Bool (is_manifest_path text)) as (λ _. each_spaced (shown_words true dir (text ∷ word ∷ words)) ≡ spaced_word text ++ each_spaced (shown_words true dir (word ∷ words))) [
      | inl t ↦ subst (λ (w : List ℕ). each_spaced (shown_words true dir (w ∷ word ∷ words)) ≡ spaced_word w ++ each_spaced (shown_words true dir (word ∷ words))) (sym (is-option text t))
          (value-plain dir word words e ∙ ap (λ (l : List ℕ). spaced_word option ++ l) (sym (shown-plain true dir word words n)))
      | inr f ↦ shown-plain true dir text (word ∷ words) f
    ]

-- an argument before that of a run
before-run : (dir text : List ℕ) (run : PackageRun) → each_spaced (shown_words true dir (text ∷ run_words run)) ≡ spaced_word text ++ each_spaced (run_words run)
before-run dir text Plain = refl
before-run dir text AllFeatures = before-plain dir text (codes "--all-features") [] refl refl
before-run dir text NoDefaultFeatures = before-plain dir text (codes "--no-default-features") [] refl refl
before-run dir text (Set s) = before-plain dir text (codes "--no-default-features") [] refl refl

-- what follows the targets
after-targets : (dir : List ℕ) (path : Option (List ℕ)) (run : PackageRun) → each_spaced (shown_words true dir (manifest_words path ++ run_words run)) ≡ each_spaced (shown_manifest dir path) ++ each_spaced (run_words run)
after-targets dir None Plain = refl
after-targets dir None AllFeatures = refl
after-targets dir None NoDefaultFeatures = refl
after-targets dir None (Set s) = refl
after-targets dir (Some path) Plain = flat_map-append spaced_word (shown_manifest dir (Some path)) (run_words Plain)
after-targets dir (Some path) AllFeatures = flat_map-append spaced_word (shown_manifest dir (Some path)) (run_words AllFeatures)
after-targets dir (Some path) NoDefaultFeatures = flat_map-append spaced_word (shown_manifest dir (Some path)) (run_words NoDefaultFeatures)
after-targets dir (Some path) (Set s) = flat_map-append spaced_word (shown_manifest dir (Some path)) (run_words (Set s))

-- what follows targets whose last one is `--manifest-path`
after-option : (dir : List ℕ) (path : Option (List ℕ)) (run : PackageRun) → each_spaced (shown_words true dir (option ∷ (manifest_words path ++ run_words run))) ≡ spaced_word option ++ (each_spaced (shown_manifest [] path) ++ each_spaced (run_words run))
after-option dir None run = before-run dir option run
after-option dir (Some path) run =
    value-plain dir option (path ∷ run_words run) refl
    ∙ ap (λ (t : List ℕ). spaced_word option ++ (spaced_word option ++ t)) (before-run dir path run)
    ∙ ap (λ (t : List ℕ). spaced_word option ++ t) (sym (two-more (spaced_word option) (spaced_word path) (each_spaced (run_words run))))
  where
    two-more : (a b c : List ℕ) → (a ++ (b ++ [])) ++ c ≡ a ++ (b ++ c)
    two-more a b c = ap (λ l. (a ++ l) ++ c) (append-nil b) ∙ append_assoc a b c

-- the text after the targets, as they stand
abbrev tail_of : List ℕ → List (List ℕ) → Option (List ℕ) → PackageRun → List ℕ
tail_of dir targets path run = each_spaced (shown_manifest (folder_behind targets dir) path) ++ each_spaced (run_words run)

-- the last target decides alone
tail-more : (dir target other : List ℕ) (targets : List (List ℕ)) (path : Option (List ℕ)) (run : PackageRun) → tail_of dir (other ∷ targets) path run ≡ tail_of dir (target ∷ other ∷ targets) path run
tail-more dir target other targets path run =
    let last : length (target ∷ other ∷ targets) - 1 ≡ suc (length (other ∷ targets) - 1) = omega arith in
    rw last refl

-- a target after its option, and then what is shown of the rest
joined-target : (target more tail : List ℕ) → codes " --target" ++ (spaced_word target ++ (more ++ tail)) ≡ (shown_target target ++ more) ++ tail
joined-target target more tail =
    let grouped : (target ++ more) ++ tail ≡ target ++ (more ++ tail) = append_assoc target more tail in
    ap (λ l. codes " --target " ++ l) (sym grouped)

-- what is shown of a target, without its option, and of what follows
abbrev ShowsTarget : List ℕ → List ℕ → List (List ℕ) → Option (List ℕ) → PackageRun → Type 0
ShowsTarget dir target targets path run =
    each_spaced (shown_words true dir (target ∷ (flat_map target_pair targets ++ (manifest_words path ++ run_words run)))) ≡ spaced_word target ++ (flat_map shown_target targets ++ tail_of dir (target ∷ targets) path run)

-- what is shown of all own arguments
abbrev ShowsOwn : List ℕ → List (List ℕ) → Option (List ℕ) → PackageRun → Type 0
ShowsOwn dir targets path run =
    each_spaced (shown_words true dir (flat_map target_pair targets ++ (manifest_words path ++ run_words run))) ≡ flat_map shown_target targets ++ tail_of dir targets path run

-- a target with its option
with-option : (dir target : List ℕ) (targets : List (List ℕ)) (path : Option (List ℕ)) (run : PackageRun) → ShowsTarget dir target targets path run → ShowsOwn dir (target ∷ targets) path run
with-option dir target targets path run shows =
    ap (λ (t : List ℕ). codes " --target" ++ t) shows ∙ joined-target target (flat_map shown_target targets) (tail_of dir (target ∷ targets) path run)

-- the last target
last-target : (dir target : List ℕ) (path : Option (List ℕ)) (run : PackageRun) → ShowsTarget dir target [] path run
last-target dir target path run =
    elim (cases_Bool (is_manifest_path target)) as (λ _. ShowsTarget dir target [] path run) [
      | inl t ↦ subst (λ (w : List ℕ). ShowsTarget dir w [] path run) (sym (is-option target t)) (after-option dir path run)
      | inr f ↦ shown-plain true dir target (manifest_words path ++ run_words run) f
          ∙ ap (λ (l : List ℕ). spaced_word target ++ l) (after-targets dir path run)
          ∙ ap (λ (folder : List ℕ). spaced_word target ++ (each_spaced (shown_manifest folder path) ++ each_spaced (run_words run))) (folder-plain dir target f)
    ]
  where
    folder-plain : (dir target : List ℕ) → is_manifest_path target ≡ false → dir ≡ folder_behind (target ∷ []) dir
    folder-plain dir target f = rw f refl

each-target : (dir target : List ℕ) (targets : List (List ℕ)) (path : Option (List ℕ)) (run : PackageRun) → ShowsTarget dir target targets path run
each-target dir target [] path run = last-target dir target path run
each-target dir target (other ∷ targets) path run =
    before-plain dir target (codes "--target") (other ∷ (flat_map target_pair targets ++ (manifest_words path ++ run_words run))) refl refl
    ∙ ap (λ (l : List ℕ). spaced_word target ++ l) (with-option dir other targets path run (each-target dir other targets path run))
    ∙ ap (λ (l : List ℕ). spaced_word target ++ (flat_map shown_target (other ∷ targets) ++ l)) (tail-more dir target other targets path run)

pub own-shown : (dir : List ℕ) (targets : List (List ℕ)) (path : Option (List ℕ)) (run : PackageRun) → ShowsOwn dir targets path run
own-shown dir [] path run = after-targets dir path run
own-shown dir (target ∷ targets) path run = with-option dir target targets path run (each-target dir target targets path run)

-- names joined by `,` that come before more names
join-append : (x : List ℕ) (xs : List (List ℕ)) (y : List ℕ) (ys : List (List ℕ)) → join_with_byte 44 (x ∷ xs ++ y ∷ ys) ≡ join_with_byte 44 (x ∷ xs) ++ (44 ∷ join_with_byte 44 (y ∷ ys))
join-append x [] y ys = refl
join-append x (z ∷ xs) y ys = ap (λ l. x ++ (44 ∷ l)) (join-append z xs y ys) ∙ sym (append_assoc x (44 ∷ join_with_byte 44 (z ∷ xs)) (44 ∷ join_with_byte 44 (y ∷ ys)))

-- more names
pub joined-append : (is_first : Bool) (xs ys : List (List ℕ)) → joined_names is_first xs ++ joined_names (is_still_first is_first xs) ys ≡ joined_names is_first (xs ++ ys)
joined-append is_first [] ys = refl
joined-append is_first (x ∷ xs) [] = append-nil (joined_names is_first (x ∷ xs)) ∙ ap (joined_names is_first) (sym (append-nil (x ∷ xs)))
joined-append is_first (x ∷ xs) (y ∷ ys) =
    append_assoc (before_name is_first) (join_with_byte 44 (x ∷ xs)) (44 ∷ join_with_byte 44 (y ∷ ys)) ∙ ap (λ l. before_name is_first ++ l) (sym (join-append x xs y ys))

-- whether the next name is still the first, after more names
pub first-append : (is_first : Bool) (xs ys : List (List ℕ)) → is_still_first (is_still_first is_first xs) ys ≡ is_still_first is_first (xs ++ ys)
first-append is_first [] ys = refl
first-append is_first (x ∷ xs) [] = refl
first-append is_first (x ∷ xs) (y ∷ ys) = refl

-- the next name is still the first where there are no more names
pub still-first : {T : Type 0} (f : T → List ℕ) (is_first : Bool) (xs : List T) (is_empty : Bool) → is_empty ≡ nat_eq (length xs) 0 → (is_first && is_empty) ≡ is_still_first is_first (map f xs)
still-first f true [] is_empty e = e
still-first f false [] is_empty e = refl
still-first f true (x ∷ xs) is_empty e = e ∙ eqb-suc-zero (length xs)
still-first f false (x ∷ xs) is_empty e = refl

-- the names at one more position
pub names-more : (names : List (List ℕ)) (groups : List (List (List ℕ))) (set : List ℕ) (i d : ℕ) → i < length set → (names ++ candidate_names_at groups (take i set)) ++ slice_index_or groups (get_or set i d) [] ≡ names ++ candidate_names_at groups (take (i + 1) set)
names-more names groups set i d lt = flat_map_more (λ p. slice_index_or groups p []) names (take i set) (get_or set i d) ∙ ap (λ l. names ++ candidate_names_at groups l) (sym (take_more set i d lt))

-- the argument of a run doesn't depend on its set
pub run-same : (run : Run) (positions : List ℕ) → run_words (run_of run []) ≡ run_words (run_of run positions)
run-same code.Plain positions = refl
run-same code.AllFeatures positions = refl
run-same code.NoDefaultFeatures positions = refl
run-same code.Features positions = refl

-- the parts of a line, one after another
pub line-joined : (call : CallView) (version : Option Version) (own names : List (List ℕ)) (program passed arguments features trailing : List ℕ)
    → program ≡ stem_of (program_of call version) → passed ≡ each_spaced call.passed → arguments ≡ each_spaced (shown_words true call.dir own) → features ≡ shown_features (with_names None names) → trailing ≡ shown_trailing call.trailing
    → program ++ (each_spaced (rustup_run_words version) ++ (passed ++ (arguments ++ (features ++ trailing)))) ≡ listed_of call.dir (call_command call version own names)
line-joined call version own names program passed arguments features trailing p q r s t =
    let grouped : program ++ each_spaced (rustup_run_words version) ++ passed ++ arguments ++ features ++ trailing ≡ program ++ (each_spaced (rustup_run_words version) ++ (passed ++ (arguments ++ (features ++ trailing)))) = simp append_assoc in
    sym grouped ∙ (λ i. p i ++ each_spaced (rustup_run_words version) ++ q i ++ r i ++ s i ++ t i)
