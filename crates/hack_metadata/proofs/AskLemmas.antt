-- Errors of commands, and what follows from them.
use Rattle.std.proofs.Common.{◌≡◌, inl, inr, ℕ, List, [], ◌∷◌, ◌++◌, Some, None, refl, sym, ◌∙◌, ap, subst, true, string_bytes, codes, map, Global, String, ◌<◌, ◌+◌, length, get_or, take}
use Rattle.hack_base.specs.Names.{Name}
use Rattle.hack_process.specs.Calls.{Asked, Call}
use Rattle.hack_process.specs.CommandTexts.{Command}
use Rattle.hack_process.specs.Commands.{asked_of}
use Rattle.hack_process.specs.Faults.{IsFault, IsReadFault}
use Rattle.hack_process.specs.declared.fault.ProcessFault.{ProcessFault}
use Rattle.hack_process.specs.declared.fault.ProcessFault.TheVariants as p
use Rattle.std.specs.Prelude.{MatchOption, Option}
use Rattle.hack_metadata.specs.QuestionCalls.{FailsToRead, ReadsOutput, MinorOf, TellsStableMinor}
use Rattle.hack_metadata.specs.Requests.{version_command, platform_words}
use Rattle.std.proofs.lemmas.List.{take_more, map-append}
use Rattle.std.proofs.lemmas.Grind.{flat_map-append}

-- an error of running a command is also one of reading its output
pub fault-read : (tells : Type 0) (asked : Asked) (shown : Name) (old new : List Call) (e : ProcessFault) → IsFault tells asked shown old new e → IsReadFault tells asked shown old new e
fault-read tells asked shown old new p.Memory h = h
fault-read tells asked shown old new p.EmptyProgram h = h
fault-read tells asked shown old new (p.NeverExecuted text) h = h
fault-read tells asked shown old new (p.Failed failure) h = h
fault-read tells asked shown old new (p.NotText text) h = absurd h

-- a command that wrote no text failed
pub no-text : (tells : Type 0) (c : Command) (shown : Name) (old new : List Call) (e : ProcessFault) (text : String Global) → e ≡ p.NotText text → IsReadFault tells (asked_of true c) shown old new e → tells → FailsToRead c old new
no-text tells c shown old new e text is h t =
    let at : IsReadFault tells (asked_of true c) shown old new (p.NotText text) = subst (λ f. IsReadFault tells (asked_of true c) shown old new f) is h in
    let had = at.2 t in
    inr (had.0, (λ ok. had.1.1 ok.1), had.2)

-- what was read counts as stable's answer
pub told-stable : (tells : Type 0) (rustup : Name) (c : Command) (o : Option (String Global)) (answer : String Global) (text : Name) (minor : ℕ) (old new : List Call)
    → c ≡ version_command rustup → o ≡ Some answer → text ≡ string_bytes answer
    → (tells → MatchOption o (FailsToRead c old new) (λ t. ReadsOutput c (string_bytes t) old new)) → MinorOf text minor → tells → TellsStableMinor rustup minor old new
told-stable tells rustup c o answer text minor old new asks is at h of told =
    let read : ReadsOutput c (string_bytes answer) old new = subst (λ x. MatchOption x (FailsToRead c old new) (λ t. ReadsOutput c (string_bytes t) old new)) is (h told) in
    inl (string_bytes answer, subst (λ k. ReadsOutput k (string_bytes answer) old new) asks read, subst (λ t. MinorOf t minor) at of)

-- where stable's cargo fails, its minor version is taken as 0
pub failed-stable : (tells : Type 0) (rustup : Name) (c : Command) (o : Option (String Global)) (old new : List Call)
    → c ≡ version_command rustup → o ≡ None
    → (tells → MatchOption o (FailsToRead c old new) (λ t. ReadsOutput c (string_bytes t) old new)) → tells → TellsStableMinor rustup 0 old new
failed-stable tells rustup c o old new asks is h told =
    let failed : FailsToRead c old new = subst (λ x. MatchOption x (FailsToRead c old new) (λ t. ReadsOutput c (string_bytes t) old new)) is (h told) in
    inr (subst (λ k. FailsToRead k old new) asks failed, refl)

-- one more platform
pub platforms-more : (xs : List (String Global)) (i : ℕ) (x : String Global) → i < length xs → x ≡ get_or xs i x → platform_words (map string_bytes (take (i + 1) xs)) ≡ platform_words (map string_bytes (take i xs)) ++ (codes "--filter-platform" ∷ string_bytes x ∷ [])
platforms-more xs i x lt is =
    ap (λ l. platform_words (map string_bytes l)) (take_more xs i x lt ∙ ap (λ s. take i xs ++ s ∷ []) (sym is))
    ∙ ap platform_words (map-append string_bytes (take i xs) (x ∷ []))
    ∙ flat_map-append (λ p. codes "--filter-platform" ∷ p ∷ []) (map string_bytes (take i xs)) (string_bytes x ∷ [])
