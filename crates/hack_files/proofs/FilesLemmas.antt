-- Changes, one after another.
use Rattle.std.specs.Prelude.{string_bytes}
use Rattle.std.proofs.Common.{◌≡◌, ◌≢◌, inl, inr, ℕ, ◌+◌, ◌<◌, List, [], ◌∷◌, ◌++◌, refl, sym, ◌∙◌, ap, false, cond, map, take, length, get_or}
use Rattle.std.specs.Str.{bytes_eq}
use Rattle.std.proofs.lemmas.Slice.Eq.{bytes_eq-Decides}
use Rattle.std.proofs.lemmas.Bool.{cases_Bool}
use Rattle.std.proofs.lemmas.List.{take_more, map-append}
use Rattle.hack_files.specs.Files.{Change, Contents, KeepsOthers, Makes, Trace, after, after_change, in_order}
use Rattle.hack_files.specs.TraceLaws.{after_append, none_next, nothing_next}
use Rattle.hack_files.specs.Memory.{change_of, held_after, no_contents}
use Rattle.hack_files.specs.declared.memory.FileChange.{FileChange}

-- what a path holds after a change at it
pub changed_here : (c : Change) (m : Contents) → after_change c m c.path ≡ c.bytes
changed_here c m = ap (λ b. cond b c.bytes (m c.path)) ((bytes_eq-Decides c.path c.path).1 refl)

pub bytes_differ : (p q : List ℕ) → p ≢ q → bytes_eq p q ≡ false
bytes_differ p q ne = elim (cases_Bool (bytes_eq p q)) [ inl e ↦ absurd (ne ((bytes_eq-Decides p q).0 e)) | inr e ↦ e ]

pub changed_other : (c : Change) (m : Contents) (q : List ℕ) → q ≢ c.path → after_change c m q ≡ m q
changed_other c m q ne = ap (λ b. cond b c.bytes (m q)) (bytes_differ c.path q (λ e. ne (sym e)))

-- a list of changes that ends with one more says that just this change was made
pub made : (old new : List Change) (c : Change) (m : Contents) → new ≡ old ++ c ∷ [] → Makes (c ∷ []) (in_order old) (in_order new) (after old m) (after new m)
made old new c m h = record { traced = h; holds = ap (λ cs. after cs m) h ∙ after_append old (c ∷ []) m }

pub makes_here : (old new : Trace) (c : Change) (m n : Contents) → Makes (c ∷ []) old new m n → n c.path ≡ c.bytes
makes_here old new c m n h = ap (λ f. f c.path) h.holds ∙ changed_here c m

pub makes_others : (old new : Trace) (c : Change) (m n : Contents) → Makes (c ∷ []) old new m n → KeepsOthers c.path m n
makes_others old new c m n h q ne = ap (λ f. f q) h.holds ∙ changed_other c m q ne

pub held_more : (steps : List FileChange) (i : ℕ) (step : FileChange) (q : List ℕ) → i < length steps → step ≡ get_or steps i step
    → held_after (take (i + 1) steps) q ≡ cond (bytes_eq (string_bytes step.path) q) (change_of step).bytes (held_after (take i steps) q)
held_more steps i step q lt is =
    ap (λ l. held_after l q) (take_more steps i step lt ∙ ap (λ s. take i steps ++ s ∷ []) (sym is))
    ∙ ap (λ l. after l no_contents q) (map-append change_of (take i steps) (step ∷ []))
    ∙ ap (λ m. m q) (after_append (map change_of (take i steps)) (change_of step ∷ []) no_contents)

-- that calls which only look change nothing
pub ruleset trace_steps = (none_next, nothing_next)
