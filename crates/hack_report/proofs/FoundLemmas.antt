-- What the lines on searches note.
use Rattle.std.proofs.Common.{◌≡◌, ◌∙◌, ◌+◌, ◌≤◌, ◌++◌, ◌∷◌, [], ℕ, Bool, List, Option, None, Some, ap, append-nil, arith, drop, false, length, refl, subst, sym, true}
use Rattle.std.specs.Prelude.{◌||◌, ◌&&◌, ◌==◌, is_some, not, option_and_then}
use Rattle.std.specs.List.{flat_map, list_any}
use Rattle.std.proofs.lemmas.Bool.{ne_eqb}
use Rattle.std.proofs.lemmas.List.{drop_all}
use Rattle.std.proofs.lemmas.List.Folds.{list_any-append}
use Rattle.hack_base.specs.Names.{Name}
use Rattle.hack_closures.specs.declared.build.Build.{Build}
use Rattle.hack_hunt.specs.declared.hunt.Hunted.{Hunted}
use Rattle.hack_load.specs.Contexts.{ContextRecord}
use Rattle.hack_msrv.specs.declared.found.Found.{Found}
use Rattle.hack_msrv.specs.declared.found.Found.TheVariants.{Untried, Least, Nowhere, Broken}
use Rattle.hack_plan.specs.View.{PlanView}
use Rattle.hack_versions.specs.declared.version.Version.{Version}
use Rattle.hack_report.specs.Conflicts.{candidates_of, conflict_remarks, has_conflict, hunt_remarks, hunted_remarks, is_open, open_remarks, passing_remarks, spot_text, unfinished_remarks}
use Rattle.hack_report.specs.Findings.{found_remarks, is_failing, is_too_low, least_remarks, own_version, package_name, place_version, promise_remarks, remarks_on, some_too_low, version_at}
use Rattle.hack_report.specs.Remarks.{RemarkView, is_error_remark, is_warning_remark}

-- ---- searches for the least version

promise-error : (name : Name) (own : Option Name) (failed : Option Version) → list_any is_error_remark (promise_remarks name own failed) ≡ false
promise-error name None failed = refl
promise-error name (Some own) None = refl
promise-error name (Some own) (Some failed) = refl

promise-warning : (name : Name) (own : Option Name) (failed : Option Version) → list_any is_warning_remark (promise_remarks name own failed) ≡ (is_some own && is_some failed)
promise-warning name None failed = refl
promise-warning name (Some own) None = refl
promise-warning name (Some own) (Some failed) = refl

least-error : (cx : ContextRecord) (plan : PlanView) (name : Name) (least : Option Version) (failed : Option ℕ) → list_any is_error_remark (least_remarks cx plan name least failed) ≡ false
least-error cx plan name None failed = refl
least-error cx plan name (Some least) failed = promise-error name (own_version cx name) (option_and_then (place_version plan) failed)

least-warning : (cx : ContextRecord) (plan : PlanView) (name : Name) (least : Option Version) (failed : Option ℕ)
    → list_any is_warning_remark (least_remarks cx plan name least failed) ≡ (is_some least && (is_some (own_version cx name) && is_some (option_and_then (place_version plan) failed)))
least-warning cx plan name None failed = refl
least-warning cx plan name (Some least) failed = promise-warning name (own_version cx name) (option_and_then (place_version plan) failed)

-- an error is told of a package whose greatest version fails
error-on : (cx : ContextRecord) (plan : PlanView) (name : Name) (f : Found) → list_any is_error_remark (remarks_on cx plan name f) ≡ is_failing f
error-on cx plan name Untried = refl
error-on cx plan name Broken = refl
error-on cx plan name (Nowhere version failed) = refl
error-on cx plan name (Least version failed) = least-error cx plan name (version_at plan version) failed

-- and a warning of one that doesn't keep what it promises
warning-on : (cx : ContextRecord) (plan : PlanView) (name : Name) (f : Found) → list_any is_warning_remark (remarks_on cx plan name f) ≡ is_too_low cx plan name f
warning-on cx plan name Untried = refl
warning-on cx plan name Broken = refl
warning-on cx plan name (Nowhere version failed) = refl
warning-on cx plan name (Least version failed) = least-warning cx plan name (version_at plan version) failed

pub found_errors : (cx : ContextRecord) (plan : PlanView) (member : ℕ) (found : List Found) → list_any is_error_remark (found_remarks cx plan member found) ≡ list_any is_failing found
found_errors cx plan member [] = refl
found_errors cx plan member (f ∷ found) =
    let name = package_name plan member in
    list_any-append is_error_remark (remarks_on cx plan name f) (found_remarks cx plan (member + 1) found)
    ∙ ap (λ (b : Bool). b || list_any is_error_remark (found_remarks cx plan (member + 1) found)) (error-on cx plan name f)
    ∙ ap (λ (b : Bool). is_failing f || b) (found_errors cx plan (member + 1) found)

pub found_warnings : (cx : ContextRecord) (plan : PlanView) (member : ℕ) (found : List Found) → list_any is_warning_remark (found_remarks cx plan member found) ≡ some_too_low cx plan member found
found_warnings cx plan member [] = refl
found_warnings cx plan member (f ∷ found) =
    let name = package_name plan member in
    list_any-append is_warning_remark (remarks_on cx plan name f) (found_remarks cx plan (member + 1) found)
    ∙ ap (λ (b : Bool). b || list_any is_warning_remark (found_remarks cx plan (member + 1) found)) (warning-on cx plan name f)
    ∙ ap (λ (b : Bool). is_too_low cx plan name f || b) (found_warnings cx plan (member + 1) found)

-- no package more
pub found_end : (cx : ContextRecord) (plan : PlanView) (found : List Found) (k : ℕ) (old all : List RemarkView) → length found ≤ k → old ++ found_remarks cx plan k (drop k found) ≡ all → old ≡ all
found_end cx plan found k old all le before = sym (append-nil old) ∙ ap (λ (l : List Found). old ++ found_remarks cx plan k l) (sym (drop_all k found le)) ∙ before

-- ---- searches for conflicts

conflict-error : (spot : List ℕ) (plain : Bool) (candidates : List (List Name)) (sets : List Build) → list_any is_error_remark (conflict_remarks spot plain candidates sets) ≡ not (length sets == 0)
conflict-error spot plain candidates [] = refl
conflict-error spot plain candidates (set ∷ sets) = sym (ap not (ne_eqb (length (set ∷ sets)) 0 (λ none. absurd (omega (arith, none)))))

conflict-warning : (spot : List ℕ) (plain : Bool) (candidates : List (List Name)) (sets : List Build) → list_any is_warning_remark (conflict_remarks spot plain candidates sets) ≡ false
conflict-warning spot plain candidates [] = refl
conflict-warning spot plain candidates (set ∷ sets) = refl

unfinished-error : (spot : List ℕ) (plain : Bool) (candidates : List (List Name)) (set : Option Build) → list_any is_error_remark (unfinished_remarks spot plain candidates set) ≡ is_some set
unfinished-error spot plain candidates None = refl
unfinished-error spot plain candidates (Some set) = refl

unfinished-warning : (spot : List ℕ) (plain : Bool) (candidates : List (List Name)) (set : Option Build) → list_any is_warning_remark (unfinished_remarks spot plain candidates set) ≡ false
unfinished-warning spot plain candidates None = refl
unfinished-warning spot plain candidates (Some set) = refl

passing-error : (verbose : Bool) (spot : List ℕ) (plain : Bool) (candidates : List (List Name)) (h : Hunted) (sets : List Build) → list_any is_error_remark (passing_remarks verbose spot plain candidates h sets) ≡ false
passing-error verbose spot plain candidates h [] = refl
passing-error verbose spot plain candidates h (set ∷ sets) = refl

passing-warning : (verbose : Bool) (spot : List ℕ) (plain : Bool) (candidates : List (List Name)) (h : Hunted) (sets : List Build) → list_any is_warning_remark (passing_remarks verbose spot plain candidates h sets) ≡ false
passing-warning verbose spot plain candidates h [] = refl
passing-warning verbose spot plain candidates h (set ∷ sets) = refl

open-error : (spot : List ℕ) (complete : Bool) → list_any is_error_remark (open_remarks spot complete) ≡ false
open-error spot true = refl
open-error spot false = refl

open-warning : (spot : List ℕ) (complete : Bool) → list_any is_warning_remark (open_remarks spot complete) ≡ not complete
open-warning spot true = refl
open-warning spot false = refl

any-of : (p : RemarkView → Bool) (a b c d : List RemarkView) → list_any p (a ++ (b ++ (c ++ d))) ≡ (list_any p a || (list_any p b || (list_any p c || list_any p d)))
any-of p a b c d =
    list_any-append p a (b ++ (c ++ d)) ∙ ap (λ (x : Bool). list_any p a || x) (list_any-append p b (c ++ d) ∙ ap (λ (x : Bool). list_any p b || x) (list_any-append p c d))

either : (a b c d x y : Bool) → a ≡ x → b ≡ y → c ≡ false → d ≡ false → (a || (b || (c || d))) ≡ (x || y)
either true b c d x y p q r s = subst (λ (z : Bool). true ≡ (z || y)) p refl
either false b c d x y p q r s = subst (λ (z : Bool). (b || (c || d)) ≡ (z || y)) p (go b q)
  where
    go : (b : Bool) → b ≡ y → (b || (c || d)) ≡ y
    go true e = e
    go false e = ap (λ (z : Bool). z || d) r ∙ s ∙ e

last-of : (a b c d x : Bool) → a ≡ false → b ≡ false → c ≡ false → d ≡ x → (a || (b || (c || d))) ≡ x
last-of a b c d x p q r s = rw (p, q, r) s

-- an error is told of a package with a set that fails
pub hunt_error : (verbose : Bool) (plan : PlanView) (h : Hunted) → list_any is_error_remark (hunt_remarks verbose plan h) ≡ has_conflict h
hunt_error verbose plan h =
    let spot = spot_text plan h in
    let plain = h.plain in
    let candidates = candidates_of plan h in
    any-of is_error_remark (conflict_remarks spot plain candidates h.conflicts.items) (unfinished_remarks spot plain candidates h.unfinished) (passing_remarks verbose spot plain candidates h h.passing.items) (open_remarks spot h.complete)
    ∙ either _ _ _ _ _ _ (conflict-error spot plain candidates h.conflicts.items) (unfinished-error spot plain candidates h.unfinished) (passing-error verbose spot plain candidates h h.passing.items) (open-error spot h.complete)

-- and a warning where not all sets are decided
pub hunt_warning : (verbose : Bool) (plan : PlanView) (h : Hunted) → list_any is_warning_remark (hunt_remarks verbose plan h) ≡ is_open h
hunt_warning verbose plan h =
    let spot = spot_text plan h in
    let plain = h.plain in
    let candidates = candidates_of plan h in
    any-of is_warning_remark (conflict_remarks spot plain candidates h.conflicts.items) (unfinished_remarks spot plain candidates h.unfinished) (passing_remarks verbose spot plain candidates h h.passing.items) (open_remarks spot h.complete)
    ∙ last-of _ _ _ _ _ (conflict-warning spot plain candidates h.conflicts.items) (unfinished-warning spot plain candidates h.unfinished) (passing-warning verbose spot plain candidates h h.passing.items) (open-warning spot h.complete)

any-each : {X : Type 0} (p : RemarkView → Bool) (q : X → Bool) (f : X → List RemarkView) → ((x : X) → list_any p (f x) ≡ q x) → (xs : List X) → list_any p (flat_map f xs) ≡ list_any q xs
any-each p q f each [] = refl
any-each p q f each (x ∷ xs) =
    list_any-append p (f x) (flat_map f xs) ∙ ap (λ (b : Bool). b || list_any p (flat_map f xs)) (each x) ∙ ap (λ (b : Bool). q x || b) (any-each p q f each xs)

pub hunted_errors : (verbose : Bool) (plan : PlanView) (found : List Hunted) → list_any is_error_remark (hunted_remarks verbose plan found) ≡ list_any has_conflict found
hunted_errors verbose plan found = any-each is_error_remark has_conflict (hunt_remarks verbose plan) (hunt_error verbose plan) found

pub hunted_warnings : (verbose : Bool) (plan : PlanView) (found : List Hunted) → list_any is_warning_remark (hunted_remarks verbose plan found) ≡ list_any is_open found
hunted_warnings verbose plan found = any-each is_warning_remark is_open (hunt_remarks verbose plan) (hunt_warning verbose plan) found
