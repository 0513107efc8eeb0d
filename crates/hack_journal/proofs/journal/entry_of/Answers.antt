use Rattle.std.proofs.Common.{◌≡◌, ◌≢◌, ℕ, List, Option, ap, ◌∙◌, arith, string_bytes}
use Rattle.std.proofs.lemmas.Result.{err_from_is_err_and}
use Rattle.hack_journal.specs.Journal.{edit_of}
use Rattle.hack_journal.proofs.TextLemmas.{tail1, tail2, tail3, tail4, tail5, regroup, entry_is}
use Rattle.hack_journal.proofs.journal.entry_of.Goals as goal

pub returns-in_err-rest-clause-only : goal.returns-in_err-rest-clause-only
returns-in_err-rest-clause-only c = λ e rest utf8 next h.
    let p = err_from_is_err_and c.from_residual.result c.from_residual.ensures.1 in
    rw (p.1, p.2) (c.in_err-rest.ensures.only (tail1 e rest) (h ∙ regroup e rest))

pub returns-in_err-path-clause-only : goal.returns-in_err-path-clause-only
returns-in_err-path-clause-only c = λ e rest utf8 next h.
    let f1 : c.in_ok-rest.rest.now ≡ tail1 e rest = c.in_ok-rest.ensures.only (tail1 e rest) (h ∙ regroup e rest) in
    let n2 : 104 ≢ 32 = omega arith in
    let p = err_from_is_err_and c.from_residual-in_err-path.result c.from_residual-in_err-path.ensures.1 in
    rw (p.1, p.2) (c.in_err-path.ensures.only e.path (tail2 e rest) utf8 n2 f1)

pub returns-in_err-rest-2-clause-only : goal.returns-in_err-rest-2-clause-only
returns-in_err-rest-2-clause-only c = λ e rest utf8 next h.
    let f1 : c.in_ok-rest.rest.now ≡ tail1 e rest = c.in_ok-rest.ensures.only (tail1 e rest) (h ∙ regroup e rest) in
    let n2 : 104 ≢ 32 = omega arith in
    let f2 : ◌≡◌ {A = List ℕ × List ℕ} (string_bytes c.in_ok-path.path, c.in_ok-path.rest.now) (e.path, tail2 e rest) = c.in_ok-path.ensures.only e.path (tail2 e rest) utf8 n2 f1 in
    let p = err_from_is_err_and c.from_residual-in_err-rest-2.result c.from_residual-in_err-rest-2.ensures.1 in
    rw (p.1, p.2) (c.in_err-rest-2.ensures.only (tail3 e rest) (ap (λ x. x.1) f2))

pub returns-in_err-held-clause-only : goal.returns-in_err-held-clause-only
returns-in_err-held-clause-only c = λ e rest utf8 next h.
    let f1 : c.in_ok-rest.rest.now ≡ tail1 e rest = c.in_ok-rest.ensures.only (tail1 e rest) (h ∙ regroup e rest) in
    let n2 : 104 ≢ 32 = omega arith in
    let f2 : ◌≡◌ {A = List ℕ × List ℕ} (string_bytes c.in_ok-path.path, c.in_ok-path.rest.now) (e.path, tail2 e rest) = c.in_ok-path.ensures.only e.path (tail2 e rest) utf8 n2 f1 in
    let f3 : c.in_ok-rest-2.rest.now ≡ tail3 e rest = c.in_ok-rest-2.ensures.only (tail3 e rest) (ap (λ x. x.1) f2) in
    let n4 : 119 ≢ 32 = omega arith in
    let p = err_from_is_err_and c.from_residual-in_err-held.result c.from_residual-in_err-held.ensures.1 in
    rw (p.1, p.2) (c.in_err-held.ensures.only e.held (tail4 e rest) n4 f3)

pub returns-in_err-rest-3-clause-only : goal.returns-in_err-rest-3-clause-only
returns-in_err-rest-3-clause-only c = λ e rest utf8 next h.
    let f1 : c.in_ok-rest.rest.now ≡ tail1 e rest = c.in_ok-rest.ensures.only (tail1 e rest) (h ∙ regroup e rest) in
    let n2 : 104 ≢ 32 = omega arith in
    let f2 : ◌≡◌ {A = List ℕ × List ℕ} (string_bytes c.in_ok-path.path, c.in_ok-path.rest.now) (e.path, tail2 e rest) = c.in_ok-path.ensures.only e.path (tail2 e rest) utf8 n2 f1 in
    let f3 : c.in_ok-rest-2.rest.now ≡ tail3 e rest = c.in_ok-rest-2.ensures.only (tail3 e rest) (ap (λ x. x.1) f2) in
    let n4 : 119 ≢ 32 = omega arith in
    let f4 : ◌≡◌ {A = Option (List ℕ) × List ℕ} ((edit_of record { path = c.in_ok-path.path; held = c.in_ok-held.held; wrote = c.in_ok-held.held }).held, c.in_ok-held.rest.now) (e.held, tail4 e rest) = c.in_ok-held.ensures.only e.held (tail4 e rest) n4 f3 in
    let p = err_from_is_err_and c.from_residual-in_err-rest-3.result c.from_residual-in_err-rest-3.ensures.1 in
    rw (p.1, p.2) (c.in_err-rest-3.ensures.only (tail5 e rest) (ap (λ x. x.1) f4))

pub returns-in_err-wrote-clause-only : goal.returns-in_err-wrote-clause-only
returns-in_err-wrote-clause-only c = λ e rest utf8 next h.
    let f1 : c.in_ok-rest.rest.now ≡ tail1 e rest = c.in_ok-rest.ensures.only (tail1 e rest) (h ∙ regroup e rest) in
    let n2 : 104 ≢ 32 = omega arith in
    let f2 : ◌≡◌ {A = List ℕ × List ℕ} (string_bytes c.in_ok-path.path, c.in_ok-path.rest.now) (e.path, tail2 e rest) = c.in_ok-path.ensures.only e.path (tail2 e rest) utf8 n2 f1 in
    let f3 : c.in_ok-rest-2.rest.now ≡ tail3 e rest = c.in_ok-rest-2.ensures.only (tail3 e rest) (ap (λ x. x.1) f2) in
    let n4 : 119 ≢ 32 = omega arith in
    let f4 : ◌≡◌ {A = Option (List ℕ) × List ℕ} ((edit_of record { path = c.in_ok-path.path; held = c.in_ok-held.held; wrote = c.in_ok-held.held }).held, c.in_ok-held.rest.now) (e.held, tail4 e rest) = c.in_ok-held.ensures.only e.held (tail4 e rest) n4 f3 in
    let f5 : c.in_ok-rest-3.rest.now ≡ tail5 e rest = c.in_ok-rest-3.ensures.only (tail5 e rest) (ap (λ x. x.1) f4) in
    let p = err_from_is_err_and c.from_residual-in_err-wrote.result c.from_residual-in_err-wrote.ensures.1 in
    rw (p.1, p.2) (c.in_err-wrote.ensures.only e.wrote rest next f5)

pub returns-clause-only : goal.returns-clause-only
returns-clause-only c = λ e rest utf8 next h.
    let f1 : c.in_ok-rest.rest.now ≡ tail1 e rest = c.in_ok-rest.ensures.only (tail1 e rest) (h ∙ regroup e rest) in
    let n2 : 104 ≢ 32 = omega arith in
    let f2 : ◌≡◌ {A = List ℕ × List ℕ} (string_bytes c.in_ok-path.path, c.in_ok-path.rest.now) (e.path, tail2 e rest) = c.in_ok-path.ensures.only e.path (tail2 e rest) utf8 n2 f1 in
    let f3 : c.in_ok-rest-2.rest.now ≡ tail3 e rest = c.in_ok-rest-2.ensures.only (tail3 e rest) (ap (λ x. x.1) f2) in
    let n4 : 119 ≢ 32 = omega arith in
    let f4 : ◌≡◌ {A = Option (List ℕ) × List ℕ} ((edit_of record { path = c.in_ok-path.path; held = c.in_ok-held.held; wrote = c.in_ok-held.held }).held, c.in_ok-held.rest.now) (e.held, tail4 e rest) = c.in_ok-held.ensures.only e.held (tail4 e rest) n4 f3 in
    let f5 : c.in_ok-rest-3.rest.now ≡ tail5 e rest = c.in_ok-rest-3.ensures.only (tail5 e rest) (ap (λ x. x.1) f4) in
    let f6 : ◌≡◌ {A = Option (List ℕ) × List ℕ} ((edit_of record { path = c.in_ok-path.path; held = c.in_ok-wrote.wrote; wrote = c.in_ok-wrote.wrote }).wrote, c.in_ok-wrote.rest.now) (e.wrote, rest) = c.in_ok-wrote.ensures.only e.wrote rest next f5 in
    entry_is e _ _ _ _ rest (ap (λ x. x.0) f2) (ap (λ x. x.0) f4) (ap (λ x. x.0) f6) (ap (λ x. x.1) f6)
