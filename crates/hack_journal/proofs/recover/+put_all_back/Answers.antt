use Rattle.std.proofs.Common.{◌≡◌, subst, sym, List, ◌∷◌, rules}
use Rattle.std.proofs.lemmas.Result.{on_ok_weaker}
use Rattle.hack_base.specs.Names.{names_of}
use Rattle.hack_files.specs.Files.{KeepsAll, after}
use Rattle.hack_journal.specs.Internal.{AddsChanged, backs}
use Rattle.hack_journal.specs.Journal.{edit_of, edits_of}
use Rattle.hack_journal.specs.SafeFiles.{KeepFirst}
use Rattle.hack_journal.proofs.RecoverLemmas.{adds_step, after_along, on_two, puts_nothing, puts_or_not, puts_then}
use Rattle.hack_journal.specs.declared.journal.Entry.{Entry}
use Rattle.hack_journal.proofs.recover.+put_all_back.Goals as goal

pub returns-in_err-put_back-in-Some-clause-safe : goal.returns-in_err-put_back-in-Some-clause-safe
returns-in_err-put_back-in-Some-clause-safe g t c = λ whole j first keeps.
    let e : c.args.entries.now ≡ c.in-Some.entry.now ∷ c.in-Some.rest.now = search rules in
    let k = subst (λ (l : List Entry). KeepFirst j first (edits_of l)) e keeps in
    puts_or_not j first _ _ _ _ _ _ (c.in_err-put_back-in-Some.ensures.made whole) k.0 k.1

pub returns-in-None-clause-safe : goal.returns-in-None-clause-safe
returns-in-None-clause-safe g t c = λ whole j first keeps. puts_nothing j first _ _

pub returns-in_ok-put_back-in-Some-clause-safe : goal.returns-in_ok-put_back-in-Some-clause-safe
returns-in_ok-put_back-in-Some-clause-safe g t c = λ whole j first keeps.
    let e : c.args.entries.now ≡ c.in-Some.entry.now ∷ c.in-Some.rest.now = search rules in
    let k = subst (λ (l : List Entry). KeepFirst j first (edits_of l)) e keeps in
    puts_then j first _ _ _ _ _ _ (puts_or_not j first _ _ _ _ _ _ (c.in_ok-put_back-in-Some.ensures.made whole) k.0 k.1) (c.put_all_back.ensures.safe whole j first k.3)

pub returns-in_ok-put_back-in-Some-clause-back : goal.returns-in_ok-put_back-in-Some-clause-back
returns-in_ok-put_back-in-Some-clause-back g t c =
    let e : c.args.entries.now ≡ c.in-Some.entry.now ∷ c.in-Some.rest.now = search rules in
    on_ok_weaker c.put_all_back.result (λ back tells.
    subst (λ (l : List Entry). KeepsAll (after (backs (edits_of l)) (g.F.Files.bytes_at c.args.files.now)) (g.F.Files.bytes_at c.put_all_back.new.files)) (sym e)
    (after_along (backs (edits_of c.in-Some.rest.now)) _ (g.F.Files.bytes_at c.put_back.new.files) _ (c.in_ok-put_back-in-Some.ensures.back tells) (back tells))) c.put_all_back.ensures.back

pub returns-in_ok-put_back-in-Some-clause-told : goal.returns-in_ok-put_back-in-Some-clause-told
returns-in_ok-put_back-in-Some-clause-told g t c =
    let e : c.args.entries.now ≡ c.in-Some.entry.now ∷ c.in-Some.rest.now = search rules in
    let bytes = g.F.Files.bytes_at in
    on_two c.put_all_back.result c.put_all_back.ensures.back c.put_all_back.ensures.told (λ tells back told j first keeps.
    let k = subst (λ (l : List Entry). KeepFirst j first (edits_of l)) e keeps in
    subst (λ (l : List Entry). AddsChanged (bytes c.args.files.now) (bytes c.put_all_back.new.files) (edits_of l) (names_of c.args.paths.now.items) (names_of c.put_all_back.new.paths.items)) (sym e)
    (adds_step j first (edit_of c.in-Some.entry.now) (edits_of c.in-Some.rest.now) (bytes c.args.files.now) (bytes c.put_back.new.files) (bytes c.put_all_back.new.files) (names_of c.args.paths.now.items) (names_of c.put_back.new.paths.items) (names_of c.put_all_back.new.paths.items)
    k (c.in_ok-put_back-in-Some.ensures.back tells) back (c.in_ok-put_back-in-Some.ensures.told tells) (told j first k.3)))
