-- Where the repository around a folder is.
use Rattle.std.proofs.Common.{◌≡◌, ◌∙◌, ℕ, arith, zero, suc, Bool, true, false, List, ap, refl, subst, sym}
use Rattle.std.specs.Prelude.{Option, Some, None, codes, option_and_then, if◌then◌else◌}
use Rattle.std.specs.Option.{option_or}
use Rattle.hack_base.specs.Names.{Name}
use Rattle.hack_base.specs.PathTexts.{join_of, parent_of}
use Rattle.hack_files.specs.Files.{Contents, KeepsAll}
use Rattle.hack_places.specs.Folders.{above, first_some}
use Rattle.hack_places.specs.Repositories.{RepositoryAt, has_head, is_folder, linked_by, named_at, own_at, own_folder_in, repository_above, repository_in}
use Rattle.hack_places.proofs.LookLemmas.{all_same}

-- `.git` is no repository's own folder
not_own : (held : Contents) (folder git : Name) (has : Bool) → has ≡ false → has ≡ has_head held git → named_at held folder git ≡ own_at held folder git
not_own held folder git has off head = ap (λ (b : Bool). if b then Some git else named_at held folder git) (sym off ∙ head)

-- nor any other folder: what follows from the file, if there is one
own_by_file : (held : Contents) (folder git : Name) (has is : Bool) (file : Option (List ℕ)) → has ≡ false → has ≡ has_head held git → is ≡ false → is ≡ is_folder held git → held git ≡ file
    → option_and_then (linked_by held folder) file ≡ own_at held folder git
own_by_file held folder git has is file off head none own looked =
    ap (option_and_then (linked_by held folder)) (sym looked)
    ∙ ap (λ (b : Bool). if b then None else option_and_then (linked_by held folder) (held git)) (sym none ∙ own)
    ∙ not_own held folder git has off head

-- it is a folder
pub folder_is : (T : Type 0) (first mid : Contents) (folder git : Name) (has is : Bool) → git ≡ join_of folder (codes ".git") → has ≡ false → is ≡ true
    → (T → has ≡ has_head first git) → (T → KeepsAll first mid) → (T → is ≡ is_folder mid git) → T → None ≡ own_folder_in first folder
folder_is T first mid folder git has is at off on head same own t =
    ap (λ (b : Bool). if b then None else option_and_then (linked_by first folder) (first git)) (sym on ∙ subst (λ (m : Contents). is ≡ is_folder m git) (all_same first mid (same t)) (own t))
    ∙ not_own first folder git has off (head t) ∙ ap (own_at first folder) at

-- there is a file, or none
pub file_is : (T : Type 0) (first mid late : Contents) (folder git : Name) (has is : Bool) (file : Option (List ℕ)) → git ≡ join_of folder (codes ".git") → has ≡ false → is ≡ false
    → (T → has ≡ has_head first git) → (T → KeepsAll first mid) → (T → is ≡ is_folder mid git) → (T → KeepsAll mid late) → (T → late git ≡ file)
    → T → option_and_then (linked_by first folder) file ≡ own_folder_in first folder
file_is T first mid late folder git has is file at off none head same own later looked t =
    own_by_file first folder git has is file off (head t) none (subst (λ (m : Contents). is ≡ is_folder m git) (all_same first mid (same t)) (own t))
    (sym (later t git ∙ same t git) ∙ looked t)
    ∙ ap (own_at first folder) at

-- the file was followed
pub linked_is : (T : Type 0) (first mid late last : Contents) (folder git : Name) (has is : Bool) (bytes : List ℕ) (found : Option Name) → git ≡ join_of folder (codes ".git") → has ≡ false → is ≡ false
    → (T → has ≡ has_head first git) → (T → KeepsAll first mid) → (T → is ≡ is_folder mid git) → (T → KeepsAll mid late) → (T → late git ≡ Some bytes) → (T → KeepsAll late last)
    → (T → found ≡ linked_by last folder bytes) → T → found ≡ own_folder_in first folder
linked_is T first mid late last folder git has is bytes found at off none head same own later looked kept followed t =
    subst (λ (m : Contents). found ≡ linked_by m folder bytes) (all_same first last (λ k. kept t k ∙ later t k ∙ same t k)) (followed t)
    ∙ file_is T first mid late folder git has is (Some bytes) at off none head same own later looked t

-- the repository is the nearest folder's
pub above_here : (held : Contents) (steps : ℕ) (folder : Name) (r : RepositoryAt) → ¬ (steps ≡ 0) → Some r ≡ repository_in held folder → Some r ≡ repository_above held steps folder
above_here held zero folder r some e = absurd (some refl)
above_here held (suc n) folder r some e = ap (λ (o : Option RepositoryAt). option_or o (first_some (repository_in held) (above n (parent_of folder)))) e

-- or one of those above it
pub above_further : (held : Contents) (steps n : ℕ) (folder : Name) (found : Option RepositoryAt) → steps ≡ suc n → None ≡ repository_in held folder → found ≡ repository_above held n (parent_of folder) → found ≡ repository_above held steps folder
above_further held zero n folder found is e h = cc
above_further held (suc m) n folder found is e h =
    let same : n ≡ m = omega (arith, is) in
    let step : first_some (repository_in held) (above m (parent_of folder)) ≡ repository_above held (suc m) folder = ap (λ (o : Option RepositoryAt). option_or o (first_some (repository_in held) (above m (parent_of folder)))) e in
    h ∙ ap (λ (k : ℕ). repository_above held k (parent_of folder)) same ∙ step

-- looked for from a folder up, over files of which only looks were taken
pub further_is : (T : Type 0) (first mid : Contents) (steps n : ℕ) (folder up : Name) (found : Option RepositoryAt) → steps ≡ suc n → up ≡ parent_of folder
    → (T → None ≡ repository_in first folder) → (T → KeepsAll first mid) → (T → found ≡ repository_above mid n up) → T → found ≡ repository_above first steps folder
further_is T first mid steps n folder up found is parent none same further t =
    above_further first steps n folder found is (none t)
    (subst (λ (m : Contents). found ≡ repository_above m n (parent_of folder)) (all_same first mid (same t)) (further t ∙ ap (repository_above mid n) parent))
