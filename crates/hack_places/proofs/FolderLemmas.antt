-- What is left of the way up from a folder.
use Rattle.std.proofs.Common.{◌≡◌, ◌∙◌, ℕ, suc, Bool, true, false, List, ap, refl, subst, sym}
use Rattle.std.specs.Borrow.{Bor}
use Rattle.std.proofs.lemmas.Str.{IsUtf8-from_is_utf8, is_utf8-from_IsUtf8}
use Rattle.std.specs.Str.{IsUtf8, is_utf8}
use Rattle.std.specs.Prelude.{Option, Some, None, is_some, option_map, unwrap_or}
use Rattle.std.specs.Option.{option_or}
use Rattle.hack_base.specs.Names.{Name}
use Rattle.hack_base.specs.PathTexts.{join_of, normal_of, parent_of}
use Rattle.hack_files.specs.Files.{Contents, KeepsAll}
use Rattle.hack_places.proofs.LookLemmas.{all_same}
use Rattle.hack_places.specs.Folders.{Saying, Here, Out, At, Nothing, above, bytes_say, first_some, folder_leaving, folder_said, leaving_in, manifest_in, said_in, saying_in, text_in_bytes, text_says, torn_says, with_manifest}

-- ---- to the package's folder

-- that folder, given how many folders are left, from this one up
abbrev pub near_of : Contents → Name → ℕ → Name → Name
near_of held start n folder = unwrap_or (first_some (with_manifest held) (above n folder)) start

found_here : (m : Option (List ℕ)) (folder start : Name) (s : Option Name) → true ≡ is_some m → unwrap_or (option_or (option_map (λ bytes. folder) m) s) start ≡ folder
found_here None folder start s e = cc
found_here (Some bytes) folder start s e = refl

-- it has a manifest
pub near_here : (held : Contents) (start : Name) (n : ℕ) (folder : Name) → true ≡ is_some (manifest_in held folder) → near_of held start (suc n) folder ≡ folder
near_here held start n folder e = found_here (manifest_in held folder) folder start (first_some (with_manifest held) (above n (parent_of folder))) e

found_none : (m : Option (List ℕ)) (folder : Name) → false ≡ is_some m → option_map (λ bytes. folder) m ≡ None
found_none None folder e = refl
found_none (Some bytes) folder e = cc

-- it has none
pub none_with : (held : Contents) (folder : Name) → false ≡ is_some (manifest_in held folder) → with_manifest held folder ≡ None
none_with held folder e = found_none (manifest_in held folder) folder e

pub near_above : (held : Contents) (start : Name) (n : ℕ) (folder : Name) → false ≡ is_some (manifest_in held folder) → near_of held start (suc n) folder ≡ near_of held start n (parent_of folder)
near_above held start n folder e = ap (λ (o : Option Name). unwrap_or (option_or o (first_some (with_manifest held) (above n (parent_of folder)))) start) (none_with held folder e)

-- a folder that was looked at after others
pub near_step : (R : Type 0) (held mid : Contents) (wanted start folder : Name) (n m : ℕ) (there : Bool) → m ≡ suc n → wanted ≡ near_of held start m folder → KeepsAll held mid
    → there ≡ is_some (manifest_in mid folder) → (there ≡ is_some (manifest_in held folder) → wanted ≡ near_of held start (suc n) folder → R) → R
near_step R held mid wanted start folder n m there is left same looked h =
    h (subst (λ (c : Contents). there ≡ is_some (manifest_in c folder)) (all_same held mid same) looked) (subst (λ (k : ℕ). wanted ≡ near_of held start k folder) is left)

-- ---- to the workspace's

-- that folder, given the nearest that leaves the package out so far, and how many folders are left, from
-- this one up
abbrev pub rest_of : Contents → Name → Option Name → ℕ → Name → Name
rest_of held pkg_dir leaving n folder =
    unwrap_or (first_some (said_in held pkg_dir) (above n folder)) (unwrap_or (option_or leaving (first_some (leaving_in held pkg_dir) (above n folder))) pkg_dir)

here : (folder pkg_dir : Name) (said : Saying) (s w leaving : Option Name) → said ≡ Here
    → unwrap_or (option_or (folder_said folder said) s) (unwrap_or (option_or leaving (option_or (folder_leaving folder said) w)) pkg_dir) ≡ folder
here folder pkg_dir said s w leaving e = rw e refl

-- its manifest is the workspace's own
pub rest_here : (held : Contents) (pkg_dir : Name) (leaving : Option Name) (n : ℕ) (folder : Name) → saying_in held pkg_dir folder ≡ Here → rest_of held pkg_dir leaving (suc n) folder ≡ folder
rest_here held pkg_dir leaving n folder e =
    here folder pkg_dir (saying_in held pkg_dir folder) (first_some (said_in held pkg_dir) (above n (parent_of folder))) (first_some (leaving_in held pkg_dir) (above n (parent_of folder))) leaving e

there : (folder pkg_dir path : Name) (said : Saying) (s w leaving : Option Name) → said ≡ At path
    → unwrap_or (option_or (folder_said folder said) s) (unwrap_or (option_or leaving (option_or (folder_leaving folder said) w)) pkg_dir) ≡ normal_of (join_of folder path)
there folder pkg_dir path said s w leaving e = rw e refl

-- its manifest names the workspace's folder
pub rest_there : (held : Contents) (pkg_dir : Name) (leaving : Option Name) (n : ℕ) (folder path : Name) → saying_in held pkg_dir folder ≡ At path
    → rest_of held pkg_dir leaving (suc n) folder ≡ normal_of (join_of folder path)
rest_there held pkg_dir leaving n folder path e =
    there folder pkg_dir path (saying_in held pkg_dir folder) (first_some (said_in held pkg_dir) (above n (parent_of folder))) (first_some (leaving_in held pkg_dir) (above n (parent_of folder))) leaving e

out : (folder pkg_dir : Name) (said : Saying) (s w leaving : Option Name) → said ≡ Out
    → unwrap_or (option_or (folder_said folder said) s) (unwrap_or (option_or leaving (option_or (folder_leaving folder said) w)) pkg_dir)
    ≡ unwrap_or s (unwrap_or (option_or (option_or leaving (Some folder)) w) pkg_dir)
out folder pkg_dir said s w None e = rw e refl
out folder pkg_dir said s w (Some first) e = rw e refl

-- its workspace leaves the package out
pub rest_out : (held : Contents) (pkg_dir : Name) (leaving : Option Name) (n : ℕ) (folder : Name) → saying_in held pkg_dir folder ≡ Out
    → rest_of held pkg_dir leaving (suc n) folder ≡ rest_of held pkg_dir (option_or leaving (Some folder)) n (parent_of folder)
rest_out held pkg_dir leaving n folder e =
    out folder pkg_dir (saying_in held pkg_dir folder) (first_some (said_in held pkg_dir) (above n (parent_of folder))) (first_some (leaving_in held pkg_dir) (above n (parent_of folder))) leaving e

silent : (folder pkg_dir : Name) (said : Saying) (s w leaving : Option Name) → said ≡ Nothing
    → unwrap_or (option_or (folder_said folder said) s) (unwrap_or (option_or leaving (option_or (folder_leaving folder said) w)) pkg_dir) ≡ unwrap_or s (unwrap_or (option_or leaving w) pkg_dir)
silent folder pkg_dir said s w leaving e = rw e refl

-- nothing is said there
pub rest_silent : (held : Contents) (pkg_dir : Name) (leaving : Option Name) (n : ℕ) (folder : Name) → saying_in held pkg_dir folder ≡ Nothing
    → rest_of held pkg_dir leaving (suc n) folder ≡ rest_of held pkg_dir leaving n (parent_of folder)
rest_silent held pkg_dir leaving n folder e =
    silent folder pkg_dir (saying_in held pkg_dir folder) (first_some (said_in held pkg_dir) (above n (parent_of folder))) (first_some (leaving_in held pkg_dir) (above n (parent_of folder))) leaving e

end : (leaving : Option Name) (pkg_dir : Name) → unwrap_or (option_or leaving None) pkg_dir ≡ unwrap_or leaving pkg_dir
end None pkg_dir = refl
end (Some first) pkg_dir = refl

-- no folder is left
pub rest_none : (held : Contents) (pkg_dir : Name) (leaving : Option Name) (folder : Name) → rest_of held pkg_dir leaving 0 folder ≡ unwrap_or leaving pkg_dir
rest_none held pkg_dir leaving folder = end leaving pkg_dir

-- ---- texts

-- bytes that are text
pub text_yes : (bytes : List ℕ) → IsUtf8 bytes → text_in_bytes (Some bytes) ≡ Some bytes
text_yes bytes h = rw (is_utf8-from_IsUtf8 bytes h) refl

-- bytes that are no text
pub text_no : (bytes : List ℕ) → (IsUtf8 bytes → ⊥) → text_in_bytes (Some bytes) ≡ None
text_no bytes h = go (is_utf8 bytes) refl
  where
    go : (b : Bool) → is_utf8 bytes ≡ b → text_in_bytes (Some bytes) ≡ None
    go true e = absurd (h (IsUtf8-from_is_utf8 bytes e))
    go false e = rw e refl

-- bytes that were read as this text
pub text_kept : (m : Option (List ℕ)) (bytes text : List ℕ) → m ≡ Some bytes → text ≡ bytes → IsUtf8 text → Some text ≡ text_in_bytes m
text_kept m bytes text is same utf8 = sym (text_yes text utf8) ∙ ap text_in_bytes (ap Some same ∙ sym is)

-- bytes that could not be
pub text_lost : (m : Option (List ℕ)) (bytes : List ℕ) → m ≡ Some bytes → (IsUtf8 bytes → ⊥) → None ≡ text_in_bytes m
text_lost m bytes is unlike = sym (text_no bytes unlike) ∙ ap text_in_bytes (sym is)

-- a manifest that is text says what its text says
pub say_text : (folder pkg_dir : Name) (bytes text : List ℕ) (said : Saying) → text ≡ bytes → IsUtf8 bytes → said ≡ text_says folder pkg_dir text → said ≡ bytes_say folder pkg_dir bytes
say_text folder pkg_dir bytes text said same utf8 is = is ∙ ap (text_says folder pkg_dir) same ∙ rw (is_utf8-from_IsUtf8 bytes utf8) refl

-- one that isn't says what torn bytes say
pub say_torn : (folder pkg_dir : Name) (bytes : List ℕ) (said : Saying) → (IsUtf8 bytes → ⊥) → said ≡ torn_says bytes → said ≡ bytes_say folder pkg_dir bytes
say_torn folder pkg_dir bytes said unlike is = is ∙ go (is_utf8 bytes) refl
  where
    go : (b : Bool) → is_utf8 bytes ≡ b → torn_says bytes ≡ bytes_say folder pkg_dir bytes
    go true e = absurd (unlike (IsUtf8-from_is_utf8 bytes e))
    go false e = rw e refl

-- ---- one folder looked at

-- what was looked for is as follows from what is said in the folder and from what is left
pub step_is : (R : Type 0) (held mid : Contents) (wanted pkg_dir folder : Name) (leaving : Option Name) (n m : ℕ) (said : Saying) → m ≡ suc n
    → wanted ≡ rest_of held pkg_dir leaving m folder → KeepsAll held mid → said ≡ saying_in mid pkg_dir folder
    → (saying_in held pkg_dir folder ≡ said → wanted ≡ rest_of held pkg_dir leaving (suc n) folder → R) → R
step_is R held mid wanted pkg_dir folder leaving n m said is left same looked h =
    h (sym (subst (λ (c : Contents). said ≡ saying_in c pkg_dir folder) (all_same held mid same) looked)) (subst (λ (k : ℕ). wanted ≡ rest_of held pkg_dir leaving k folder) is left)

-- what is left after a workspace that leaves the package out
pub after_out : (held : Contents) (wanted pkg_dir folder parent : Name) (leaving later : Option Name) (n : ℕ) → later ≡ option_or leaving (Some folder) → parent ≡ parent_of folder
    → saying_in held pkg_dir folder ≡ Out → wanted ≡ rest_of held pkg_dir leaving (suc n) folder → wanted ≡ rest_of held pkg_dir later n parent
after_out held wanted pkg_dir folder parent leaving later n first up s w =
    w ∙ rest_out held pkg_dir leaving n folder s ∙ sym (ap (λ k. rest_of held pkg_dir k n (parent_of folder)) first) ∙ sym (ap (λ p. rest_of held pkg_dir later n p) up)

-- what is left where nothing is said
pub after_silent : (held : Contents) (wanted pkg_dir folder parent : Name) (leaving later : Option Name) (n : ℕ) → later ≡ leaving → parent ≡ parent_of folder
    → saying_in held pkg_dir folder ≡ Nothing → wanted ≡ rest_of held pkg_dir leaving (suc n) folder → wanted ≡ rest_of held pkg_dir later n parent
after_silent held wanted pkg_dir folder parent leaving later n first up s w =
    w ∙ rest_silent held pkg_dir leaving n folder s ∙ sym (ap (λ k. rest_of held pkg_dir k n (parent_of folder)) first) ∙ sym (ap (λ p. rest_of held pkg_dir later n p) up)

-- the nearest folder as the code has it
pub or_now : (leaving : Option (Bor Name)) (folder : Bor Name) → option_map (λ k. k.now) (option_or leaving (Some folder)) ≡ option_or (option_map (λ k. k.now) leaving) (Some folder.now)
or_now None folder = refl
or_now (Some first) folder = refl

pub unwrap_now : (leaving : Option (Bor Name)) (pkg_dir : Bor Name) → (unwrap_or leaving pkg_dir).now ≡ unwrap_or (option_map (λ k. k.now) leaving) pkg_dir.now
unwrap_now None pkg_dir = refl
unwrap_now (Some first) pkg_dir = refl
