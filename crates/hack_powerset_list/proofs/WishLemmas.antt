-- Arguments, lists and groups, one more at a time.
use Rattle.std.proofs.Common.{◌≡◌, ℕ, ◌+◌, ◌-◌, ◌<◌, ◌≤◌, List, [], ◌∷◌, ◌++◌, length, get_or, take, drop, sym, ◌∙◌, ap, subst, arith, map, Some, String, string_bytes}
use Rattle.std.specs.Borrow.{Bor}
use Rattle.std.specs.Option.{option_and_then}
use Rattle.std.proofs.Math.Seq.{take-length}
use Rattle.std.proofs.lemmas.List.{map-append, take-map, get_or_default}
use Rattle.std.proofs.lemmas.List.Elements.{All-push}
use Rattle.hack_base.specs.Names.{Name, names_of, names_behind}
use Rattle.hack_features.specs.Feature.{group_of, groups_of, IsGroup}
use Rattle.hack_features.specs.declared.feature.Feature.{Feature}
use Rattle.hack_features.specs.declared.feature.Feature.TheVariants.{Normal, Group as Grouped, Path}
use Rattle.hack_base.proofs.Members.{Contains-map}
use Rattle.hack_base.proofs.NameLemmas.{shown-more}
use Rattle.hack_base.specs.Lists.{HasSeparator, group_names}
use Rattle.hack_powerset_list.specs.Words.{Written, with_option_value, with_words, AreGroups, LacksSeparator}

-- an option and its value are taken, before the arguments that are left
pub words-more : {Y : Type 0} (w more : Written) (texts : List (String Y)) (option value : String Y)
    → 2 ≤ length texts → option ≡ get_or texts 0 option → value ≡ get_or texts 1 value → with_option_value w (string_bytes option) (string_bytes value) ≡ Some more
    → with_words w (names_of texts) ≡ with_words more (names_of (take (length texts - 2) (drop 2 texts)))
words-more w more [] option value l e f taken = absurd (omega arith)
words-more w more (x ∷ []) option value l e f taken = absurd (omega arith)
words-more {Y} w more (x ∷ y ∷ texts) option value l e f taken =
    ap (λ (t : String Y). with_words w (string_bytes t ∷ string_bytes y ∷ names_of texts)) (sym e)
    ∙ ap (λ (t : String Y). with_words w (string_bytes option ∷ string_bytes t ∷ names_of texts)) (sym f)
    ∙ ap (option_and_then (λ (m : Written). with_words m (names_of texts))) taken
    ∙ ap (λ (ts : List (String Y)). with_words more (names_of ts)) (sym (take-length texts) ∙ ap (λ (n : ℕ). take n texts) count)
  where
    count : length texts ≡ length (x ∷ y ∷ texts) - 2
    count = omega arith

-- the names of a group are those that it was made of
pub IsGroup-names : (names : List Name) (f : Feature) → IsGroup names f → group_of f ≡ names
IsGroup-names names (Normal name) h = absurd h
IsGroup-names names (Grouped name list) h = h.1
IsGroup-names names (Path name slash) h = absurd h

-- the groups after one more list
pub groups-more : (lists : List (Bor Name)) (k : ℕ) (d : Bor Name) (groups : List Feature) (group : Feature) → k < length lists
    → AreGroups (names_behind (take k lists)) (groups_of groups) → HasSeparator (get_or lists k d).now → group_of group ≡ group_names (get_or lists k d).now
    → AreGroups (names_behind (take (k + 1) lists)) (groups_of (groups ++ group ∷ []))
groups-more lists k d groups group l so_far sep named = subst (λ (texts : List Name). AreGroups texts (groups_of (groups ++ group ∷ []))) (sym more) (record {
  separated = All-push HasSeparator (names_behind (take k lists)) (get_or lists k d).now so_far.separated sep;
  named = map-append group_of groups (group ∷ [])
      ∙ ap (λ (names : List (List Name)). names ++ group_of group ∷ []) so_far.named
      ∙ ap (λ (names : List Name). map group_names (names_behind (take k lists)) ++ names ∷ []) named
      ∙ sym (map-append group_names (names_behind (take k lists)) ((get_or lists k d).now ∷ []));
})
  where
    more : names_behind (take (k + 1) lists) ≡ names_behind (take k lists) ++ (get_or lists k d).now ∷ []
    more = sym (take-map (λ (b : Bor Name). b.now) (k + 1) lists) ∙ shown-more lists k (get_or lists k d) l (get_or_default lists k d (get_or lists k d) l) ∙ ap (λ (t : List Name). t ++ (get_or lists k d).now ∷ []) (take-map (λ (b : Bor Name). b.now) k lists)

-- a list without a separator
pub lacks-here : (lists : List (Bor Name)) (k : ℕ) (d : Bor Name) → k < length lists → ¬ HasSeparator (get_or lists k d).now → LacksSeparator (names_behind lists)
lacks-here lists k d l single = record { list = (get_or lists k d).now; listed = Contains-map (λ (b : Bor Name). b.now) lists (get_or lists k d) (k, l, get_or_default lists k (get_or lists k d) d l); single = single }
