-- What a table holds, and which of its keys is the first that isn't known.
use Rattle.std.proofs.Common.{◌≡◌, false, List, [], ◌∷◌, map, cond, Option, Some, None, option_map, option_copied, Ok, codes, String, Global, string_bytes, refl, sym, ap, ◌∙◌}
use Rattle.std.specs.Borrow.{Bor}
use Rattle.std.specs.Option.{ok_or, option_map_or}
use Rattle.std.specs.Str.{bytes_eq}
use Rattle.serde_json.specs.Data.{Data, Members}
use Rattle.serde_json.specs.Find.{get_member}
use Rattle.serde_json.specs.View.{view, members_view}
use Rattle.serde_json.specs.declared.value.Value.{Value}
use Rattle.hack_base.specs.FieldReadings.{FieldReading, ◌>>=◌}
use Rattle.hack_base.specs.Names.{Name, names_of}
use Rattle.hack_metadata.specs.FieldResults.{KeepsOtherFields}
use Rattle.hack_metadata.specs.Internal.{FailsAtKey}
use Rattle.hack_metadata.specs.Records.{RulesRecord}
use Rattle.hack_metadata.specs.RuleTables.{LimitsRecord, groups_from, is_rule_key, key_in, names_from, optional_from, other_key, read_known, read_limits}
use Rattle.hack_metadata.specs.declared.metadata.rules.RulesFault.{RulesFault}
use Rattle.hack_metadata.specs.declared.metadata.rules.RulesFault.TheVariants as rule

-- the first name that is no known key
abbrev pub first_other : List Name → Option Name
first_other [] = None
first_other (key ∷ keys) = cond (is_rule_key key) (first_other keys) (Some key)

pub other-keys : (es : List (String Global × Value)) → other_key (members_view es) ≡ first_other (names_of (map (λ e. e.0) es))
other-keys [] = refl
other-keys (e ∷ es) = ap (λ o. cond (is_rule_key (string_bytes e.0)) o (Some (string_bytes e.0))) (other-keys es)

-- what a reference shows is what it refers to
pub shown : (r : Option (Bor Value)) → option_map (λ v. view v.now) r ≡ option_map view (option_copied r)
shown None = refl
shown (Some x) = refl

-- ---- the lists, which are taken out before the other keys are read

-- the readings before the last one succeeded
five : {A B C D E R : Type 0} (ra : FieldReading A) (rb : FieldReading B) (rc : FieldReading C) (rd : FieldReading D) (re : FieldReading E) (f : A → B → C → D → E → FieldReading R) (a : A) (b : B) (c : C) (d : D) (e : E)
    → ra ≡ Ok a → rb ≡ Ok b → rc ≡ Ok c → rd ≡ Ok d → re ≡ Ok e
    → (ra >>= λ x. rb >>= λ y. rc >>= λ z. rd >>= λ v. re >>= λ w. f x y z v w) ≡ f a b c d e
five ra rb rc rd re f a b c d e pa pb pc pd pe = rw (pa, pb, pc, pd, pe) refl

-- a reading fails as the one before it
pub fails-then : {A B : Type 0} (e : RulesFault) (r : FieldReading A) (f : A → FieldReading B) → FailsAtKey e r → FailsAtKey e (r >>= f)
fails-then rule.Memory r f h = tt
fails-then (rule.Key key) r f h = ap (λ x. x >>= f) h

key-same : {A : Type 0} (form : Data → Option A) (absent : A) (key : Name) (a b : Members) → get_member key b ≡ get_member key a → key_in form absent key a ≡ key_in form absent key b
key-same form absent key a b same = ap (λ o. ok_or (option_map_or form o (Some absent)) key) (sym same)

-- a key that is taken out is none of those that are read last
limits-kept : (key : Name) (old new : Members) → KeepsOtherFields key old new → bytes_eq key (codes "exclude-no-default-features") ≡ false → bytes_eq key (codes "exclude-all-features") ≡ false → bytes_eq key (codes "depth") ≡ false → bytes_eq key (codes "strength") ≡ false
    → read_limits old ≡ read_limits new
limits-kept key old new h p q r s =
    rw (h.others (codes "exclude-no-default-features") p, h.others (codes "exclude-all-features") q, h.others (codes "depth") r, h.others (codes "strength") s) refl

-- the lists and what is beside them
abbrev pub rules-of : List Name → List (List Name) → List (List Name) → List (List Name) → Option (List Name) → LimitsRecord → RulesRecord
rules-of excluded exclusive needed grouped optional l = record { exclude_features = excluded; mutually_exclusive_features = exclusive; at_least_one_of = needed; group_features = grouped; optional_deps = optional; exclude_no_default_features = l.no_default; exclude_all_features = l.all_features; depth = l.depth; strength = l.strength }

module _ (m0 m1 m2 m3 m4 m5 : Members) (k0 : KeepsOtherFields (codes "exclude-features") m0 m1) (k1 : KeepsOtherFields (codes "mutually-exclusive-features") m1 m2) (k2 : KeepsOtherFields (codes "at-least-one-of") m2 m3)
    (k3 : KeepsOtherFields (codes "group-features") m3 m4) (k4 : KeepsOtherFields (codes "optional-deps") m4 m5) where
  limits-same : read_limits m0 ≡ read_limits m5
  limits-same =
      limits-kept (codes "exclude-features") m0 m1 k0 refl refl refl refl
      ∙ limits-kept (codes "mutually-exclusive-features") m1 m2 k1 refl refl refl refl
      ∙ limits-kept (codes "at-least-one-of") m2 m3 k2 refl refl refl refl
      ∙ limits-kept (codes "group-features") m3 m4 k3 refl refl refl refl
      ∙ limits-kept (codes "optional-deps") m4 m5 k4 refl refl refl refl

  -- once the lists are read, the rest is what is left
  pub known-then : (excluded : List Name) (exclusive needed grouped : List (List Name)) (optional : Option (List Name))
      → key_in names_from [] (codes "exclude-features") m0 ≡ Ok excluded → key_in groups_from [] (codes "mutually-exclusive-features") m1 ≡ Ok exclusive → key_in groups_from [] (codes "at-least-one-of") m2 ≡ Ok needed
      → key_in groups_from [] (codes "group-features") m3 ≡ Ok grouped → key_in optional_from None (codes "optional-deps") m4 ≡ Ok optional
      → read_known m0 ≡ (read_limits m5 >>= λ l. Ok (rules-of excluded exclusive needed grouped optional l))
  known-then excluded exclusive needed grouped optional v0 v1 v2 v3 v4 =
      let e1 : key_in groups_from [] (codes "mutually-exclusive-features") m0 ≡ Ok exclusive = key-same groups_from [] (codes "mutually-exclusive-features") m0 m1 (k0.others (codes "mutually-exclusive-features") refl) ∙ v1 in
      let e2 : key_in groups_from [] (codes "at-least-one-of") m0 ≡ Ok needed = key-same groups_from [] (codes "at-least-one-of") m0 m2 (k1.others (codes "at-least-one-of") refl ∙ k0.others (codes "at-least-one-of") refl) ∙ v2 in
      let e3 : key_in groups_from [] (codes "group-features") m0 ≡ Ok grouped = key-same groups_from [] (codes "group-features") m0 m3 (k2.others (codes "group-features") refl ∙ k1.others (codes "group-features") refl ∙ k0.others (codes "group-features") refl) ∙ v3 in
      let e4 : key_in optional_from None (codes "optional-deps") m0 ≡ Ok optional = key-same optional_from None (codes "optional-deps") m0 m4 (k3.others (codes "optional-deps") refl ∙ k2.others (codes "optional-deps") refl ∙ k1.others (codes "optional-deps") refl ∙ k0.others (codes "optional-deps") refl) ∙ v4 in
      five (key_in names_from [] (codes "exclude-features") m0) (key_in groups_from [] (codes "mutually-exclusive-features") m0) (key_in groups_from [] (codes "at-least-one-of") m0) (key_in groups_from [] (codes "group-features") m0) (key_in optional_from None (codes "optional-deps") m0)
      (λ a b c d e. read_limits m0 >>= λ l. Ok (rules-of a b c d e l)) excluded exclusive needed grouped optional v0 e1 e2 e3 e4
      ∙ ap (λ r. r >>= λ l. Ok (rules-of excluded exclusive needed grouped optional l)) limits-same
