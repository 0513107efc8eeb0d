-- What a field of a JSON object holds, or its name, where it is missing or has the wrong type.
use Rattle.std.specs.Prelude.{Bool, List, [], ◌∷◌, Option, Some, Ok, option_map, option_and_then}
use Rattle.std.specs.Bool.{then_some}
use Rattle.std.specs.Option.{is_none, ok_or, option_transpose}
use Rattle.serde_json.specs.Data.{Data, Items, no_items, item, Members}
use Rattle.serde_json.specs.Find.{get_member, as_null, as_str, as_bool, as_array, as_object}
use Rattle.serde_json.specs.Read.{read as read_text}
use Rattle.hack_base.specs.FieldReadings.{FieldReading, ◌>>=◌}
use Rattle.hack_base.specs.Names.{Name}

-- a field that is a text
abbrev pub string_in : Name → Members → FieldReading Name
string_in key ms = ok_or (option_and_then as_str (get_member key ms)) key

-- what a field holds, where it is a text
abbrev pub text_at : Name → Members → Option Name
text_at key ms = option_and_then as_str (get_member key ms)

-- a field that is a boolean
abbrev pub bool_in : Name → Members → FieldReading Bool
bool_in key ms = ok_or (option_and_then as_bool (get_member key ms)) key

-- a field that is an array
abbrev pub array_in : Name → Members → FieldReading Items
array_in key ms = ok_or (option_and_then as_array (get_member key ms)) key

-- a field that is an object
abbrev pub object_in : Name → Members → FieldReading Members
object_in key ms = ok_or (option_and_then as_object (get_member key ms)) key

-- a field that may be null, and then is none
abbrev pub nullable_in : Name → Members → FieldReading (Option Data)
nullable_in key ms =
    ok_or (option_map (λ d. then_some (is_none (as_null d)) d) (get_member key ms)) key

-- a field that is a text or null
abbrev pub optional_text_in : Name → Members → FieldReading (Option Name)
optional_text_in key ms =
    nullable_in key ms >>= λ o. option_transpose (option_map (λ d. ok_or (as_str d) key) o)

-- each item as f reads it, in order
abbrev pub read_all : {A : Type 0} → (Data → FieldReading A) → Items → FieldReading (List A)
read_all f no_items = Ok []
read_all f (item d ds) = f d >>= λ x. read_all f ds >>= λ xs. Ok (x ∷ xs)

-- the texts of items, none where one of them is no text
abbrev pub texts_of_items : Items → Option (List Name)
texts_of_items no_items = Some []
texts_of_items (item d ds) = option_and_then (λ text. option_map (λ texts. text ∷ texts) (texts_of_items ds)) (as_str d)

-- the JSON object that a text is
abbrev pub object_in_text : Name → Option Members
object_in_text text = option_and_then as_object (read_text text)
