-- Whether what stands around the items is a collection.
use Rattle.std.specs.Prelude.{ℕ, ◌&&◌, List, ◌++◌, Bool, true, false, Option, None, Some, option_and_then, if◌then◌else◌}
use Rattle.std.specs.Str.{is_utf8}
use Rattle.serde_json.specs.Data.{Data, Items, null, no_items, item}
use Rattle.serde_json.specs.Read.{read}
use Rattle.collection_items.specs.JudgedItems.{array_of}
use Rattle.collection_reader.specs.Pages.{null_text}

-- the array that is the member `value` of the JSON that a text is
unfoldable pub array_in : List ℕ → Option Items
array_in text = if is_utf8 text then option_and_then array_of (read text) else None

abbrev pub is_empty : Option Items → Bool
is_empty (Some no_items) = true
is_empty _ = false

abbrev pub is_null : Data → Bool
is_null null = true
is_null _ = false

-- an item that is the last one is `null`
abbrev pub is_last_null : Items → Data → Bool
is_last_null no_items d = is_null d
is_last_null (item e ds) d = false

abbrev pub is_only_null : Option Items → Bool
is_only_null (Some (item d ds)) = is_last_null ds d
is_only_null _ = false

-- that is an array of no items, or of the one item `null`
abbrev pub has_array : Option Items → Bool → Bool
has_array found true = is_only_null found
has_array found false = is_empty found

-- without items the array is empty, and with the item `null` it has that
abbrev pub is_envelope : List ℕ → List ℕ → Bool
is_envelope front back =
    is_empty (array_in (front ++ back)) && is_only_null (array_in (front ++ (null_text ++ back)))
