-- Many bytes of an item at once.
use Rattle.std.specs.Prelude.{◌≡◌, ◌==◌, ◌||◌, ◌+◌, ◌-◌, ℕ, ◌<◌, ◌≤◌, List, Bool, true, false, not, if◌then◌else◌}
use Rattle.collection_reader.specs.declared.item_scan.Phase.{Phase}
use Rattle.collection_reader.specs.declared.nest.Mode.{Mode}
use Rattle.collection_reader.specs.private.ItemText.{Scanned, steps}

abbrev pub mode_of : Bool → Mode
mode_of true = Mode.Text
mode_of false = Mode.Outside

-- a scan within an item of which so many brackets and braces are open
abbrev pub within_item : Scanned → ℕ → Bool → Scanned
within_item s depth in_text = record {
  scan = record {
    phase = Phase.Item;
    nest = record { depth = depth; mode = mode_of in_text };
    name = s.scan.name;
    is_named = s.scan.is_named;
  };
  front = s.front;
  back = s.back;
}

-- the bytes are put as they are, from where so many are open to where so many are
pub record PassesTo (depth : ℕ) (in_text : Bool) (bytes : List ℕ) (later : ℕ) (later_in_text : Bool) : Type 0 where
  pub deep_later : 0 < later
  pub few_later : later ≤ 125
  pub are_put : (s : Scanned) → steps (within_item s depth in_text) bytes
      ≡ record { scanned = within_item s later later_in_text; put = bytes }

-- how many are open after a byte
abbrev pub depth_after : (depth : ℕ) (in_text : Bool) (byte : ℕ) → ℕ
depth_after depth true byte = depth
depth_after depth false byte =
    if byte == 123 || byte == 91 then depth + 1 else if byte == 125 || byte == 93 then depth - 1 else depth

-- a byte is a bracket or a brace
abbrev pub is_bracket : ℕ → Bool
is_bracket byte = byte == 123 || byte == 91 || byte == 125 || byte == 93

-- bytes end in a text after one that no backslash stands before
abbrev pub text_after : (in_text : Bool) (byte : ℕ) → Bool
text_after in_text byte = if byte == 34 then not in_text else in_text

-- a byte is a quote, a bracket or a brace
abbrev pub is_turn : ℕ → Bool
is_turn byte = byte == 34 || is_bracket byte
