-- A member's name as it is spelled in a line (RFC 8259, sections 4 and 7).
use Rattle.std.specs.Prelude.{◌≡◌, ◌+◌, ◌<◌, ◌≤◌, ℕ, List, length, get_or}
use Rattle.json.specs.Written.{PlainBetween}
use Rattle.json_room.specs.Keys.{name_with_colon, spaced_name}
use Rattle.json_room.specs.declared.spelled_key.SpelledKey.TheInside.{Inside}

-- Sixteen bytes and a mask by which a word is compared: its bytes, and all bits of each, where it has no more; else bytes
-- that none are under the mask.
pub record IsFront (word front mask : List ℕ) : Type 0 where
  pub bytes : length word ≤ 16 → (k : ℕ) → k < length word → get_or front k 0 ≡ get_or word k 0
  pub bits : length word ≤ 16 → (k : ℕ) → k < length word → get_or mask k 0 ≡ 255
  pub never : 16 < length word → (get_or mask 0 0 ≡ 0) × (get_or front 0 0 ≡ 1)

-- It has these for the name with its quotes and its colon, and for that with a space after it.
pub record IsSpelled (key : Inside) : Type 0 where
  pub plain : PlainBetween key.key 0 (length key.key)
  pub long : key.length ≡ length (name_with_colon key.key)
  pub front : IsFront (name_with_colon key.key) key.front key.mask
  pub spaced_long : key.spaced_length ≡ length (name_with_colon key.key) + 1
  pub spaced : IsFront (spaced_name key.key) key.spaced_front key.spaced_mask
