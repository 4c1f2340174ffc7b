-- For private clauses: numbers without a sign and without an exponent, from one offset to the next.
use Rattle.std.specs.Prelude.{◌≡◌, ◌⊎◌, ℕ, ◌+◌, ◌-◌, ◌<◌, ◌≤◌, List, length, take, drop, get_or, IsSome}
use Rattle.json.specs.Print.{IsNumber}
use Rattle.serde_json.specs.Read.{number_of}
use Rattle.json_room.specs.private.Lexemes.{DigitsBetween}

-- from one offset to the other there are a point and digits
pub record IsFractionAt (text : List ℕ) (from to : ℕ) : Type 0 where
  pub bounds : (from + 1 < to) × (to ≤ length text)
  pub point : get_or text from 32 ≡ 46
  pub digits : DigitsBetween text (from + 1) to

-- where digits end at one offset, and perhaps a fraction follows, the number ends at the other
abbrev pub EndsFraction : List ℕ → ℕ → ℕ → Type 0
EndsFraction text from to = (to ≡ from) ⊎ IsFractionAt text from to

-- from one offset to the other there is a number, which has a value as `serde_json` reads it
pub record IsNumberAt (text : List ℕ) (from to : ℕ) : Type 0 where
  pub bounds : (from < to) × (to ≤ length text)
  pub is_number : IsNumber (take (to - from) (drop from text))
  pub has_value : IsSome (number_of (take (to - from) (drop from text)))
