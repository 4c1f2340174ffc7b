-- Numbers that digits alone write (RFC 8259, section 6).
use Rattle.std.specs.Prelude.{◌≡◌, ℕ, ◌<◌, List, Some}
use Rattle.std.specs.Str.Parse.{digits_value, IsNumeral}
use Rattle.serde_json.specs.Data.{unsigned}
use Rattle.serde_json.specs.Read.{number_of}

-- digits alone, at most 18 of them, write this number, and `serde_json` reads them as that
pub record IsWhole (s : List ℕ) (number : ℕ) : Type 0 where
  pub written : IsNumeral 10 s
  pub value : number ≡ digits_value 10 s
  pub bound : number < 1000000000000000000
  pub read : number_of s ≡ Some (unsigned number)
