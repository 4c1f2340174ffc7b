-- Which values a test of single values rejects.
use Rattle.std.specs.Prelude.{◌≡◌, ◌≢◌, ◌⊎◌, ◌<ℤ◌, ℤ, pos, neg_ℤ, List, ℕ, false, string_bytes}
use Rattle.std.specs.Str.{chars}
use Rattle.edm_values.specs.Civil.{IsBetween}
use Rattle.edm_values.specs.Val.{Val, boolean, text, whole}
use Rattle.edm_values.specs.declared.sieve.Sieve.{Sieve}
use Rattle.edm_values.specs.declared.sieve.Sieve.TheVariants.{All, True, Within, Besides, Text, BesidesText}

-- a number of 64 bits
abbrev pub IsInt64 : ℤ → Type 0
IsInt64 n = IsBetween (neg_ℤ (pos 9223372036854775808)) (pos 9223372036854775807) n

-- the truth value false; a number below the least or above the greatest, or the one number; a text of other characters,
-- or of the same ones
abbrev pub Rejects : Sieve → Val → Type 0
Rejects All value = ⊥
Rejects True value = value ≡ boolean false
Rejects (Within low high) value = (n : ℤ) × (value ≡ whole n) × IsInt64 n × ((n <ℤ low) ⊎ (high <ℤ n))
Rejects (Besides other) value = value ≡ whole other
Rejects (Text only) value = (s : List ℕ) × (value ≡ text s) × (chars s ≢ chars (string_bytes only))
Rejects (BesidesText other) value = (s : List ℕ) × (value ≡ text s) × (chars s ≡ chars (string_bytes other))
