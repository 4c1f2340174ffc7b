-- Texts in lower case (OData URL Conventions 4.01, section 5.1.1.7.2).
use Rattle.std.specs.Prelude.{ℕ, List, encode_utf8_all, map}
use Rattle.std.specs.Char.{to_ascii_lowercase}
use Rattle.std.specs.Str.{chars}

-- the text with its ASCII letters in lower case
abbrev pub in_lower_case : List ℕ → List ℕ
in_lower_case text = encode_utf8_all (map to_ascii_lowercase (chars text))
