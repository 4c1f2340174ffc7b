-- For private clauses: where a text is cut, by its bytes.
use Rattle.std.specs.Prelude.{◌≡◌, ℕ, pos, List, ◌++◌, length, take, drop}
use Rattle.std.specs.Str.{chars, IsCharBoundary, IsUtf8}
use Rattle.odata_functions.specs.Texts.{IsPlaceOf}

-- the first occurrence of the part begins at that byte
pub record IsFoundAt (text part : List ℕ) (place : ℕ) : Type 0 where
  pub boundary : IsCharBoundary text place
  pub is_place : IsPlaceOf (chars text) (chars part) (pos (length (chars (take place text))))

-- what stands after so many characters of the text, or after all where it has no more
pub record IsRemaining (text rest : List ℕ) (count : ℕ) : Type 0 where
  pub front : List ℕ
  pub split : text ≡ front ++ rest
  pub rest_utf8 : IsUtf8 rest
  pub front_chars : chars front ≡ take count (chars text)
  pub rest_chars : chars rest ≡ drop count (chars text)

-- so many characters stand before that byte, or all where the text has no more
pub record IsOffset (text : List ℕ) (count offset : ℕ) : Type 0 where
  pub boundary : IsCharBoundary text offset
  pub front_chars : chars (take offset text) ≡ take count (chars text)
  pub rest_chars : chars (drop offset text) ≡ drop count (chars text)
