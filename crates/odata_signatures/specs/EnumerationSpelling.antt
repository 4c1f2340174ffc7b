-- The canonical spelling of an enumeration literal, by the pieces that its value is read from (OData ABNF 4.01,
-- section 7, `enumValue`).
use Rattle.std.specs.Prelude.{◌≡◌, ◌≢◌, ℕ, List, [], ◌∷◌, ◌++◌, map}
use Rattle.std.specs.List.{AllByRecursion}
use Rattle.edm_enumerations.specs.EnumerationValue.{comma, pieces_of}
use Rattle.edm_enumerations.specs.Spaces.{without_outer_spaces}
use Rattle.odata_text.specs.LiteralSpelling.{enumeration_spelling}

-- pieces, with a comma between each two
abbrev pub joined_by_commas : List (List ℕ) → List ℕ
joined_by_commas [] = []
joined_by_commas (piece ∷ []) = piece
joined_by_commas (piece ∷ next ∷ pieces) = piece ++ (comma ∷ joined_by_commas (next ∷ pieces))

-- whatever stands between the quotes (39) after a name, its pieces without their outer spaces stand there in the
-- canonical spelling
abbrev pub SpelledByPieces : Type 0
SpelledByPieces =
    (name text : List ℕ)
    → AllByRecursion (λ c. c ≢ 39) name
    → enumeration_spelling (name ++ (39 ∷ (text ++ 39 ∷ [])))
    ≡ name ++ (39 ∷ (joined_by_commas (map without_outer_spaces (pieces_of text)) ++ 39 ∷ []))
