-- The values of texts in an enumeration (OData ABNF Construction Rules 4.01, section 7, `enumValue`).
use Rattle.std.specs.Prelude.{◌≡◌, ◌≢◌, ℕ, ℤ, pos, List, [], ◌∷◌, length, IsTrue, MatchOption, ◌==◌}
use Rattle.std.specs.List.{slice_split}
use Rattle.std.specs.Int.{w64, int_bit_or}
use Rattle.edm_values.specs.IntLiteral.{IntValue}
use Rattle.edm_values.specs.NumberTypes.{IsNumberOf}
use Rattle.edm_enumerations.specs.EnumerationModel.{EnumerationModel, number_in}
use Rattle.edm_enumerations.specs.Spaces.{without_outer_spaces}

-- a comma
abbrev pub comma : ℕ
comma = 44

-- the pieces of a text between its commas
abbrev pub pieces_of : List ℕ → List (List ℕ)
pieces_of text = slice_split (λ c. c == comma) text

-- the number of a name, where some member has it; else that of an Int spelling, if it is of the underlying type
abbrev pub NameOrNumber : EnumerationModel → List ℕ → ℤ → Type 0
NameOrNumber e text n =
    MatchOption (number_in e.members text) (IntValue text n × IsNumberOf e.underlying n) (λ m. m ≡ n)

-- the number of a piece: that of the name or number between its outer spaces; there must be something between them
abbrev pub PieceNumber : EnumerationModel → List ℕ → ℤ → Type 0
PieceNumber e piece n = (without_outer_spaces piece ≢ []) × NameOrNumber e (without_outer_spaces piece) n

-- from a number on, the numbers of pieces are joined bit by bit, in 64-bit two's complement
abbrev pub JoinsTo : EnumerationModel → List (List ℕ) → ℤ → ℤ → Type 0
JoinsTo e [] so_far n = so_far ≡ n
JoinsTo e (piece ∷ pieces) so_far n = (m : ℤ) × PieceNumber e piece m × JoinsTo e pieces (int_bit_or w64 so_far m) n

-- the value of a text: its pieces joined; there is one piece, unless this is an enumeration of flags
pub record EnumerationValue (e : EnumerationModel) (text : List ℕ) (n : ℤ) : Type 0 where
  pub joined : JoinsTo e (pieces_of text) (pos 0) n
  pub one_piece : ¬ IsTrue e.is_flags → length (pieces_of text) ≡ 1
