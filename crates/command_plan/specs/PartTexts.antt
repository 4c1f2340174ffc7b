-- The texts that ask for one part of a file of rows.
use Rattle.std.specs.Prelude.{◌≡◌, ◌==◌, ◌&&◌, ℕ, ◌<◌, ◌≤◌, ◌^◌, Bool, false, List, [], ◌∷◌, codes, not}
use Rattle.std.specs.List.{after_first, before_first}
use Rattle.std.specs.Str.{bytes_eq}
use Rattle.std.specs.Str.Parse.{IsNumeral, digits_value, without_leading_plus}
use Rattle.clap.specs.Words.{Text}

-- the text is this number of 32 bits in decimal digits, perhaps after a plus
pub record IsNumberText (text : Text) (number : ℕ) : Type 0 where
  pub digits : IsNumeral 10 (without_leading_plus text)
  pub value : digits_value 10 (without_leading_plus text) ≡ number
  pub fits : number < 2 ^ 32

-- The text is K/N: the number of a part, from 1, a slash (47), and how many parts there are.
pub record IsPartText (text : Text) (number count : ℕ) : Type 0 where
  pub number_text : IsNumberText (before_first (λ b. b == 47) text) number
  pub count_text : IsNumberText (after_first (λ b. b == 47) text) count
  pub first : 1 ≤ number
  pub last : number ≤ count

-- the text asks for no part
abbrev pub IsNoPart : Text → Type 0
IsNoPart text = (number count : ℕ) → ¬ IsPartText text number count

-- one file is named, and it is not standard input
abbrev pub is_one_file : List Text → Bool
is_one_file [] = false
is_one_file (file ∷ []) = not (bytes_eq file (codes "-"))
is_one_file (file ∷ other ∷ files) = false

-- the rows are the lines of one file
abbrev pub are_lines_of_a_file : Bool → List Text → Bool
are_lines_of_a_file collection files = not collection && is_one_file files
