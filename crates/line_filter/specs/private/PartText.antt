-- The text of the lines that begin in one part of a text. Private clauses alone cite these.
use Rattle.std.specs.Prelude.{ℕ, zero, suc, ◌-◌, ◌==◌, List, [], ◌∷◌, drop, Option, Some, option_map, if◌then◌else◌}
use Rattle.std.specs.Io.BufRead.{drop_through}
use Rattle.line_filter.specs.declared.through_line.ThroughLine.{ThroughLine}

-- the bytes up to the first LF that stands after so many bytes, and that LF; all of them where there is none
abbrev pub through_line : List ℕ → ℕ → List ℕ
through_line [] before = []
through_line (b ∷ bytes) zero = if b == 10 then b ∷ [] else b ∷ through_line bytes zero
through_line (b ∷ bytes) (suc before) = b ∷ through_line bytes before

-- what is left of a reader that ends with a line
abbrev pub left_through : {R : Type 0} → (R → Option (List ℕ)) → ThroughLine R → Option (List ℕ)
left_through remaining through =
    if through.is_over then Some []
    else option_map (λ bytes. through_line bytes through.before) (remaining through.reader)

-- the text of the lines that begin at `from` or after it, and before `to`: it begins after the line that has the byte
-- before `from`, and ends with the line that has the byte before `to`
abbrev pub text_within : (from to : ℕ) → List ℕ → List ℕ
text_within zero zero bytes = []
text_within zero (suc last) bytes = through_line bytes last
text_within (suc start) to bytes = drop_through 10 (through_line (drop start bytes) (to - suc start))
