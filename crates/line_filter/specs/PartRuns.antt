-- What runs over the parts of a text keep.
use Rattle.std.specs.Prelude.{◌≡◌, ℕ, zero, suc, ◌+◌, List, [], ◌++◌}
use Rattle.line_filter.specs.Kept.{Passes}
use Rattle.line_filter.specs.LineItems.{LineJudge, line_sieve}
use Rattle.line_filter.specs.Parts.{lines_of_part}
use Rattle.line_filter.specs.declared.tally.Tally.{Tally}

-- No line that begins in the parts up to this number is at fault; the text is that of the kept ones, part by part, and
-- the tally counts the rows and the kept ones.
abbrev pub ArePassed : {F : Type 0} → LineJudge F → (number count : ℕ) → List ℕ → List ℕ → Tally → Type 0
ArePassed judge zero count bytes text tally = (text ≡ []) × (tally ≡ record { rows = 0; kept = 0 })
ArePassed judge (suc number) count bytes text tally =
    (front : List ℕ) × (last : List ℕ) × (m : Tally) × (n : Tally) × ArePassed judge number count bytes front m
    × Passes (line_sieve judge) (lines_of_part (suc number) count bytes) last n
    × (text ≡ front ++ last) × (tally ≡ record { rows = m.rows + n.rows; kept = m.kept + n.kept })
