-- What is kept of lines where those at fault are passed over.
use Rattle.std.specs.Prelude.{◌≡◌, ◌⊎◌, ℕ, List, All, count_by, map}
use Rattle.line_filter.specs.declared.judge.Judgment.{Judgment}
use Rattle.line_filter.specs.declared.tally.Tally.{Tally}
use Rattle.line_filter.specs.Kept.{Items, SiftedItem, is_kept, is_row, kept_text}
use Rattle.line_filter.specs.LineItems.{LineJudge}

-- what may be said of a line where one at fault may be left out
abbrev pub past_faults : {F : Type 0} → LineJudge F → LineJudge F
past_faults {F} judge line Judgment.Kept = judge line Judgment.Kept
past_faults {F} judge line Judgment.LeftOut = judge line Judgment.LeftOut ⊎ ((fault : F) × judge line (Judgment.Fault fault))
past_faults {F} judge line (Judgment.Fault fault) = judge line (Judgment.Fault fault)

-- Each item has a class, be it a fault; the text is that of the kept ones, in their order, and the tally counts the rows,
-- those at fault among them, and the kept ones.
pub record KeepsPastFaults {X F : Type 0} (items : Items X F) (text : List ℕ) (tally : Tally) : Type 0 where
  pub all : List (SiftedItem X F)
  pub in_order : map (λ s. s.item) all ≡ items.all
  pub found : All (λ s. items.sieve.finds s.item s.line_class) all
  pub kept : text ≡ kept_text items.sieve.text_of all
  pub rows_counted : tally.rows ≡ count_by (λ s. is_row s.line_class) all
  pub kept_counted : tally.kept ≡ count_by (λ s. is_kept s.line_class) all
