-- Lines that stand in memory, of which the kept ones go into a vector.
use Rattle.std.proofs.Common.{◌≡◌, List, [], ◌++◌, ℕ, Some, subst, sym, ◌∙◌, append-nil}
use Rattle.line_filter.specs.Growth.{Grows}
use Rattle.line_filter.specs.private.HeldBack.{WritesBut}

-- nothing is held back
pub grows_whole : (P : List ℕ → Type 0) (old new text : List ℕ) → WritesBut (Some old) (Some new) [] text → P text → Grows old new P
grows_whole P old new text (front, wrote, e) holds = (front, wrote, subst P (e ∙ append-nil front) holds)

pub put_whole : (old new text : List ℕ) → new ≡ old ++ text → WritesBut (Some old) (Some new) [] text
put_whole old new text is = (text, is, sym (append-nil text))
