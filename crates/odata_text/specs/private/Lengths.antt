-- What the functions that measure pieces answer.
use Rattle.std.specs.Prelude.{ℕ, ◌+◌, ◌<◌, ◌≤◌, ◌==◌, ◌||◌, if◌then◌else◌, List, length, take, fold}
use Rattle.odata_text.specs.declared.quoted.Quoted.{Quoted}
use Rattle.odata_text.specs.declared.quoted.Quoted.TheVariants.{Before, Open, Closed, Over}

-- n is the length of the longest spelling at the front, 0 if there is none
pub record IsReach (IsSpelling : List ℕ → Type 0) (n : ℕ) (rest : List ℕ) : Type 0 where
  pub within : n ≤ length rest
  pub found : 0 < n → IsSpelling (take n rest)
  pub reaches : (m : ℕ) → m ≤ length rest → IsSpelling (take m rest) → m ≤ n

-- the length of two pieces one after the other, 0 if either is missing
abbrev pub both_length : ℕ → ℕ → ℕ
both_length first second = (if (first == 0) || (second == 0) then 0 else first + second)

-- how far a quoted text has come with one byte more
abbrev pub quoted_after : Quoted → ℕ → Quoted
quoted_after Before b = (if b == 39 then Open else Over)
quoted_after Open b = (if b == 39 then Closed else Open)
quoted_after Closed b = (if b == 39 then Open else Over)
quoted_after Over b = Over

abbrev pub quoted_of : List ℕ → Quoted
quoted_of = fold quoted_after Before
