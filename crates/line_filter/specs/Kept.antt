-- What is kept of items that are judged one by one, in order, up to the first that is at fault.
use Rattle.std.specs.Prelude.{◌≡◌, ℕ, ◌+◌, List, ◌∷◌, ◌++◌, Bool, true, false, length, map, filter, flat_map, count_by, All, ◌⊎◌}
use Rattle.line_filter.specs.declared.judge.Judgment.{Judgment}
use Rattle.line_filter.specs.declared.run_stop.RunStop.{RunStop}
use Rattle.line_filter.specs.declared.tally.Tally.{Tally}

-- what may be found of an item: that it is too long, or passed over, which both are of lines alone; or a judgment of it
pub data LineClass (F : Type 0) : Type 0 where
  too_long : LineClass F
  passed_over : LineClass F
  judged : Judgment F → LineClass F

-- it is not a fault
abbrev pub IsFaultless : {F : Type 0} → LineClass F → Type 0
IsFaultless LineClass.too_long = ⊥
IsFaultless LineClass.passed_over = Unit {0}
IsFaultless (LineClass.judged Judgment.Kept) = Unit {0}
IsFaultless (LineClass.judged Judgment.LeftOut) = Unit {0}
IsFaultless (LineClass.judged (Judgment.Fault fault)) = ⊥

-- it keeps its item
abbrev pub is_kept : {F : Type 0} → LineClass F → Bool
is_kept (LineClass.judged Judgment.Kept) = true
is_kept _ = false

-- it counts its item as a row
abbrev pub is_row : {F : Type 0} → LineClass F → Bool
is_row (LineClass.judged _) = true
is_row _ = false

-- what may be found of an item, and the text that is written of one that is kept
pub record Sieve (X F : Type 0) : Type 1 where
  pub finds : X → LineClass F → Type 0
  pub text_of : X → List ℕ

-- items in order, their sieve, and which first ones of them came in whole before a device failed
pub record Items (X F : Type 0) : Type 1 where
  pub all : List X
  pub sieve : Sieve X F
  pub CameWhole : List X → Type 0

-- an item and what is found of it
pub record SiftedItem (X F : Type 0) : Type 0 where
  pub item : X
  pub line_class : LineClass F

-- the texts of the kept ones
abbrev pub kept_text : {X F : Type 0} → (X → List ℕ) → List (SiftedItem X F) → List ℕ
kept_text text_of all = flat_map (λ s. text_of s.item) (filter (λ s. is_kept s.line_class) all)

-- None of these items is at fault, the text is that of the kept ones, and the tally counts the rows and the kept ones.
pub record Passes {X F : Type 0} (sieve : Sieve X F) (items : List X) (text : List ℕ) (tally : Tally) : Type 0 where
  pub all : List (SiftedItem X F)
  pub in_order : map (λ s. s.item) all ≡ items
  pub found : All (λ s. sieve.finds s.item s.line_class × IsFaultless s.line_class) all
  pub kept : text ≡ kept_text sieve.text_of all
  pub rows_counted : tally.rows ≡ count_by (λ s. is_row s.line_class) all
  pub kept_counted : tally.kept ≡ count_by (λ s. is_kept s.line_class) all

-- all the items pass
abbrev pub Filters : {X F : Type 0} → Items X F → List ℕ → Tally → Type 0
Filters items text tally = Passes items.sieve items.all text tally

-- The item of this number, from 1, is the first at fault, with this class; the text is that of the kept ones before it.
pub record StopsAt {X F : Type 0} (items : Items X F) (text : List ℕ) (number : ℕ)
    (line_class : LineClass F) : Type 0 where
  pub before : List X
  pub bad : X
  pub after : List X
  pub tally : Tally
  pub whole : items.all ≡ before ++ bad ∷ after
  pub counted : number ≡ length before + 1
  pub passes : Passes items.sieve before text tally
  pub found : items.sieve.finds bad line_class

-- The items before this number came in whole, none is at fault, and the text is that of the kept ones among them.
pub record StopsBefore {X F : Type 0} (items : Items X F) (text : List ℕ) (number : ℕ) : Type 0 where
  pub before : List X
  pub after : List X
  pub tally : Tally
  pub whole : items.all ≡ before ++ after
  pub came_whole : items.CameWhole before
  pub counted : number ≡ length before + 1
  pub passes : Passes items.sieve before text tally

-- An allocation failed for the item of this number; those before it came in whole, none is at fault, and the text is
-- that of the kept ones among them.
pub record StopsOn {X F : Type 0} (items : Items X F) (text : List ℕ) (number : ℕ) : Type 0 where
  pub before : List X
  pub here : X
  pub after : List X
  pub tally : Tally
  pub whole : items.all ≡ before ++ here ∷ after
  pub came_whole : items.CameWhole before
  pub counted : number ≡ length before + 1
  pub passes : Passes items.sieve before text tally

-- The text is a beginning of that of the kept ones among some first items of which none is at fault.
pub record StopsWithin {X F : Type 0} (items : Items X F) (text : List ℕ) : Type 0 where
  pub before : List X
  pub after : List X
  pub tally : Tally
  pub unwritten : List ℕ
  pub whole : items.all ≡ before ++ after
  pub passes : Passes items.sieve before (text ++ unwritten) tally

-- what a stop says of the items and of the text that was written
abbrev pub Stops : {X F : Type 0} → Items X F → List ℕ → RunStop F → Type 0
Stops items text (RunStop.Fault line fault) = StopsAt items text line (LineClass.judged (Judgment.Fault fault))
Stops items text (RunStop.TooLong line) = StopsAt items text line LineClass.too_long
Stops items text (RunStop.Read line) = StopsBefore items text line
Stops items text RunStop.Write = StopsWithin items text
Stops items text (RunStop.Memory line) = StopsBefore items text line

-- that, where it is said too for which item an allocation failed; `Lacks` says of a text and a number that this item
-- did not come
abbrev pub StopsWith : {X F : Type 0} → Items X F → (List ℕ → ℕ → Type 0) → List ℕ → RunStop F → Type 0
StopsWith items Lacks text (RunStop.Fault line fault) = StopsAt items text line
    (LineClass.judged (Judgment.Fault fault))
StopsWith items Lacks text (RunStop.TooLong line) = StopsAt items text line LineClass.too_long
StopsWith items Lacks text (RunStop.Read line) = Lacks text line
StopsWith items Lacks text RunStop.Write = StopsWithin items text
StopsWith items Lacks text (RunStop.Memory line) = Lacks text line ⊎ StopsOn items text line

-- that, of items that stand in memory, of which each comes
abbrev pub StopsHeld : {X F : Type 0} → Items X F → List ℕ → RunStop F → Type 0
StopsHeld items text stop = StopsWith items (λ text line. ⊥) text stop

-- the stop is that of an item, not of a device
abbrev pub IsOfItem : {F : Type 0} → RunStop F → Type 0
IsOfItem (RunStop.Read line) = ⊥
IsOfItem RunStop.Write = ⊥
IsOfItem _ = Unit {0}
