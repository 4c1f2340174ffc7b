-- The items of a list, each at its index.
use Rattle.std.specs.Prelude.{ℕ, ◌+◌, List, [], ◌∷◌, decimal}
use Rattle.line_filter.specs.declared.judge.Judgment.{Judgment}
use Rattle.line_filter.specs.Kept.{LineClass, Sieve, Items}
use Rattle.line_filter.specs.Lines.{text_of_line}

-- an item and its index, from 0
pub record IndexedItem (X : Type 0) : Type 0 where
  pub index : ℕ
  pub item : X

-- the items at the indexes from this one on
abbrev pub indexed_from : {X : Type 0} → ℕ → List X → List (IndexedItem X)
indexed_from index [] = []
indexed_from index (item ∷ items) = record { index = index; item = item } ∷ indexed_from (index + 1) items

-- what a judge may say of items
abbrev pub ItemJudge : Type 0 → Type 0 → Type 1
ItemJudge X F = X → Judgment F → Type 0

-- what is found of an item is what the judge says of it: none is too long, and none is passed over
abbrev pub IsJudged : {X F : Type 0} → ItemJudge X F → X → LineClass F → Type 0
IsJudged judge item LineClass.too_long = ⊥
IsJudged judge item LineClass.passed_over = ⊥
IsJudged judge item (LineClass.judged judgment) = judge item judgment

-- the index of a kept item is written in decimal, and LF after it
abbrev pub index_sieve : {X F : Type 0} → ItemJudge X F → Sieve (IndexedItem X) F
index_sieve judge = record {
  finds = λ indexed. IsJudged judge indexed.item;
  text_of = λ indexed. text_of_line (decimal indexed.index);
}

-- the items of a list, each at its index; they stand in memory, so each came in whole
abbrev pub indexed_items : {X F : Type 0} → ItemJudge X F → List X → Items (IndexedItem X) F
indexed_items judge items = record {
  all = indexed_from 0 items;
  sieve = index_sieve judge;
  CameWhole = λ before. Unit {0};
}
