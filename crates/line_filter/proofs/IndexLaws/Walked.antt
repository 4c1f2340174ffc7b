-- The walk over the items of a list, one index after the other.
use Rattle.std.proofs.Common.{◌≡◌, ℕ, ◌+◌, ◌<◌, ◌==◌, List, ◌++◌, true, get_or, drop, length, decimal, ap, ◌∙◌, subst, Result, Ok, Err}
use Rattle.std.specs.Prelude.{Option}
use Rattle.line_filter.specs.Growth.{Writes, WritesFront}
use Rattle.line_filter.specs.Kept.{StopsWithin, StopsHeld}
use Rattle.line_filter.specs.Lines.{text_of_line}
use Rattle.line_filter.specs.ItemIndexes.{ItemJudge, IsJudged, IndexedItem, indexed_from, indexed_items}
use Rattle.line_filter.specs.private.HeldBack.{WritesBut}
use Rattle.line_filter.specs.private.Walk.{sum_of, ComesOf, text_where_kept}
use Rattle.line_filter.specs.declared.run_stop.RunStop.{RunStop}
use Rattle.line_filter.specs.declared.tally.Tally.{Tally}
use Rattle.line_filter.proofs.ItemLaws.Walked.{HasWalked, HasWalked-more, HasWalked-failed, HasWalked-stopped}
use Rattle.line_filter.proofs.IndexLaws.Indexed.{indexed_next}

module _ {X F : Type 0} (judge : ItemJudge X F) (items : List X) (index passed : ℕ) (item : X) (a b : Option (List ℕ)) (held : List ℕ) (tally : Tally) (outcome : Result Tally (RunStop F))
    (counted : passed ≡ index) (within : index < length items) (is : item ≡ get_or items index item) (comes : ComesOf (IsJudged judge item) (passed + 1) outcome)
    (so_far : HasWalked (indexed_items judge items) (indexed_from index (drop index items)) a b held passed tally) where
  abbrev here : IndexedItem X
  here = record { index = index; item = item }

  abbrev left : ℕ → List (IndexedItem X)
  left k = indexed_from k (drop k items)

  -- the text is that of the index
  reported : (text : List ℕ) → text ≡ decimal passed → text ≡ decimal index
  reported text written = written ∙ ap decimal counted

  pub HasIndexed-more : (one : Tally) (text : List ℕ) (c : Option (List ℕ)) (h : List ℕ) → outcome ≡ Ok one → text ≡ decimal passed → WritesBut b c h (held ++ text_where_kept one (text_of_line text))
      → HasWalked (indexed_items judge items) (left (index + 1)) a c h (passed + 1) (sum_of tally one)
  HasIndexed-more one text c h step written more =
      HasWalked-more (indexed_items judge items) here (left index) (left (index + 1)) a b held passed tally outcome (indexed_next items index item within is) comes so_far one c h step
      (subst (λ t. WritesBut b c h (held ++ text_where_kept one (text_of_line t))) (reported text written) more)

  pub HasIndexed-failed : (one : Tally) (text : List ℕ) (c : Option (List ℕ)) → outcome ≡ Ok one → text ≡ decimal passed → (one.kept == 1) ≡ true → WritesFront b c (held ++ text_of_line text)
      → Writes a c (StopsWithin (indexed_items judge items))
  HasIndexed-failed one text c step written is_kept more =
      HasWalked-failed (indexed_items judge items) here (left index) (left (index + 1)) a b held passed tally outcome (indexed_next items index item within is) comes so_far one c step is_kept
      (subst (λ t. WritesFront b c (held ++ text_of_line t)) (reported text written) more)

  pub HasIndexed-stopped : (stop : RunStop F) → outcome ≡ Err stop → (kept : List ℕ) × WritesBut a b held kept × StopsHeld (indexed_items judge items) kept stop
  HasIndexed-stopped stop =
      HasWalked-stopped (indexed_items judge items) here (left index) (left (index + 1)) a b held passed tally outcome (indexed_next items index item within is) comes so_far (λ text line. ⊥) stop tt
