-- Where a run over items stops.
use Rattle.std.proofs.Common.{◌≡◌, ℕ, ◌+◌, List, ◌∷◌, ◌++◌, length, inl, inr, sym, ◌∙◌, subst, append_assoc, Result, Err}
use Rattle.line_filter.specs.Kept.{LineClass, Items, Passes, StopsAt, StopsOn, StopsWithin, StopsWith, IsOfItem}
use Rattle.line_filter.specs.private.Walk.{outcome_of, ComesOf}
use Rattle.line_filter.specs.declared.judge.Judgment.{Judgment}
use Rattle.line_filter.specs.declared.run_stop.RunStop.{RunStop}
use Rattle.line_filter.specs.declared.tally.Tally.{Tally}

-- ---- the outcome of one item

class_stops : {F : Type 0} (number : ℕ) (line_class : LineClass F) (stop : RunStop F) → outcome_of number line_class ≡ Err stop → IsOfItem stop
class_stops number line_class (RunStop.Fault line fault) step = tt
class_stops number line_class (RunStop.TooLong line) step = tt
class_stops number line_class (RunStop.Memory line) step = tt
class_stops number LineClass.too_long (RunStop.Read line) step = absurd cc
class_stops number LineClass.passed_over (RunStop.Read line) step = absurd cc
class_stops number (LineClass.judged Judgment.Kept) (RunStop.Read line) step = absurd cc
class_stops number (LineClass.judged Judgment.LeftOut) (RunStop.Read line) step = absurd cc
class_stops number (LineClass.judged (Judgment.Fault fault)) (RunStop.Read line) step = absurd cc
class_stops number LineClass.too_long RunStop.Write step = absurd cc
class_stops number LineClass.passed_over RunStop.Write step = absurd cc
class_stops number (LineClass.judged Judgment.Kept) RunStop.Write step = absurd cc
class_stops number (LineClass.judged Judgment.LeftOut) RunStop.Write step = absurd cc
class_stops number (LineClass.judged (Judgment.Fault fault)) RunStop.Write step = absurd cc

pub outcome_stops : {F : Type 0} (Finds : LineClass F → Type 0) (number : ℕ) (outcome : Result Tally (RunStop F)) (stop : RunStop F) → ComesOf Finds number outcome → outcome ≡ Err stop → IsOfItem stop
outcome_stops {F} Finds number outcome stop (inl memory) step = let same : RunStop.Memory number ≡ stop = cc in subst (λ (s : RunStop F). IsOfItem s) same tt
outcome_stops Finds number outcome stop (inr (line_class, finds, is)) step = class_stops number line_class stop (sym is ∙ step)

module _ {X F : Type 0} (items : Items X F) (Lacks : List ℕ → ℕ → Type 0) (before after : List X) (item : X) (text : List ℕ) (tally : Tally) (number : ℕ)
    (whole : items.all ≡ before ++ item ∷ after) (passes : Passes items.sieve before text tally) (counted : number ≡ length before + 1) where
  at_item : (line_class : LineClass F) → items.sieve.finds item line_class → StopsAt items text number line_class
  at_item line_class finds = record {
    before = before;
    bad = item;
    after = after;
    tally = tally;
    whole = whole;
    counted = counted;
    passes = passes;
    found = finds;
  }

  Stops-found : (line_class : LineClass F) (stop : RunStop F) → items.sieve.finds item line_class → outcome_of number line_class ≡ Err stop → StopsWith items Lacks text stop
  Stops-found LineClass.too_long stop finds step =
      let same : RunStop.TooLong number ≡ stop = cc in subst (StopsWith items Lacks text) same (at_item LineClass.too_long finds)
  Stops-found LineClass.passed_over stop finds step = absurd cc
  Stops-found (LineClass.judged Judgment.Kept) stop finds step = absurd cc
  Stops-found (LineClass.judged Judgment.LeftOut) stop finds step = absurd cc
  Stops-found (LineClass.judged (Judgment.Fault fault)) stop finds step =
      let same : RunStop.Fault number fault ≡ stop = cc in subst (StopsWith items Lacks text) same (at_item (LineClass.judged (Judgment.Fault fault)) finds)

  -- the items before this one are those that passed
  pub Stops-one : (outcome : Result Tally (RunStop F)) (stop : RunStop F) → items.CameWhole before → ComesOf (items.sieve.finds item) number outcome → outcome ≡ Err stop → StopsWith items Lacks text stop
  Stops-one outcome stop came (inl memory) step =
      let same : RunStop.Memory number ≡ stop = cc in
      subst (StopsWith items Lacks text) same (inr (record {
        before = before;
        here = item;
        after = after;
        tally = tally;
        whole = whole;
        came_whole = came;
        counted = counted;
        passes = passes;
      }))
  Stops-one outcome stop came (inr (line_class, finds, is)) step = Stops-found line_class stop finds (sym is ∙ step)

module _ {X F : Type 0} (items : Items X F) where
  -- ---- of the text that was to be written, a beginning was

  StopsAt-within : (text rest : List ℕ) (number : ℕ) (line_class : LineClass F) → StopsAt items (text ++ rest) number line_class → StopsWithin items text
  StopsAt-within text rest number line_class stop = record {
    before = stop.before;
    after = stop.bad ∷ stop.after;
    tally = stop.tally;
    unwritten = rest;
    whole = stop.whole;
    passes = stop.passes;
  }

  StopsOn-within : (text rest : List ℕ) (number : ℕ) → StopsOn items (text ++ rest) number → StopsWithin items text
  StopsOn-within text rest number stop = record {
    before = stop.before;
    after = stop.here ∷ stop.after;
    tally = stop.tally;
    unwritten = rest;
    whole = stop.whole;
    passes = stop.passes;
  }

  pub Passes-within : (some more : List X) (text rest : List ℕ) (tally : Tally) → items.all ≡ some ++ more → Passes items.sieve some (text ++ rest) tally → StopsWithin items text
  Passes-within some more text rest tally whole passes = record {
    before = some;
    after = more;
    tally = tally;
    unwritten = rest;
    whole = whole;
    passes = passes;
  }

  StopsWithin-within : (text rest : List ℕ) → StopsWithin items (text ++ rest) → StopsWithin items text
  StopsWithin-within text rest stop = record {
    before = stop.before;
    after = stop.after;
    tally = stop.tally;
    unwritten = rest ++ stop.unwritten;
    whole = stop.whole;
    passes = subst (λ l. Passes items.sieve stop.before l stop.tally) (append_assoc text rest stop.unwritten) stop.passes;
  }

  module _ (Lacks : List ℕ → ℕ → Type 0) where
    pub StopsWith-within : ((text rest : List ℕ) (number : ℕ) → Lacks (text ++ rest) number → StopsWithin items text)
        → (text rest : List ℕ) (stop : RunStop F) → StopsWith items Lacks (text ++ rest) stop → StopsWithin items text
    StopsWith-within short text rest (RunStop.Fault line fault) stop = StopsAt-within text rest line _ stop
    StopsWith-within short text rest (RunStop.TooLong line) stop = StopsAt-within text rest line _ stop
    StopsWith-within short text rest (RunStop.Read line) stop = short text rest line stop
    StopsWith-within short text rest RunStop.Write stop = StopsWithin-within text rest stop
    StopsWith-within short text rest (RunStop.Memory line) (inl stop) = short text rest line stop
    StopsWith-within short text rest (RunStop.Memory line) (inr stop) = StopsOn-within text rest line stop
