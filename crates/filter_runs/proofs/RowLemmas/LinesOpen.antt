-- A stop that reports a line also holds where that line is left open.
use Rattle.std.proofs.Common.{ℕ, List, ◌∷◌, ◌++◌, Option, inl, inr}
use Rattle.line_filter.specs.Kept.{Items, Stops, StopsBefore, StopsHeld, StopsOn, StopsWith}
use Rattle.line_filter.specs.LineItems.{LineJudge, lines}
use Rattle.line_filter.specs.Lines.{lines_of}
use Rattle.line_filter.specs.LineStreams.{LacksLine}
use Rattle.line_filter.specs.declared.run_stop.RunStop.{RunStop}

module _ {X F : Type 0} (items : Items X F) (Lacks : List ℕ → ℕ → Type 0) (before : (text : List ℕ) (number : ℕ) → Lacks text number → StopsBefore items text number) where
  on_before : (text : List ℕ) (number : ℕ) → StopsOn items text number → StopsBefore items text number
  on_before text number stop = record {
    before = stop.before;
    after = stop.here ∷ stop.after;
    tally = stop.tally;
    whole = stop.whole;
    came_whole = stop.came_whole;
    counted = stop.counted;
    passes = stop.passes;
  }

  stops_open : (text : List ℕ) (stop : RunStop F) → StopsWith items Lacks text stop → Stops items text stop
  stops_open text (RunStop.Fault line fault) stop = stop
  stops_open text (RunStop.TooLong line) stop = stop
  stops_open text (RunStop.Read line) stop = before text line stop
  stops_open text RunStop.Write stop = stop
  stops_open text (RunStop.Memory line) (inl stop) = before text line stop
  stops_open text (RunStop.Memory line) (inr stop) = on_before text line stop

pub held_open : {X F : Type 0} (items : Items X F) (text : List ℕ) (stop : RunStop F) → StopsHeld items text stop → Stops items text stop
held_open items = stops_open items (λ text line. ⊥) (λ text number never. absurd never)

module _ {F : Type 0} (judge : LineJudge F) (bytes waiting : List ℕ) (known : Option (List ℕ)) where
  lacks_before : (text : List ℕ) (number : ℕ) → LacksLine judge bytes waiting known text number → StopsBefore (lines judge bytes) text number
  lacks_before text number lacks = record {
    before = lacks.before;
    after = lines_of (waiting ++ lacks.rest);
    tally = lacks.tally;
    whole = lacks.lines;
    came_whole = (waiting ++ lacks.rest, lacks.came);
    counted = lacks.counted;
    passes = lacks.passes;
  }

  pub lines_open : (text : List ℕ) (stop : RunStop F) → StopsWith (lines judge bytes) (LacksLine judge bytes waiting known) text stop → Stops (lines judge bytes) text stop
  lines_open = stops_open (lines judge bytes) (LacksLine judge bytes waiting known) lacks_before
