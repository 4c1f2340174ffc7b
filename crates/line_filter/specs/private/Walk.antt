-- What a run over items gives, item by item. Private clauses alone cite these.
use Rattle.std.specs.Prelude.{◌≡◌, ℕ, ◌+◌, ◌==◌, ◌⊎◌, List, [], Bool, true, false, Option, MatchResult, Result, Ok, Err}
use Rattle.line_filter.specs.declared.judge.Judgment.{Judgment}
use Rattle.line_filter.specs.declared.line_reader.LineFault.{LineFault}
use Rattle.line_filter.specs.declared.run_stop.RunStop.{RunStop}
use Rattle.line_filter.specs.declared.tally.Tally.{Tally}
use Rattle.line_filter.specs.declared.call_log.CallLog.{CallLog}
use Rattle.line_filter.specs.CallLogs.{StaysWell, FlushesLast, FailsLast}
use Rattle.line_filter.specs.Kept.{LineClass, Items, Filters, StopsWith}
use Rattle.line_filter.specs.LineItems.{LineJudge, lines}
use Rattle.line_filter.specs.LineStreams.{LacksLine}

-- the tallies of items and of those after them, together
abbrev pub sum_of : Tally → Tally → Tally
sum_of a b = record { rows = a.rows + b.rows; kept = a.kept + b.kept }

-- what the item of this number counts, of which this is found, or why the run stops at it
abbrev pub outcome_of : {F : Type 0} → ℕ → LineClass F → Result Tally (RunStop F)
outcome_of number LineClass.too_long = Err (RunStop.TooLong number)
outcome_of number LineClass.passed_over = Ok (record { rows = 0; kept = 0 })
outcome_of number (LineClass.judged Judgment.Kept) = Ok (record { rows = 1; kept = 1 })
outcome_of number (LineClass.judged Judgment.LeftOut) = Ok (record { rows = 1; kept = 0 })
outcome_of number (LineClass.judged (Judgment.Fault fault)) = Err (RunStop.Fault number fault)

-- what comes of the item of this number: that it could not be judged for want of memory, or the outcome of a class that
-- is found of it
abbrev pub ComesOf : {F : Type 0} → (LineClass F → Type 0) → ℕ → Result Tally (RunStop F) → Type 0
ComesOf {F} Finds number outcome = (outcome ≡ Err (RunStop.Memory number))
    ⊎ ((line_class : LineClass F) × Finds line_class × (outcome ≡ outcome_of number line_class))

-- what a run answers where the line of this number does not come
abbrev pub fault_stop : {F : Type 0} → LineFault → ℕ → RunStop F
fault_stop LineFault.TooLong number = RunStop.TooLong number
fault_stop LineFault.Read number = RunStop.Read number
fault_stop LineFault.Memory number = RunStop.Memory number

-- the text of an item that is kept, and nothing of one that is left out
abbrev pub text_where : Bool → List ℕ → List ℕ
text_where true text = text
text_where false text = []

-- the text of an item that counts this: nothing where it is not kept
abbrev pub text_where_kept : Tally → List ℕ → List ℕ
text_where_kept one text = text_where (one.kept == 1) text

-- the stop is reported of no writer
abbrev pub IsUnwritten : {F : Type 0} → RunStop F → Type 0
IsUnwritten RunStop.Write = ⊥
IsUnwritten _ = Unit {0}

-- what a run over the items gives, and the text of the kept ones; `Lacks` is said where an item did not come
abbrev pub GoesWith : {X F : Type 0} → Items X F → (List ℕ → ℕ → Type 0) → List ℕ → Result Tally (RunStop F) → Type 0
GoesWith items Lacks text outcome =
    MatchResult outcome (λ tally. Filters items text tally) (λ stop. StopsWith items Lacks text stop)

-- that, of items that stand in memory
abbrev pub GoesOver : {X F : Type 0} → Items X F → List ℕ → Result Tally (RunStop F) → Type 0
GoesOver items = GoesWith items (λ text line. ⊥)

-- that, of the lines of a reader, of which this waits, and which has that left
abbrev pub GoesOn : {F : Type 0} →
    LineJudge F → List ℕ → List ℕ → Option (List ℕ) → List ℕ → Result Tally (RunStop F) → Type 0
GoesOn judge bytes waiting known = GoesWith (lines judge bytes) (LacksLine judge bytes waiting known)

-- which calls of its writer a run made by its end: one flush where nothing stopped it, and none at a stop
abbrev pub Closes : {F : Type 0} → Result Tally (RunStop F) → Result Tally (RunStop F) → CallLog → CallLog → Type 0
Closes outcome answer old new = MatchResult outcome
    (λ tally. MatchResult answer (λ t. FlushesLast old new) (λ stop. FailsLast old new)) (λ stop. StaysWell old new)

-- what a run answers: the stop at an item, or else the tally, unless the last flush fails
abbrev pub Ends : {F : Type 0} → Result Tally (RunStop F) → Result Tally (RunStop F) → Type 0
Ends outcome answer = MatchResult outcome
    (λ tally. MatchResult answer (λ t. t ≡ tally) (λ stop. stop ≡ RunStop.Write)) (λ stop. answer ≡ Err stop)
