-- What a run answers, from what was read, judged and written.
use Rattle.std.proofs.Common.{◌≡◌, ℕ, List, [], ◌++◌, Option, None, Some, Result, Ok, Err, sym, subst, append-nil}
use Rattle.std.specs.Prelude.{IfOk, IfErr, IfSome, OnOk, MatchResult}
use Rattle.std.specs.Io.KnownBytes.{Keeps}
use Rattle.std.proofs.KnownBytes.{Appends-kept}
use Rattle.line_filter.specs.Growth.{Writes, WritesFront}
use Rattle.line_filter.specs.Kept.{Items, Filters, StopsWithin, StopsHeld, StopsWith}
use Rattle.line_filter.specs.LineItems.{LineJudge, lines}
use Rattle.line_filter.specs.LineStreams.{LacksLine}
use Rattle.line_filter.specs.private.HeldBack.{WritesBut}
use Rattle.line_filter.specs.private.Walk.{GoesWith, GoesOver, GoesOn, Ends}
use Rattle.line_filter.specs.declared.run_stop.RunStop.{RunStop}
use Rattle.line_filter.specs.declared.tally.Tally.{Tally}
use Rattle.line_filter.proofs.ItemLaws.Stopping.{Passes-within, StopsWith-within}
use Rattle.line_filter.proofs.RunLaws.Lacking.{LacksLine-within}
use Rattle.line_filter.proofs.WriteLaws.HeldBack.{WritesBut-failed}

module _ {X F : Type 0} (items : Items X F) (Lacks : List ℕ → ℕ → Type 0) (short : (text rest : List ℕ) (number : ℕ) → Lacks (text ++ rest) number → StopsWithin items text) where
  -- ---- the end of the kept text is held back, and could not be written whole

  goes_within : (text rest : List ℕ) (outcome : Result Tally (RunStop F)) → GoesWith items Lacks (text ++ rest) outcome → StopsWithin items text
  goes_within text rest (Ok tally) goes = Passes-within items items.all [] text rest tally (sym (append-nil items.all)) goes
  goes_within text rest (Err stop) stops = StopsWith-within items Lacks short text rest stop stops

  pub GoesWith-failed : (outcome : Result Tally (RunStop F)) (a b c : Option (List ℕ)) (held text : List ℕ)
      → WritesBut a b held text → GoesWith items Lacks text outcome → WritesFront b c held → Writes a c (StopsWithin items)
  GoesWith-failed outcome a b c held text holds goes failed =
      let (front, wrote, (rest, e)) = WritesBut-failed a b c held text holds failed in
      (front, wrote, goes_within front rest outcome (subst (λ l. GoesWith items Lacks l outcome) e goes))

  -- no item is at fault, and the last flush may have failed
  closed : (text : List ℕ) (all : Tally) (answer : Result Tally (RunStop F)) → Filters items text all
      → MatchResult answer (λ tally. tally ≡ all) (λ stop. stop ≡ RunStop.Write) → GoesWith items Lacks text answer
  closed text all (Ok tally) filters is = subst (Filters items text) (sym is) filters
  closed text all (Err stop) filters is =
      let within = Passes-within items items.all [] text [] all (sym (append-nil items.all)) (subst (λ l. Filters items l all) (sym (append-nil text)) filters) in
      subst (StopsWith items Lacks text) (sym is) within

  finished : (text : List ℕ) (outcome answer : Result Tally (RunStop F)) → GoesWith items Lacks text outcome → Ends outcome answer → GoesWith items Lacks text answer
  finished text (Ok all) answer goes ends = closed text all answer goes ends
  finished text (Err stop) answer goes ends = subst (GoesWith items Lacks text) (sym ends) goes

  pub all_answered : (u v w : Option (List ℕ)) (outcome answer : Result Tally (RunStop F))
      → Writes u v (λ text. GoesWith items Lacks text outcome) → Keeps v w → Ends outcome answer → Writes u w (λ text. GoesWith items Lacks text answer)
  all_answered u v w outcome answer (text, wrote, goes) kept ends =
      (text, Appends-kept u v w text wrote kept, finished text outcome answer goes ends)

  pub all_answered-ok : (u v w : Option (List ℕ)) (outcome answer : Result Tally (RunStop F))
      → Writes u v (λ text. GoesWith items Lacks text outcome) → Keeps v w → Ends outcome answer → IfOk answer (λ tally. Writes u w (λ text. Filters items text tally))
  all_answered-ok u v w outcome (Ok tally) goes kept ends = all_answered u v w outcome (Ok tally) goes kept ends
  all_answered-ok u v w outcome (Err stop) goes kept ends = tt

  pub all_answered-err : (u v w : Option (List ℕ)) (outcome answer : Result Tally (RunStop F))
      → Writes u v (λ text. GoesWith items Lacks text outcome) → Keeps v w → Ends outcome answer → IfErr answer (λ stop. Writes u w (λ text. StopsWith items Lacks text stop))
  all_answered-err u v w outcome (Ok tally) goes kept ends = tt
  all_answered-err u v w outcome (Err stop) goes kept ends = all_answered u v w outcome (Err stop) goes kept ends

-- ---- items that stand in memory

module _ {X F : Type 0} (items : Items X F) where
  abbrev never : (text rest : List ℕ) (number : ℕ) → ⊥ → StopsWithin items text
  never text rest number lacks = absurd lacks

  pub Goes-failed : (outcome : Result Tally (RunStop F)) (a b c : Option (List ℕ)) (held text : List ℕ)
      → WritesBut a b held text → GoesOver items text outcome → WritesFront b c held → Writes a c (StopsWithin items)
  Goes-failed = GoesWith-failed items (λ text line. ⊥) never

  pub held_answered-ok : (u v w : Option (List ℕ)) (outcome answer : Result Tally (RunStop F))
      → Writes u v (λ text. GoesOver items text outcome) → Keeps v w → Ends outcome answer → IfOk answer (λ tally. Writes u w (λ text. Filters items text tally))
  held_answered-ok = all_answered-ok items (λ text line. ⊥) never

  pub held_answered-err : (u v w : Option (List ℕ)) (outcome answer : Result Tally (RunStop F))
      → Writes u v (λ text. GoesOver items text outcome) → Keeps v w → Ends outcome answer → IfErr answer (λ stop. Writes u w (λ text. StopsHeld items text stop))
  held_answered-err = all_answered-err items (λ text line. ⊥) never

-- ---- bytes that are left of a reader, where they are known

module _ {F : Type 0} (judge : LineJudge F) (waiting : List ℕ) (left : Option (List ℕ)) where
  pub left_answered-ok : (known u v w : Option (List ℕ)) (outcome answer : Result Tally (RunStop F))
      → IfSome known (λ bytes. Writes u v (λ text. GoesOn judge bytes waiting left text outcome)) → Keeps v w → Ends outcome answer
      → IfOk answer (λ tally. IfSome known (λ bytes. Writes u w (λ text. Filters (lines judge bytes) text tally)))
  left_answered-ok None u v w outcome (Ok tally) goes kept ends = tt
  left_answered-ok (Some bytes) u v w outcome (Ok tally) goes kept ends =
      all_answered-ok (lines judge bytes) (LacksLine judge bytes waiting left) (LacksLine-within judge bytes waiting left) u v w outcome (Ok tally) goes kept ends
  left_answered-ok known u v w outcome (Err stop) goes kept ends = tt

  pub left_answered-err : (known u v w : Option (List ℕ)) (outcome answer : Result Tally (RunStop F))
      → IfSome known (λ bytes. Writes u v (λ text. GoesOn judge bytes waiting left text outcome)) → Keeps v w → Ends outcome answer
      → IfErr answer (λ stop. IfSome known (λ bytes. Writes u w (λ text. StopsWith (lines judge bytes) (LacksLine judge bytes waiting left) text stop)))
  left_answered-err known u v w outcome (Ok tally) goes kept ends = tt
  left_answered-err None u v w outcome (Err stop) goes kept ends = tt
  left_answered-err (Some bytes) u v w outcome (Err stop) goes kept ends =
      all_answered-err (lines judge bytes) (LacksLine judge bytes waiting left) (LacksLine-within judge bytes waiting left) u v w outcome (Err stop) goes kept ends

-- ---- where the answer is a tally, no stop came before it

pub Ends-over : {F : Type 0} (P : Type 0) (outcome answer : Result Tally (RunStop F)) → OnOk outcome P → Ends outcome answer → OnOk answer P
Ends-over P (Ok tally) (Ok t) over ends = over
Ends-over P outcome (Err s) over ends = tt
Ends-over P (Err stop) (Ok t) over ends = absurd {A = P} (cc)
