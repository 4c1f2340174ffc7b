-- What is found of a line, and comes of it, by judges that say the same.
use Rattle.std.proofs.Common.{List, ℕ, Result, inl, inr}
use Rattle.line_filter.specs.LineItems.{LineJudge, IsFoundOf, SaysTheSame}
use Rattle.line_filter.specs.Kept.{LineClass}
use Rattle.line_filter.specs.private.Walk.{ComesOf}
use Rattle.line_filter.specs.declared.run_stop.RunStop.{RunStop}
use Rattle.line_filter.specs.declared.tally.Tally.{Tally}

pub SaysTheSame-refl : {F : Type 0} (judge : LineJudge F) → SaysTheSame judge judge
SaysTheSame-refl judge line judgment = (λ says. says, λ says. says)

pub SaysTheSame-trans : {F : Type 0} (a b c : LineJudge F) → SaysTheSame a b → SaysTheSame b c → SaysTheSame a c
SaysTheSame-trans a b c first second line judgment =
    (λ says. (second line judgment).0 ((first line judgment).0 says), λ says. (first line judgment).1 ((second line judgment).1 says))

IsFoundOf-same : {F : Type 0} (old new : LineJudge F) (line : List ℕ) (line_class : LineClass F) → SaysTheSame old new → IsFoundOf new line line_class → IsFoundOf old line line_class
IsFoundOf-same old new line LineClass.too_long same finds = finds
IsFoundOf-same old new line LineClass.passed_over same finds = finds
IsFoundOf-same old new line (LineClass.judged judgment) same finds = (finds.0, finds.1, (same line judgment).1 finds.2)

pub ComesOf-same : {F : Type 0} (old new : LineJudge F) (line : List ℕ) (number : ℕ) (outcome : Result Tally (RunStop F)) → SaysTheSame old new
    → ComesOf (IsFoundOf new line) number outcome → ComesOf (IsFoundOf old line) number outcome
ComesOf-same old new line number outcome same (inl memory) = inl memory
ComesOf-same old new line number outcome same (inr (line_class, finds, is)) = inr (line_class, IsFoundOf-same old new line line_class same finds, is)
