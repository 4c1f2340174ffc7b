-- What can be said of an item once only.
use Rattle.std.specs.Prelude.{◌≡◌, ℕ, List}
use Rattle.line_filter.specs.declared.judge.Judgment.{Judgment}
use Rattle.line_filter.specs.Kept.{LineClass, IsFaultless}
use Rattle.line_filter.specs.LineItems.{LineJudge}
use Rattle.line_filter.specs.ItemIndexes.{ItemJudge}

-- the judgment, whatever a fault reports
abbrev pub kind_of : {F : Type 0} → Judgment F → Judgment (Unit {0})
kind_of Judgment.Kept = Judgment.Kept
kind_of Judgment.LeftOut = Judgment.LeftOut
kind_of (Judgment.Fault fault) = Judgment.Fault tt

-- what was found, whatever a fault reports
abbrev pub kind_found : {F : Type 0} → LineClass F → LineClass (Unit {0})
kind_found LineClass.too_long = LineClass.too_long
kind_found LineClass.passed_over = LineClass.passed_over
kind_found (LineClass.judged judgment) = LineClass.judged (kind_of judgment)

-- what is found of an item at fault
abbrev pub IsFaulty : {F : Type 0} → LineClass F → Type 0
IsFaulty line_class = ¬ (IsFaultless line_class)

-- of each item the judge says judgments of one kind
abbrev pub JudgesItemsOnce : {X F : Type 0} → ItemJudge X F → Type 0
JudgesItemsOnce {X} {F} judge = (item : X) (j k : Judgment F) → judge item j → judge item k → kind_of j ≡ kind_of k

-- of each line the judge says judgments of one kind
abbrev pub JudgesOnce : {F : Type 0} → LineJudge F → Type 0
JudgesOnce judge = (line : List ℕ) (j k : _) → judge line j → judge line k → kind_of j ≡ kind_of k
