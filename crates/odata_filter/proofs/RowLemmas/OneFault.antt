-- Of rows one fault is the first.
use Rattle.std.proofs.Common.{◌≡◌, ℕ, List, refl, subst, arith}
use Rattle.line_filter.specs.Kept.{LineClass, StopsAt}
use Rattle.line_filter.specs.LineItems.{LineJudge, IsFoundOf, lines}
use Rattle.line_filter.specs.Once.{kind_of, IsFaulty}
use Rattle.line_filter.specs.declared.judge.Judgment.{Judgment}
use Rattle.row_judges.specs.declared.bad_row.BadRow.{BadRow}
use Rattle.filter_runs.specs.declared.run_fault.RunFault.{RunFault}
use Rattle.row_judges.specs.RowsOnce.{AreSameJudgment}
use Rattle.odata_filter.specs.StopsOnce.{AreSameFault, IsOfRow}
use Rattle.filter_runs.specs.RunStops.{StopsBy}

-- the same judgments are of one kind
pub same_kind : (j k : Judgment BadRow) → AreSameJudgment j k → kind_of j ≡ kind_of k
same_kind Judgment.Kept Judgment.Kept same = refl
same_kind Judgment.Kept Judgment.LeftOut same = absurd same
same_kind Judgment.Kept (Judgment.Fault e) same = absurd same
same_kind Judgment.LeftOut Judgment.Kept same = absurd same
same_kind Judgment.LeftOut Judgment.LeftOut same = refl
same_kind Judgment.LeftOut (Judgment.Fault e) same = absurd same
same_kind (Judgment.Fault BadRow.NotJson) Judgment.Kept same = absurd same
same_kind (Judgment.Fault (BadRow.NoEntity d)) Judgment.Kept same = absurd same
same_kind (Judgment.Fault (BadRow.NoValue d)) Judgment.Kept same = absurd same
same_kind (Judgment.Fault BadRow.NotJson) Judgment.LeftOut same = absurd same
same_kind (Judgment.Fault (BadRow.NoEntity d)) Judgment.LeftOut same = absurd same
same_kind (Judgment.Fault (BadRow.NoValue d)) Judgment.LeftOut same = absurd same
same_kind (Judgment.Fault d) (Judgment.Fault e) same = refl

module _ (judge : LineJudge BadRow) (bytes : List ℕ)
    (once : (line : List ℕ) (j k : Judgment BadRow) → judge line j → judge line k → AreSameJudgment j k)
    (stops_once : (bytes text other : List ℕ) (m n : ℕ) (f g : LineClass BadRow) → IsFaulty f → IsFaulty g
    → (a : StopsAt (lines judge bytes) text m f) → (b : StopsAt (lines judge bytes) other n g) → (m ≡ n) × (text ≡ other) × (a.bad ≡ b.bad)) where
  -- two faults that are found of the first line at fault
  faults_meet : (text other : List ℕ) (m n : ℕ) (d e : BadRow) → StopsAt (lines judge bytes) text m (LineClass.judged (Judgment.Fault d)) → StopsAt (lines judge bytes) other n (LineClass.judged (Judgment.Fault e))
      → ((m ≡ n) × AreSameJudgment (Judgment.Fault d) (Judgment.Fault e)) × (text ≡ other)
  faults_meet text other m n d e a b =
      let (number, texts, bad) = stops_once bytes text other m n (LineClass.judged (Judgment.Fault d)) (LineClass.judged (Judgment.Fault e)) (λ fine. fine) (λ fine. fine) a b in
      let there : IsFoundOf judge b.bad (LineClass.judged (Judgment.Fault d)) = subst (λ (l : List ℕ). IsFoundOf judge l (LineClass.judged (Judgment.Fault d))) bad a.found in
      let here : IsFoundOf judge b.bad (LineClass.judged (Judgment.Fault e)) = b.found in
      ((number, once b.bad (Judgment.Fault d) (Judgment.Fault e) there.2 here.2), texts)

  -- a line that is judged is not too long
  long_apart : (text other : List ℕ) (m n : ℕ) (d : BadRow) → StopsAt (lines judge bytes) text m (LineClass.judged (Judgment.Fault d)) → StopsAt (lines judge bytes) other n LineClass.too_long → ⊥
  long_apart text other m n d a b =
      let (number, texts, bad) = stops_once bytes text other m n (LineClass.judged (Judgment.Fault d)) LineClass.too_long (λ fine. fine) (λ fine. fine) a b in
      let there : IsFoundOf judge b.bad (LineClass.judged (Judgment.Fault d)) = subst (λ (l : List ℕ). IsFoundOf judge l (LineClass.judged (Judgment.Fault d))) bad a.found in
      let short = there.0 in
      let long = b.found in
      absurd (omega (arith, short, long))

  long_meet : (text other : List ℕ) (m n : ℕ) → StopsAt (lines judge bytes) text m LineClass.too_long → StopsAt (lines judge bytes) other n LineClass.too_long → (m ≡ n) × (text ≡ other)
  long_meet text other m n a b = let (number, texts, bad) = stops_once bytes text other m n LineClass.too_long LineClass.too_long (λ fine. fine) (λ fine. fine) a b in (number, texts)

  -- two faults of rows
  pub faults_once : (text other : List ℕ) (f g : RunFault) → IsOfRow f → IsOfRow g → StopsBy (lines judge bytes) text f → StopsBy (lines judge bytes) other g → AreSameFault f g × (text ≡ other)
  faults_once text other (RunFault.Json m) (RunFault.Json n) of_row of_row' a b = let (at, texts) = faults_meet text other m n BadRow.NotJson BadRow.NotJson a b in (at.0, texts)
  faults_once text other (RunFault.Json m) (RunFault.Row n e) of_row of_row' a b = let (at, texts) = faults_meet text other m n BadRow.NotJson (BadRow.NoEntity e) a b in absurd at.1
  faults_once text other (RunFault.Json m) (RunFault.Arithmetic n e) of_row of_row' a b = let (at, texts) = faults_meet text other m n BadRow.NotJson (BadRow.NoValue e) a b in absurd at.1
  faults_once text other (RunFault.Json m) (RunFault.LineTooLong n) of_row of_row' a b = absurd (long_apart text other m n BadRow.NotJson a b)
  faults_once text other (RunFault.Row m d) (RunFault.Json n) of_row of_row' a b = let (at, texts) = faults_meet text other m n (BadRow.NoEntity d) BadRow.NotJson a b in absurd at.1
  faults_once text other (RunFault.Row m d) (RunFault.Row n e) of_row of_row' a b = faults_meet text other m n (BadRow.NoEntity d) (BadRow.NoEntity e) a b
  faults_once text other (RunFault.Row m d) (RunFault.Arithmetic n e) of_row of_row' a b = let (at, texts) = faults_meet text other m n (BadRow.NoEntity d) (BadRow.NoValue e) a b in absurd at.1
  faults_once text other (RunFault.Row m d) (RunFault.LineTooLong n) of_row of_row' a b = absurd (long_apart text other m n (BadRow.NoEntity d) a b)
  faults_once text other (RunFault.Arithmetic m d) (RunFault.Json n) of_row of_row' a b = let (at, texts) = faults_meet text other m n (BadRow.NoValue d) BadRow.NotJson a b in absurd at.1
  faults_once text other (RunFault.Arithmetic m d) (RunFault.Row n e) of_row of_row' a b = let (at, texts) = faults_meet text other m n (BadRow.NoValue d) (BadRow.NoEntity e) a b in absurd at.1
  faults_once text other (RunFault.Arithmetic m d) (RunFault.Arithmetic n e) of_row of_row' a b = faults_meet text other m n (BadRow.NoValue d) (BadRow.NoValue e) a b
  faults_once text other (RunFault.Arithmetic m d) (RunFault.LineTooLong n) of_row of_row' a b = absurd (long_apart text other m n (BadRow.NoValue d) a b)
  faults_once text other (RunFault.LineTooLong m) (RunFault.Json n) of_row of_row' a b = absurd (long_apart other text n m BadRow.NotJson b a)
  faults_once text other (RunFault.LineTooLong m) (RunFault.Row n e) of_row of_row' a b = absurd (long_apart other text n m (BadRow.NoEntity e) b a)
  faults_once text other (RunFault.LineTooLong m) (RunFault.Arithmetic n e) of_row of_row' a b = absurd (long_apart other text n m (BadRow.NoValue e) b a)
  faults_once text other (RunFault.LineTooLong m) (RunFault.LineTooLong n) of_row of_row' a b = long_meet text other m n a b
  faults_once text other RunFault.NotACollection g of_row of_row' a b = absurd of_row
  faults_once text other (RunFault.Read n) g of_row of_row' a b = absurd of_row
  faults_once text other RunFault.Write g of_row of_row' a b = absurd of_row
  faults_once text other (RunFault.Memory n) g of_row of_row' a b = absurd of_row
  faults_once text other (RunFault.Json m) RunFault.NotACollection of_row of_row' a b = absurd of_row'
  faults_once text other (RunFault.Json m) (RunFault.Read n) of_row of_row' a b = absurd of_row'
  faults_once text other (RunFault.Json m) RunFault.Write of_row of_row' a b = absurd of_row'
  faults_once text other (RunFault.Json m) (RunFault.Memory n) of_row of_row' a b = absurd of_row'
  faults_once text other (RunFault.Row m d) RunFault.NotACollection of_row of_row' a b = absurd of_row'
  faults_once text other (RunFault.Row m d) (RunFault.Read n) of_row of_row' a b = absurd of_row'
  faults_once text other (RunFault.Row m d) RunFault.Write of_row of_row' a b = absurd of_row'
  faults_once text other (RunFault.Row m d) (RunFault.Memory n) of_row of_row' a b = absurd of_row'
  faults_once text other (RunFault.Arithmetic m d) RunFault.NotACollection of_row of_row' a b = absurd of_row'
  faults_once text other (RunFault.Arithmetic m d) (RunFault.Read n) of_row of_row' a b = absurd of_row'
  faults_once text other (RunFault.Arithmetic m d) RunFault.Write of_row of_row' a b = absurd of_row'
  faults_once text other (RunFault.Arithmetic m d) (RunFault.Memory n) of_row of_row' a b = absurd of_row'
  faults_once text other (RunFault.LineTooLong m) RunFault.NotACollection of_row of_row' a b = absurd of_row'
  faults_once text other (RunFault.LineTooLong m) (RunFault.Read n) of_row of_row' a b = absurd of_row'
  faults_once text other (RunFault.LineTooLong m) RunFault.Write of_row of_row' a b = absurd of_row'
  faults_once text other (RunFault.LineTooLong m) (RunFault.Memory n) of_row of_row' a b = absurd of_row'

module _ (judge : LineJudge BadRow) (bytes text : List ℕ)
    (never : (other : List ℕ) (n : ℕ) (f : LineClass BadRow) → IsFaulty f → StopsAt (lines judge bytes) other n f → ⊥) where
  -- no fault where all rows pass
  pub faults_never : (other : List ℕ) (f : RunFault) → IsOfRow f → StopsBy (lines judge bytes) other f → ⊥
  faults_never other (RunFault.Json n) of_row a = never other n (LineClass.judged (Judgment.Fault BadRow.NotJson)) (λ fine. fine) a
  faults_never other (RunFault.Row n d) of_row a = never other n (LineClass.judged (Judgment.Fault (BadRow.NoEntity d))) (λ fine. fine) a
  faults_never other (RunFault.Arithmetic n d) of_row a = never other n (LineClass.judged (Judgment.Fault (BadRow.NoValue d))) (λ fine. fine) a
  faults_never other (RunFault.LineTooLong n) of_row a = never other n LineClass.too_long (λ fine. fine) a
  faults_never other RunFault.NotACollection of_row a = absurd of_row
  faults_never other (RunFault.Read n) of_row a = absurd of_row
  faults_never other RunFault.Write of_row a = absurd of_row
  faults_never other (RunFault.Memory n) of_row a = absurd of_row
