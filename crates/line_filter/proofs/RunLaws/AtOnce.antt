-- A line that the judge judges at once.
use Rattle.std.proofs.Common.{◌≡◌, ℕ, ◌+◌, ◌≤◌, List, [], ◌∷◌, ◌++◌, length, take, Option, Some, Ok, Err, inr, ◌⊎◌, refl, sym, arith, subst, append-nil}
use Rattle.std.proofs.lemmas.List.Sums.{AllPass-from_list_all}
use Rattle.std.specs.Prelude.{IfSome}
use Rattle.line_filter.specs.Growth.{Writes, WritesFront}
use Rattle.line_filter.specs.Kept.{LineClass, StopsWithin, StopsWith}
use Rattle.line_filter.specs.LineItems.{LineJudge, IsFoundOf, SaysTheSame, lines}
use Rattle.line_filter.specs.Lines.{IsBlank, is_space, longest_line}
use Rattle.line_filter.specs.LineSource.{IsFirstLine, WhereKnown}
use Rattle.line_filter.specs.LineStreams.{LacksLine}
use Rattle.line_filter.specs.private.HeldBack.{WritesBut}
use Rattle.line_filter.specs.private.Walk.{sum_of}
use Rattle.line_filter.specs.declared.judge.Judgment.{Judgment}
use Rattle.line_filter.specs.declared.run_stop.RunStop.{RunStop}
use Rattle.line_filter.specs.declared.tally.Tally.{Tally}
use Rattle.line_filter.proofs.ItemLaws.Once.{same_tally}
use Rattle.line_filter.proofs.RunLaws.Streams.{HasCome, HasCome-more, HasCome-failed, HasCome-stopped}
use Rattle.line_filter.proofs.WriteLaws.HeldBack.{WritesBut-none}

-- the judgment is found of the line
pub found_at_once : {F : Type 0} (judge now : LineJudge F) (front line : List ℕ) (answer : Option (Judgment F)) (said judgment : Judgment F) → SaysTheSame judge now → answer ≡ Some said → said ≡ judgment → take (length line) front ≡ line
    → length line ≤ longest_line → IfSome answer (now (take (length line) front)) → IfSome answer (λ j. IsBlank (take (length line) front) → ⊥) → IsFoundOf judge line (LineClass.judged judgment)
found_at_once judge now front line answer said judgment same is said_is front_is short says blank =
    let here = subst (λ o. IfSome o (now (take (length line) front))) is says in
    let not_blank = subst (λ o. IfSome o (λ j. IsBlank (take (length line) front) → ⊥)) is blank in (
      short,
      subst (λ (l : List ℕ). IsBlank l → ⊥) front_is not_blank,
      (same line judgment).1 (subst (λ (l : List ℕ). now l judgment) front_is (subst (now (take (length line) front)) said_is here)),
    )

-- nothing is written
WritesBut-same : (a : Option (List ℕ)) (held : List ℕ) → WritesBut a a held (held ++ [])
WritesBut-same a held = subst (WritesBut a a held) (sym (append-nil held)) (WritesBut-none a held)

-- an empty line counts nothing
tally_alone : (tally : Tally) → sum_of tally (record { rows = 0; kept = 0 }) ≡ tally
tally_alone tally = same_tally (sum_of tally (record { rows = 0; kept = 0 })) tally (omega arith) (omega arith)

-- an empty line is short and blank
abbrev no_bytes : List ℕ
no_bytes = []

empty_passes : (length no_bytes ≤ longest_line) × IsBlank no_bytes
empty_passes = (omega arith, AllPass-from_list_all is_space no_bytes refl)

module _ {F : Type 0} (judge : LineJudge F) (line : List ℕ) (goes_on : Type 0) (u v : Option (List ℕ)) (held : List ℕ) (passed : ℕ) (tally : Tally) (more : goes_on) (a r s : Option (List ℕ))
    (so_far : HasCome judge a r goes_on u v held passed tally) (first : WhereKnown r s (λ rest after. IsFirstLine rest line after)) where
  -- it is kept
  pub HasCome-kept : IsFoundOf judge line (LineClass.judged Judgment.Kept) → (Over : Type 0) → Over ⊎ WhereKnown r s (λ rest after. rest ≡ line ++ 10 ∷ after)
      → (w : Option (List ℕ)) (h : List ℕ) → WritesBut v w h (held ++ (line ++ 10 ∷ [])) → HasCome judge a s (Over → ⊥) u w h (passed + 1) (record { rows = tally.rows + 1; kept = tally.kept + 1 })
  HasCome-kept finds Over whole w h wrote =
      let one : Tally = record { rows = 1; kept = 1 } in
      HasCome-more judge line goes_on u v held passed tally (Ok one) (inr (LineClass.judged Judgment.Kept, finds, refl)) more a r s Over one w h so_far first whole refl wrote

  -- it is kept, and not all of it could be written
  pub HasCome-unkept : IsFoundOf judge line (LineClass.judged Judgment.Kept) → (w : Option (List ℕ)) → WritesFront v w (held ++ (line ++ 10 ∷ [])) → IfSome a (λ bytes. Writes u w (StopsWithin (lines judge bytes)))
  HasCome-unkept finds w wrote =
      let one : Tally = record { rows = 1; kept = 1 } in
      HasCome-failed judge line goes_on u v held passed tally (Ok one) (inr (LineClass.judged Judgment.Kept, finds, refl)) more a r s one w so_far first refl refl wrote

  -- it is left out
  pub HasCome-left_out : IsFoundOf judge line (LineClass.judged Judgment.LeftOut) → (Over : Type 0) → Over ⊎ WhereKnown r s (λ rest after. rest ≡ line ++ 10 ∷ after)
      → HasCome judge a s (Over → ⊥) u v held (passed + 1) (record { rows = tally.rows + 1; kept = tally.kept })
  HasCome-left_out finds Over whole =
      let one : Tally = record { rows = 1; kept = 0 } in
      let none : tally.kept + 0 ≡ tally.kept = omega arith in
      subst (λ (k : ℕ). HasCome judge a s (Over → ⊥) u v held (passed + 1) (record { rows = tally.rows + 1; kept = k })) none
      (HasCome-more judge line goes_on u v held passed tally (Ok one) (inr (LineClass.judged Judgment.LeftOut, finds, refl)) more a r s Over one v held so_far first whole refl (WritesBut-same v held))

  -- it is at fault
  pub HasCome-at_fault : (fault : F) → IsFoundOf judge line (LineClass.judged (Judgment.Fault fault)) → (waiting : List ℕ) (known : Option (List ℕ))
      → IfSome a (λ bytes. (text : List ℕ) × WritesBut u v held text × StopsWith (lines judge bytes) (LacksLine judge bytes waiting known) text (RunStop.Fault (passed + 1) fault))
  HasCome-at_fault fault finds waiting known =
      HasCome-stopped judge line goes_on u v held passed tally (Err (RunStop.Fault (passed + 1) fault)) (inr (LineClass.judged (Judgment.Fault fault), finds, refl)) more waiting known a r s
      (RunStop.Fault (passed + 1) fault) so_far first refl

  -- it is empty, and passed over
  pub HasCome-empty : line ≡ [] → (Over : Type 0) → Over ⊎ WhereKnown r s (λ rest after. rest ≡ line ++ 10 ∷ after)
      → HasCome judge a s (Over → ⊥) u v held (passed + 1) tally
  HasCome-empty none Over whole =
      let one : Tally = record { rows = 0; kept = 0 } in
      let same : sum_of tally one ≡ tally = tally_alone tally in
      let finds : IsFoundOf judge line LineClass.passed_over = subst (λ (l : List ℕ). IsFoundOf judge l LineClass.passed_over) (sym none) empty_passes in
      subst (λ (t : Tally). HasCome judge a s (Over → ⊥) u v held (passed + 1) t) same
      (HasCome-more judge line goes_on u v held passed tally (Ok one) (inr (LineClass.passed_over, finds, refl)) more a r s Over one v held so_far first whole refl (WritesBut-same v held))
