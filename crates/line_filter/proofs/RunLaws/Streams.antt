-- The walk over the lines of a reader, where what it had is known.
use Rattle.std.proofs.Common.{◌≡◌, ◌≢◌, ℕ, ◌+◌, ◌==◌, List, [], ◌∷◌, ◌++◌, true, Option, None, Some, Result, Ok, inl, inr, ◌⊎◌, refl, sym, ap, ◌∙◌, subst, append_assoc, Err}
use Rattle.std.specs.Prelude.{IfSome}
use Rattle.std.specs.Io.KnownBytes.{IsAtEnd, Appends, Keeps, prepend_known}
use Rattle.std.proofs.KnownBytes.{Appends-trans}
use Rattle.line_filter.specs.Growth.{Writes, WritesFront}
use Rattle.line_filter.specs.Kept.{Items, Filters, StopsWithin, StopsWith}
use Rattle.line_filter.specs.LineItems.{LineJudge, IsFoundOf, lines}
use Rattle.line_filter.specs.Lines.{lines_of, text_of_lines}
use Rattle.line_filter.specs.LineStreams.{LacksLine}
use Rattle.line_filter.specs.LineSource.{IsFirstLine, BeginsTooLong, IsNoWholeLine, WhereKnown}
use Rattle.line_filter.specs.private.HeldBack.{WritesBut}
use Rattle.line_filter.specs.private.Walk.{sum_of, ComesOf, text_where_kept, fault_stop, GoesOn}
use Rattle.line_filter.specs.declared.line_reader.LineFault.{LineFault}
use Rattle.line_filter.specs.declared.run_stop.RunStop.{RunStop}
use Rattle.line_filter.specs.declared.tally.Tally.{Tally}
use Rattle.line_filter.proofs.ItemLaws.Stopping.{Passes-within}
use Rattle.line_filter.proofs.ItemLaws.Walked.{HasWalked, HasWalked-end}
use Rattle.line_filter.proofs.LineLaws.Walked.{HasPassed, HasPassed-none, HasPassed-more, HasPassed-failed, HasPassed-stopped}
use Rattle.line_filter.proofs.RunLaws.Answers.{GoesWith-failed}
use Rattle.line_filter.proofs.RunLaws.Lacking.{LacksLine-within}
use Rattle.line_filter.proofs.WriteLaws.HeldBack.{WritesBut-written}

-- what is held back was written in part, and of it a beginning is written
WritesBut-less : (a b c : Option (List ℕ)) (h₁ h₂ text : List ℕ) → WritesBut a b h₁ text → WritesBut b c h₂ h₁ → WritesBut a c h₂ text
WritesBut-less a b c h₁ h₂ text (first, wrote, e) (second, more, f) =
    (first ++ second, Appends-trans a b c first second wrote more, e ∙ ap (λ l. first ++ l) f ∙ sym (append_assoc first second h₂))

HasWalked-written : {X F : Type 0} (items : Items X F) (rest : List X) (u v w : Option (List ℕ)) (h₁ h₂ : List ℕ) (passed : ℕ) (tally : Tally)
    → HasWalked items rest u v h₁ passed tally → WritesBut v w h₂ h₁ → HasWalked items rest u w h₂ passed tally
HasWalked-written items rest u v w h₁ h₂ passed tally so_far wrote = record {
  before = so_far.before;
  text = so_far.text;
  whole = so_far.whole;
  counted = so_far.counted;
  passes = so_far.passes;
  holds = WritesBut-less u v w h₁ h₂ so_far.text so_far.holds wrote;
}

module _ {F : Type 0} (judge : LineJudge F) where
  -- of what was left at first and what is left now, the walk has come so far
  abbrev pub HasCome : Option (List ℕ) → Option (List ℕ) → Type 0 → Option (List ℕ) → Option (List ℕ) → List ℕ → ℕ → Tally → Type 0
  HasCome a r goes_on u v held passed tally = WhereKnown a r (λ bytes rest. HasPassed judge bytes rest goes_on u v held passed tally)

  pub HasCome-none : (a : Option (List ℕ)) (goes_on : Type 0) (u : Option (List ℕ)) (held : List ℕ) → held ≡ [] → HasCome a a goes_on u u held 0 (record { rows = 0; kept = 0 })
  HasCome-none None goes_on u held none = tt
  HasCome-none (Some bytes) goes_on u held none = HasPassed-none judge bytes goes_on u held none

  HasPassed-written : (bytes rest : List ℕ) (goes_on : Type 0) (u v w : Option (List ℕ)) (h₁ h₂ : List ℕ) (passed : ℕ) (tally : Tally)
      → HasPassed judge bytes rest goes_on u v h₁ passed tally → WritesBut v w h₂ h₁ → HasPassed judge bytes rest goes_on u w h₂ passed tally
  unfolding HasWalked-written
  HasPassed-written bytes rest goes_on u v w h₁ h₂ passed tally so_far wrote = record {
    walked = HasWalked-written (lines judge bytes) (lines_of rest) u v w h₁ h₂ passed tally so_far.walked wrote;
    complete = so_far.complete;
  }

  -- what was held back is written
  pub HasCome-written : (a r : Option (List ℕ)) (goes_on : Type 0) (u v w : Option (List ℕ)) (h₁ h₂ : List ℕ) (passed : ℕ) (tally : Tally)
      → HasCome a r goes_on u v h₁ passed tally → WritesBut v w h₂ h₁ → HasCome a r goes_on u w h₂ passed tally
  HasCome-written None r goes_on u v w h₁ h₂ passed tally so_far wrote = tt
  HasCome-written (Some bytes) None goes_on u v w h₁ h₂ passed tally so_far wrote = absurd so_far
  HasCome-written (Some bytes) (Some rest) goes_on u v w h₁ h₂ passed tally so_far wrote = HasPassed-written bytes rest goes_on u v w h₁ h₂ passed tally so_far wrote

  -- or it could not be written
  HasPassed-unwritten : (bytes rest : List ℕ) (goes_on : Type 0) (u v w : Option (List ℕ)) (held : List ℕ) (passed : ℕ) (tally : Tally)
      → HasPassed judge bytes rest goes_on u v held passed tally → WritesFront v w held → Writes u w (StopsWithin (lines judge bytes))
  HasPassed-unwritten bytes rest goes_on u v w held passed tally so_far (second, more, (unwritten, f)) =
      let (first, wrote, e) = so_far.walked.holds in
      let text : so_far.walked.text ≡ (first ++ second) ++ unwritten = e ∙ ap (λ l. first ++ l) f ∙ sym (append_assoc first second unwritten) in
      let passes = subst (λ l. Filters (record (lines judge bytes) { all = so_far.walked.before }) l tally) text so_far.walked.passes in
      (first ++ second, Appends-trans u v w first second wrote more, Passes-within (lines judge bytes) so_far.walked.before (lines_of rest) (first ++ second) unwritten tally so_far.walked.whole passes)

  pub HasCome-unwritten : (a r : Option (List ℕ)) (goes_on : Type 0) (u v w : Option (List ℕ)) (held : List ℕ) (passed : ℕ) (tally : Tally)
      → HasCome a r goes_on u v held passed tally → WritesFront v w held → IfSome a (λ bytes. Writes u w (StopsWithin (lines judge bytes)))
  HasCome-unwritten None r goes_on u v w held passed tally so_far wrote = tt
  HasCome-unwritten (Some bytes) None goes_on u v w held passed tally so_far wrote = absurd so_far
  HasCome-unwritten (Some bytes) (Some rest) goes_on u v w held passed tally so_far wrote = HasPassed-unwritten bytes rest goes_on u v w held passed tally so_far wrote

  -- nothing is left
  HasPassed-end : (bytes rest : List ℕ) (goes_on : Type 0) (u v : Option (List ℕ)) (held : List ℕ) (passed : ℕ) (tally : Tally)
      → HasPassed judge bytes rest goes_on u v held passed tally → rest ≡ []
      → (text : List ℕ) × WritesBut u v held text × Filters (lines judge bytes) text tally
  HasPassed-end bytes rest goes_on u v held passed tally so_far none =
      HasWalked-end (lines judge bytes) (lines_of rest) u v held passed tally so_far.walked (ap lines_of none)

  pub HasCome-end : (a r : Option (List ℕ)) (goes_on : Type 0) (u v : Option (List ℕ)) (held : List ℕ) (passed : ℕ) (tally : Tally)
      → HasCome a r goes_on u v held passed tally → IsAtEnd r
      → IfSome a (λ bytes. (text : List ℕ) × WritesBut u v held text × Filters (lines judge bytes) text tally)
  HasCome-end None r goes_on u v held passed tally so_far none = tt
  HasCome-end (Some bytes) None goes_on u v held passed tally so_far none = absurd so_far
  HasCome-end (Some bytes) (Some rest) goes_on u v held passed tally so_far none = HasPassed-end bytes rest goes_on u v held passed tally so_far none

  -- the next line does not come
  module _ (waiting : List ℕ) where
    HasPassed-lacks : (bytes rest more : List ℕ) (goes_on : Type 0) (u v : Option (List ℕ)) (held : List ℕ) (passed : ℕ) (tally : Tally)
        → (so_far : HasPassed judge bytes rest goes_on u v held passed tally) → goes_on → waiting ++ more ≡ rest → IsNoWholeLine waiting
        → LacksLine judge bytes waiting (Some more) so_far.walked.text (passed + 1)
    HasPassed-lacks bytes rest more goes_on u v held passed tally so_far some same unended = record {
      before = so_far.walked.before;
      rest = more;
      tally = tally;
      left = refl;
      came = so_far.complete some ∙ ap (λ l. text_of_lines so_far.walked.before ++ l) (sym same);
      lines = so_far.walked.whole ∙ ap (λ l. so_far.walked.before ++ lines_of l) (sym same);
      unended = unended.0;
      short = unended.1;
      counted = ap (λ k. k + 1) so_far.walked.counted;
      passes = so_far.walked.passes;
    }

    HasPassed-fault : (bytes rest more : List ℕ) (goes_on : Type 0) (u v : Option (List ℕ)) (held : List ℕ) (passed : ℕ) (tally : Tally) (fault : LineFault)
        → HasPassed judge bytes rest goes_on u v held passed tally → goes_on → waiting ++ more ≡ rest → (fault ≢ LineFault.TooLong → IsNoWholeLine waiting)
        → (fault ≡ LineFault.TooLong → BeginsTooLong rest)
        → (text : List ℕ) × WritesBut u v held text × StopsWith (lines judge bytes) (LacksLine judge bytes waiting (Some more)) text (fault_stop fault (passed + 1))
    HasPassed-fault bytes rest more goes_on u v held passed tally LineFault.TooLong so_far some same unended long =
        let (line, after, first, far) = long refl in (
          so_far.walked.text,
          so_far.walked.holds,
          record {
            before = so_far.walked.before;
            bad = line;
            after = after;
            tally = tally;
            whole = so_far.walked.whole ∙ ap (λ l. so_far.walked.before ++ l) first;
            counted = ap (λ k. k + 1) so_far.walked.counted;
            passes = so_far.walked.passes;
            found = far;
          },
        )
    HasPassed-fault bytes rest more goes_on u v held passed tally LineFault.Read so_far some same unended long =
        (so_far.walked.text, so_far.walked.holds, HasPassed-lacks bytes rest more goes_on u v held passed tally so_far some same (unended (λ e. cc)))
    HasPassed-fault bytes rest more goes_on u v held passed tally LineFault.Memory so_far some same unended long =
        (so_far.walked.text, so_far.walked.holds, inl (HasPassed-lacks bytes rest more goes_on u v held passed tally so_far some same (unended (λ e. cc))))

    pub HasCome-fault : (a r known : Option (List ℕ)) (goes_on : Type 0) (u v : Option (List ℕ)) (held : List ℕ) (passed : ℕ) (tally : Tally) (fault : LineFault)
        → HasCome a r goes_on u v held passed tally → goes_on → Keeps r (prepend_known waiting known) → (fault ≢ LineFault.TooLong → IsNoWholeLine waiting)
        → (fault ≡ LineFault.TooLong → IfSome r BeginsTooLong)
        → IfSome a (λ bytes. (text : List ℕ) × WritesBut u v held text × StopsWith (lines judge bytes) (LacksLine judge bytes waiting known) text (fault_stop fault (passed + 1)))
    HasCome-fault None r known goes_on u v held passed tally fault so_far some kept unended long = tt
    HasCome-fault (Some bytes) None known goes_on u v held passed tally fault so_far some kept unended long = absurd so_far
    HasCome-fault (Some bytes) (Some rest) None goes_on u v held passed tally fault so_far some kept unended long = absurd kept
    HasCome-fault (Some bytes) (Some rest) (Some more) goes_on u v held passed tally fault so_far some kept unended long =
        HasPassed-fault bytes rest more goes_on u v held passed tally fault so_far some kept unended long

-- ---- a line is given

module _ {F : Type 0} (judge : LineJudge F) (line : List ℕ) (goes_on : Type 0) (u v : Option (List ℕ)) (held : List ℕ) (passed : ℕ) (tally : Tally) (outcome : Result Tally (RunStop F))
    (comes : ComesOf (IsFoundOf judge line) (passed + 1) outcome) (more : goes_on) where
  -- of a list that has no more lines, or has an LF after this one
  has_feed : (Over : Type 0) (rest after : List ℕ) → Over ⊎ (rest ≡ line ++ 10 ∷ after) → (Over → ⊥) → rest ≡ line ++ 10 ∷ after
  has_feed Over rest after (inl over) not_over = absurd (not_over over)
  has_feed Over rest after (inr whole) not_over = whole

  -- it passes
  pub HasCome-more : (a r s : Option (List ℕ)) (Over : Type 0) (one : Tally) (w : Option (List ℕ)) (h : List ℕ) → HasCome judge a r goes_on u v held passed tally
      → WhereKnown r s (λ rest after. IsFirstLine rest line after) → Over ⊎ WhereKnown r s (λ rest after. rest ≡ line ++ 10 ∷ after) → outcome ≡ Ok one
      → WritesBut v w h (held ++ text_where_kept one (line ++ 10 ∷ [])) → HasCome judge a s (Over → ⊥) u w h (passed + 1) (sum_of tally one)
  HasCome-more None r s Over one w h so_far first whole step wrote = tt
  HasCome-more (Some bytes) None s Over one w h so_far first whole step wrote = absurd so_far
  HasCome-more (Some bytes) (Some rest) None Over one w h so_far first whole step wrote = absurd first
  HasCome-more (Some bytes) (Some rest) (Some after) Over one w h so_far first whole step wrote =
      HasPassed-more judge bytes line rest after goes_on u v held passed tally outcome first.first comes so_far one (Over → ⊥) w h (has_feed Over rest after whole) more step wrote

  -- the run stops at it
  pub HasCome-stopped : (waiting : List ℕ) (known a r s : Option (List ℕ)) (stop : RunStop F) → HasCome judge a r goes_on u v held passed tally → WhereKnown r s (λ rest after. IsFirstLine rest line after)
      → outcome ≡ Err stop → IfSome a (λ bytes. (text : List ℕ) × WritesBut u v held text × StopsWith (lines judge bytes) (LacksLine judge bytes waiting known) text stop)
  HasCome-stopped waiting known None r s stop so_far first step = tt
  HasCome-stopped waiting known (Some bytes) None s stop so_far first step = absurd so_far
  HasCome-stopped waiting known (Some bytes) (Some rest) None stop so_far first step = absurd first
  HasCome-stopped waiting known (Some bytes) (Some rest) (Some after) stop so_far first step =
      HasPassed-stopped judge bytes line rest after goes_on u v held passed tally outcome first.first comes so_far (LacksLine judge bytes waiting known) stop more step

  -- it is kept, and not all of it could be written
  pub HasCome-failed : (a r s : Option (List ℕ)) (one : Tally) (w : Option (List ℕ)) → HasCome judge a r goes_on u v held passed tally → WhereKnown r s (λ rest after. IsFirstLine rest line after)
      → outcome ≡ Ok one → (one.kept == 1) ≡ true → WritesFront v w (held ++ (line ++ 10 ∷ [])) → IfSome a (λ bytes. Writes u w (StopsWithin (lines judge bytes)))
  HasCome-failed None r s one w so_far first step is_kept wrote = tt
  HasCome-failed (Some bytes) None s one w so_far first step is_kept wrote = absurd so_far
  HasCome-failed (Some bytes) (Some rest) None one w so_far first step is_kept wrote = absurd first
  HasCome-failed (Some bytes) (Some rest) (Some after) one w so_far first step is_kept wrote =
      HasPassed-failed judge bytes line rest after goes_on u v held passed tally outcome first.first comes so_far one w step is_kept wrote

-- ---- what is held back at the end could not be written

module _ {F : Type 0} (judge : LineJudge F) (waiting : List ℕ) (known : Option (List ℕ)) where
  pub left_unwritten : (a u v w : Option (List ℕ)) (held : List ℕ) (outcome : Result Tally (RunStop F)) → IfSome a (λ bytes. (text : List ℕ) × WritesBut u v held text × GoesOn judge bytes waiting known text outcome)
      → WritesFront v w held → IfSome a (λ bytes. Writes u w (StopsWithin (lines judge bytes)))
  left_unwritten None u v w held outcome goes failed = tt
  left_unwritten (Some bytes) u v w held outcome (text, holds, goes) failed =
      GoesWith-failed (lines judge bytes) (LacksLine judge bytes waiting known) (LacksLine-within judge bytes waiting known) outcome u v w held text holds goes failed

  pub left_written : (a u v w : Option (List ℕ)) (held : List ℕ) (outcome : Result Tally (RunStop F)) → IfSome a (λ bytes. (text : List ℕ) × WritesBut u v held text × GoesOn judge bytes waiting known text outcome)
      → Appends v w held → IfSome a (λ bytes. Writes u w (λ text. GoesOn judge bytes waiting known text outcome))
  left_written None u v w held outcome goes wrote = tt
  left_written (Some bytes) u v w held outcome (text, holds, goes) wrote = (text, WritesBut-written u v w held text holds wrote, goes)
