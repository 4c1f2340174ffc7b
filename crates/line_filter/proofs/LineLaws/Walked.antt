-- The walk over the lines, one after the other.
use Rattle.std.proofs.Common.{◌≡◌, ℕ, ◌+◌, ◌==◌, List, [], ◌∷◌, ◌++◌, true, refl, sym, ap, ◌∙◌, append_assoc, append-nil, Result, Ok, Err}
use Rattle.std.specs.Prelude.{Option}
use Rattle.std.proofs.lemmas.Grind.{flat_map-append}
use Rattle.line_filter.specs.Growth.{Writes, WritesFront}
use Rattle.line_filter.specs.Kept.{StopsWithin, StopsWith}
use Rattle.line_filter.specs.LineItems.{LineJudge, IsFoundOf, lines}
use Rattle.line_filter.specs.Lines.{lines_of, text_of_line, text_of_lines}
use Rattle.line_filter.specs.private.HeldBack.{WritesBut}
use Rattle.line_filter.specs.private.Walk.{sum_of, ComesOf, text_where_kept}
use Rattle.line_filter.specs.declared.run_stop.RunStop.{RunStop}
use Rattle.line_filter.specs.declared.tally.Tally.{Tally}
use Rattle.line_filter.proofs.ItemLaws.Walked.{HasWalked, HasWalked-none, HasWalked-more, HasWalked-failed, HasWalked-stopped}

-- The walk over the lines has come so far, and each of those that passed has its LF if the walk goes on.
pub record HasPassed {F : Type 0} (judge : LineJudge F) (bytes rest : List ℕ) (goes_on : Type 0) (old new : Option (List ℕ)) (held : List ℕ) (passed : ℕ) (tally : Tally) : Type 0 where
  pub walked : HasWalked (lines judge bytes) (lines_of rest) old new held passed tally
  pub complete : goes_on → bytes ≡ text_of_lines walked.before ++ rest

pub HasPassed-none : {F : Type 0} (judge : LineJudge F) (bytes : List ℕ) (goes_on : Type 0) (a : Option (List ℕ)) (held : List ℕ) → held ≡ [] → HasPassed judge bytes bytes goes_on a a held 0 (record { rows = 0; kept = 0 })
unfolding HasWalked-none
HasPassed-none judge bytes goes_on a held none = record { walked = HasWalked-none (lines judge bytes) a held none; complete = λ some. refl }

-- one line more and the LF after it
text_of_lines-more : (before : List (List ℕ)) (line after : List ℕ) → text_of_lines before ++ (line ++ 10 ∷ after) ≡ text_of_lines (before ++ line ∷ []) ++ after
text_of_lines-more before line after =
    let one : text_of_lines (line ∷ []) ++ after ≡ line ++ 10 ∷ after = ap (λ l. l ++ after) (append-nil (line ++ 10 ∷ [])) ∙ append_assoc line (10 ∷ []) after in
    sym (ap (λ l. l ++ after) (flat_map-append text_of_line before (line ∷ [])) ∙ append_assoc (text_of_lines before) (text_of_lines (line ∷ [])) after ∙ ap (λ l. text_of_lines before ++ l) one)

module _ {F : Type 0} (judge : LineJudge F) (bytes line rest after : List ℕ) (goes_on : Type 0) (a b : Option (List ℕ)) (held : List ℕ) (passed : ℕ) (tally : Tally) (outcome : Result Tally (RunStop F))
    (first : lines_of rest ≡ line ∷ lines_of after) (comes : ComesOf (IsFoundOf judge line) (passed + 1) outcome) (so_far : HasPassed judge bytes rest goes_on a b held passed tally) where
  -- the line after those that passed passes too
  pub HasPassed-more : (one : Tally) (goes_further : Type 0) (c : Option (List ℕ)) (h : List ℕ) → (goes_further → rest ≡ line ++ 10 ∷ after) → goes_on → outcome ≡ Ok one
      → WritesBut b c h (held ++ text_where_kept one (line ++ 10 ∷ [])) → HasPassed judge bytes after goes_further a c h (passed + 1) (sum_of tally one)
  unfolding HasWalked-more
  HasPassed-more one goes_further c h whole some step more = record {
    walked = HasWalked-more (lines judge bytes) line (lines_of rest) (lines_of after) a b held passed tally outcome first comes so_far.walked one c h step more;
    complete = λ some_after.
        so_far.complete some ∙ ap (λ l. text_of_lines so_far.walked.before ++ l) (whole some_after) ∙ text_of_lines-more so_far.walked.before line after;
  }

  -- it is kept, and not all of it could be written
  pub HasPassed-failed : (one : Tally) (c : Option (List ℕ)) → outcome ≡ Ok one → (one.kept == 1) ≡ true → WritesFront b c (held ++ (line ++ 10 ∷ [])) → Writes a c (StopsWithin (lines judge bytes))
  HasPassed-failed = HasWalked-failed (lines judge bytes) line (lines_of rest) (lines_of after) a b held passed tally outcome first comes so_far.walked

  -- the run stops at it
  pub HasPassed-stopped : (Lacks : List ℕ → ℕ → Type 0) (stop : RunStop F) → goes_on → outcome ≡ Err stop
      → (text : List ℕ) × WritesBut a b held text × StopsWith (lines judge bytes) Lacks text stop
  HasPassed-stopped Lacks stop some =
      HasWalked-stopped (lines judge bytes) line (lines_of rest) (lines_of after) a b held passed tally outcome first comes so_far.walked Lacks stop (rest, so_far.complete some)
