-- The walk over items, one after the other.
use Rattle.std.proofs.Common.{◌≡◌, ℕ, ◌+◌, ◌==◌, List, [], ◌∷◌, ◌++◌, true, length, refl, sym, ap, ◌∙◌, subst, append_assoc, append-nil, length-append, Result, Ok, Err}
use Rattle.std.specs.Prelude.{Option}
use Rattle.std.proofs.KnownBytes.{Appends-nil, Appends-trans}
use Rattle.line_filter.specs.Growth.{Writes, WritesFront}
use Rattle.line_filter.specs.Kept.{Items, Filters, Passes, StopsWithin, StopsWith}
use Rattle.line_filter.specs.private.HeldBack.{WritesBut}
use Rattle.line_filter.specs.private.Walk.{sum_of, ComesOf, text_where, text_where_kept}
use Rattle.line_filter.specs.declared.run_stop.RunStop.{RunStop}
use Rattle.line_filter.specs.declared.tally.Tally.{Tally}
use Rattle.line_filter.proofs.ItemLaws.Passing.{Passes-none, Passes-one, Passes-append}
use Rattle.line_filter.proofs.ItemLaws.Stopping.{Stops-one}
use Rattle.line_filter.proofs.WriteLaws.HeldBack.{WritesBut-more, held_both}

-- The walk has come so far: these items passed, and this text of them is kept, but for what is held back of its end.
pub record HasWalked {X F : Type 0} (items : Items X F) (rest : List X) (old new : Option (List ℕ)) (held : List ℕ) (passed : ℕ) (tally : Tally) : Type 0 where
  pub before : List X
  pub text : List ℕ
  pub whole : items.all ≡ before ++ rest
  pub counted : passed ≡ length before
  pub passes : Passes items.sieve before text tally
  pub holds : WritesBut old new held text

module _ {X F : Type 0} (items : Items X F) where
  unfoldable pub HasWalked-none : (a : Option (List ℕ)) (held : List ℕ) → held ≡ [] → HasWalked items items.all a a held 0 (record { rows = 0; kept = 0 })
  HasWalked-none a held none = record {
    before = [];
    text = [];
    whole = refl;
    counted = refl;
    passes = Passes-none items.sieve;
    holds = ([], Appends-nil a, sym none);
  }

  -- no item is left
  pub HasWalked-end : (rest : List X) (a b : Option (List ℕ)) (held : List ℕ) (passed : ℕ) (tally : Tally) → HasWalked items rest a b held passed tally → rest ≡ []
      → (text : List ℕ) × WritesBut a b held text × Filters items text tally
  HasWalked-end rest a b held passed tally so_far none =
      let all : items.all ≡ so_far.before = so_far.whole ∙ ap (λ l. so_far.before ++ l) none ∙ append-nil so_far.before in
      let passes = subst (λ l. Passes items.sieve l so_far.text tally) (sym all) so_far.passes in
      (so_far.text, so_far.holds, passes)

module _ {X F : Type 0} (items : Items X F) (item : X) (rest after : List X) (a b : Option (List ℕ)) (held : List ℕ) (passed : ℕ) (tally : Tally) (outcome : Result Tally (RunStop F))
    (first : rest ≡ item ∷ after) (comes : ComesOf (items.sieve.finds item) (passed + 1) outcome) (so_far : HasWalked items rest a b held passed tally) where
  whole : items.all ≡ so_far.before ++ item ∷ after
  whole = so_far.whole ∙ ap (λ l. so_far.before ++ l) first

  pub whole_more : items.all ≡ (so_far.before ++ item ∷ []) ++ after
  whole_more = whole ∙ sym (append_assoc so_far.before (item ∷ []) after)

  -- the items so far and this one, of which a tally comes
  pub passes_more : (one : Tally) → outcome ≡ Ok one → Passes items.sieve (so_far.before ++ item ∷ []) (so_far.text ++ text_where_kept one (items.sieve.text_of item)) (sum_of tally one)
  passes_more one step =
      Passes-append items.sieve so_far.before (item ∷ []) so_far.text (text_where_kept one (items.sieve.text_of item)) tally one so_far.passes (Passes-one items.sieve item (passed + 1) outcome one comes step)

  -- the item after those that passed passes too
  unfoldable pub HasWalked-more : (one : Tally) (c : Option (List ℕ)) (h : List ℕ) → outcome ≡ Ok one → WritesBut b c h (held ++ text_where_kept one (items.sieve.text_of item))
      → HasWalked items after a c h (passed + 1) (sum_of tally one)
  HasWalked-more one c h step more =
      let text = text_where_kept one (items.sieve.text_of item) in
      record {
        before = so_far.before ++ item ∷ [];
        text = so_far.text ++ text;
        whole = whole_more;
        counted = ap (λ k. k + 1) so_far.counted ∙ sym (length-append so_far.before (item ∷ []));
        passes = passes_more one step;
        holds = WritesBut-more a b c held h so_far.text text so_far.holds more;
      }

  -- it is kept, and not all of its text could be written
  pub HasWalked-failed : (one : Tally) (c : Option (List ℕ)) → outcome ≡ Ok one → (one.kept == 1) ≡ true → WritesFront b c (held ++ items.sieve.text_of item) → Writes a c (StopsWithin items)
  HasWalked-failed one c step is_kept (second_text, more, (unwritten, f)) =
      let (first_text, wrote, e) = so_far.holds in
      let text = items.sieve.text_of item in
      let all : List X = so_far.before ++ item ∷ [] in
      let passes = subst (λ k. Passes items.sieve all (so_far.text ++ text_where k text) (sum_of tally one)) is_kept (passes_more one step) in
      let stop : StopsWithin items (first_text ++ second_text) = record {
        before = all;
        after = after;
        tally = sum_of tally one;
        unwritten = unwritten;
        whole = whole_more;
        passes = subst (λ l. Passes items.sieve all l (sum_of tally one)) (held_both [] held unwritten so_far.text text first_text second_text e f) passes;
      } in
      (first_text ++ second_text, Appends-trans a b c first_text second_text wrote more, stop)

  -- the run stops at it, and nothing is written of it
  pub HasWalked-stopped : (Lacks : List ℕ → ℕ → Type 0) (stop : RunStop F) → items.CameWhole so_far.before → outcome ≡ Err stop
      → (text : List ℕ) × WritesBut a b held text × StopsWith items Lacks text stop
  HasWalked-stopped Lacks stop came step =
      let stops = Stops-one items Lacks so_far.before after item so_far.text tally (passed + 1) whole so_far.passes (ap (λ k. k + 1) so_far.counted) outcome stop came comes step in
      (so_far.text, so_far.holds, stops)
