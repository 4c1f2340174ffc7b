-- Items that pass, one after the other.
use Rattle.std.proofs.Common.{◌≡◌, ℕ, zero, suc, ◌+◌, ◌≤◌, Bool, cond, List, [], ◌∷◌, ◌++◌, refl, sym, ap, ◌∙◌, subst, append-nil, arith, inl, inr, Result, Ok}
use Rattle.std.specs.Prelude.{map, filter, flat_map, count_by, All}
use Rattle.std.proofs.lemmas.List.{map-append}
use Rattle.std.proofs.lemmas.List.Elements.{All-append, filter-append}
use Rattle.std.proofs.lemmas.List.Sums.{sum_by-append}
use Rattle.std.proofs.lemmas.Grind.{flat_map-append}
use Rattle.line_filter.specs.Kept.{LineClass, IsFaultless, is_kept, is_row, Sieve, SiftedItem, kept_text, Passes}
use Rattle.line_filter.specs.private.Walk.{sum_of, outcome_of, ComesOf, text_where_kept}
use Rattle.line_filter.specs.declared.judge.Judgment.{Judgment}
use Rattle.line_filter.specs.declared.run_stop.RunStop.{RunStop}
use Rattle.line_filter.specs.declared.tally.Tally.{Tally}

All-none : {X : Type 0} (P : X → Type 0) → All P []
All-none P k d below = absurd (omega arith)

All-one : {X : Type 0} (P : X → Type 0) (x : X) → P x → All P (x ∷ [])
All-one P x p zero d below = p
All-one P x p (suc k) d below = absurd (omega arith)

module _ {X F : Type 0} (sieve : Sieve X F) where
  -- what is found of an item, and that it is not a fault
  abbrev IsFine : SiftedItem X F → Type 0
  IsFine s = sieve.finds s.item s.line_class × IsFaultless s.line_class

  abbrev text : SiftedItem X F → List ℕ
  text s = sieve.text_of s.item

  abbrev kept_item : SiftedItem X F → Bool
  kept_item s = is_kept s.line_class

  abbrev row_item : SiftedItem X F → Bool
  row_item s = is_row s.line_class

  pub Passes-none : Passes sieve [] [] (record { rows = 0; kept = 0 })
  Passes-none = record {
    all = [];
    in_order = refl;
    found = All-none IsFine;
    kept = refl;
    rows_counted = refl;
    kept_counted = refl;
  }

  -- the item passes and counts this
  abbrev Counts : X → Tally → Type 0
  Counts item one = Passes sieve (item ∷ []) (text_where_kept one (sieve.text_of item)) one

  kept_one : (item : X) → sieve.finds item (LineClass.judged Judgment.Kept) → Passes sieve (item ∷ []) (sieve.text_of item) (record { rows = 1; kept = 1 })
  kept_one item finds = record {
    all = record { item = item; line_class = LineClass.judged Judgment.Kept } ∷ [];
    in_order = refl;
    found = All-one IsFine (record { item = item; line_class = LineClass.judged Judgment.Kept }) (finds, tt);
    kept = sym (append-nil (sieve.text_of item));
    rows_counted = refl;
    kept_counted = refl;
  }

  left_out : (item : X) → sieve.finds item (LineClass.judged Judgment.LeftOut) → Passes sieve (item ∷ []) [] (record { rows = 1; kept = 0 })
  left_out item finds = record {
    all = record { item = item; line_class = LineClass.judged Judgment.LeftOut } ∷ [];
    in_order = refl;
    found = All-one IsFine (record { item = item; line_class = LineClass.judged Judgment.LeftOut }) (finds, tt);
    kept = refl;
    rows_counted = refl;
    kept_counted = refl;
  }

  passed_over : (item : X) → sieve.finds item LineClass.passed_over → Passes sieve (item ∷ []) [] (record { rows = 0; kept = 0 })
  passed_over item finds = record {
    all = record { item = item; line_class = LineClass.passed_over } ∷ [];
    in_order = refl;
    found = All-one IsFine (record { item = item; line_class = LineClass.passed_over }) (finds, tt);
    kept = refl;
    rows_counted = refl;
    kept_counted = refl;
  }

  -- an item of a class that passes
  Passes-found : (item : X) (number : ℕ) (line_class : LineClass F) (one : Tally) → sieve.finds item line_class
      → outcome_of number line_class ≡ Ok one → Passes sieve (item ∷ []) (text_where_kept one (sieve.text_of item)) one
  Passes-found item number LineClass.too_long one finds step = absurd cc
  Passes-found item number LineClass.passed_over one finds step =
      let same : record { rows = 0; kept = 0 } ≡ one = cc in subst (Counts item) same (passed_over item finds)
  Passes-found item number (LineClass.judged Judgment.Kept) one finds step =
      let same : record { rows = 1; kept = 1 } ≡ one = cc in subst (Counts item) same (kept_one item finds)
  Passes-found item number (LineClass.judged Judgment.LeftOut) one finds step =
      let same : record { rows = 1; kept = 0 } ≡ one = cc in subst (Counts item) same (left_out item finds)
  Passes-found item number (LineClass.judged (Judgment.Fault fault)) one finds step = absurd cc

  -- an item of which a tally comes
  pub Passes-one : (item : X) (number : ℕ) (outcome : Result Tally (RunStop F)) (one : Tally) → ComesOf (sieve.finds item) number outcome
      → outcome ≡ Ok one → Passes sieve (item ∷ []) (text_where_kept one (sieve.text_of item)) one
  Passes-one item number outcome one (inl memory) step = absurd cc
  Passes-one item number outcome one (inr (line_class, finds, is)) step = Passes-found item number line_class one finds (sym is ∙ step)

  -- some items and then more
  pub Passes-append : (xs ys : List X) (s t : List ℕ) (m n : Tally)
      → Passes sieve xs s m → Passes sieve ys t n → Passes sieve (xs ++ ys) (s ++ t) (sum_of m n)
  Passes-append xs ys s t m n before after = record {
    all = before.all ++ after.all;
    in_order = map-append (λ s. s.item) before.all after.all ∙ ap (λ l. l ++ map (λ s. s.item) after.all) before.in_order ∙ ap (λ l. xs ++ l) after.in_order;
    found = All-append IsFine before.all after.all before.found after.found;
    kept = ap (λ l. l ++ t) before.kept ∙ ap (λ l. kept_text sieve.text_of before.all ++ l) after.kept
        ∙ sym (ap (flat_map text) (filter-append kept_item before.all after.all) ∙ flat_map-append text (filter kept_item before.all) (filter kept_item after.all));
    rows_counted = ap (λ k. k + n.rows) before.rows_counted ∙ ap (λ k. count_by row_item before.all + k) after.rows_counted
        ∙ sym (sum_by-append (λ s. cond (row_item s) 1 0) before.all after.all);
    kept_counted = ap (λ k. k + n.kept) before.kept_counted ∙ ap (λ k. count_by kept_item before.all + k) after.kept_counted
        ∙ sym (sum_by-append (λ s. cond (kept_item s) 1 0) before.all after.all);
  }

-- an item counts as one row at most
abbrev CountsOne : Tally → Type 0
CountsOne one = (one.rows ≤ 1) × (one.kept ≤ 1)

class_counts : {F : Type 0} (number : ℕ) (line_class : LineClass F) (one : Tally) → outcome_of number line_class ≡ Ok one → CountsOne one
class_counts number LineClass.too_long one step = absurd cc
class_counts number LineClass.passed_over one step = let same : record { rows = 0; kept = 0 } ≡ one = cc in subst CountsOne same (omega arith, omega arith)
class_counts number (LineClass.judged Judgment.Kept) one step = let same : record { rows = 1; kept = 1 } ≡ one = cc in subst CountsOne same (omega arith, omega arith)
class_counts number (LineClass.judged Judgment.LeftOut) one step = let same : record { rows = 1; kept = 0 } ≡ one = cc in subst CountsOne same (omega arith, omega arith)
class_counts number (LineClass.judged (Judgment.Fault fault)) one step = absurd cc

pub outcome_counts : {F : Type 0} (Finds : LineClass F → Type 0) (number : ℕ) (outcome : Result Tally (RunStop F)) (one : Tally) → ComesOf Finds number outcome → outcome ≡ Ok one → CountsOne one
outcome_counts Finds number outcome one (inl memory) step = absurd cc
outcome_counts Finds number outcome one (inr (line_class, finds, is)) step = class_counts number line_class one (sym is ∙ step)
