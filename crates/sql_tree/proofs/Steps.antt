-- Texts of steps, one after another.
use Rattle.std.proofs.Common.{◌≡◌, ℕ, zero, suc, ◌+◌, List, [], ◌∷◌, ◌++◌, drop, Some, None, refl, sym, ap, subst, ◌∙◌, arith, append-nil, append_assoc}
use Rattle.std.specs.Prelude.{codes, slice_get}
use Rattle.std.specs.List.{AllByRecursion}
use Rattle.sql_tree.specs.PathText.{arrow_text, arrows_text, each_text, scalar_arrows}
use Rattle.sql_tree.specs.TableModel.{TableModel}
use Rattle.sql_tree.specs.declared.json_path.Step.{Step}

same_step : (x y : Step) → Some x ≡ Some y → x ≡ y
same_step x y is = cc

no_step : (x : Step) → None ≡ Some x → ⊥
no_step x is = cc

-- what holds of each holds of one of them
pub each_holds : (P : Step → Type 0) (steps : List Step) (k : ℕ) (step : Step) → AllByRecursion P steps → slice_get steps k ≡ Some step → P step
each_holds P [] k step all is = absurd (no_step step is)
each_holds P (first ∷ rest) zero step all is = subst P (same_step first step is) all.0
each_holds P (first ∷ rest) (suc k) step all is = each_holds P rest k step all.1 is

from_step : (steps : List Step) (k : ℕ) (step : Step) → slice_get steps k ≡ Some step → drop k steps ≡ step ∷ drop (k + 1) steps
from_step [] k step is = absurd (no_step step is)
from_step (first ∷ rest) zero step is = ap (λ (s : Step). s ∷ rest) (same_step first step is)
from_step (first ∷ rest) (suc k) step is =
    let e : suc (k + 1) ≡ suc k + 1 = omega arith in
    from_step rest k step is ∙ ap (λ (n : ℕ). step ∷ drop n (first ∷ rest)) e

-- one more is written
pub step_written : (text : Step → List ℕ) (before after total : List ℕ) (steps : List Step) (k : ℕ) (step : Step) → slice_get steps k ≡ Some step
    → after ≡ before ++ text step → before ++ each_text text (drop k steps) ≡ total → after ++ each_text text (drop (k + 1) steps) ≡ total
step_written text before after total steps k step is written so_far =
    let later = each_text text (drop (k + 1) steps) in
    ap (λ (xs : List ℕ). xs ++ later) written ∙ append_assoc before (text step) later
    ∙ ap (λ (ss : List Step). before ++ each_text text ss) (sym (from_step steps k step is)) ∙ so_far

-- the last of several
pub scalar_last : (table : TableModel) (before : List Step) (last : Step)
    → scalar_arrows table (before ++ last ∷ []) ≡ arrows_text table before ++ arrow_text table (codes "->>") last
scalar_last table [] last = refl
scalar_last table (first ∷ []) last = ap (λ (xs : List ℕ). xs ++ arrow_text table (codes "->>") last) (sym (append-nil (arrow_text table (codes "->") first)))
scalar_last table (first ∷ second ∷ rest) last =
    ap (λ (xs : List ℕ). arrow_text table (codes "->") first ++ xs) (scalar_last table (second ∷ rest) last)
    ∙ sym (append_assoc (arrow_text table (codes "->") first) (arrows_text table (second ∷ rest)) (arrow_text table (codes "->>") last))
