use Rattle.sql_forms.proofs.Common.{subst, sym, ComparisonOperator, AreOpposite}
use Rattle.sql_outcomes.proofs.outcomes.OppositeComparisons.{are_opposite}
use Rattle.sql_forms.proofs.comparison_forms.opposite.Goals as goal

pub returns-in-Eq : goal.returns-in-Eq
returns-in-Eq c =
    subst (λ (operator : ComparisonOperator). AreOpposite operator ComparisonOperator.Ne) (sym c.in-Eq.is)
    (are_opposite (λ operator v w. let d = c.comparisons_are_decided.ensures.decided operator v w in (d.0, d.1.0, d.1.1)) ComparisonOperator.Eq)

pub returns-in-Ne : goal.returns-in-Ne
returns-in-Ne c =
    subst (λ (operator : ComparisonOperator). AreOpposite operator ComparisonOperator.Eq) (sym c.in-Ne.is)
    (are_opposite (λ operator v w. let d = c.comparisons_are_decided.ensures.decided operator v w in (d.0, d.1.0, d.1.1)) ComparisonOperator.Ne)

pub returns-in-Gt : goal.returns-in-Gt
returns-in-Gt c =
    subst (λ (operator : ComparisonOperator). AreOpposite operator ComparisonOperator.Le) (sym c.in-Gt.is)
    (are_opposite (λ operator v w. let d = c.comparisons_are_decided.ensures.decided operator v w in (d.0, d.1.0, d.1.1)) ComparisonOperator.Gt)

pub returns-in-Ge : goal.returns-in-Ge
returns-in-Ge c =
    subst (λ (operator : ComparisonOperator). AreOpposite operator ComparisonOperator.Lt) (sym c.in-Ge.is)
    (are_opposite (λ operator v w. let d = c.comparisons_are_decided.ensures.decided operator v w in (d.0, d.1.0, d.1.1)) ComparisonOperator.Ge)

pub returns-in-Lt : goal.returns-in-Lt
returns-in-Lt c =
    subst (λ (operator : ComparisonOperator). AreOpposite operator ComparisonOperator.Ge) (sym c.in-Lt.is)
    (are_opposite (λ operator v w. let d = c.comparisons_are_decided.ensures.decided operator v w in (d.0, d.1.0, d.1.1)) ComparisonOperator.Lt)

pub returns-in-Le : goal.returns-in-Le
returns-in-Le c =
    subst (λ (operator : ComparisonOperator). AreOpposite operator ComparisonOperator.Gt) (sym c.in-Le.is)
    (are_opposite (λ operator v w. let d = c.comparisons_are_decided.ensures.decided operator v w in (d.0, d.1.0, d.1.1)) ComparisonOperator.Le)
