-- The combinators of costs leave exactly one.
use Rattle.std.proofs.Common.{◌≡◌, ◌+◌, ◌∙◌, ℕ, refl, subst, sym, ap, true, false}
use Rattle.edm_values.specs.Val.{Val, null, boolean}
use Rattle.odata_syntax.specs.declared.node.Quantifier.{Quantifier}
use Rattle.odata_syntax.specs.declared.binary_operator.LogicalOperator.{LogicalOperator}
use Rattle.odata_syntax.specs.declared.binary_operator.BinaryOperator.{BinaryOperator}
use Rattle.odata_filter_operations.specs.Outcome.{Outcome, gives, overflow, divides_by_zero}
use Rattle.odata_meaning.specs.Costs.{CostAfter, CostThen, CostsExactly, CostsMore, CostsNothing, OthersCost, RightCosts}

-- exactly one number
pub record Once (Is : ℕ → Type 0) : Type 0 where
  pub number : ℕ
  pub is : Is number
  pub only : (other : ℕ) → Is other → other ≡ number

-- exactly one outcome
pub record EndsAlone (Gives : Outcome → Type 0) : Type 0 where
  pub outcome : Outcome
  pub is : Gives outcome
  pub only : (other : Outcome) → Gives other → other ≡ outcome

pub nothing_once : Once CostsNothing
nothing_once = record { number = 0; is = refl; only = λ other is. is }

pub exactly_once : (cost : ℕ) → Once (CostsExactly cost)
exactly_once cost = record { number = cost; is = refl; only = λ other is. is }

pub more_once : (first : ℕ) (More : ℕ → Type 0) → Once More → Once (CostsMore first More)
more_once first More more = record {
  number = first + more.number;
  is = (more.number, more.is, refl);
  only = λ other costs. let same : costs.0 ≡ more.number = more.only costs.0 costs.1 in costs.2 ∙ ap (λ (k : ℕ). first + k) same;
}

then_once : (outcome : Outcome) (GoesOn : Val → ℕ → Type 0) → ((v : Val) → gives v ≡ outcome → Once (GoesOn v)) → Once (CostThen outcome GoesOn)
then_once (gives v) GoesOn goes = goes v refl
then_once overflow GoesOn goes = nothing_once
then_once divides_by_zero GoesOn goes = nothing_once

both_once : (Operand : Outcome → Type 0) (OperandCosts : ℕ → Type 0) (GoesOn : Val → ℕ → Type 0) (ends : EndsAlone Operand) → Once OperandCosts → Once (CostThen ends.outcome GoesOn)
    → Once (CostAfter Operand OperandCosts GoesOn)
both_once Operand OperandCosts GoesOn ends own rest = record {
  number = own.number + rest.number;
  is = record { outcome = ends.outcome; is = ends.is; own = own.number; costs = own.is; rest = rest.number; follows = rest.is; sum = refl };
  only = λ other costs.
      let same : costs.outcome ≡ ends.outcome = ends.only costs.outcome costs.is in
      let a : costs.own ≡ own.number = own.only costs.own costs.costs in
      let b : costs.rest ≡ rest.number = rest.only costs.rest (subst (λ (o : Outcome). CostThen o GoesOn costs.rest) same costs.follows) in
      costs.sum ∙ (ap (λ (k : ℕ). k + costs.rest) a ∙ ap (λ (k : ℕ). own.number + k) b);
}

pub after_once : (Operand : Outcome → Type 0) (OperandCosts : ℕ → Type 0) (GoesOn : Val → ℕ → Type 0) → EndsAlone Operand → Once OperandCosts
    → ((v : Val) → Operand (gives v) → Once (GoesOn v)) → Once (CostAfter Operand OperandCosts GoesOn)
after_once Operand OperandCosts GoesOn ends own goes =
    both_once Operand OperandCosts GoesOn ends own (then_once ends.outcome GoesOn (λ v same. goes v (subst Operand (sym same) ends.is)))

pub right_once : (operator : BinaryOperator) (l : Val) (Right : ℕ → Type 0) → Once Right → Once (RightCosts operator l Right)
right_once (BinaryOperator.Logical LogicalOperator.And) (boolean false) Right once = nothing_once
right_once (BinaryOperator.Logical LogicalOperator.Or) (boolean true) Right once = nothing_once
right_once _ _ Right once = once

pub others_once : (quantifier : Quantifier) (Others : ℕ → Type 0) (v : Val) → Once Others → Once (OthersCost quantifier Others v)
others_once Quantifier.Any Others (boolean true) once = nothing_once
others_once Quantifier.All Others (boolean false) once = nothing_once
others_once Quantifier.All Others null once = nothing_once
others_once _ Others _ once = once
