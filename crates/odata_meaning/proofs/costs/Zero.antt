-- What makes a cost nothing.
use Rattle.std.proofs.Common.{◌≡◌, ◌+◌, ◌∙◌, ℕ, arith, refl, subst, sym, true, false}
use Rattle.edm_values.specs.Val.{Val, null, boolean}
use Rattle.odata_syntax.specs.declared.node.Quantifier.{Quantifier}
use Rattle.odata_syntax.specs.declared.binary_operator.LogicalOperator.{LogicalOperator}
use Rattle.odata_syntax.specs.declared.binary_operator.BinaryOperator.{BinaryOperator}
use Rattle.odata_filter_operations.specs.Outcome.{Outcome, gives, overflow, divides_by_zero}
use Rattle.odata_meaning.specs.Costs.{CostAfter, CostThen, CostsExactly, OthersCost, RightCosts}

-- only nothing
abbrev pub IsFree : (ℕ → Type 0) → Type 0
IsFree Costs = (n : ℕ) → Costs n → n ≡ 0

pub then_free : (outcome : Outcome) (GoesOn : Val → ℕ → Type 0) → ((v : Val) → IsFree (GoesOn v)) → IsFree (CostThen outcome GoesOn)
then_free (gives v) GoesOn free = free v
then_free overflow GoesOn free = λ n is. is
then_free divides_by_zero GoesOn free = λ n is. is

no_sum : (n a b : ℕ) → n ≡ a + b → a ≡ 0 → b ≡ 0 → n ≡ 0
no_sum n a b sum first second = omega (arith, sum, first, second)

pub after_free : (Operand : Outcome → Type 0) (OperandCosts : ℕ → Type 0) (GoesOn : Val → ℕ → Type 0) → IsFree OperandCosts → ((v : Val) → IsFree (GoesOn v))
    → IsFree (CostAfter Operand OperandCosts GoesOn)
after_free Operand OperandCosts GoesOn own rest n costs =
    no_sum n costs.own costs.rest costs.sum (own costs.own costs.costs) (then_free costs.outcome GoesOn rest costs.rest costs.follows)

pub right_free : (operator : BinaryOperator) (l : Val) (Right : ℕ → Type 0) → IsFree Right → IsFree (RightCosts operator l Right)
right_free (BinaryOperator.Logical LogicalOperator.And) (boolean false) Right free = λ n is. is
right_free (BinaryOperator.Logical LogicalOperator.Or) (boolean true) Right free = λ n is. is
right_free _ _ Right free = free

pub others_free : (quantifier : Quantifier) (Others : ℕ → Type 0) (v : Val) → IsFree Others → IsFree (OthersCost quantifier Others v)
others_free Quantifier.Any Others (boolean true) free = λ n is. is
others_free Quantifier.All Others (boolean false) free = λ n is. is
others_free Quantifier.All Others null free = λ n is. is
others_free _ Others _ free = free

-- only nothing, where what is known of the operand's value helps
pub then_nothing : (outcome : Outcome) (GoesOn : Val → ℕ → Type 0) → ((v : Val) → gives v ≡ outcome → IsFree (GoesOn v)) → IsFree (CostThen outcome GoesOn)
then_nothing (gives v) GoesOn free = free v refl
then_nothing overflow GoesOn free = λ n is. is
then_nothing divides_by_zero GoesOn free = λ n is. is

pub after_nothing : (Operand : Outcome → Type 0) (OperandCosts : ℕ → Type 0) (GoesOn : Val → ℕ → Type 0) → IsFree OperandCosts → ((v : Val) → Operand (gives v) → IsFree (GoesOn v))
    → IsFree (CostAfter Operand OperandCosts GoesOn)
after_nothing Operand OperandCosts GoesOn own rest n costs =
    no_sum n costs.own costs.rest costs.sum (own costs.own costs.costs)
    (then_nothing costs.outcome GoesOn (λ v same. rest v (subst Operand (sym same) costs.is)) costs.rest costs.follows)

pub exactly_nothing : (cost : ℕ) → cost ≡ 0 → IsFree (CostsExactly cost)
exactly_nothing cost none = λ n is. is ∙ none
