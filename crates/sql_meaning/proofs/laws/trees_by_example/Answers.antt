use Rattle.std.proofs.Common.{◌≡◌, ℤ, Some, subst}
use Rattle.std.specs.Prelude.{pos}
use Rattle.edm_values.specs.Val.{whole}
use Rattle.odata_functions.specs.Division.{IsDivision}
use Rattle.odata_syntax.specs.declared.binary_operator.ArithmeticOperator.{ArithmeticOperator}
use Rattle.odata_filter_operations.specs.Outcome.{Outcome, gives}
use Rattle.sql_meaning.specs.Operands.{BothNumbers, OfNumber, Over}
use Rattle.sql_meaning.specs.OperatorsGive.{GivesWhole}
use Rattle.sql_meaning.specs.Worked.{HasNoMeaning, one_by_zero}
use Rattle.sql_meaning.proofs.laws.trees_by_example.Goals as goal

-- an operand that evaluates to one thing
taken : (c : Outcome) (Goes : Outcome → Outcome → Type 0) (o : Outcome) → Over (λ x. x ≡ c) Goes o → Goes c o
taken c Goes o p = subst (λ (x : Outcome). Goes x o) p.1 p.2

abbrev Quotient : (Outcome → Type 0)
Quotient = GivesWhole ArithmeticOperator.Div (pos 1) (pos 0)

none_by_zero : ((a q r : ℤ) → ¬ (IsDivision a (pos 0) q r)) → HasNoMeaning one_by_zero
none_by_zero none asked bound o means =
    let right : Over (λ x. x ≡ gives (whole (pos 0))) (OfNumber (λ n. BothNumbers (Some (pos 1)) n (GivesWhole ArithmeticOperator.Div))) o =
    taken (gives (whole (pos 1)))
    (OfNumber (λ m. Over (λ x. x ≡ gives (whole (pos 0))) (OfNumber (λ n. BothNumbers m n (GivesWhole ArithmeticOperator.Div))))) o means in
    let made : Quotient o =
    taken (gives (whole (pos 0))) (OfNumber (λ n. BothNumbers (Some (pos 1)) n (GivesWhole ArithmeticOperator.Div))) o right in
    none (pos 1) made.2 made.3.0 made.3.1

pub returns-clause-by_zero : goal.returns-clause-by_zero
returns-clause-by_zero c = none_by_zero c.divisions_are_unique.ensures.zero
