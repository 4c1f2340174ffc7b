use Rattle.std.proofs.Common.{◌≡◌, ℤ, Option, Some, SFits, subst, rules, w64}
use Rattle.std.proofs.lemmas.Int.{to_z-of_z}
use Rattle.edm_values.specs.NumberTypes.{IsNumberOf}
use Rattle.odata_signatures.specs.TypeView.{expr_type}
use Rattle.odata_signatures.specs.declared.edm_type.EdmType.{EdmType}
use Rattle.odata_filter_operations.specs.CalculationGives.{number_val}
use Rattle.odata_filter_operations.specs.Operators.{IsOneNumber}
use Rattle.odata_filter_operations.proofs.values.OneReading.{NumberIn, kind_promoted, kind_within, negation_null, number_in_type, one_schema}
use Rattle.odata_filter_operations.proofs.operators.negated.Goals as goal

number_there : (type : EdmType) (operand : Option ℤ) (n : ℤ) → operand ≡ Some n
    → IsOneNumber (expr_type one_schema type) (number_val operand) → NumberIn type n
number_there type operand n is number =
    number_in_type one_schema type n (subst (λ (o : Option ℤ). IsOneNumber (expr_type one_schema type) (number_val o)) is number)

pub negate-requires-clause-promoted : goal.negate-requires-clause-promoted
negate-requires-clause-promoted c =
    kind_promoted c.args.edm_type.now c.in-Some-operand.n c.in-Some.prim
    (number_there c.args.edm_type.now c.args.operand c.in-Some-operand.n c.in-Some-operand.is (c.requires one_schema)) c.in-Some.ensures.some

pub negate-requires-clause-operand : goal.negate-requires-clause-operand
negate-requires-clause-operand c =
    let number = number_there c.args.edm_type.now c.args.operand c.in-Some-operand.n c.in-Some-operand.is (c.requires one_schema) in
    let within : IsNumberOf c.in-Some.prim c.in-Some-operand.n = kind_within c.args.edm_type.now c.in-Some-operand.n c.in-Some.prim number c.in-Some.ensures.some in
    let fits : SFits w64 c.in-Some-operand.n = search rules in
    simp to_z-of_z within

pub returns-in-None : goal.returns-in-None
returns-in-None c = λ schema. negation_null schema c.args.edm_type.now c.in-None.ensures.none c.args.operand (c.requires schema)
