use Rattle.std.proofs.Common.{◌≡◌, ℤ, Option, Some, SFits, subst, rules, w64}
use Rattle.std.proofs.lemmas.Int.{to_z-of_z}
use Rattle.edm_values.specs.NumberTypes.{IsNumberOf}
use Rattle.odata_signatures.specs.TypeView.{expr_type}
use Rattle.odata_signatures.specs.declared.edm_type.EdmType.{EdmType}
use Rattle.edm_values.specs.Val.{whole}
use Rattle.odata_filter_operations.specs.CalculationGives.{number_val}
use Rattle.odata_filter_operations.specs.Operators.{AreNumbers}
use Rattle.odata_filter_operations.proofs.values.OneReading.{calculation_null, kind_promoted, kind_within, left_in_type, one_schema, right_in_type}
use Rattle.odata_filter_operations.proofs.operators.calculated.Goals as goal

numbers_there : (type : EdmType) (left right : Option ℤ) (a b : ℤ) → left ≡ Some a → right ≡ Some b
    → AreNumbers (expr_type one_schema type) (number_val left) (number_val right) → AreNumbers (expr_type one_schema type) (whole a) (whole b)
numbers_there type left right a b is_left is_right are =
    subst (λ (r : Option ℤ). AreNumbers (expr_type one_schema type) (whole a) (number_val r)) is_right
    (subst (λ (l : Option ℤ). AreNumbers (expr_type one_schema type) (number_val l) (number_val right)) is_left are)

pub arith-requires-clause-promoted : goal.arith-requires-clause-promoted
arith-requires-clause-promoted c =
    let are = numbers_there c.args.edm_type.now c.args.left c.args.right c.in-Some-left.a c.in-Some-right.b c.in-Some-left.is c.in-Some-right.is (c.requires one_schema) in
    kind_promoted c.args.edm_type.now c.in-Some-left.a c.in-Some.prim (left_in_type one_schema c.args.edm_type.now c.in-Some-left.a c.in-Some-right.b are) c.in-Some.ensures.some

pub arith-requires-clause-left : goal.arith-requires-clause-left
arith-requires-clause-left c =
    let are = numbers_there c.args.edm_type.now c.args.left c.args.right c.in-Some-left.a c.in-Some-right.b c.in-Some-left.is c.in-Some-right.is (c.requires one_schema) in
    let within : IsNumberOf c.in-Some.prim c.in-Some-left.a =
    kind_within c.args.edm_type.now c.in-Some-left.a c.in-Some.prim (left_in_type one_schema c.args.edm_type.now c.in-Some-left.a c.in-Some-right.b are) c.in-Some.ensures.some in
    let fits : SFits w64 c.in-Some-left.a = search rules in
    simp to_z-of_z within

pub arith-requires-clause-right : goal.arith-requires-clause-right
arith-requires-clause-right c =
    let are = numbers_there c.args.edm_type.now c.args.left c.args.right c.in-Some-left.a c.in-Some-right.b c.in-Some-left.is c.in-Some-right.is (c.requires one_schema) in
    let within : IsNumberOf c.in-Some.prim c.in-Some-right.b =
    kind_within c.args.edm_type.now c.in-Some-right.b c.in-Some.prim (right_in_type one_schema c.args.edm_type.now c.in-Some-left.a c.in-Some-right.b are) c.in-Some.ensures.some in
    let fits : SFits w64 c.in-Some-right.b = search rules in
    simp to_z-of_z within

pub returns-in-None : goal.returns-in-None
returns-in-None c = λ schema. calculation_null schema c.args.edm_type.now c.in-None.ensures.none c.args.operator c.args.left c.args.right (c.requires schema)
