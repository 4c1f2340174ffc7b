-- What operators are asked of a value of the code, taken under one reading and by one schema.
use Rattle.std.proofs.Common.{◌≡◌, ℤ, [], Option, Some, None, Bool, refl, subst}
use Rattle.edm_values.specs.NumberTypes.{IsNumberOf}
use Rattle.edm_values.specs.Val.{null, whole, absent, no_items}
use Rattle.edm_values.specs.declared.datum.Datum.{Datum}
use Rattle.edm_values.specs.declared.datum.Datum.TheVariants as datum
use Rattle.edm_values.specs.declared.primitive.PrimitiveType.{PrimitiveType}
use Rattle.csdl_schema.specs.SchemaModel.{SchemaModel}
use Rattle.odata_functions.specs.DatumVal.{Reading, datum_val}
use Rattle.odata_functions.specs.Promotion.{IsPromoted}
use Rattle.odata_signatures.specs.TypeView.{expr_type}
use Rattle.odata_signatures.specs.declared.edm_type.EdmType.{EdmType}
use Rattle.odata_signatures.specs.declared.edm_type.ValueType.{ValueType}
use Rattle.odata_filter_operations.specs.CalculationGives.{CalculationGives, NegatedGives, number_val}
use Rattle.odata_filter_operations.specs.Outcome.{gives}
use Rattle.odata_filter_operations.specs.TruthGives.{truth_val}
use Rattle.odata_syntax.specs.declared.binary_operator.ArithmeticOperator.{ArithmeticOperator}
use Rattle.odata_filter_operations.specs.Operators.{AreNumbers, IsOneNumber}

-- a reading and a schema, for facts of all of them
pub one_reading : Reading
one_reading = record { fields_of = λ held asked. absent; fields_beside = λ held asked. absent; items_of = λ held. no_items }

pub one_schema : SchemaModel
one_schema = record { types = [] }

-- a truth value or null that is not the one is the other, and likewise a number
pub null_if_no_truth : (reading : Reading) (made : Datum) (truth : Option Bool) → datum_val reading made ≡ truth_val truth
    → ((b : Bool) → made ≡ datum.Bool b → ⊥) → datum_val reading made ≡ null
null_if_no_truth reading datum.Null truth is not_bool = refl
null_if_no_truth reading (datum.Bool b) truth is not_bool = absurd (not_bool b refl)
null_if_no_truth reading _ (Some b) is not_bool = absurd (cc)
null_if_no_truth reading _ None is not_bool = is

pub null_if_no_number : (reading : Reading) (made : Datum) (number : Option ℤ) → datum_val reading made ≡ number_val number
    → ((n : ℤ) → made ≡ datum.Int n → ⊥) → datum_val reading made ≡ null
null_if_no_number reading datum.Null number is not_int = refl
null_if_no_number reading (datum.Int n) number is not_int = absurd (not_int n refl)
null_if_no_number reading _ (Some n) is not_int = absurd (cc)
null_if_no_number reading _ None is not_int = is

-- ---- one number

-- the type of one value in which a number lies
pub record NumberIn (type : EdmType) (n : ℤ) : Type 0 where
  pub kind : PrimitiveType
  pub is_of : type ≡ EdmType.Single (ValueType.Prim kind)
  pub promoted : IsPromoted kind
  pub within : IsNumberOf kind n

pub number_in_type : (schema : SchemaModel) (type : EdmType) (n : ℤ) → IsOneNumber (expr_type schema type) (whole n) → NumberIn type n
number_in_type schema (EdmType.Single (ValueType.Prim p)) n is = record { kind = p; is_of = refl; promoted = is.0; within = is.1 }
number_in_type schema _ n is = absurd is

-- of two numbers it is the same for each
pub left_in_type : (schema : SchemaModel) (type : EdmType) (a b : ℤ) → AreNumbers (expr_type schema type) (whole a) (whole b) → NumberIn type a
left_in_type schema (EdmType.Single (ValueType.Prim p)) a b are = record { kind = p; is_of = refl; promoted = are.0; within = are.1 }
left_in_type schema _ a b are = absurd are

pub right_in_type : (schema : SchemaModel) (type : EdmType) (a b : ℤ) → AreNumbers (expr_type schema type) (whole a) (whole b) → NumberIn type b
right_in_type schema (EdmType.Single (ValueType.Prim p)) a b are = record { kind = p; is_of = refl; promoted = are.0; within = are.2 }
right_in_type schema _ a b are = absurd are

-- the type has that kind
pub kind_promoted : (type : EdmType) (n : ℤ) (p : PrimitiveType) → NumberIn type n → type ≡ EdmType.Single (ValueType.Prim p) → IsPromoted p
kind_promoted type n p number is = let same : number.kind ≡ p = cc in subst IsPromoted same number.promoted

pub kind_within : (type : EdmType) (n : ℤ) (p : PrimitiveType) → NumberIn type n → type ≡ EdmType.Single (ValueType.Prim p) → IsNumberOf p n
kind_within type n p number is = let same : number.kind ≡ p = cc in subst (λ (q : PrimitiveType). IsNumberOf q n) same number.within

-- ---- no number: at any other type an operand is null

module _ (schema : SchemaModel) (type : EdmType) (other : (p : PrimitiveType) → type ≡ EdmType.Single (ValueType.Prim p) → ⊥) where
  pub calculation_null : (operator : ArithmeticOperator) (left right : Option ℤ) → AreNumbers (expr_type schema type) (number_val left) (number_val right)
      → CalculationGives operator (expr_type schema type) (number_val left) (number_val right) (gives null)
  calculation_null operator None None are = refl
  calculation_null operator None (Some b) are = refl
  calculation_null operator (Some a) None are = refl
  calculation_null operator (Some a) (Some b) are =
      let number = left_in_type schema type a b are in
      absurd (other number.kind number.is_of)

  pub negation_null : (operand : Option ℤ) → IsOneNumber (expr_type schema type) (number_val operand) → NegatedGives (expr_type schema type) (number_val operand) (gives null)
  negation_null None is = refl
  negation_null (Some n) is =
      let number = number_in_type schema type n is in
      absurd (other number.kind number.is_of)
