-- What the evaluator's values stand for: those without parts are read alike everywhere.
use Rattle.std.proofs.Common.{◌≡◌, ℤ, refl, sym, subst, Bool, Option, Some, None}
use Rattle.edm_values.specs.Val.{Val, null, whole, fields, items}
use Rattle.edm_values.specs.declared.datum.Datum.{Datum}
use Rattle.edm_values.specs.declared.datum.Datum.TheVariants as datum
use Rattle.edm_values.specs.declared.primitive.PrimitiveType.{PrimitiveType}
use Rattle.csdl_schema.specs.ExprType.{ExprType}
use Rattle.csdl_schema.specs.SchemaModel.{SchemaModel, Slots}
use Rattle.edm_entities.specs.HasType.{HasType}
use Rattle.odata_functions.specs.DatumVal.{Reading, datum_val}
use Rattle.odata_signatures.specs.ExprTypes.{IsBooleanOrNull}
use Rattle.odata_signatures.specs.TypeView.{expr_type}
use Rattle.odata_signatures.specs.declared.edm_type.EdmType.{EdmType}
use Rattle.odata_signatures.specs.declared.edm_type.ValueType.{ValueType}
use Rattle.odata_filter_operations.specs.CalculationGives.{number_val}
use Rattle.odata_filter_operations.specs.TruthGives.{truth_val}
use Rattle.odata_filter_operations.specs.Operators.{AreNumbers, IsOneNumber}
use Rattle.filter_context.specs.private.Place.{IsNumberOperand}
use Rattle.odata_meaning.proofs.meaning.Kinds.{truth_of}
use Rattle.odata_meaning.proofs.meaning.Numbers.{IsNumberIn, number_in}

-- a value without parts
abbrev pub IsPlain : Val → Type 0
IsPlain (fields held) = ⊥
IsPlain (items held) = ⊥
IsPlain _ = Unit {0}

read_alike : (r s : Reading) (d : Datum) → IsPlain (datum_val r d) → datum_val r d ≡ datum_val s d
read_alike r s (datum.Record held) plain = absurd plain
read_alike r s (datum.Sparse held) plain = absurd plain
read_alike r s (datum.List held) plain = absurd plain
read_alike r s _ plain = refl

pub some_number : (number : Option PrimitiveType) (v : Val) → IsNumberIn number v → (n : Option ℤ) × (v ≡ number_val n)
some_number (Some p) (whole n) is = (Some n, refl)
some_number number null is = (None, refl)
some_number None (whole n) is = absurd is
some_number number _ is = absurd is

-- values without parts that the types of an operand allow
pub record PlainValues (Held : Type 0) : Type 1 where
  pub val : Held → Val
  pub plain : (held : Held) → IsPlain (val held)
  pub Allowed : ExprType → Type 0
  pub has : (slots : Slots) (type : ExprType) (v : Val) → Allowed type → HasType slots type v → (held : Held) × (v ≡ val held)

pub truth_plain : (truth : Option Bool) → IsPlain (truth_val truth)
truth_plain (Some b) = tt
truth_plain None = tt

pub number_plain : (number : Option ℤ) → IsPlain (number_val number)
number_plain (Some n) = tt
number_plain None = tt

-- a truth value or null, and a number or null
abbrev pub truth_values : PlainValues (Option Bool)
truth_values = record { val = truth_val; plain = truth_plain; Allowed = IsBooleanOrNull; has = truth_of }

abbrev pub number_values : PlainValues (Option ℤ)
number_values = record {
  val = number_val;
  plain = number_plain;
  Allowed = IsNumberOperand;
  has = λ slots type v allowed has. some_number allowed.0 v (number_in slots type allowed.0 v allowed.1 has);
}

-- a value without parts is read under each reading
pub value_read : (r s : Reading) (d : Datum) (v : Val) → IsPlain v → datum_val r d ≡ v → datum_val s d ≡ v
value_read r s d v plain same =
    let alike : datum_val r d ≡ datum_val s d = read_alike r s d (subst IsPlain (sym same) plain) in
    subst (λ (w : Val). w ≡ v) alike same

-- which numbers a type has does not hang on the schema
pub one_number_anywhere : (schema other : SchemaModel) (type : EdmType) (v : Val) → IsOneNumber (expr_type schema type) v → IsOneNumber (expr_type other type) v
one_number_anywhere schema other (EdmType.Single (ValueType.Prim p)) v is = is
one_number_anywhere schema other type null is = tt
one_number_anywhere schema other _ _ is = absurd is

pub numbers_anywhere : (schema other : SchemaModel) (type : EdmType) (v w : Val) → AreNumbers (expr_type schema type) v w → AreNumbers (expr_type other type) v w
numbers_anywhere schema other (EdmType.Single (ValueType.Prim p)) v w are = are
numbers_anywhere schema other type null null are = tt
numbers_anywhere schema other type null (whole b) are = tt
numbers_anywhere schema other type (whole a) null are = tt
numbers_anywhere schema other _ _ _ are = absurd are
