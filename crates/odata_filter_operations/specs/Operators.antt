-- Which values arithmetic may be applied to.
use Rattle.edm_values.specs.NumberTypes.{IsNumberOf}
use Rattle.edm_values.specs.Val.{Val, null, whole}
use Rattle.csdl_schema.specs.ExprType.{ExprType, single, primitive}
use Rattle.odata_functions.specs.Promotion.{IsPromoted}

-- numbers or nulls; two numbers lie within the type in which they are computed
abbrev pub AreNumbers : ExprType → Val → Val → Type 0
AreNumbers type null null = Unit {0}
AreNumbers type null (whole b) = Unit {0}
AreNumbers type (whole a) null = Unit {0}
AreNumbers (single (primitive p)) (whole a) (whole b) = IsPromoted p × IsNumberOf p a × IsNumberOf p b
AreNumbers type _ _ = ⊥

-- one number within the type, or null
abbrev pub IsOneNumber : ExprType → Val → Type 0
IsOneNumber type null = Unit {0}
IsOneNumber (single (primitive p)) (whole a) = IsPromoted p × IsNumberOf p a
IsOneNumber type _ = ⊥
