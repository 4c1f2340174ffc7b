-- Types of properties and expressions, by name (CSDL JSON 4.01, sections 3 and 7; URL Conventions 4.01, section 5.1.1).
use Rattle.std.specs.Prelude.{ℕ, List}
use Rattle.edm_values.specs.declared.primitive.PrimitiveType.{PrimitiveType}

-- a type of one value: a primitive one, or an enumeration or structured one by its qualified name
pub data SingleType : Type 0 where
  primitive : PrimitiveType → SingleType
  enumeration : List ℕ → SingleType
  structured : List ℕ → SingleType

-- the type of an expression: of null alone, of one value, or of a collection
pub data ExprType : Type 0 where
  null_type : ExprType
  single : SingleType → ExprType
  collection : SingleType → ExprType
