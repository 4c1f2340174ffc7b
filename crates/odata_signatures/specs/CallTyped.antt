-- Which type a call has, and why it has none (OData URL Conventions 4.01, section 5.1.1.4).
use Rattle.std.specs.Prelude.{◌≡◌, ◌≤◌, ℕ, List, length}
use Rattle.csdl_schema.specs.ExprType.{ExprType, single, primitive}
use Rattle.odata_signatures.specs.declared.call.CallFault.{CallFault}
use Rattle.odata_signatures.specs.declared.function.Function.{Function}
use Rattle.odata_signatures.specs.ArgumentTypes.{AreArgumentTypes}
use Rattle.odata_signatures.specs.Functions.{IsNamed, row_of}

-- the function takes so many arguments
pub record TakesCount (function : Function) (count : ℕ) : Type 0 where
  pub least : (row_of function).least ≤ count
  pub most : count ≤ length (row_of function).arguments

-- the function takes arguments of these types and gives that type
pub record FunctionTyped (function : Function) (types : List ExprType) (type : ExprType) : Type 0 where
  pub count : TakesCount function (length types)
  pub arguments : AreArgumentTypes (row_of function).arguments types
  pub gives : type ≡ single (primitive (row_of function).gives)

-- so does the function of that name
pub record CallTyped (name : List ℕ) (types : List ExprType) (type : ExprType) : Type 0 where
  pub function : Function
  pub named : IsNamed function name
  pub typed : FunctionTyped function types type

-- the function does not take so many arguments, or else not arguments of these types
abbrev pub FunctionReason : Function → List ExprType → CallFault → Type 0
FunctionReason function types CallFault.UnknownFunction = ⊥
FunctionReason function types CallFault.ArgumentCount = ¬ TakesCount function (length types)
FunctionReason function types CallFault.ArgumentType =
    TakesCount function (length types) × ¬ AreArgumentTypes (row_of function).arguments types

-- why a call has no type: no function has that name, or its function has a reason
abbrev pub CallReason : List ℕ → List ExprType → CallFault → Type 0
CallReason name types CallFault.UnknownFunction = (function : Function) → ¬ IsNamed function name
CallReason name types fault = (function : Function) × IsNamed function name × FunctionReason function types fault
