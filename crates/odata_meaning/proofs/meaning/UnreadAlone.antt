-- Where none is read nothing but the operands counts.
use Rattle.std.proofs.Common.{inl, inr, ℤ}
use Rattle.csdl_schema.specs.ExprType.{ExprType}
use Rattle.odata_syntax.specs.Tree.{binary, node}
use Rattle.odata_signatures.specs.Reads.{OfEquality, ReadsNumber}
use Rattle.odata_signatures.specs.Typed.{Typed}
use Rattle.odata_filter_operations.specs.HasGives.{HasGives}
use Rattle.odata_filter_operations.specs.LeftFirst.{After}
use Rattle.odata_filter_operations.specs.Outcome.{Outcome}
use Rattle.odata_meaning.specs.Environment.{scope_of}
use Rattle.odata_meaning.specs.Means.{Means}
use Rattle.odata_meaning.specs.ReadGives.{OperandGives}
use Rattle.odata_meaning.specs.UnreadMeans.{FlagsAlone, ItemsAlone, OperandsAlone}
use Rattle.odata_meaning.proofs.meaning.SameGives.{Both, after_both, itself, sides_both}

-- an operand that is not read evaluates to what its tree does
pub operand_alone : (Reads : ℤ → Type 0) (Alone : Outcome → Type 0) → ((n : ℤ) → ¬ Reads n) → Both (OperandGives Reads Alone) Alone
operand_alone Reads Alone none o = (
  λ given. elim given [
    | inl read ↦ absurd (none read.0 read.1)
    | inr alone ↦ alone.1
  ],
  λ given. inr (none, given),
)

pub operands_alone : OperandsAlone
operands_alone = λ slots root now entity environment start stop operator left right o no_right no_left.
    let N : ExprType → Type 0 = Typed slots root (scope_of environment) (node start stop (binary operator left right)) in
    let L : ExprType → Type 0 = OfEquality operator (Typed slots root (scope_of environment) left) in
    let R : ExprType → Type 0 = OfEquality operator (Typed slots root (scope_of environment) right) in
    let Left : Outcome → Type 0 = Means slots root now entity environment left in
    let Right : Outcome → Type 0 = Means slots root now entity environment right in
    sides_both operator N N (OperandGives (ReadsNumber slots R left) Left) Left (OperandGives (ReadsNumber slots L right) Right) Right
    (λ type. (λ typed. typed, λ typed. typed)) (operand_alone (ReadsNumber slots R left) Left no_left) (operand_alone (ReadsNumber slots L right) Right no_right) o

pub flags_alone : FlagsAlone
flags_alone = λ slots root now entity environment start stop left right o no_right.
    let L : ExprType → Type 0 = Typed slots root (scope_of environment) left in
    let Left : Outcome → Type 0 = Means slots root now entity environment left in
    let Right : Outcome → Type 0 = Means slots root now entity environment right in
    let Operand : Outcome → Type 0 = OperandGives (ReadsNumber slots L right) Right in
    after_both Left Left (λ l. After Operand (HasGives l)) (λ l. After Right (HasGives l)) (itself Left)
    (λ l. after_both Operand Right (HasGives l) (HasGives l) (operand_alone (ReadsNumber slots L right) Right no_right) (λ r. itself (HasGives l r))) o

pub items_alone : ItemsAlone
items_alone = λ slots root now entity environment left item o none.
    operand_alone (ReadsNumber slots (Typed slots root (scope_of environment) left) item) (Means slots root now entity environment item) none o
