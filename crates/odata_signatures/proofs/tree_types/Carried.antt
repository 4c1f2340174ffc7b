-- What a node's type is made of, carried over to operands that have the types of its own.
use Rattle.std.proofs.Common.{ℕ, List}
use Rattle.csdl_schema.specs.ExprType.{ExprType, single, collection}
use Rattle.odata_signatures.specs.Typed.{ArgumentsTyped, ItemsTyped, LambdaTyped, OperandTyped, OperandsTyped, Scope, with_variable}

pub operand_carried : {From To : ExprType → Type 0} {Makes : ExprType → ExprType → Type 0} {type : ExprType}
    → ((t : ExprType) → From t → To t) → OperandTyped From Makes type → OperandTyped To Makes type
operand_carried carry typed =
    record { operand = typed.operand; operand_typed = carry typed.operand typed.operand_typed; makes = typed.makes }

pub operands_carried : {Left Left' Right Right' : ExprType → Type 0} {Makes Makes' : ExprType → ExprType → ExprType → Type 0} {type : ExprType}
    → ((t : ExprType) → Left t → Left' t) → ((t : ExprType) → Right t → Right' t) → ((l r : ExprType) → Makes l r type → Makes' l r type)
    → OperandsTyped Left Right Makes type → OperandsTyped Left' Right' Makes' type
operands_carried left right makes typed = record {
  left = typed.left;
  right = typed.right;
  left_typed = left typed.left typed.left_typed;
  right_typed = right typed.right typed.right_typed;
  makes = makes typed.left typed.right typed.makes;
}

pub items_carried : {Left Left' : ExprType → Type 0} {Items Items' : List ExprType → Type 0} {Makes Makes' : ExprType → List ExprType → ExprType → Type 0} {type : ExprType}
    → ((t : ExprType) → Left t → Left' t) → ((ts : List ExprType) → Items ts → Items' ts)
    → ((l : ExprType) (ts : List ExprType) → Items ts → Items' ts → Makes l ts type → Makes' l ts type)
    → ItemsTyped Left Items Makes type → ItemsTyped Left' Items' Makes' type
items_carried left items makes typed = record {
  left = typed.left;
  items = typed.items;
  left_typed = left typed.left typed.left_typed;
  items_typed = items typed.items typed.items_typed;
  makes = makes typed.left typed.items typed.items_typed (items typed.items typed.items_typed) typed.makes;
}

pub arguments_carried : {asked : List ℕ} {From To : List ExprType → Type 0} {type : ExprType}
    → ((ts : List ExprType) → From ts → To ts) → ArgumentsTyped asked From type → ArgumentsTyped asked To type
arguments_carried carry typed =
    record { types = typed.types; arguments_typed = carry typed.types typed.arguments_typed; call_typed = typed.call_typed }

pub lambda_carried : {scope : Scope} {variable : List ℕ} {Base Base' : ExprType → Type 0} {Body Body' : Scope → ExprType → Type 0} {type : ExprType}
    → ((t : ExprType) → Base t → Base' t) → ((at : Scope) (t : ExprType) → Body at t → Body' at t)
    → LambdaTyped scope variable Base Body type → LambdaTyped scope variable Base' Body' type
lambda_carried {scope = scope} {variable = variable} base body typed = record {
  member_type = typed.member_type;
  body = typed.body;
  binds = record { over = base (collection typed.member_type) typed.binds.over; fresh = typed.binds.fresh };
  body_typed = body (with_variable scope variable (single typed.member_type)) typed.body typed.body_typed;
  truth = typed.truth;
  makes = typed.makes;
}
