use Rattle.std.proofs.Common.{◌≡◌, None}
use Rattle.odata_signatures.specs.ExprTypes.{boolean_type}
use Rattle.odata_signatures.specs.HasTyped.{AreFlags}
use Rattle.odata_signatures.specs.TypeView.{expr_type}
use Rattle.odata_typing.proofs.forms.Infix.{both_some, none_both}
use Rattle.odata_typing.proofs.binary_node.infix_type.Goals as goal

pub returns-in-Binary-clause-typed : goal.returns-in-Binary-clause-typed
returns-in-Binary-clause-typed c = rw c.in-Binary.is c.binary_type.ensures.typed

pub returns-in-Binary-clause-none : goal.returns-in-Binary-clause-none
returns-in-Binary-clause-none c = rw c.in-Binary.is c.binary_type.ensures.none

pub returns-in-Has-clause-typed : goal.returns-in-Has-clause-typed
returns-in-Has-clause-typed c =
    rw c.in-Has.is
    (both_some c.has_type.result (λ t. AreFlags (expr_type c.args.schema.now c.args.types.now.left) (expr_type c.args.schema.now c.args.types.now.right)) (λ t. expr_type c.args.schema.now t ≡ boolean_type) c.has_type.ensures.flags c.has_type.ensures.typed)

pub returns-in-Has-clause-none : goal.returns-in-Has-clause-none
returns-in-Has-clause-none c =
    rw c.in-Has.is (none_both c.has_type.result (AreFlags (expr_type c.args.schema.now c.args.types.now.left) (expr_type c.args.schema.now c.args.types.now.right)) (λ type. type ≡ boolean_type) c.has_type.ensures.none)

pub returns-in-InPath-clause-typed : goal.returns-in-InPath-clause-typed
returns-in-InPath-clause-typed c = rw c.in-InPath.is (c.in_path_type.ensures.typed None None)

pub returns-in-InPath-clause-none : goal.returns-in-InPath-clause-none
returns-in-InPath-clause-none c = rw c.in-InPath.is (c.in_path_type.ensures.none None None)
