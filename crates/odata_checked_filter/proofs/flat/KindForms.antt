-- The form of a tree, by the kind of its node.
use Rattle.std.proofs.Common.{◌≡◌, ◌≢◌, ℕ, List, Some, None, slice_get, subst}
use Rattle.odata_syntax.specs.Tree.{Shape, Tree, Trees, any_item, binary, call, count, has, in_list, in_path, it, lambda, literal, logical_not, member, name, negation, node}
use Rattle.odata_syntax.specs.declared.binary_operator.BinaryOperator.{BinaryOperator}
use Rattle.odata_syntax.specs.declared.node.LiteralKind.{LiteralKind}
use Rattle.odata_syntax.specs.declared.node.Quantifier.{Quantifier}
use Rattle.csdl_schema.specs.ExprType.{single, structured}
use Rattle.csdl_schema.specs.SchemaModel.{SchemaModel, Slots, slot_named, slots_of, type_name_at}
use Rattle.odata_signatures.specs.Functions.{IsNamed}
use Rattle.odata_signatures.specs.Typed.{Scope, Typed}
use Rattle.odata_signatures.specs.declared.function.Function.{Function}
use Rattle.odata_checked_filter.specs.FlatTree.{FlatTree}
use Rattle.odata_checked_filter.specs.Levels.{level_named}
use Rattle.odata_checked_filter.specs.Stands.{IsKindOf, variable_names}
use Rattle.odata_checked_filter.specs.declared.checked_node.CheckedNode.{CheckedNode}
use Rattle.odata_checked_filter.specs.declared.checked_node.NodeKind.{NodeKind}
use Rattle.odata_checked_filter.specs.private.Layout.{Lies}
use Rattle.odata_checked_filter.proofs.flat.Places.{same_found}

-- a tree's shape, and the kind of its node
pub data HasForm (slots : Slots) (root : List ℕ) (scope : Scope) : Shape → NodeKind → Type 0 where
  literal_form : {kind : LiteralKind} {spelling : List ℕ} {place : ℕ} → HasForm slots root scope (literal kind spelling) (NodeKind.Literal kind place)
  it_form : HasForm slots root scope it NodeKind.It
  variable_form : {asked : List ℕ} {level : ℕ} → level_named (variable_names scope) asked ≡ Some level → HasForm slots root scope (name asked) (NodeKind.Variable level)
  property_form :
      {asked : List ℕ} {slot : ℕ} → level_named (variable_names scope) asked ≡ None → slot_named (slots.properties root) asked ≡ Some slot
      → HasForm slots root scope (name asked) (NodeKind.Property slot)
  member_form :
      {base : Tree} {asked : List ℕ} {slot : ℕ} → (owner : List ℕ) → Typed slots root scope base (single (structured owner)) → slot_named (slots.properties owner) asked ≡ Some slot
      → HasForm slots root scope (member base asked) (NodeKind.Member slot)
  count_form : {base : Tree} → HasForm slots root scope (count base) NodeKind.Count
  negation_form : {operand : Tree} → HasForm slots root scope (negation operand) NodeKind.Neg
  not_form : {operand : Tree} → HasForm slots root scope (logical_not operand) NodeKind.Not
  binary_form : {operator : BinaryOperator} {left right : Tree} → HasForm slots root scope (binary operator left right) (NodeKind.Binary operator)
  has_form : {left right : Tree} → HasForm slots root scope (has left right) NodeKind.Has
  list_form : {left : Tree} {items : Trees} → HasForm slots root scope (in_list left items) NodeKind.InList
  path_form : {left path : Tree} → HasForm slots root scope (in_path left path) NodeKind.InPath
  now_form : {asked : List ℕ} {arguments : Trees} → IsNamed Function.Now asked → HasForm slots root scope (call asked arguments) NodeKind.Now
  call_form : {asked : List ℕ} {arguments : Trees} {function : Function} → IsNamed function asked → function ≢ Function.Now → HasForm slots root scope (call asked arguments) (NodeKind.Call function)
  any_form : {base : Tree} → HasForm slots root scope (any_item base) NodeKind.AnyItem
  lambda_form :
      {quantifier : Quantifier} {base : Tree} {variable : List ℕ} {body : Tree}
      → HasForm slots root scope (lambda quantifier base variable body) (NodeKind.Lambda quantifier)

pub form_of : (slots : Slots) (root : List ℕ) (scope : Scope) (shape : Shape) (kind : NodeKind) → IsKindOf slots root scope shape kind → HasForm slots root scope shape kind
form_of slots root scope (literal kind spelling) (NodeKind.Literal written place) is = rw is literal_form
form_of slots root scope (name asked) (NodeKind.Variable level) is = variable_form is
form_of slots root scope (name asked) (NodeKind.Property slot) is = property_form is.0 is.1
form_of slots root scope (member base asked) (NodeKind.Member slot) is = member_form is.0 is.1 is.2
form_of slots root scope (call asked arguments) NodeKind.Now is = now_form is
form_of slots root scope (call asked arguments) (NodeKind.Call function) is = call_form is.0 is.1
form_of slots root scope it kind is = rw is it_form
form_of slots root scope (count base) kind is = rw is count_form
form_of slots root scope (negation operand) kind is = rw is negation_form
form_of slots root scope (logical_not operand) kind is = rw is not_form
form_of slots root scope (binary operator left right) kind is = rw is binary_form
form_of slots root scope (has left right) kind is = rw is has_form
form_of slots root scope (in_list left items) kind is = rw is list_form
form_of slots root scope (in_path left path) kind is = rw is path_form
form_of slots root scope (any_item base) kind is = rw is any_form
form_of slots root scope (lambda quantifier base variable body) kind is = rw is lambda_form
form_of slots root scope _ _ is = absurd is

-- of the tree that lies at an index
pub form_there :
    (schema : SchemaModel) (n : ℕ) (scope : Scope) (list : FlatTree) (place stop start end : ℕ) (shape : Shape) (found : CheckedNode)
    → Lies schema n scope list place stop (node start end shape) → slice_get list.nodes place ≡ Some found
    → HasForm (slots_of schema) (type_name_at schema n) scope shape found.kind
form_there schema n scope list place stop start end shape found stands at =
    subst (λ (f : CheckedNode). HasForm (slots_of schema) (type_name_at schema n) scope shape f.kind)
    (same_found (slice_get list.nodes place) stands.top.found found stands.top.stands_at at)
    (form_of (slots_of schema) (type_name_at schema n) scope shape stands.top.found.kind stands.top.kind)

-- where the kind is known
pub form_at :
    (schema : SchemaModel) (n : ℕ) (scope : Scope) (list : FlatTree) (place stop start end : ℕ) (shape : Shape) (found : CheckedNode) (kind : NodeKind)
    → Lies schema n scope list place stop (node start end shape) → slice_get list.nodes place ≡ Some found
    → found.kind ≡ kind → HasForm (slots_of schema) (type_name_at schema n) scope shape kind
form_at schema n scope list place stop start end shape found kind stands at is =
    subst (λ (k : NodeKind). HasForm (slots_of schema) (type_name_at schema n) scope shape k) is (form_there schema n scope list place stop start end shape found stands at)
