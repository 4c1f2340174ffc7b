-- A tree's normal form has the tree's types.
use Rattle.std.proofs.Common.{◌≡◌, sym, ap, ◌∙◌, subst, ℕ, List, [], ◌∷◌}
use Rattle.odata_syntax.specs.NormalForm.{AreNormalForms, IsNormalForm}
use Rattle.odata_syntax.specs.Tree.{Shape, Tree, Trees, any_item, binary, call, count, has, in_list, in_path, it, lambda, literal, logical_not, member, more_trees, name, negation, no_trees, node}
use Rattle.csdl_schema.specs.ExprType.{ExprType}
use Rattle.csdl_schema.specs.SchemaModel.{Slots}
use Rattle.odata_signatures.specs.Typed.{AreTyped, Scope, Typed}
use Rattle.odata_signatures.proofs.tree_types.Carried.{arguments_carried, items_carried, lambda_carried, operand_carried, operands_carried}
use Rattle.odata_signatures.specs.CollectionTyped.{InListTyped}
use Rattle.odata_signatures.specs.HasTyped.{HasTyped}
use Rattle.odata_signatures.specs.OperatorTyped.{OperatorTyped}
use Rattle.odata_signatures.proofs.tree_types.Sides.{alike_normal, between_carried, list_carried, quoted_normal, turned}
use Rattle.odata_signatures.proofs.printed.Literals.{LiteralFacts, alike, typed_from, typed_to}

-- what the normal form is, by its shape
pub made : (start stop : ℕ) (other shape : Shape) (normal : Tree) → normal ≡ node start stop other → other ≡ shape → normal ≡ node start stop shape
made start stop other shape normal is same = is ∙ ap (λ (s : Shape). node start stop s) same

mutual
  pub types_to : LiteralFacts → (slots : Slots) (root : List ℕ) (scope : Scope) (tree normal : Tree) (type : ExprType)
      → IsNormalForm tree normal → Typed slots root scope tree type → Typed slots root scope normal type
  types_to facts slots root scope (node start stop (literal kind text)) normal type is typed =
      subst (λ (t : Tree). Typed slots root scope t type) (sym (made start stop is.0 (literal kind is.1.0) normal is.2 is.1.2))
      (typed_to slots kind text is.1.0 type (alike facts slots kind text is.1.0 is.1.1.is) typed)
  types_to facts slots root scope (node start stop it) normal type is typed =
      subst (λ (t : Tree). Typed slots root scope t type) (sym (made start stop is.0 it normal is.2 is.1))
      typed
  types_to facts slots root scope (node start stop (name asked)) normal type is typed =
      subst (λ (t : Tree). Typed slots root scope t type) (sym (made start stop is.0 (name asked) normal is.2 is.1))
      typed
  types_to facts slots root scope (node start stop (member base asked)) normal type is typed =
      subst (λ (t : Tree). Typed slots root scope t type) (sym (made start stop is.0 (member is.1.0 asked) normal is.2 is.1.2))
      (operand_carried (λ t. types_to facts slots root scope base is.1.0 t is.1.1) typed)
  types_to facts slots root scope (node start stop (count base)) normal type is typed =
      subst (λ (t : Tree). Typed slots root scope t type) (sym (made start stop is.0 (count is.1.0) normal is.2 is.1.2))
      (operand_carried (λ t. types_to facts slots root scope base is.1.0 t is.1.1) typed)
  types_to facts slots root scope (node start stop (negation operand)) normal type is typed =
      subst (λ (t : Tree). Typed slots root scope t type) (sym (made start stop is.0 (negation is.1.0) normal is.2 is.1.2))
      (operand_carried (λ t. types_to facts slots root scope operand is.1.0 t is.1.1) typed)
  types_to facts slots root scope (node start stop (logical_not operand)) normal type is typed =
      subst (λ (t : Tree). Typed slots root scope t type) (sym (made start stop is.0 (logical_not is.1.0) normal is.2 is.1.2))
      (operand_carried (λ t. types_to facts slots root scope operand is.1.0 t is.1.1) typed)
  types_to facts slots root scope (node start stop (binary operator left right)) normal type is typed =
      subst (λ (t : Tree). Typed slots root scope t type) (sym (made start stop is.0 (binary operator is.1.0 is.1.1) normal is.2 is.1.4))
      (operands_carried (λ t. types_to facts slots root scope left is.1.0 t is.1.2) (λ t. types_to facts slots root scope right is.1.1 t is.1.3)
      (λ l r makes. between_carried (OperatorTyped slots operator) left right is.1.0 is.1.1 l r type (quoted_normal left is.1.0 is.1.2) (quoted_normal right is.1.1 is.1.3) makes) typed)
  types_to facts slots root scope (node start stop (has left right)) normal type is typed =
      subst (λ (t : Tree). Typed slots root scope t type) (sym (made start stop is.0 (has is.1.0 is.1.1) normal is.2 is.1.4))
      (operands_carried (λ t. types_to facts slots root scope left is.1.0 t is.1.2) (λ t. types_to facts slots root scope right is.1.1 t is.1.3)
      (λ l r makes. between_carried (HasTyped slots) left right is.1.0 is.1.1 l r type (quoted_normal left is.1.0 is.1.2) (quoted_normal right is.1.1 is.1.3) makes) typed)
  types_to facts slots root scope (node start stop (in_list left items)) normal type is typed =
      subst (λ (t : Tree). Typed slots root scope t type) (sym (made start stop is.0 (in_list is.1.0 is.1.1) normal is.2 is.1.4))
      (items_carried (λ t. types_to facts slots root scope left is.1.0 t is.1.2) (λ ts. all_to facts slots root scope items is.1.1 ts is.1.3)
      (λ l types before after makes. list_carried (InListTyped slots) left is.1.0 items is.1.1 l types type (quoted_normal left is.1.0 is.1.2) (alike_normal items is.1.1 is.1.3) makes) typed)
  types_to facts slots root scope (node start stop (in_path left path)) normal type is typed =
      subst (λ (t : Tree). Typed slots root scope t type) (sym (made start stop is.0 (in_path is.1.0 is.1.1) normal is.2 is.1.4))
      (operands_carried (λ t. types_to facts slots root scope left is.1.0 t is.1.2) (λ t. types_to facts slots root scope path is.1.1 t is.1.3)
      (λ l r makes. makes) typed)
  types_to facts slots root scope (node start stop (call asked arguments)) normal type is typed =
      subst (λ (t : Tree). Typed slots root scope t type) (sym (made start stop is.0 (call asked is.1.0) normal is.2 is.1.2))
      (arguments_carried (λ ts. all_to facts slots root scope arguments is.1.0 ts is.1.1) typed)
  types_to facts slots root scope (node start stop (any_item base)) normal type is typed =
      subst (λ (t : Tree). Typed slots root scope t type) (sym (made start stop is.0 (any_item is.1.0) normal is.2 is.1.2))
      (operand_carried (λ t. types_to facts slots root scope base is.1.0 t is.1.1) typed)
  types_to facts slots root scope (node start stop (lambda quantifier base variable body)) normal type is typed =
      subst (λ (t : Tree). Typed slots root scope t type) (sym (made start stop is.0 (lambda quantifier is.1.0 variable is.1.1) normal is.2 is.1.4))
      (lambda_carried (λ t. types_to facts slots root scope base is.1.0 t is.1.2) (λ at t. types_to facts slots root at body is.1.1 t is.1.3) typed)

  all_to : LiteralFacts → (slots : Slots) (root : List ℕ) (scope : Scope) (trees normals : Trees) (types : List ExprType)
      → AreNormalForms trees normals → AreTyped slots root scope trees types → AreTyped slots root scope normals types
  all_to facts slots root scope no_trees normals types are typed = subst (λ (ts : Trees). AreTyped slots root scope ts types) (sym are) typed
  all_to facts slots root scope (more_trees tree trees) normals [] are typed = absurd typed
  all_to facts slots root scope (more_trees tree trees) normals (type ∷ types) are typed =
      subst (λ (ts : Trees). AreTyped slots root scope ts (type ∷ types)) (sym are.4)
      (types_to facts slots root scope tree are.0 type are.2 typed.0, all_to facts slots root scope trees are.1 types are.3 typed.1)

mutual
  pub types_from : LiteralFacts → (slots : Slots) (root : List ℕ) (scope : Scope) (tree normal : Tree) (type : ExprType)
      → IsNormalForm tree normal → Typed slots root scope normal type → Typed slots root scope tree type
  types_from facts slots root scope (node start stop (literal kind text)) normal type is typed =
      typed_from slots kind text is.1.0 type (alike facts slots kind text is.1.0 is.1.1.is)
      (subst (λ (t : Tree). Typed slots root scope t type) (made start stop is.0 (literal kind is.1.0) normal is.2 is.1.2) typed)
  types_from facts slots root scope (node start stop it) normal type is typed =
      subst (λ (t : Tree). Typed slots root scope t type) (made start stop is.0 it normal is.2 is.1) typed
  types_from facts slots root scope (node start stop (name asked)) normal type is typed =
      subst (λ (t : Tree). Typed slots root scope t type) (made start stop is.0 (name asked) normal is.2 is.1) typed
  types_from facts slots root scope (node start stop (member base asked)) normal type is typed =
      operand_carried (λ t. types_from facts slots root scope base is.1.0 t is.1.1)
      (subst (λ (t : Tree). Typed slots root scope t type) (made start stop is.0 (member is.1.0 asked) normal is.2 is.1.2) typed)
  types_from facts slots root scope (node start stop (count base)) normal type is typed =
      operand_carried (λ t. types_from facts slots root scope base is.1.0 t is.1.1)
      (subst (λ (t : Tree). Typed slots root scope t type) (made start stop is.0 (count is.1.0) normal is.2 is.1.2) typed)
  types_from facts slots root scope (node start stop (negation operand)) normal type is typed =
      operand_carried (λ t. types_from facts slots root scope operand is.1.0 t is.1.1)
      (subst (λ (t : Tree). Typed slots root scope t type) (made start stop is.0 (negation is.1.0) normal is.2 is.1.2) typed)
  types_from facts slots root scope (node start stop (logical_not operand)) normal type is typed =
      operand_carried (λ t. types_from facts slots root scope operand is.1.0 t is.1.1)
      (subst (λ (t : Tree). Typed slots root scope t type) (made start stop is.0 (logical_not is.1.0) normal is.2 is.1.2) typed)
  types_from facts slots root scope (node start stop (binary operator left right)) normal type is typed =
      operands_carried (λ t. types_from facts slots root scope left is.1.0 t is.1.2) (λ t. types_from facts slots root scope right is.1.1 t is.1.3)
      (λ l r makes. between_carried (OperatorTyped slots operator) is.1.0 is.1.1 left right l r type (sym (quoted_normal left is.1.0 is.1.2)) (sym (quoted_normal right is.1.1 is.1.3)) makes)
      (subst (λ (t : Tree). Typed slots root scope t type) (made start stop is.0 (binary operator is.1.0 is.1.1) normal is.2 is.1.4) typed)
  types_from facts slots root scope (node start stop (has left right)) normal type is typed =
      operands_carried (λ t. types_from facts slots root scope left is.1.0 t is.1.2) (λ t. types_from facts slots root scope right is.1.1 t is.1.3)
      (λ l r makes. between_carried (HasTyped slots) is.1.0 is.1.1 left right l r type (sym (quoted_normal left is.1.0 is.1.2)) (sym (quoted_normal right is.1.1 is.1.3)) makes)
      (subst (λ (t : Tree). Typed slots root scope t type) (made start stop is.0 (has is.1.0 is.1.1) normal is.2 is.1.4) typed)
  types_from facts slots root scope (node start stop (in_list left items)) normal type is typed =
      items_carried (λ t. types_from facts slots root scope left is.1.0 t is.1.2) (λ ts. all_from facts slots root scope items is.1.1 ts is.1.3)
      (λ l types before after makes. list_carried (InListTyped slots) is.1.0 left is.1.1 items l types type (sym (quoted_normal left is.1.0 is.1.2)) (turned items is.1.1 (alike_normal items is.1.1 is.1.3)) makes)
      (subst (λ (t : Tree). Typed slots root scope t type) (made start stop is.0 (in_list is.1.0 is.1.1) normal is.2 is.1.4) typed)
  types_from facts slots root scope (node start stop (in_path left path)) normal type is typed =
      operands_carried (λ t. types_from facts slots root scope left is.1.0 t is.1.2) (λ t. types_from facts slots root scope path is.1.1 t is.1.3)
      (λ l r makes. makes)
      (subst (λ (t : Tree). Typed slots root scope t type) (made start stop is.0 (in_path is.1.0 is.1.1) normal is.2 is.1.4) typed)
  types_from facts slots root scope (node start stop (call asked arguments)) normal type is typed =
      arguments_carried (λ ts. all_from facts slots root scope arguments is.1.0 ts is.1.1)
      (subst (λ (t : Tree). Typed slots root scope t type) (made start stop is.0 (call asked is.1.0) normal is.2 is.1.2) typed)
  types_from facts slots root scope (node start stop (any_item base)) normal type is typed =
      operand_carried (λ t. types_from facts slots root scope base is.1.0 t is.1.1)
      (subst (λ (t : Tree). Typed slots root scope t type) (made start stop is.0 (any_item is.1.0) normal is.2 is.1.2) typed)
  types_from facts slots root scope (node start stop (lambda quantifier base variable body)) normal type is typed =
      lambda_carried (λ t. types_from facts slots root scope base is.1.0 t is.1.2) (λ at t. types_from facts slots root at body is.1.1 t is.1.3)
      (subst (λ (t : Tree). Typed slots root scope t type) (made start stop is.0 (lambda quantifier is.1.0 variable is.1.1) normal is.2 is.1.4) typed)

  all_from : LiteralFacts → (slots : Slots) (root : List ℕ) (scope : Scope) (trees normals : Trees) (types : List ExprType)
      → AreNormalForms trees normals → AreTyped slots root scope normals types → AreTyped slots root scope trees types
  all_from facts slots root scope no_trees normals types are typed = subst (λ (ts : Trees). AreTyped slots root scope ts types) are typed
  all_from facts slots root scope (more_trees tree trees) normals [] are typed =
      absurd (subst (λ (ts : Trees). AreTyped slots root scope ts []) are.4 typed)
  all_from facts slots root scope (more_trees tree trees) normals (type ∷ types) are typed =
      let here = subst (λ (ts : Trees). AreTyped slots root scope ts (type ∷ types)) are.4 typed in
      (types_from facts slots root scope tree are.0 type are.2 here.0, all_from facts slots root scope trees are.1 types are.3 here.1)
