-- The types of a tree ask for no places.
use Rattle.std.proofs.Common.{ℕ, List, [], ◌∷◌, sym}
use Rattle.odata_syntax.specs.NormalForm.{bare, bare_trees}
use Rattle.odata_syntax.specs.Tree.{Tree, Trees, any_item, binary, call, count, has, in_list, in_path, it, lambda, literal, logical_not, member, more_trees, name, negation, no_trees, node}
use Rattle.csdl_schema.specs.ExprType.{ExprType}
use Rattle.csdl_schema.specs.SchemaModel.{Slots}
use Rattle.odata_signatures.specs.Typed.{AreTyped, Scope, Typed}
use Rattle.odata_signatures.proofs.tree_types.Carried.{arguments_carried, items_carried, lambda_carried, operand_carried, operands_carried}
use Rattle.odata_signatures.specs.CollectionTyped.{InListTyped}
use Rattle.odata_signatures.specs.HasTyped.{HasTyped}
use Rattle.odata_signatures.specs.OperatorTyped.{OperatorTyped}
use Rattle.odata_signatures.proofs.tree_types.Sides.{alike_bare, between_carried, list_carried, quoted_bare, turned}

mutual
  pub bare_to : (slots : Slots) (root : List ℕ) (scope : Scope) (tree : Tree) (type : ExprType) → Typed slots root scope tree type → Typed slots root scope (bare tree) type
  bare_to slots root scope (node start stop (literal kind text)) type typed = typed
  bare_to slots root scope (node start stop it) type typed = typed
  bare_to slots root scope (node start stop (name asked)) type typed = typed
  bare_to slots root scope (node start stop (member base asked)) type typed = operand_carried (bare_to slots root scope base) typed
  bare_to slots root scope (node start stop (count base)) type typed = operand_carried (bare_to slots root scope base) typed
  bare_to slots root scope (node start stop (negation operand)) type typed = operand_carried (bare_to slots root scope operand) typed
  bare_to slots root scope (node start stop (logical_not operand)) type typed = operand_carried (bare_to slots root scope operand) typed
  bare_to slots root scope (node start stop (binary operator left right)) type typed =
      operands_carried (bare_to slots root scope left) (bare_to slots root scope right)
      (λ l r makes. between_carried (OperatorTyped slots operator) left right (bare left) (bare right) l r type (quoted_bare left) (quoted_bare right) makes) typed
  bare_to slots root scope (node start stop (has left right)) type typed =
      operands_carried (bare_to slots root scope left) (bare_to slots root scope right)
      (λ l r makes. between_carried (HasTyped slots) left right (bare left) (bare right) l r type (quoted_bare left) (quoted_bare right) makes) typed
  bare_to slots root scope (node start stop (in_list left items)) type typed =
      items_carried (bare_to slots root scope left) (all_bare_to slots root scope items)
      (λ l types before after makes. list_carried (InListTyped slots) left (bare left) items (bare_trees items) l types type (quoted_bare left) (alike_bare items) makes) typed
  bare_to slots root scope (node start stop (in_path left path)) type typed =
      operands_carried (bare_to slots root scope left) (bare_to slots root scope path) (λ l r makes. makes) typed
  bare_to slots root scope (node start stop (call asked arguments)) type typed = arguments_carried (all_bare_to slots root scope arguments) typed
  bare_to slots root scope (node start stop (any_item base)) type typed = operand_carried (bare_to slots root scope base) typed
  bare_to slots root scope (node start stop (lambda quantifier base variable body)) type typed =
      lambda_carried (bare_to slots root scope base) (λ at. bare_to slots root at body) typed

  all_bare_to : (slots : Slots) (root : List ℕ) (scope : Scope) (trees : Trees) (types : List ExprType) → AreTyped slots root scope trees types → AreTyped slots root scope (bare_trees trees) types
  all_bare_to slots root scope no_trees types typed = typed
  all_bare_to slots root scope (more_trees tree trees) [] typed = absurd typed
  all_bare_to slots root scope (more_trees tree trees) (type ∷ types) typed =
      (bare_to slots root scope tree type typed.0, all_bare_to slots root scope trees types typed.1)

mutual
  pub bare_from : (slots : Slots) (root : List ℕ) (scope : Scope) (tree : Tree) (type : ExprType) → Typed slots root scope (bare tree) type → Typed slots root scope tree type
  bare_from slots root scope (node start stop (literal kind text)) type typed = typed
  bare_from slots root scope (node start stop it) type typed = typed
  bare_from slots root scope (node start stop (name asked)) type typed = typed
  bare_from slots root scope (node start stop (member base asked)) type typed = operand_carried (bare_from slots root scope base) typed
  bare_from slots root scope (node start stop (count base)) type typed = operand_carried (bare_from slots root scope base) typed
  bare_from slots root scope (node start stop (negation operand)) type typed = operand_carried (bare_from slots root scope operand) typed
  bare_from slots root scope (node start stop (logical_not operand)) type typed = operand_carried (bare_from slots root scope operand) typed
  bare_from slots root scope (node start stop (binary operator left right)) type typed =
      operands_carried (bare_from slots root scope left) (bare_from slots root scope right)
      (λ l r makes. between_carried (OperatorTyped slots operator) (bare left) (bare right) left right l r type (sym (quoted_bare left)) (sym (quoted_bare right)) makes) typed
  bare_from slots root scope (node start stop (has left right)) type typed =
      operands_carried (bare_from slots root scope left) (bare_from slots root scope right)
      (λ l r makes. between_carried (HasTyped slots) (bare left) (bare right) left right l r type (sym (quoted_bare left)) (sym (quoted_bare right)) makes) typed
  bare_from slots root scope (node start stop (in_list left items)) type typed =
      items_carried (bare_from slots root scope left) (all_bare_from slots root scope items)
      (λ l types before after makes. list_carried (InListTyped slots) (bare left) left (bare_trees items) items l types type (sym (quoted_bare left)) (turned items (bare_trees items) (alike_bare items)) makes) typed
  bare_from slots root scope (node start stop (in_path left path)) type typed =
      operands_carried (bare_from slots root scope left) (bare_from slots root scope path) (λ l r makes. makes) typed
  bare_from slots root scope (node start stop (call asked arguments)) type typed = arguments_carried (all_bare_from slots root scope arguments) typed
  bare_from slots root scope (node start stop (any_item base)) type typed = operand_carried (bare_from slots root scope base) typed
  bare_from slots root scope (node start stop (lambda quantifier base variable body)) type typed =
      lambda_carried (bare_from slots root scope base) (λ at. bare_from slots root at body) typed

  all_bare_from : (slots : Slots) (root : List ℕ) (scope : Scope) (trees : Trees) (types : List ExprType) → AreTyped slots root scope (bare_trees trees) types → AreTyped slots root scope trees types
  all_bare_from slots root scope no_trees types typed = typed
  all_bare_from slots root scope (more_trees tree trees) [] typed = absurd typed
  all_bare_from slots root scope (more_trees tree trees) (type ∷ types) typed =
      (bare_from slots root scope tree type typed.0, all_bare_from slots root scope trees types typed.1)
