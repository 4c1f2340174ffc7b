-- The nodes of a tree by their numbers, and the scopes that they are judged in (OData URL Conventions 4.01, section
-- 5.1.1.13).
use Rattle.std.specs.Prelude.{◌≡◌, ◌⊎◌, ℕ, zero, suc, ◌+◌, ◌<◌, List, length}
use Rattle.odata_syntax.specs.Tree.{Shape, Tree, Trees, any_item, binary, call, count, has, in_list, in_path, it, lambda, literal, logical_not, member, more_trees, name, negation, no_trees, node}
use Rattle.csdl_schema.specs.SchemaModel.{Slots}
use Rattle.odata_signatures.specs.Considered.{IsItself}
use Rattle.odata_signatures.specs.PreOrder.{pre_order}
use Rattle.odata_signatures.specs.Typed.{Scope, Typed}
use Rattle.odata_checked_filter.specs.Stands.{InBody}

-- of two parts one after the other, the number is that of a node of the first, which has so many, or of the second
abbrev pub InEither : ℕ → (ℕ → Type 0) → (ℕ → Type 0) → ℕ → Type 0
InEither size First Second k = ((k < size) × First k) ⊎ ((j : ℕ) × (k ≡ size + j) × Second j)

abbrev mutual
  -- of a tree in a scope, the k-th node in pre-order, and the scope that it is judged in
  pub IsNode : Slots → List ℕ → Scope → Tree → ℕ → Scope → Tree → Type 0
  IsNode slots root scope (node start stop shape) zero at part = IsItself scope (node start stop shape) at part
  IsNode slots root scope (node start stop shape) (suc k) at part = IsNodeBelow slots root scope shape k at part

  -- likewise of the nodes below one of that shape; those of the body of a lambda operator are judged with its variable
  pub IsNodeBelow : Slots → List ℕ → Scope → Shape → ℕ → Scope → Tree → Type 0
  IsNodeBelow slots root scope (literal kind spelling) k at part = ⊥
  IsNodeBelow slots root scope it k at part = ⊥
  IsNodeBelow slots root scope (name asked) k at part = ⊥
  IsNodeBelow slots root scope (member base asked) k at part = IsNode slots root scope base k at part
  IsNodeBelow slots root scope (count base) k at part = IsNode slots root scope base k at part
  IsNodeBelow slots root scope (negation operand) k at part = IsNode slots root scope operand k at part
  IsNodeBelow slots root scope (logical_not operand) k at part = IsNode slots root scope operand k at part
  IsNodeBelow slots root scope (binary operator left right) k at part =
      InEither (length (pre_order left)) (λ j. IsNode slots root scope left j at part)
      (λ j. IsNode slots root scope right j at part) k
  IsNodeBelow slots root scope (has left right) k at part =
      InEither (length (pre_order left)) (λ j. IsNode slots root scope left j at part)
      (λ j. IsNode slots root scope right j at part) k
  IsNodeBelow slots root scope (in_list left items) k at part =
      InEither (length (pre_order left)) (λ j. IsNode slots root scope left j at part)
      (λ j. IsNodeAmong slots root scope items j at part) k
  IsNodeBelow slots root scope (in_path left path) k at part =
      InEither (length (pre_order left)) (λ j. IsNode slots root scope left j at part)
      (λ j. IsNode slots root scope path j at part) k
  IsNodeBelow slots root scope (call asked arguments) k at part = IsNodeAmong slots root scope arguments k at part
  IsNodeBelow slots root scope (any_item base) k at part = IsNode slots root scope base k at part
  IsNodeBelow slots root scope (lambda quantifier base variable body) k at part =
      InEither (length (pre_order base)) (λ j. IsNode slots root scope base j at part)
      (λ j. InBody scope variable (Typed slots root scope base)
      (λ inner. IsNode slots root inner body j at part)) k

  -- likewise of trees one after another
  pub IsNodeAmong : Slots → List ℕ → Scope → Trees → ℕ → Scope → Tree → Type 0
  IsNodeAmong slots root scope no_trees k at part = ⊥
  IsNodeAmong slots root scope (more_trees tree trees) k at part =
      InEither (length (pre_order tree)) (λ j. IsNode slots root scope tree j at part)
      (λ j. IsNodeAmong slots root scope trees j at part) k
