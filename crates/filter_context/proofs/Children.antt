-- Children that stand one after another, one or two of them.
use Rattle.std.proofs.Common.{◌≡◌, subst, ℕ, List, [], ◌∷◌}
use Rattle.odata_syntax.specs.Tree.{Tree}
use Rattle.csdl_schema.specs.SchemaModel.{SchemaModel, slots_of, type_name_at}
use Rattle.odata_signatures.specs.Typed.{Scope, Typed}
use Rattle.odata_checked_filter.specs.FlatTree.{FlatTree}
use Rattle.odata_checked_filter.specs.Stands.{InBody, InLine, SideBySide, Stands}
use Rattle.odata_meaning.specs.Environment.{scope_of}
use Rattle.filter_context.specs.private.EvalContext.{StandsHere}
use Rattle.filter_context.specs.private.ContextModel.{ContextModel, environment_of}

only_part : (WalkOperand : ℕ → ℕ → Type 0) (i j : ℕ) → InLine (WalkOperand ∷ []) i j → WalkOperand i j
only_part WalkOperand i j stand = let same : stand.middle ≡ j = stand.right in subst (λ (k : ℕ). WalkOperand i k) same stand.left

module _ (schema : SchemaModel) (n : ℕ) (scope : Scope) (list : FlatTree) (i j : ℕ) where
  pub one_there : (tree : Tree) → InLine ((λ a b. Stands schema n scope list a b tree) ∷ []) i j → Stands schema n scope list i j tree
  one_there tree = only_part (λ a b. Stands schema n scope list a b tree) i j

  pub body_stands : (base : Tree) (variable : List ℕ) (body : Tree)
      → InLine ((λ a b. InBody scope variable (Typed (slots_of schema) (type_name_at schema n) scope base) (λ at. Stands schema n at list a b body)) ∷ []) i j
      → InBody scope variable (Typed (slots_of schema) (type_name_at schema n) scope base) (λ at. Stands schema n at list i j body)
  body_stands base variable body =
      only_part (λ a b. InBody scope variable (Typed (slots_of schema) (type_name_at schema n) scope base) (λ at. Stands schema n at list a b body)) i j

module _ (context : ContextModel) (i j : ℕ) where
  pub only_child : (tree : Tree) → InLine ((λ a b. StandsHere context a b tree) ∷ []) i j → StandsHere context i j tree
  only_child = one_there context.row.schema context.row.type_id (scope_of (environment_of context)) context.list i j

  pub two_children : (left right : Tree) → InLine ((λ a b. StandsHere context a b left) ∷ (λ a b. StandsHere context a b right) ∷ []) i j
      → SideBySide (λ middle. StandsHere context i middle left) (λ middle. StandsHere context middle j right)
  two_children left right stand = record {
    middle = stand.middle;
    left = stand.left;
    right = one_there context.row.schema context.row.type_id (scope_of (environment_of context)) context.list stand.middle j right stand.right;
  }
