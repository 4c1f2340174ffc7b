-- For private clauses: how the nodes of a tree lie in a list, whatever values its literals have there.
use Rattle.std.specs.Prelude.{ℕ, ◌+◌, List, [], ◌∷◌}
use Rattle.odata_syntax.specs.Tree.{Tree, Trees, node, Shape, literal, it, name, member, count, negation, logical_not, binary, has, in_list, in_path, call, any_item, lambda, more_trees, no_trees}
use Rattle.csdl_schema.specs.SchemaModel.{SchemaModel, slots_of, type_name_at}
use Rattle.odata_checked_filter.specs.declared.checked_node.NodeKind.{NodeKind}
use Rattle.odata_checked_filter.specs.FlatTree.{FlatTree}
use Rattle.odata_checked_filter.specs.Stands.{HasTop, InBody, InLine, IsTop}
use Rattle.odata_signatures.specs.Typed.{Scope, Typed}

-- a node of any value
abbrev pub OfAnyValue : NodeKind → Type 0
OfAnyValue kind = Unit {0}

abbrev mutual
  -- the nodes from the i-th up to the j-th lie as the tree does
  pub Lies : SchemaModel → ℕ → Scope → FlatTree → ℕ → ℕ → Tree → Type 0
  Lies schema n scope list i j (node start stop shape) =
      HasTop (IsTop schema n scope list i j start stop shape OfAnyValue)
      (InLine (lying_parts schema n scope list shape) (i + 1) j)

  -- what lies as each child of the shape
  pub lying_parts : SchemaModel → ℕ → Scope → FlatTree → Shape → List (ℕ → ℕ → Type 0)
  lying_parts schema n scope list (literal kind spelling) = []
  lying_parts schema n scope list it = []
  lying_parts schema n scope list (name asked) = []
  lying_parts schema n scope list (member base asked) = (λ i j. Lies schema n scope list i j base) ∷ []
  lying_parts schema n scope list (count base) = (λ i j. Lies schema n scope list i j base) ∷ []
  lying_parts schema n scope list (negation operand) = (λ i j. Lies schema n scope list i j operand) ∷ []
  lying_parts schema n scope list (logical_not operand) = (λ i j. Lies schema n scope list i j operand) ∷ []
  lying_parts schema n scope list (binary operator left right) =
      (λ i j. Lies schema n scope list i j left) ∷ (λ i j. Lies schema n scope list i j right) ∷ []
  lying_parts schema n scope list (has left right) =
      (λ i j. Lies schema n scope list i j left) ∷ (λ i j. Lies schema n scope list i j right) ∷ []
  lying_parts schema n scope list (in_list left items) =
      (λ i j. Lies schema n scope list i j left) ∷ lying_trees schema n scope list items
  lying_parts schema n scope list (in_path left path) =
      (λ i j. Lies schema n scope list i j left) ∷ (λ i j. Lies schema n scope list i j path) ∷ []
  lying_parts schema n scope list (call asked arguments) = lying_trees schema n scope list arguments
  lying_parts schema n scope list (any_item base) = (λ i j. Lies schema n scope list i j base) ∷ []
  lying_parts schema n scope list (lambda quantifier base variable body) =
      (λ i j. Lies schema n scope list i j base)
      ∷ (λ i j. InBody scope variable (Typed (slots_of schema) (type_name_at schema n) scope base)
      (λ at. Lies schema n at list i j body))
      ∷ []

  -- likewise as each of these trees
  pub lying_trees : SchemaModel → ℕ → Scope → FlatTree → Trees → List (ℕ → ℕ → Type 0)
  lying_trees schema n scope list no_trees = []
  lying_trees schema n scope list (more_trees tree trees) =
      (λ i j. Lies schema n scope list i j tree) ∷ lying_trees schema n scope list trees

-- the nodes from the i-th up to the j-th lie as the children of the shape do, one after another
abbrev pub ChildrenLie : SchemaModel → ℕ → Scope → FlatTree → ℕ → ℕ → Shape → Type 0
ChildrenLie schema n scope list i j shape = InLine (lying_parts schema n scope list shape) i j

-- likewise as trees
abbrev pub AllLie : SchemaModel → ℕ → Scope → FlatTree → ℕ → ℕ → Trees → Type 0
AllLie schema n scope list i j trees = InLine (lying_trees schema n scope list trees) i j
