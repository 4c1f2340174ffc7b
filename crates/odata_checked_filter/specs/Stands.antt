-- When a part of a list of nodes stands for a tree, with the right types, values and slots.
use Rattle.std.specs.Prelude.{◌≡◌, ◌≢◌, ◌⊎◌, ℕ, ℤ, ◌+◌, List, [], ◌∷◌, Some, None, map, slice_get, IsSomeAnd}
use Rattle.edm_values.specs.PlainVal.{plain_val}
use Rattle.edm_values.specs.Val.{Val}
use Rattle.edm_values.specs.declared.value.Value.{Value}
use Rattle.odata_syntax.specs.Tree.{Tree, Trees, node, Shape, literal, it, name, member, count, negation, logical_not, binary, has, in_list, in_path, call, any_item, lambda, more_trees, no_trees}
use Rattle.odata_syntax.specs.declared.node.LiteralKind.{LiteralKind}
use Rattle.csdl_schema.specs.ExprType.{ExprType, SingleType, single, structured}
use Rattle.csdl_schema.specs.SchemaModel.{PropertyModel, SchemaModel, Slots, slots_of, type_name_at, slot_named}
use Rattle.odata_checked_filter.specs.declared.checked_node.CheckedNode.{CheckedNode}
use Rattle.odata_checked_filter.specs.declared.checked_node.NodeKind.{NodeKind}
use Rattle.odata_checked_filter.specs.FlatTree.{FlatTree}
use Rattle.odata_checked_filter.specs.Levels.{level_named}
use Rattle.odata_signatures.specs.LiteralValue.{LiteralValue}
use Rattle.odata_signatures.specs.Reads.{OfEquality, ReadsNone, ReadsNumber}
use Rattle.odata_signatures.specs.Typed.{BindsVariable, Scope, Typed, with_variable}
use Rattle.odata_signatures.specs.Functions.{IsNamed}
use Rattle.odata_signatures.specs.TypeView.{expr_type}
use Rattle.odata_signatures.specs.declared.function.Function.{Function}

-- the names of a scope's variables
abbrev pub variable_names : Scope → List (List ℕ)
variable_names scope = map (λ bound. bound.name) scope

-- a value of the code that a literal of this kind and spelling stands for
pub record IsValueOf (slots : Slots) (kind : LiteralKind) (spelling : List ℕ) (value : Value) : Type 0 where
  pub val : Val
  pub plain : plain_val value ≡ Some val
  pub value_of : LiteralValue slots kind spelling val

-- the kind of a literal's node
abbrev pub IsLiteralNode : LiteralKind → NodeKind → Type 0
IsLiteralNode kind (NodeKind.Literal k index) = k ≡ kind
IsLiteralNode kind _ = ⊥

-- the kind of a name's node: a variable by its level, or else a property by its slot
abbrev pub IsNameNode : List PropertyModel → List (List ℕ) → List ℕ → NodeKind → Type 0
IsNameNode properties variables asked (NodeKind.Variable level) = level_named variables asked ≡ Some level
IsNameNode properties variables asked (NodeKind.Property slot) =
    (level_named variables asked ≡ None) × (slot_named properties asked ≡ Some slot)
IsNameNode properties variables asked _ = ⊥

-- the kind of a member's node: a property of its base's type, by its slot there
abbrev pub IsMemberNode : Slots → (ExprType → Type 0) → List ℕ → NodeKind → Type 0
IsMemberNode slots Base asked (NodeKind.Member slot) =
    (owner : List ℕ) × Base (single (structured owner)) × (slot_named (slots.properties owner) asked ≡ Some slot)
IsMemberNode slots Base asked _ = ⊥

-- the kind of a call's node: the function of that name, `now` by itself
abbrev pub IsCallNode : List ℕ → NodeKind → Type 0
IsCallNode asked NodeKind.Now = IsNamed Function.Now asked
IsCallNode asked (NodeKind.Call function) = IsNamed function asked × (function ≢ Function.Now)
IsCallNode asked _ = ⊥

-- the kind of a node, where these types are, the filtered type is root and these variables are in scope
abbrev pub IsKindOf : Slots → List ℕ → Scope → Shape → NodeKind → Type 0
IsKindOf slots root scope (literal kind spelling) k = IsLiteralNode kind k
IsKindOf slots root scope it k = k ≡ NodeKind.It
IsKindOf slots root scope (name asked) k = IsNameNode (slots.properties root) (variable_names scope) asked k
IsKindOf slots root scope (member base asked) k = IsMemberNode slots (Typed slots root scope base) asked k
IsKindOf slots root scope (count base) k = k ≡ NodeKind.Count
IsKindOf slots root scope (negation operand) k = k ≡ NodeKind.Neg
IsKindOf slots root scope (logical_not operand) k = k ≡ NodeKind.Not
IsKindOf slots root scope (binary operator left right) k = k ≡ NodeKind.Binary operator
IsKindOf slots root scope (has left right) k = k ≡ NodeKind.Has
IsKindOf slots root scope (in_list left items) k = k ≡ NodeKind.InList
IsKindOf slots root scope (in_path left path) k = k ≡ NodeKind.InPath
IsKindOf slots root scope (call asked arguments) k = IsCallNode asked k
IsKindOf slots root scope (any_item base) k = k ≡ NodeKind.AnyItem
IsKindOf slots root scope (lambda quantifier base variable body) k = k ≡ NodeKind.Lambda quantifier

-- a literal's node has the index of a value of which this holds
abbrev pub HasValue : List Value → (Value → Type 0) → NodeKind → Type 0
HasValue values IsIt (NodeKind.Literal k index) = IsSomeAnd (slice_get values index) IsIt
HasValue values IsIt _ = ⊥

-- a literal's node has what the literal stands for by itself; no other node has a value
abbrev pub HasOwnValue : List Value → Slots → Shape → NodeKind → Type 0
HasOwnValue values slots (literal kind spelling) k = HasValue values (IsValueOf slots kind spelling) k
HasOwnValue values slots _ k = Unit {0}

-- the text of a node
abbrev pub text_of_shape : Shape → List ℕ
text_of_shape (literal kind spelling) = spelling
text_of_shape (name asked) = asked
text_of_shape (member base asked) = asked
text_of_shape (lambda quantifier base variable body) = variable
text_of_shape _ = []

-- the i-th node is the tree's top node, with its text, and stops at j; this holds of its kind beside that
pub record IsTop
    (schema : SchemaModel) (filtered : ℕ) (scope : Scope) (list : FlatTree) (i j start stop : ℕ) (shape : Shape)
    (Valued : NodeKind → Type 0) : Type 0 where
  pub found : CheckedNode
  pub stands_at : slice_get list.nodes i ≡ Some found
  pub text_at : slice_get list.texts i ≡ Some (text_of_shape shape)
  pub kind : IsKindOf (slots_of schema) (type_name_at schema filtered) scope shape found.kind
  pub valued : Valued found.kind
  pub starts : found.span.start ≡ start
  pub stops : found.span.stop ≡ stop
  pub last : found.stop ≡ j
  pub typed :
      Typed (slots_of schema) (type_name_at schema filtered) scope (node start stop shape)
      (expr_type schema found.edm_type)

-- a node, and what follows it for its children
pub record HasTop (Top Children : Type 0) : Type 0 where
  pub top : Top
  pub children : Children

-- one part, and another from where that stops
pub record SideBySide (Left Right : ℕ → Type 0) : Type 0 where
  pub middle : ℕ
  pub left : Left middle
  pub right : Right middle

-- a lambda operator binds its variable, and this holds of its body in the scope with that (OData URL Conventions 4.01,
-- section 5.1.1.13)
pub record InBody (scope : Scope) (variable : List ℕ) (Base : ExprType → Type 0) (Body : Scope → Type 0) : Type 0 where
  pub member_type : SingleType
  pub binds : BindsVariable scope variable Base member_type
  pub body : Body (with_variable scope variable (single member_type))

-- parts one after another, from one index up to another
abbrev pub InLine : List (ℕ → ℕ → Type 0) → ℕ → ℕ → Type 0
InLine [] i j = i ≡ j
InLine (Part ∷ parts) i j = SideBySide (λ middle. Part i middle) (λ middle. InLine parts middle j)

-- the nodes from the i-th up to the j-th are one, of a String literal that is read as a number of an enumeration and
-- has this number as its value
abbrev pub NumberStands : SchemaModel → ℕ → Scope → FlatTree → ℤ → ℕ → ℕ → Tree → Type 0
NumberStands schema filtered scope list number i j (node start stop (literal LiteralKind.Str spelling)) =
    HasTop (IsTop schema filtered scope list i j start stop (literal LiteralKind.Str spelling)
    (HasValue list.values (λ value. value ≡ Value.Enum number))) (i + 1 ≡ j)
NumberStands schema filtered scope list number i j _ = ⊥

-- the other operand is of one of these types: an enumeration literal without its type, where the tree is one then; else
-- what stands for the tree by itself (OData URL Conventions 4.01, section 5.1.1.1)
abbrev pub ResolvedStands :
    SchemaModel → ℕ → Scope → FlatTree → (ExprType → Type 0) → Tree → (ℕ → ℕ → Type 0) → ℕ → ℕ → Type 0
ResolvedStands schema filtered scope list OtherSide tree Alone i j =
    ((number : ℤ) × ReadsNumber (slots_of schema) OtherSide tree number
    × NumberStands schema filtered scope list number i j tree)
    ⊎ (ReadsNone (slots_of schema) OtherSide tree × Alone i j)

abbrev mutual
  -- the nodes from the i-th up to the j-th stand for the tree, where the filtered type is the schema's n-th and these
  -- variables are in scope
  pub Stands : SchemaModel → ℕ → Scope → FlatTree → ℕ → ℕ → Tree → Type 0
  Stands schema filtered scope list i j (node start stop shape) =
      HasTop (IsTop schema filtered scope list i j start stop shape (HasOwnValue list.values (slots_of schema) shape))
      (InLine (child_parts schema filtered scope list shape) (i + 1) j)

  -- what stands for each child of the shape
  pub child_parts : SchemaModel → ℕ → Scope → FlatTree → Shape → List (ℕ → ℕ → Type 0)
  child_parts schema filtered scope list (literal kind spelling) = []
  child_parts schema filtered scope list it = []
  child_parts schema filtered scope list (name asked) = []
  child_parts schema filtered scope list (member base asked) = (λ i j. Stands schema filtered scope list i j base) ∷ []
  child_parts schema filtered scope list (count base) = (λ i j. Stands schema filtered scope list i j base) ∷ []
  child_parts schema filtered scope list (negation operand) =
      (λ i j. Stands schema filtered scope list i j operand) ∷ []
  child_parts schema filtered scope list (logical_not operand) =
      (λ i j. Stands schema filtered scope list i j operand) ∷ []
  child_parts schema filtered scope list (binary operator left right) =
      ResolvedStands schema filtered scope list
      (OfEquality operator (Typed (slots_of schema) (type_name_at schema filtered) scope right))
      left (λ i j. Stands schema filtered scope list i j left)
      ∷ ResolvedStands schema filtered scope list
      (OfEquality operator (Typed (slots_of schema) (type_name_at schema filtered) scope left)) right
      (λ i j. Stands schema filtered scope list i j right)
      ∷ []
  child_parts schema filtered scope list (has left right) =
      (λ i j. Stands schema filtered scope list i j left)
      ∷ ResolvedStands schema filtered scope list (Typed (slots_of schema) (type_name_at schema filtered) scope left)
      right
      (λ i j. Stands schema filtered scope list i j right)
      ∷ []
  child_parts schema filtered scope list (in_list left items) =
      (λ i j. Stands schema filtered scope list i j left)
      ∷ item_parts schema filtered scope list (Typed (slots_of schema) (type_name_at schema filtered) scope left) items
  child_parts schema filtered scope list (in_path left path) =
      (λ i j. Stands schema filtered scope list i j left) ∷ (λ i j. Stands schema filtered scope list i j path) ∷ []
  child_parts schema filtered scope list (call asked arguments) = tree_parts schema filtered scope list arguments
  child_parts schema filtered scope list (any_item base) = (λ i j. Stands schema filtered scope list i j base) ∷ []
  child_parts schema filtered scope list (lambda quantifier base variable body) =
      (λ i j. Stands schema filtered scope list i j base)
      ∷ (λ i j. InBody scope variable (Typed (slots_of schema) (type_name_at schema filtered) scope base)
      (λ at. Stands schema filtered at list i j body))
      ∷ []

  -- likewise for each of these trees
  pub tree_parts : SchemaModel → ℕ → Scope → FlatTree → Trees → List (ℕ → ℕ → Type 0)
  tree_parts schema filtered scope list no_trees = []
  tree_parts schema filtered scope list (more_trees tree trees) =
      (λ i j. Stands schema filtered scope list i j tree) ∷ tree_parts schema filtered scope list trees

  -- likewise for each item of a list, whose left operand is of one of these types
  pub item_parts :
      SchemaModel → ℕ → Scope → FlatTree → (ExprType → Type 0) → Trees → List (ℕ → ℕ → Type 0)
  item_parts schema filtered scope list OtherSide no_trees = []
  item_parts schema filtered scope list OtherSide (more_trees tree trees) =
      ResolvedStands schema filtered scope list OtherSide tree (λ i j. Stands schema filtered scope list i j tree)
      ∷ item_parts schema filtered scope list OtherSide trees

-- the nodes from the i-th up to the j-th stand for the children of the shape, one after another
abbrev pub ChildrenStand : SchemaModel → ℕ → Scope → FlatTree → ℕ → ℕ → Shape → Type 0
ChildrenStand schema filtered scope list i j shape = InLine (child_parts schema filtered scope list shape) i j
