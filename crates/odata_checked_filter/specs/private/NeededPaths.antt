-- For private clauses: what a walk over a filter's list puts into an expansion.
use Rattle.std.specs.Prelude.{◌≡◌, ◌⊎◌, ◌↔◌, ◌≤◌, ℕ, ◌+◌, List, [], ◌∷◌, Bool, not, true, false, is_some, Option, None, Some, length, nat_eq, slice_get, IfSome, IsSomeAnd, if◌then◌else◌}
use Rattle.odata_syntax.specs.Tree.{Tree, node, name, member}
use Rattle.csdl_schema.specs.ExpansionView.{LeadsTo, StepModel, paths_in}
use Rattle.csdl_schema.specs.PathSet.{PropertyPath}
use Rattle.csdl_schema.specs.PropertyView.{IsReadAs, target_of}
use Rattle.csdl_schema.specs.SchemaModel.{SchemaModel, Slots, properties_at, slots_of, type_name_at}
use Rattle.csdl_schema.specs.declared.property.Property.{Property}
use Rattle.odata_signatures.specs.NeededPaths.{BodyNeeds, IsNeeded, NameNeeds, StepNeeds, VariablePaths, path_of}
use Rattle.odata_signatures.specs.Typed.{Scope, Typed}
use Rattle.odata_signatures.specs.declared.edm_type.EdmType.{EdmType}
use Rattle.odata_signatures.specs.declared.edm_type.ValueType.{ValueType}
use Rattle.odata_checked_filter.specs.FlatTree.{FlatTree}
use Rattle.odata_checked_filter.specs.private.Layout.{Lies}
use Rattle.odata_checked_filter.specs.Stands.{InBody}
use Rattle.odata_checked_filter.specs.declared.checked_node.NodeKind.{NodeKind}
use Rattle.odata_checked_filter.specs.declared.needed_paths.LambdaPlaces.{LambdaPlaces}
use Rattle.odata_checked_filter.specs.declared.needed_paths.ListContext.{ListContext}
use Rattle.odata_checked_filter.specs.declared.needed_paths.NeedClass.{NeedClass}
use Rattle.odata_checked_filter.specs.declared.needed_paths.PathEnd.{PathEnd}
use Rattle.odata_checked_filter.specs.declared.needed_paths.VariableNode.{VariableNode}
use Rattle.odata_checked_filter.specs.declared.needed_paths.VariableNode.TheVariants.{Fewer, There}
use Rattle.odata_checked_filter.specs.declared.needed_paths.VariableNodes.{VariableNodes, fold-VariableNodes}
use Rattle.odata_checked_filter.specs.declared.needed_paths.VariableNodes.TheOpen.{VariableNodes-F}

-- ---- variables

-- the nodes of an expansion at which the collections of the variables around stand, the innermost first
abbrev pub nodes_step : VariableNodes-F (List ℕ) → List ℕ
nodes_step VariableNodes-F.Empty = []
nodes_step (VariableNodes-F.Bound here outer) = here ∷ outer.now

abbrev pub nodes_in : VariableNodes → List ℕ
nodes_in = fold-VariableNodes (List ℕ) nodes_step

-- that of the variable around which so many are
abbrev pub node_of_level : List ℕ → ℕ → Option ℕ
node_of_level [] level = None
node_of_level (here ∷ outer) level = if nat_eq (length outer) level then Some here else node_of_level outer level

-- it is that one; or there are so many variables, not more than that
abbrev pub IsNodeAtLevel : List ℕ → ℕ → VariableNode → Type 0
IsNodeAtLevel nodes level (There here) = node_of_level nodes level ≡ Some here
IsNodeAtLevel nodes level (Fewer n) = (n ≡ length nodes) × (n ≤ level)

-- the paths of the variables in scope lead to these nodes
abbrev pub LeadThere : List StepModel → Scope → VariablePaths → List ℕ → Type 0
LeadThere steps [] [] [] = Unit {0}
LeadThere steps (variable ∷ scope) (path ∷ paths) (here ∷ nodes) =
    LeadsTo steps path here × LeadThere steps scope paths nodes
LeadThere steps _ _ _ = ⊥

-- ---- sets

-- the paths of which this holds are put into the set, and no others; what led to a node leads there still
pub record Puts (old new : List StepModel) (P : PropertyPath → Type 0) : Type 0 where
  pub has : (path : PropertyPath) → (paths_in new path ≡ true) ↔ ((paths_in old path ≡ true) ⊎ P path)
  pub leads : (path : PropertyPath) (node : ℕ) → LeadsTo old path node → LeadsTo new path node

-- ---- nodes

abbrev pub need_class : NodeKind → NeedClass
need_class (NodeKind.Lambda quantifier) = NeedClass.Lambda
need_class (NodeKind.Member slot) = NeedClass.Path
need_class (NodeKind.Property slot) = NeedClass.Path
need_class _ = NeedClass.Children

-- ---- paths of steps

-- the target is that of the property at a slot of the schema's n-th type
pub record IsTargetAt (schema : SchemaModel) (n slot : ℕ) (target : Option ℕ) : Type 0 where
  pub property : Property
  pub read : IfSome (slice_get (properties_at schema n) slot) (λ declaration. IsReadAs schema declaration property)
  pub target_is : target ≡ target_of property

-- whether a node of that kind is a property of the schema's n-th type without a target
abbrev pub IsWithoutTarget : SchemaModel → ℕ → NodeKind → Bool → Type 0
IsWithoutTarget schema n (NodeKind.Property slot) answer =
    (p : Property) × IfSome (slice_get (properties_at schema n) slot) (λ declaration. IsReadAs schema declaration p)
    × (is_some (target_of p) ≡ not answer)
IsWithoutTarget schema n _ answer = answer ≡ false

-- how many steps a path has, and what stands before the first of them
abbrev pub steps_of : Tree → ℕ
steps_of (node start stop (member base asked)) = steps_of base + 1
steps_of (node start stop shape) = 0

abbrev pub base_of : Tree → Tree
base_of (node start stop (member base asked)) = base_of base
base_of (node start stop shape) = node start stop shape

-- what the path needs, and what its steps need
abbrev pub NeedsOnWay : Slots → List ℕ → Scope → VariablePaths → Tree → PropertyPath → Type 0
NeedsOnWay slots root scope paths (node start stop (name asked)) path = NameNeeds slots root scope asked path
NeedsOnWay slots root scope paths (node start stop (member base asked)) path =
    NeedsOnWay slots root scope paths base path
    ⊎ StepNeeds slots (Typed slots root scope base) (path_of scope paths base) asked path
NeedsOnWay slots root scope paths (node start stop shape) path = ⊥

-- what a path of steps needs is put into the set; it leads to the node, and begins at that index
pub record IsPathEnd
    (slots : Slots) (root : List ℕ) (scope : Scope) (paths : VariablePaths) (old new : List StepModel) (place : ℕ)
    (tree : Tree) (end : PathEnd) : Type 0 where
  pub puts : Puts old new (NeedsOnWay slots root scope paths tree)
  pub leads : LeadsTo new (path_of scope paths tree) end.node
  pub begins : end.base ≡ place + steps_of tree

-- what a path of steps needs is put into the set; it begins at that index
pub record IsPutFrom
    (slots : Slots) (root : List ℕ) (scope : Scope) (paths : VariablePaths) (old new : List StepModel) (place : ℕ)
    (tree : Tree) (base : ℕ) : Type 0 where
  pub puts : Puts old new (NeedsOnWay slots root scope paths tree)
  pub begins : base ≡ place + steps_of tree

-- ---- trees one after another

-- one of the trees needs the path
abbrev pub NeedsAmong : Slots → List ℕ → Scope → VariablePaths → List Tree → PropertyPath → Type 0
NeedsAmong slots root scope paths [] path = ⊥
NeedsAmong slots root scope paths (tree ∷ trees) path =
    IsNeeded slots root scope paths tree path ⊎ NeedsAmong slots root scope paths trees path

-- the nodes from one index up to another stand for trees in one scope
abbrev pub StandInLine : SchemaModel → ℕ → Scope → FlatTree → ℕ → ℕ → List Tree → Type 0
StandInLine schema n scope list i j [] = i ≡ j
StandInLine schema n scope list i j (tree ∷ trees) =
    (middle : ℕ) × Lies schema n scope list i middle tree × StandInLine schema n scope list middle j trees

-- the types of the schema, and the name of the filtered one
abbrev pub slots_there : ListContext → Slots
slots_there context = slots_of context.schema.now

abbrev pub root_there : ListContext → List ℕ
root_there context = type_name_at context.schema.now context.filtered_type

-- a tree stands there, in a scope whose variables lead to these nodes
pub record IsTreeThere (context : ListContext) (steps : List StepModel) (nodes : List ℕ) (place : ℕ) : Type 0 where
  pub scope : Scope
  pub paths : VariablePaths
  pub stop : ℕ
  pub tree : Tree
  pub stands : Lies context.schema.now context.filtered_type scope context.list.now place stop tree
  pub lead : LeadThere steps scope paths nodes

-- a tree stands there, in some scope
pub record HasTypedTree (context : ListContext) (place : ℕ) : Type 0 where
  pub scope : Scope
  pub stop : ℕ
  pub tree : Tree
  pub stands : Lies context.schema.now context.filtered_type scope context.list.now place stop tree

-- a step to the property at a slot of the schema's n-th type stands there
abbrev pub IsStepOn : FlatTree → ℕ → ℕ → ℕ → Type 0
IsStepOn list place slot n =
    IsSomeAnd (slice_get list.nodes place) (λ found. found.kind ≡ NodeKind.Member slot)
    × IsSomeAnd (slice_get list.nodes (place + 1)) (λ base. base.edm_type ≡ EdmType.Single (ValueType.Structured n))

-- the base of the lambda operator at an index, and its body
pub record ArePlacesOf (list : FlatTree) (place : ℕ) (places : LambdaPlaces) : Type 0 where
  pub base_is : places.base ≡ place + 1
  pub body_is : IsSomeAnd (slice_get list.nodes (place + 1)) (λ base. places.body ≡ base.stop)
  pub stop_is : IsSomeAnd (slice_get list.nodes place) (λ found. places.stop ≡ found.stop)

-- they stand for these trees
pub record IsLambdaOf
    (context : ListContext) (scope : Scope) (places : LambdaPlaces) (base : Tree) (variable : List ℕ) (body : Tree)
    : Type 0 where
  pub base_stands :
      Lies context.schema.now context.filtered_type scope context.list.now places.base places.body base
  pub body_stands : InBody scope variable (Typed (slots_there context) (root_there context) scope base)
      (λ at. Lies context.schema.now context.filtered_type at context.list.now places.body places.stop body)

-- what the operator needs
abbrev pub LambdaNeeds :
    Slots → List ℕ → Scope → VariablePaths → Tree → List ℕ → Tree → PropertyPath → Type 0
LambdaNeeds slots root scope paths base variable body path =
    IsNeeded slots root scope paths base path
    ⊎ BodyNeeds scope variable (Typed slots root scope base)
    (λ at. IsNeeded slots root at (path_of scope paths base ∷ paths) body path)

-- they do so, in a scope whose variables lead to these nodes
pub record IsLambdaThere
    (context : ListContext) (steps : List StepModel) (nodes : List ℕ) (places : LambdaPlaces) : Type 0 where
  pub scope : Scope
  pub paths : VariablePaths
  pub base : Tree
  pub variable : List ℕ
  pub body : Tree
  pub is : IsLambdaOf context scope places base variable body
  pub lead : LeadThere steps scope paths nodes

-- trees stand there, likewise
pub record AreTreesThere
    (context : ListContext) (steps : List StepModel) (nodes : List ℕ) (from stop : ℕ) : Type 0 where
  pub scope : Scope
  pub paths : VariablePaths
  pub trees : List Tree
  pub line : StandInLine context.schema.now context.filtered_type scope context.list.now from stop trees
  pub lead : LeadThere steps scope paths nodes
