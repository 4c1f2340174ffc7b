-- For private clauses: what it is to judge a tree, whose nodes are put at their indexes.
use Rattle.std.specs.Prelude.{◌≡◌, ◌<◌, ◌≤◌, ◌+◌, ℕ, List, [], ◌∷◌, Bool, true, false, None, Some, IfSome, length, slice_get}
use Rattle.odata_syntax.specs.PostOrder.{child_count, last_trees}
use Rattle.odata_syntax.specs.Tree.{Shape, Tree, node}
use Rattle.csdl_schema.specs.PathSet.{PropertyPath}
use Rattle.csdl_schema.specs.SchemaModel.{SchemaModel, Slots, slots_of, type_name_at}
use Rattle.odata_signatures.specs.TypeThere.{IsTypeThere}
use Rattle.odata_signatures.specs.TypeView.{expr_type}
use Rattle.odata_signatures.specs.FirstUntypable.{IsFirstUntypable}
use Rattle.odata_signatures.specs.NeededPaths.{IsNeeded, VariablePaths}
use Rattle.odata_signatures.specs.Typed.{Scope, Typed}
use Rattle.odata_checked_filter.specs.declared.checked_node.CheckedNode.{CheckedNode}
use Rattle.odata_checked_filter.specs.ListChanges.{IsKeptOutside}
use Rattle.odata_checked_filter.specs.Stands.{SideBySide, Stands}
use Rattle.odata_typing.specs.declared.check_context.Judged.{Judged}
use Rattle.odata_typing.specs.declared.check_context.CheckContext.{CheckContext}
use Rattle.odata_typing.specs.declared.judged_list.Walk.{Walk}
use Rattle.odata_typing.specs.private.Variables.{scope_of}

-- no node of the tree leads over a navigation property
abbrev pub IsIdle : Slots → List ℕ → Scope → Tree → Type 0
IsIdle slots root scope tree =
    (paths : VariablePaths) (path : PropertyPath) → ¬ IsNeeded slots root scope paths tree path

-- the nodes from the i-th up to the j-th stand for the tree, whose type is that of the first of them; it is idle unless
-- the walk has seen a node that navigates
pub record IsStanding
    (schema : SchemaModel) (n : ℕ) (scope : Scope) (walk : Walk) (i j : ℕ) (tree : Tree) : Type 0 where
  pub found : CheckedNode
  pub at : slice_get walk.list.nodes i ≡ Some found
  pub order : i < j
  pub last : found.stop ≡ j
  pub there : IsTypeThere schema found.edm_type
  pub typed : Typed (slots_of schema) (type_name_at schema n) scope tree (expr_type schema found.edm_type)
  pub stands : Stands schema n scope walk.list i j tree
  pub idle : walk.navigates ≡ false → IsIdle (slots_of schema) (type_name_at schema n) scope tree

-- nodes from one index up to another stand for these trees one after another
abbrev pub StandInRow : SchemaModel → ℕ → Scope → Walk → List Tree → ℕ → ℕ → Type 0
StandInRow schema n scope walk [] i j = i ≡ j
StandInRow schema n scope walk (tree ∷ trees) i j =
    SideBySide (λ middle. IsStanding schema n scope walk i middle tree)
    (λ middle. StandInRow schema n scope walk trees middle j)

-- they do so for the children of a node that is to be judged
abbrev pub AreChildren : CheckContext → Walk → Judged → List Tree → Type 0
AreChildren context walk judged trees =
    StandInRow context.schema.now context.filtered_type (scope_of context) walk trees (judged.number + 1) judged.stop

-- of these trees, of which the last comes first, the last ones are the children of the node
pub record AreLastTrees (context : CheckContext) (walk : Walk) (judged : Judged) (trees : List Tree) : Type 0 where
  pub enough : child_count judged.node.now.kind judged.node.now.count ≤ length trees
  pub children :
      AreChildren context walk judged
      (last_trees (child_count judged.node.now.kind judged.node.now.count) trees)

-- the tree stands at its nodes, and all else where it stood
pub record IsPut (schema : SchemaModel) (n : ℕ) (scope : Scope) (i j : ℕ) (tree : Tree) (old new : Walk) : Type 0 where
  pub kept : IsKeptOutside i j old.list new.list
  pub stands : IsStanding schema n scope new i j tree
  pub navigates : new.navigates ≡ false → old.navigates ≡ false
  pub fault : new.fault ≡ None

-- the tree has been put, or has the fault; where there is none, an allocation failed
abbrev pub IsJudged : SchemaModel → ℕ → Scope → ℕ → ℕ → Tree → Walk → Walk → Bool → Type 0
IsJudged schema n scope i j tree old new true = IsPut schema n scope i j tree old new
IsJudged schema n scope i j tree old new false =
    IfSome new.fault (IsFirstUntypable (slots_of schema) (type_name_at schema n) scope tree)

-- the same of a tree of the context
abbrev pub IsTreeJudged : CheckContext → ℕ → ℕ → Tree → Walk → Walk → Bool → Type 0
IsTreeJudged context i j tree old new result =
    IsJudged context.schema.now context.filtered_type (scope_of context) i j tree old new result

-- of a node of that shape, at its index
abbrev pub IsNodeJudged : CheckContext → Judged → Shape → Walk → Walk → Bool → Type 0
IsNodeJudged context judged shape old new result =
    IsTreeJudged context judged.number judged.stop
    (node judged.node.now.span.start judged.node.now.span.stop shape) old new result
