-- For private clauses: what is given of the nodes that are judged, and of the walk over them.
use Rattle.std.specs.Prelude.{◌≡◌, ◌≢◌, ◌<◌, ◌≤◌, ◌-◌, ℕ, List, None, Some, length, slice_get, slice_range}
use Rattle.odata_syntax.specs.Parse.{IsExpression}
use Rattle.odata_syntax.specs.Places.{ArePlaces, first_at, lambda_at, number_at, places_of, stop_at}
use Rattle.odata_syntax.specs.PostOrder.{IsWholeTree}
use Rattle.odata_syntax.specs.Spans.{IsWithin}
use Rattle.odata_syntax.specs.TextTree.{AreTextRanges, listed_tree, text_in}
use Rattle.odata_syntax.specs.Tree.{Tree}
use Rattle.odata_typing.specs.declared.check_context.Judged.{Judged}
use Rattle.odata_typing.specs.declared.check_context.CheckContext.{CheckContext}
use Rattle.odata_typing.specs.declared.judged_list.Walk.{Walk}
use Rattle.odata_typing.specs.private.Variables.{AreThere}

-- the text of a node
abbrev pub name_of : CheckContext → Judged → List ℕ
name_of context judged = text_in context.text.now judged.node.now.text

-- the tree of all its nodes
abbrev pub whole_tree : CheckContext → Tree
whole_tree context = listed_tree context.text.now context.nodes.now

-- the tree of the nodes from one index up to another
abbrev pub run_tree : CheckContext → ℕ → ℕ → Tree
run_tree context from stop = listed_tree context.text.now (slice_range context.nodes.now from stop)

-- its nodes are an expression's, with their positions, and have ranges of its text
pub record IsContext (context : CheckContext) : Type 0 where
  pub whole : IsWholeTree context.nodes.now
  pub places : ArePlaces context.nodes.now (places_of context.nodes.now)
  pub ranges : AreTextRanges context.text.now context.nodes.now
  pub expression : IsExpression (whole_tree context)

-- the walk has an element for each node and no fault so far, and the schema has the enumerations that variables are of
pub record IsReady (context : CheckContext) (walk : Walk) : Type 0 where
  pub source : walk.list.source ≡ context.text.now
  pub count : length walk.list.nodes ≡ length context.nodes.now
  pub beside : length walk.list.texts ≡ length walk.list.nodes
  pub there : AreThere context.schema.now context.variables.now
  pub fresh : walk.fault ≡ None

-- so that a node can be put at its index
pub record IsNodeReady (context : CheckContext) (walk : Walk) (judged : Judged) : Type 0 where
  pub ready : IsReady context walk
  pub order : judged.number < judged.stop
  pub inside : judged.stop ≤ length walk.list.nodes

-- the node of an index, with its position
pub record IsNodeAt (context : CheckContext) (index : ℕ) (judged : Judged) : Type 0 where
  pub at : slice_get context.nodes.now index ≡ Some judged.node.now
  pub number : judged.number ≡ number_at (places_of context.nodes.now) index
  pub stop : judged.stop ≡ stop_at (places_of context.nodes.now) index

-- the nodes from one index up to another are one tree, a part of that of all nodes; if the first one begins the body of
-- a lambda expression, that is this tree or holds it
pub record IsRun (context : CheckContext) (from stop : ℕ) : Type 0 where
  pub order : from < stop
  pub inside : stop ≤ length context.nodes.now
  pub whole : IsWholeTree (slice_range context.nodes.now from stop)
  pub begins : first_at (places_of context.nodes.now) (stop - 1) ≡ from
  pub outer : lambda_at (places_of context.nodes.now) from ≢ 0 → stop ≤ lambda_at (places_of context.nodes.now) from
  pub within : IsWithin (run_tree context from stop) (whole_tree context)
