-- The way from the first node of a filter's list down to another one, by operands, and what is answered there.
use Rattle.std.proofs.Common.{◌≡◌, ◌∙◌, ◌⊎◌, ℕ, ℤ, ◌<◌, ◌≤◌, ◌+◌, List, [], ◌∷◌, Option, Some, None, Result, refl, slice_get, sym, subst, inl, inr, length, arith}
use Rattle.std.specs.Prelude.{IsSomeAnd}
use Rattle.edm_values.specs.MomentParts.{MomentParts}
use Rattle.edm_values.specs.declared.datum.Datum.{Datum}
use Rattle.odata_syntax.specs.Spans.{list_of_trees}
use Rattle.odata_syntax.specs.Tree.{Shape, Tree, Trees, any_item, binary, call, count, has, in_list, in_path, it, lambda, literal, logical_not, member, more_trees, name, negation, no_trees, node}
use Rattle.odata_syntax.specs.declared.node.Quantifier.{Quantifier}
use Rattle.csdl_schema.specs.ExprType.{ExprType}
use Rattle.edm_entities.specs.Row.{Row}
use Rattle.odata_signatures.specs.Reads.{OfEquality}
use Rattle.odata_checked_filter.specs.Calls.{TakesMemory}
use Rattle.odata_checked_filter.specs.Filter.{Filter, IsFilter, tree_of_filter}
use Rattle.odata_checked_filter.specs.FlatTree.{FlatTree}
use Rattle.odata_checked_filter.specs.Stands.{InLine}
use Rattle.odata_checked_filter.specs.declared.checked_node.CheckedNode.{CheckedNode}
use Rattle.odata_checked_filter.specs.declared.checked_node.NodeKind.{NodeKind}
use Rattle.odata_filter_operations.specs.Outcome.{Outcome}
use Rattle.odata_filter_operations.specs.Reports.{Reports}
use Rattle.odata_filter_operations.specs.declared.eval_fault.EvalFault.{EvalFault}
use Rattle.odata_meaning.specs.MeansOn.{IsTheOutcome, MeansOn}
use Rattle.filter_context.specs.private.ContextModel.{ContextModel, context_in}
use Rattle.filter_context.specs.private.EvalContext.{EndsOnceHere, OperandHere, StandsHere, TypedHere}
use Rattle.filter_context.specs.private.Place.{HasKind, IsStopOf, OperandStands}
use Rattle.filter_context.proofs.Extents.{operand_stops_there, stops_here}
use Rattle.filter_context.proofs.Operands.{number_there, resolved_here, tree_of_kind}
use Rattle.filter_context.proofs.Parts.{by_kind, found_there, goes_there, kind_there, some_there, there_found}
use Rattle.filter_context.proofs.Spines.{StandsAll}
use Rattle.odata_eval.specs.NodeOutcome.{IsNodeAnswer, IsWithinBody, NumberAlone, StandsAlone, outcome_at}
use Rattle.odata_eval.specs.private.NodeWays.{LiesIn, OperandsFrom, OperandsInLine}
use Rattle.odata_eval.specs.private.WalkAnswer.{AnswersDatum}
use Rattle.odata_eval.proofs.walking.ItemSteps.{ListedHere}
use Rattle.odata_eval.proofs.walking.TopNode.{context_is, whole_stands}

-- the form of a node all of whose children are operands
abbrev HasNoBody : Shape → Type 0
HasNoBody (lambda quantifier base variable body) = ⊥
HasNoBody _ = Unit {0}

module _ (context : ContextModel) where
  -- ---- children that are operands

  one_line : (i j : ℕ) (tree : Tree) → InLine ((λ a b. StandsHere context a b tree) ∷ []) i j → OperandsInLine context (tree ∷ []) i j
  one_line i j tree stand = record { middle = stand.middle; left = inl stand.left; right = stand.right }

  all_line : (i j : ℕ) (trees : Trees) → StandsAll context i j trees → OperandsInLine context (list_of_trees trees) i j
  all_line i j no_trees stand = stand
  all_line i j (more_trees tree more) stand =
      record { middle = stand.middle; left = inl stand.left; right = all_line stand.middle j more stand.right }

  items_line : (OtherSide : ExprType → Type 0) (i j : ℕ) (items : Trees) → ListedHere context OtherSide i j items → OperandsInLine context (list_of_trees items) i j
  items_line OtherSide i j no_trees stand = stand
  items_line OtherSide i j (more_trees tree more) stand = record {
    middle = stand.middle;
    left = resolved_here context OtherSide tree i stand.middle stand.left;
    right = items_line OtherSide stand.middle j more stand.right;
  }

  -- those of a node from the one after it up to where it stops
  abbrev ChildrenInLine : ℕ → ℕ → Type 0
  ChildrenInLine outer stop = (trees : List Tree) × OperandsInLine context trees (outer + 1) stop

  children_line : (outer stop from to : ℕ) (shape : Shape) → HasNoBody shape → StandsHere context outer stop (node from to shape) → ChildrenInLine outer stop
  children_line outer stop from to (literal kind spelling) plain stands = ([], stands.children)
  children_line outer stop from to it plain stands = ([], stands.children)
  children_line outer stop from to (name asked) plain stands = ([], stands.children)
  children_line outer stop from to (member base asked) plain stands = (base ∷ [], one_line (outer + 1) stop base stands.children)
  children_line outer stop from to (count base) plain stands = (base ∷ [], one_line (outer + 1) stop base stands.children)
  children_line outer stop from to (negation operand) plain stands = (operand ∷ [], one_line (outer + 1) stop operand stands.children)
  children_line outer stop from to (logical_not operand) plain stands = (operand ∷ [], one_line (outer + 1) stop operand stands.children)
  children_line outer stop from to (any_item base) plain stands = (base ∷ [], one_line (outer + 1) stop base stands.children)
  children_line outer stop from to (binary operator left right) plain stands =
      let m = stands.children.middle in
      let k = stands.children.right.middle in (
        left ∷ right ∷ [],
        record {
          middle = m;
          left = resolved_here context (OfEquality operator (TypedHere context right)) left (outer + 1) m stands.children.left;
          right = record {
            middle = k;
            left = resolved_here context (OfEquality operator (TypedHere context left)) right m k stands.children.right.left;
            right = stands.children.right.right;
          };
        },
      )
  children_line outer stop from to (has left right) plain stands =
      let m = stands.children.middle in
      let k = stands.children.right.middle in (
        left ∷ right ∷ [],
        record {
          middle = m;
          left = inl stands.children.left;
          right = record {
            middle = k;
            left = resolved_here context (TypedHere context left) right m k stands.children.right.left;
            right = stands.children.right.right;
          };
        },
      )
  children_line outer stop from to (in_list left items) plain stands = (
    left ∷ list_of_trees items,
    record {
      middle = stands.children.middle;
      left = inl stands.children.left;
      right = items_line (TypedHere context left) stands.children.middle stop items stands.children.right;
    },
  )
  children_line outer stop from to (in_path left path) plain stands = (
    left ∷ path ∷ [],
    record {
      middle = stands.children.middle;
      left = inl stands.children.left;
      right = one_line stands.children.middle stop path stands.children.right;
    },
  )
  children_line outer stop from to (call asked arguments) plain stands =
      (list_of_trees arguments, all_line (outer + 1) stop arguments stands.children)
  children_line outer stop from to (lambda quantifier base variable body) plain stands = absurd plain

  no_body : (outer stop from to : ℕ) (shape : Shape) (kind : NodeKind) → HasKind context.list outer kind → ((quantifier : Quantifier) → ¬ (kind ≡ NodeKind.Lambda quantifier))
      → StandsHere context outer stop (node from to shape) → HasNoBody shape
  no_body outer stop from to (lambda quantifier base variable body) kind here other stands =
      absurd (other quantifier (kind_there context outer kind here stop from to (lambda quantifier base variable body) stands))
  no_body outer stop from to _ kind here other stands = tt

  -- an index before the stop that a node has is before that of its tree
  before_stop : (outer stop index : ℕ) (tree : Tree) → OperandHere context outer stop tree → IsSomeAnd (slice_get context.list.nodes outer) (λ found. index < found.stop) → index < stop
  before_stop outer stop index tree stands inside =
      let found = some_there (λ (f : CheckedNode). index < f.stop) (slice_get context.list.nodes outer) inside in
      let is : IsStopOf context.list outer found.0.stop = there_found (λ (f : CheckedNode). f.stop ≡ found.0.stop) (slice_get context.list.nodes outer) found.0 found.1.0 refl in
      let same : stop ≡ found.0.stop = operand_stops_there context outer stop found.0.stop tree stands is in
      let before : index < found.0.stop = found.1.1 in
      omega arith

  operands_below : (outer index stop : ℕ) (tree : Tree) (kind : NodeKind) → HasKind context.list outer kind → ((quantifier : Quantifier) → ¬ (kind ≡ NodeKind.Lambda quantifier))
      → OperandHere context outer stop tree → index < stop → outer < index → OperandsFrom context (outer + 1) index
  operands_below outer index stop (node from to shape) kind here other (inl stands) before further =
      let line = children_line outer stop from to shape (no_body outer stop from to shape kind here other stands) stands in
      record { trees = line.0; stop = stop; line = line.1; beyond = before }
  operands_below outer index stop tree kind here other (inr number) before further =
      let next : outer + 1 ≡ stop = (number_there context number.0 outer stop tree number.1).next in
      absurd (omega arith)

  pub operands_of : (outer index : ℕ) (kind : NodeKind) → HasKind context.list outer kind → ((quantifier : Quantifier) → ¬ (kind ≡ NodeKind.Lambda quantifier))
      → LiesIn context outer index → outer < index → OperandsFrom context (outer + 1) index
  operands_of outer index kind here other lies further =
      operands_below outer index lies.stands.stop lies.stands.tree kind here other lies.stands.stands
      (before_stop outer lies.stands.stop index lies.stands.tree lies.stands.stands lies.inside) further

  -- ---- one operand after another

  first_of_line : (child index stop : ℕ) (trees : List Tree) → OperandsInLine context trees child stop → index < stop → child ≤ index → OperandStands context child
  first_of_line child index stop [] line beyond before = let same : child ≡ stop = line in absurd (omega arith)
  first_of_line child index stop (tree ∷ trees) line beyond before = record { stop = line.middle; tree = tree; stands = line.left }

  pub first_operand : (child index : ℕ) → OperandsFrom context child index → child ≤ index → OperandStands context child
  first_operand child index rest before = first_of_line child index rest.stop rest.trees rest.line rest.beyond before

  rest_of_line : (child next index stop : ℕ) (trees : List Tree) → OperandsInLine context trees child stop → index < stop → child ≤ index → IsStopOf context.list child next
      → OperandsFrom context next index
  rest_of_line child next index stop [] line beyond before is = let same : child ≡ stop = line in absurd (omega arith)
  rest_of_line child next index stop (tree ∷ trees) line beyond before is =
      let same : line.middle ≡ next = operand_stops_there context child line.middle next tree line.left is in
      record { trees = trees; stop = stop; line = subst (λ (m : ℕ). OperandsInLine context trees m stop) same line.right; beyond = beyond }

  pub rest_operands : (child next index : ℕ) → OperandsFrom context child index → child ≤ index → IsStopOf context.list child next → OperandsFrom context next index
  rest_operands child next index rest before is = rest_of_line child next index rest.stop rest.trees rest.line rest.beyond before is

  pub operand_lies : (child stop index : ℕ) → OperandStands context child → IsStopOf context.list child stop → child ≤ index → index < stop → LiesIn context child index
  operand_lies child stop index operand is before within = record {
    stands = operand;
    from_there = before;
    inside = goes_there (slice_get context.list.nodes child) (λ (f : CheckedNode). f.stop ≡ stop) (λ (f : CheckedNode). index < f.stop)
        (λ f same. omega (arith, same)) is;
  }

  -- ---- a lambda operator

  pub base_operand : (outer : ℕ) (quantifier : Quantifier) → HasKind context.list outer (NodeKind.Lambda quantifier) → OperandStands context outer → OperandStands context (outer + 1)
  base_operand outer quantifier here operand =
      let part = tree_of_kind context outer (NodeKind.Lambda quantifier) tt here operand in
      by_kind context outer (NodeKind.Lambda quantifier) here (λ stop tree. OperandStands context (outer + 1))
      (λ base variable body stop from to stands. record { stop = stands.children.middle; tree = base; stands = inl stands.children.left })
      part.stop part.tree part.stands

  pub body_around : (outer index base_stop : ℕ) (quantifier : Quantifier) (found : CheckedNode) → slice_get context.list.nodes outer ≡ Some found → found.kind ≡ NodeKind.Lambda quantifier
      → LiesIn context outer index → IsStopOf context.list (outer + 1) base_stop → base_stop ≤ index → IsWithinBody context.list index
  body_around outer index base_stop quantifier found at is lies stops past = record {
    outer = outer;
    quantifier = quantifier;
    before_end = there_found (λ (f : CheckedNode). (f.kind ≡ NodeKind.Lambda quantifier) × (index < f.stop)) (slice_get context.list.nodes outer) found at
        (is, found_there (λ (f : CheckedNode). index < f.stop) (slice_get context.list.nodes outer) found at lies.inside);
    after_base = goes_there (slice_get context.list.nodes (outer + 1)) (λ (f : CheckedNode). f.stop ≡ base_stop) (λ (f : CheckedNode). f.stop ≤ index)
        (λ f same. omega (arith, same)) stops;
  }

-- ---- without variables

module _ (row : Row) (moment : MomentParts) (list : FlatTree) where
  abbrev HereAlone : ContextModel
  HereAlone = context_in row moment list []

  there_alone : (index stop : ℕ) (tree : Tree) → OperandHere HereAlone index stop tree
      → (stop : ℕ) × (tree : Tree) × (StandsAlone row list index stop tree ⊎ ((number : ℤ) × NumberAlone row list number index stop tree))
  there_alone index stop tree stands = (stop, tree, stands)

  one_reported : (tree : Tree) (type : ExprType) → EndsOnceHere HereAlone → TypedHere HereAlone tree type → (Takes : Type 0) (reported : Option Outcome)
      → Reports Takes (MeansOn row moment tree) reported → Reports Takes (IsTheOutcome row moment tree) reported
  one_reported tree type ends typed Takes (Some o) related =
      let once = ends tree type typed in
      record { related = related; only = λ other of_other. once.only other of_other ∙ sym (once.only o related) }
  one_reported tree type ends typed Takes None takes = takes

  answer_alone : (index : ℕ) (answer : Result Datum EvalFault) → EndsOnceHere HereAlone → OperandStands HereAlone index → AnswersDatum HereAlone index answer
      → IsNodeAnswer row moment list index answer
  answer_alone index answer ends operand answers = record {
    there = there_alone index operand.stop operand.tree operand.stands;
    of_tree = λ stop tree type stands typed.
        one_reported tree type ends typed (TakesMemory tree) (outcome_at row type answer) (answers.of_tree stop tree type stands typed);
    of_number = λ number stop tree type stands. answers.of_number number stop tree type stands;
  }

module _ (filter : Filter) (row : Row) (moment : MomentParts) (context : ContextModel) (right : IsFilter filter) (one_schema : filter.schema ≡ row.schema)
    (one_type : filter.filtered ≡ row.type_id) (is_row : context.row ≡ row) (is_moment : context.moment ≡ moment) (is_list : context.list ≡ filter.list) (is_empty : context.frames ≡ []) where
  -- each index lies in the first node's tree
  pub whole_lies : (index : ℕ) → index < length filter.list.nodes → LiesIn context 0 index
  whole_lies index within =
      let stands = whole_stands filter row moment context right one_schema one_type is_row is_moment is_list is_empty in
      record {
        stands = record { stop = length filter.list.nodes; tree = tree_of_filter filter; stands = inl stands };
        from_there = omega arith;
        inside = goes_there (slice_get context.list.nodes 0) (λ (f : CheckedNode). f.stop ≡ length filter.list.nodes) (λ (f : CheckedNode). index < f.stop)
            (λ f same. omega (arith, same, within)) (stops_here context 0 (length filter.list.nodes) (tree_of_filter filter) stands);
      }

  pub node_reported : (index : ℕ) (answer : Result Datum EvalFault) → EndsOnceHere context → OperandStands context index → AnswersDatum context index answer
      → IsNodeAnswer row moment filter.list index answer
  node_reported index answer ends operand answers =
      let back : context ≡ context_in row moment filter.list [] = sym (context_is row moment filter.list context is_row is_moment is_list is_empty) in
      answer_alone row moment filter.list index answer
      (subst (λ (s : ContextModel). EndsOnceHere s) back ends)
      (subst (λ (s : ContextModel). OperandStands s index) back operand)
      (subst (λ (s : ContextModel). AnswersDatum s index answer) back answers)

  pub body_reported : (index : ℕ) → IsWithinBody context.list index → IsWithinBody filter.list index
  body_reported index = subst (λ (l : FlatTree). IsWithinBody l index) is_list
