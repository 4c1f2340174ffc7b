-- The walk over a run: what has been judged so far, and one more node.
use Rattle.odata_typing.proofs.Common.{◌≡◌, ◌≢◌, ap, sym, subst, ◌∙◌, inl, inr, ◌⊎◌, ℕ, zero, suc, ◌+◌, ◌-◌, ◌<◌, ◌≤◌, List, [], ◌∷◌, false, Some, None, take, drop, length, slice_get, arith, AreBefore, AreSideBySide, lambda_at, number_at, places_of, stop_at, AreFedBack, Texts, child_count, last_tree, shape_over, tree_count_back, trees_back, IsWithin, text_in, Tree, node, Quantifier, Place, SyntaxNode, slots_of, type_name_at, IsFirstUntypable, IsKeptOutside, Judged, CheckContext, Walk, AreLastTrees, IsPut, IsNodeAt, IsReady, IsRun, IsContext, run_tree, whole_tree, LawsBelow, scope_of, slice_range, IfSome, Shape, name_of}
use Rattle.odata_syntax.specs.declared.syntax_list.SyntaxKind.{SyntaxKind}
use Rattle.odata_typing.proofs.flat.Kept.{kept_on, kept_wider}
use Rattle.odata_typing.proofs.stacks.Children.{left_over, roots_count, trees_count}
use Rattle.odata_typing.proofs.stacks.FirstFault.{first_fault, none_after, not_a_body}
use Rattle.odata_typing.proofs.stacks.Judged.{AreJudged, judged_drop, judged_kept, judged_row, judged_take, judged_typed}
use Rattle.odata_typing.proofs.stacks.Marks.{IsMarked, bodies_marked, marked_one}
use Rattle.odata_typing.proofs.stacks.Placed.{IsPlacedFrom, placed_one}
use Rattle.odata_typing.proofs.stacks.Ranges.{node_range, whole_root}
use Rattle.odata_typing.proofs.stacks.Contexts.{fed_before, fed_within, fits_within}
use Rattle.odata_typing.proofs.stacks.Slices.{onward_run, run_length, run_more}
use Rattle.odata_typing.proofs.stacks.Stacks.{BodiesBegin, NoneBegins, onward, roots_from, run_before}
use Rattle.odata_typing.proofs.stacks.TreeRuns.{whole_trees}
use Rattle.odata_typing.proofs.flat.Closing.{some_on}

-- the roots and the trees of a run up to an index
abbrev pub run_roots : CheckContext → ℕ → ℕ → List ℕ
run_roots context from index = roots_from from (run_before context.nodes.now from index)

abbrev pub run_trees : CheckContext → ℕ → ℕ → List Tree
run_trees context from index = trees_back (text_in context.text.now) (run_before context.nodes.now from index)

abbrev pub AreTreesJudged : CheckContext → Walk → List ℕ → List Tree → Type 0
AreTreesJudged context walk roots trees =
    AreJudged context.schema.now context.filtered_type (scope_of context) walk (places_of context.nodes.now) roots trees

-- the trees of a run up to an index have been judged, and all else stands where it stood
pub record IsWalking (context : CheckContext) (from stop index : ℕ) (old new : Walk) : Type 0 where
  pub order : from ≤ index
  pub inside : index ≤ stop
  pub kept : IsKeptOutside (number_at (places_of context.nodes.now) (stop - 1)) (stop_at (places_of context.nodes.now) (stop - 1)) old.list new.list
  pub navigates : new.navigates ≡ false → old.navigates ≡ false
  pub fault : new.fault ≡ None
  pub judged : AreTreesJudged context new (run_roots context from index) (run_trees context from index)
  pub apart : NoneBegins (IsMarked (places_of context.nodes.now)) (run_roots context from index)

pub ready_still : (context : CheckContext) (from stop index : ℕ) (old new : Walk) → IsReady context old → IsWalking context from stop index old new → IsReady context new
ready_still context from stop index old new ready walking = record {
  source = walking.kept.source ∙ ready.source;
  count = walking.kept.count ∙ ready.count;
  beside = walking.kept.beside ∙ ready.beside ∙ sym walking.kept.count;
  there = ready.there;
  fresh = walking.fault;
}

-- the node of an index, of that shape
abbrev pub judged_tree : Judged → Shape → Tree
judged_tree judged shape = node judged.node.now.span.start judged.node.now.span.stop shape

-- over the trees of the run so far
abbrev pub shape_at : CheckContext → ℕ → ℕ → Judged → Shape
shape_at context from index judged =
    shape_over judged.node.now.kind (name_of context judged) judged.node.now.count (run_trees context from index)

-- the tree is put over the nodes of the root
abbrev pub IsTreePut : CheckContext → Judged → Tree → Walk → Walk → Type 0
IsTreePut context judged tree old new =
    IsPut context.schema.now context.filtered_type (scope_of context) judged.number judged.stop tree old new

-- the fault, if there is one, is the tree's first
abbrev pub HasFirstFault : CheckContext → Tree → Walk → Type 0
HasFirstFault context tree walk =
    IfSome walk.fault (IsFirstUntypable (slots_of context.schema.now) (type_name_at context.schema.now context.filtered_type) (scope_of context) tree)

-- the node of a root, over the last trees of the run: the trees before these have been judged, and stand before it
pub record IsStep (context : CheckContext) (walk : Walk) (from stop root : ℕ) (judged : Judged) (tree : Tree) : Type 0 where
  pub roots : List ℕ
  pub trees : List Tree
  pub order : from ≤ root
  pub within : root < stop
  pub at : IsNodeAt context root judged
  pub roots_are : run_roots context from (root + 1) ≡ root ∷ roots
  pub trees_are : run_trees context from (root + 1) ≡ tree ∷ trees
  pub before : AreBefore (places_of context.nodes.now) (number_at (places_of context.nodes.now) root) roots
  pub others : AreTreesJudged context walk roots trees
  pub apart : NoneBegins (IsMarked (places_of context.nodes.now)) (root ∷ roots)

module _ (laws : LawsBelow) (context : CheckContext) (from stop root : ℕ) (walk : Walk) (judged : Judged) (tree : Tree)
    (is : IsContext context) (run : IsRun context from stop) (step : IsStep context walk from stop root judged tree) where
  -- once its tree is put, one more tree has been judged
  pub step_goes_on : (index : ℕ) (old new : Walk) → IsWalking context from stop index old walk → IsTreePut context judged tree walk new → IsWalking context from stop (root + 1) old new
  step_goes_on index old new walking goes_on =
      let places = places_of context.nodes.now in
      let Put : ℕ → ℕ → Type 0 = λ (i j : ℕ). IsPut context.schema.now context.filtered_type (scope_of context) i j tree walk new in
      let put : Put (number_at places root) (stop_at places root) =
      subst (λ (j : ℕ). Put (number_at places root) j) step.at.stop (subst (λ (i : ℕ). Put i judged.stop) step.at.number goes_on) in
      let range = node_range context.nodes.now places from stop root judged.node.now is.places step.order step.within run.inside step.at.at run.whole in
      let rest : AreTreesJudged context new step.roots step.trees =
      judged_kept laws context.schema.now context.filtered_type (scope_of context) walk new places (number_at places root) (stop_at places root) (number_at places root) step.roots step.trees
      (record { kept = put.kept; navigates = put.navigates }) (omega arith) step.before step.others in
      let all : AreTreesJudged context new (root ∷ step.roots) (tree ∷ step.trees) = (put.stands, rest) in
      record {
        order = let order : from ≤ root = step.order in omega arith;
        inside = let within : root < stop = step.within in omega arith;
        kept =
            kept_on (number_at places (stop - 1)) (stop_at places (stop - 1)) old.list walk.list new.list walking.kept
            (kept_wider (number_at places root) (stop_at places root) (number_at places (stop - 1)) (stop_at places (stop - 1)) walk.list new.list range.start range.end put.kept);
        navigates = λ still. walking.navigates (put.navigates still);
        fault = put.fault;
        judged =
            subst (λ (rs : List ℕ). AreTreesJudged context new rs (run_trees context from (root + 1))) (sym step.roots_are)
            (subst (λ (ts : List Tree). AreTreesJudged context new (root ∷ step.roots) ts) (sym step.trees_are) all);
        apart = subst (λ (rs : List ℕ). NoneBegins (IsMarked places) rs) (sym step.roots_are) step.apart;
      }

  -- where its tree has a fault, that is the first one of the run
  pub step_refuses : (new : Walk) → HasFirstFault context tree new → HasFirstFault context (run_tree context from stop) new
  step_refuses new =
      let slots = slots_of context.schema.now in
      let root_type = type_name_at context.schema.now context.filtered_type in
      let scope = scope_of context in
      let nodes = context.nodes.now in
      let places = places_of context.nodes.now in
      let names : Texts = text_in context.text.now in
      let later = slice_range nodes (root + 1) stop in
      let earlier = run_before nodes from (root + 1) in
      let last : stop ≤ length nodes = run.inside in
      let order : from ≤ root = step.order in
      let within : root < stop = step.within in
      let so_far : onward later earlier ≡ run_before nodes from stop = onward_run nodes from (root + 1) stop (omega arith) (omega arith) in
      let marked = bodies_marked nodes places from stop is.places (fed_before context stop is last) (omega arith) last run.whole.fed in
      some_on new.fault (IsFirstUntypable slots root_type scope tree) (IsFirstUntypable slots root_type scope (run_tree context from stop)) (λ fault found.
      subst (λ (ns : List SyntaxNode). IsFirstUntypable slots root_type scope (last_tree (trees_back names ns)) fault) so_far
      (first_fault laws.spans laws.clear laws.below (IsMarked places) slots root_type scope (whole_tree context) from names fault is.expression later earlier tree step.trees
      (subst (λ (ns : List SyntaxNode). AreFedBack ns) (sym so_far) run.whole.fed)
      (subst (λ (ns : List SyntaxNode). tree_count_back ns ≡ 1) (sym so_far) run.whole.one)
      (subst (λ (ns : List SyntaxNode). IsWithin (last_tree (trees_back names ns)) (whole_tree context)) (sym so_far) run.within)
      (subst (λ (ns : List SyntaxNode). BodiesBegin (IsMarked places) from ns) (sym so_far) marked)
      (subst (λ (rs : List ℕ). NoneBegins (IsMarked places) rs) (sym step.roots_are) step.apart)
      step.trees_are
      (judged_typed context.schema.now context.filtered_type scope walk places step.roots step.trees step.others)
      found))

-- A node of a run stands over the trees before it.

pub record IsOver (context : CheckContext) (from index : ℕ) (n : SyntaxNode) : Type 0 where
  pub fits : child_count n.kind n.count ≤ tree_count_back (run_before context.nodes.now from index)
  pub placed : IsPlacedFrom (places_of context.nodes.now) from n (run_before context.nodes.now from index)
  pub here : from + length (run_before context.nodes.now from index) ≡ index

pub node_over :
    (context : CheckContext) (from stop index : ℕ) (n : SyntaxNode)
    → IsContext context
    → IsRun context from stop
    → from ≤ index
    → index < stop
    → slice_get context.nodes.now index ≡ Some n
    → IsOver context from index n
node_over context from stop index n is run order inside at =
    let nodes = context.nodes.now in
    let last : stop ≤ length nodes = run.inside in
    let fits = fits_within context from stop index n run order inside at in
    let own : length (run_before nodes from index) ≡ index - from = run_length nodes from index order (omega arith) in
    record {
      fits = fits;
      placed = placed_one nodes (places_of nodes) from index n is.places order (omega arith) at (fed_within context from stop index run order (omega arith)) fits;
      here = omega arith;
    }

-- the trees that it leaves begin no body, and it begins none
leaf_apart :
    (places : List Place) (from index count : ℕ) (earlier : List SyntaxNode)
    → from + length earlier ≡ index
    → (lambda_at places index ≡ 0) ⊎ (index ≡ from)
    → NoneBegins (IsMarked places) (roots_from from earlier)
    → NoneBegins (IsMarked places) (index ∷ drop count (roots_from from earlier))
leaf_apart places from index zero [] long unmarked none = tt
leaf_apart places from index zero (n ∷ earlier) long (inl unmarked) none =
    let next : from + length earlier + 1 ≡ index = omega arith in
    (λ marked. marked (ap (λ (k : ℕ). lambda_at places k) next ∙ unmarked), none)
leaf_apart places from index zero (n ∷ earlier) long (inr first) none = absurd (omega arith)
leaf_apart places from index (suc count) earlier long unmarked none = none_after (IsMarked places) index count (roots_from from earlier) none

-- A node that is not a lambda expression.

module _ (context : CheckContext) (from stop index : ℕ) (old walk : Walk)
    (is : IsContext context) (run : IsRun context from stop) (walking : IsWalking context from stop index old walk) (inside : index < stop) where
  -- its children have been judged
  pub node_children : (judged : Judged) → IsNodeAt context index judged → AreLastTrees context walk judged (run_trees context from index)
  node_children judged at =
      let places = places_of context.nodes.now in
      let n = judged.node.now in
      let count = child_count n.kind n.count in
      let trees = run_trees context from index in
      let roots = run_roots context from index in
      let earlier = run_before context.nodes.now from index in
      let over : IsOver context from index n = node_over context from stop index n is run walking.order inside at.at in
      let fits : count ≤ tree_count_back earlier = over.fits in
      let many : length trees ≡ tree_count_back earlier = trees_count (text_in context.text.now) earlier in
      let Row : ℕ → ℕ → Type 0 = λ (i j : ℕ). AreSideBySide places (i + 1) j (take count roots) in
      let row : Row (number_at places index) (stop_at places index) = subst (λ (k : ℕ). Row (number_at places k) (stop_at places k)) over.here over.placed.children in
      let both : Row judged.number judged.stop = subst (λ (j : ℕ). Row judged.number j) (sym at.stop) (subst (λ (i : ℕ). Row i (stop_at places index)) (sym at.number) row) in
      record {
        enough = omega arith;
        children =
            judged_row context.schema.now context.filtered_type (scope_of context) walk places (judged.number + 1) judged.stop (take count roots) (take count trees) both
            (judged_take context.schema.now context.filtered_type (scope_of context) walk places count roots trees walking.judged);
      }

  -- where no body begins with it, it is not a lambda expression
  pub node_is_plain : (n : SyntaxNode) (quantifier : Quantifier) → slice_get context.nodes.now index ≡ Some n → n.kind ≢ SyntaxKind.Lambda quantifier
  node_is_plain n quantifier at lambda =
      let nodes = context.nodes.now in
      let earlier = run_before nodes from index in
      let last : stop ≤ length nodes = run.inside in
      let fits : child_count n.kind n.count ≤ tree_count_back earlier = fits_within context from stop index n run walking.order inside at in
      let two : child_count n.kind n.count ≡ 2 = ap (λ (k : SyntaxKind). child_count k n.count) lambda in
      let count : length (run_roots context from index) ≡ tree_count_back earlier = roots_count from earlier in
      not_a_body (IsMarked (places_of nodes)) from (run_roots context from index) (omega arith)
      (marked_one nodes (places_of nodes) from index n quantifier is.places (fed_before context index is (omega arith)) walking.order at lambda
      (fed_within context from stop index run walking.order walking.inside) fits)
      walking.apart

  -- it joins the last trees
  pub node_step : (judged : Judged) → IsNodeAt context index judged → (lambda_at (places_of context.nodes.now) index ≡ 0) ⊎ (index ≡ from)
      → IsStep context walk from stop index judged (judged_tree judged (shape_at context from index judged))
  node_step judged at unmarked =
      let n = judged.node.now in
      let places = places_of context.nodes.now in
      let count = child_count n.kind n.count in
      let names : Texts = text_in context.text.now in
      let earlier = run_before context.nodes.now from index in
      let trees = run_trees context from index in
      let roots = run_roots context from index in
      let over : IsOver context from index n = node_over context from stop index n is run walking.order inside at.at in
      let next : run_before context.nodes.now from (index + 1) ≡ n ∷ earlier = run_more context.nodes.now from index n walking.order at.at in
      record {
        roots = drop count roots;
        trees = drop count trees;
        order = walking.order;
        within = inside;
        at = at;
        roots_are = ap (λ (ns : List SyntaxNode). roots_from from ns) next ∙ ap (λ (k : ℕ). k ∷ drop count roots) over.here;
        trees_are = ap (λ (ns : List SyntaxNode). trees_back names ns) next ∙ ap (λ (ts : List Tree). judged_tree judged (shape_at context from index judged) ∷ ts) (left_over n.kind n.count trees);
        before = subst (λ (k : ℕ). AreBefore places (number_at places k) (drop count roots)) over.here over.placed.older;
        others = judged_drop context.schema.now context.filtered_type (scope_of context) walk places count roots trees walking.judged;
        apart = leaf_apart places from index count earlier over.here unmarked walking.apart;
      }

-- at the end the tree of the run has been put
pub walk_ends :
    (context : CheckContext) (from stop : ℕ) (old new : Walk)
    → IsRun context from stop
    → IsWalking context from stop stop old new
    → IsPut context.schema.now context.filtered_type (scope_of context) (number_at (places_of context.nodes.now) (stop - 1)) (stop_at (places_of context.nodes.now) (stop - 1)) (run_tree context from stop) old new
walk_ends context from stop old new run walking =
    let nodes = context.nodes.now in
    let roots : run_roots context from stop ≡ (stop - 1) ∷ [] = whole_root nodes from stop walking.order run.inside run.whole in
    let trees : run_trees context from stop ≡ run_tree context from stop ∷ [] = whole_trees (text_in context.text.now) (slice_range nodes from stop) run.whole in
    let all : AreTreesJudged context new ((stop - 1) ∷ []) (run_tree context from stop ∷ []) =
    subst (λ (rs : List ℕ). AreTreesJudged context new rs (run_tree context from stop ∷ [])) roots
    (subst (λ (ts : List Tree). AreTreesJudged context new (run_roots context from stop) ts) trees walking.judged) in
    record { kept = walking.kept; stands = all.0; navigates = walking.navigates; fault = walking.fault }
