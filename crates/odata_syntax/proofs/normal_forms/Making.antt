-- How the normal form of a tree is made over those of its children.
use Rattle.std.proofs.Common.{◌≡◌, ◌∙◌, ℕ, suc, ◌+◌, ◌*◌, ◌-◌, ◌<◌, ◌≤◌, List, [], ◌∷◌, ◌++◌, Option, Some, None, Result, Ok, Err, IfOk, OnOk, append_assoc, reverse, take, drop, length, map, refl, sym, subst, ap, arith}
use Rattle.std.proofs.lemmas.List.{drop_at, length-reverse, map-append, reverse-append, reverse-reverse, take_at}
use Rattle.std.specs.Prelude.{MatchOption}
use Rattle.std.specs.Option.{option_to_list}
use Rattle.std.specs.List.{IsFirstAndRest}
use Rattle.std.proofs.lemmas.List.Sums.{sum_by-append}
use Rattle.odata_text.specs.declared.span.Span.{Span}
use Rattle.odata_syntax.specs.NormalForm.{AreNormalForms, IsNormalForm}
use Rattle.odata_syntax.specs.PostOrder.{child_count, last_trees}
use Rattle.odata_syntax.specs.Tree.{Shape, Tree, Trees, any_item, binary, call, count, has, in_list, in_path, it, lambda, literal, logical_not, member, more_trees, name, negation, no_trees, node, shape_of, start_of, stop_of, trees_of_list}
use Rattle.odata_syntax.specs.TreeView.{tree_of, trees_of}
use Rattle.odata_syntax.specs.declared.node.Node.{Node}
use Rattle.odata_syntax.specs.declared.normal_form.Task.{Task}
use Rattle.odata_syntax.specs.private.Forests.{trees_grown}
use Rattle.odata_syntax.specs.private.NormalForm.{HasChildren, IsMade, IsNormalText, IsPutOver, IsReady, Wanted, all_wanted, children_of, children_wanted, count_trees, item_count, items, items_wanted, over, shape_kind, stacked, wanted, wanted_weight, whole, work}
use Rattle.odata_syntax.specs.private.Weights.{tree_weight}

-- ---- trees on a stack

abbrev list_of : Trees → List Tree
list_of no_trees = []
list_of (more_trees tree trees) = tree ∷ list_of trees

relisted : (trees : Trees) → trees_of_list (list_of trees) ≡ trees
relisted no_trees = refl
relisted (more_trees tree trees) = ap (λ (ts : Trees). more_trees tree ts) (relisted trees)

counted : (trees : Trees) → length (list_of trees) ≡ count_trees trees
counted no_trees = refl
counted (more_trees tree trees) = ap suc (counted trees)

stacked_list : (trees : Trees) (earlier : List Tree) → stacked trees earlier ≡ reverse (list_of trees) ++ earlier
stacked_list no_trees earlier = refl
stacked_list (more_trees tree trees) earlier =
    stacked_list trees (tree ∷ earlier)
    ∙ sym (append_assoc (reverse (list_of trees)) (tree ∷ []) earlier)
    ∙ ap (λ (ts : List Tree). ts ++ earlier) (sym (reverse-append (tree ∷ []) (list_of trees)))

reversed_count : (trees : Trees) → length (reverse (list_of trees)) ≡ count_trees trees
reversed_count trees = length-reverse (list_of trees) ∙ counted trees

left_below : (trees : Trees) (earlier : List Tree) → drop (count_trees trees) (stacked trees earlier) ≡ earlier
left_below trees earlier =
    ap (λ (ts : List Tree). drop (count_trees trees) ts) (stacked_list trees earlier)
    ∙ drop_at (reverse (list_of trees)) earlier (count_trees trees) (reversed_count trees)

on_top : (trees : Trees) (earlier : List Tree) → trees_of_list (last_trees (count_trees trees) (stacked trees earlier)) ≡ trees
on_top trees earlier =
    ap (λ (ts : List Tree). trees_of_list (reverse (take (count_trees trees) ts))) (stacked_list trees earlier)
    ∙ ap (λ (ts : List Tree). trees_of_list (reverse ts)) (take_at (reverse (list_of trees)) earlier (count_trees trees) (reversed_count trees))
    ∙ ap trees_of_list (reverse-reverse (list_of trees))
    ∙ relisted trees

stacked_length : (trees : Trees) (earlier : List Tree) → length (stacked trees earlier) ≡ count_trees trees + length earlier
stacked_length no_trees earlier = omega arith
stacked_length (more_trees tree trees) earlier = let rest = stacked_length trees (tree ∷ earlier) in omega (arith, rest)

as_many : (trees normals : Trees) → AreNormalForms trees normals → count_trees normals ≡ count_trees trees
as_many no_trees normals are = ap count_trees are
as_many (more_trees tree trees) normals are = ap count_trees are.4 ∙ ap suc (as_many trees are.1 are.3)

pub counted_nodes : (nodes : List Node) → count_trees (trees_of nodes) ≡ length nodes
counted_nodes [] = refl
counted_nodes (there ∷ nodes) = ap suc (counted_nodes nodes)

-- ---- over the children

-- the children, one or two of them
one_child : (tree normals : Trees) (child : Tree) → tree ≡ more_trees child no_trees → AreNormalForms tree normals
    → (n : Tree) × IsNormalForm child n × (normals ≡ more_trees n no_trees)
one_child trees normals child same are =
    let is = subst (λ (ts : Trees). AreNormalForms ts normals) same are in
    (is.0, is.2, is.4 ∙ ap (λ (ts : Trees). more_trees is.0 ts) is.3)

two_children : (normals : Trees) (first second : Tree) → AreNormalForms (more_trees first (more_trees second no_trees)) normals
    → (f : Tree) × (s : Tree) × IsNormalForm first f × IsNormalForm second s × (normals ≡ more_trees f (more_trees s no_trees))
two_children normals first second are =
    let rest = one_child (more_trees second no_trees) are.1 second refl are.3 in
    (are.0, rest.0, are.2, rest.1, are.4 ∙ ap (λ (ts : Trees). more_trees are.0 ts) rest.2)

module _ (start stop : ℕ) (span : Span) (starts : span.start ≡ start) (stops : span.stop ≡ stop) (made earlier : List Tree) where
  -- what stands there is the node of another form
  made_over : (shape other : Shape) (new : List Tree) → IsNormalForm (node start stop shape) (node start stop other)
      → new ≡ node span.start span.stop other ∷ earlier → IsPutOver (node start stop shape) earlier new
  made_over shape other new is same = record {
    normal = node start stop other;
    is_normal = is;
    is_made = same ∙ ap (λ (a : ℕ). node a span.stop other ∷ earlier) starts ∙ ap (λ (b : ℕ). node start b other ∷ earlier) stops;
  }

  -- over one child
  over_one : (shape : Shape) (child : Tree) (of : Tree → Shape) (new : List Tree → List Tree)
      → ((n : Tree) → IsNormalForm child n → IsNormalForm (node start stop shape) (node start stop (of n)))
      → ((n : Tree) → new (n ∷ earlier) ≡ node span.start span.stop (of n) ∷ earlier)
      → children_of shape ≡ more_trees child no_trees → HasChildren (node start stop shape) made earlier
      → IsPutOver (node start stop shape) earlier (new made)
  over_one shape child of new is same total kids =
      let c = one_child (children_of shape) kids.normals child total kids.are_normal in
      let all : made ≡ c.0 ∷ earlier = kids.are_made ∙ ap (λ (ts : Trees). stacked ts earlier) c.2 in
      made_over shape (of c.0) (new made) (is c.0 c.1) (ap new all ∙ same c.0)

  -- over two
  over_two : (shape : Shape) (first second : Tree) (of : Tree → Tree → Shape) (new : List Tree → List Tree)
      → ((f s : Tree) → IsNormalForm first f → IsNormalForm second s → IsNormalForm (node start stop shape) (node start stop (of f s)))
      → ((f s : Tree) → new (s ∷ (f ∷ earlier)) ≡ node span.start span.stop (of f s) ∷ earlier)
      → children_of shape ≡ more_trees first (more_trees second no_trees) → HasChildren (node start stop shape) made earlier
      → IsPutOver (node start stop shape) earlier (new made)
  over_two shape first second of new is same total kids =
      let c = two_children kids.normals first second (subst (λ (ts : Trees). AreNormalForms ts kids.normals) total kids.are_normal) in
      let all : made ≡ c.1 ∷ (c.0 ∷ earlier) = kids.are_made ∙ ap (λ (ts : Trees). stacked ts earlier) c.4 in
      made_over shape (of c.0 c.1) (new made) (is c.0 c.1 c.2 c.3) (ap new all ∙ same c.0 c.1)

  pub put_over : (shape : Shape) (text : List ℕ) → IsNormalText shape text → HasChildren (node start stop shape) made earlier
      → IsPutOver (node start stop shape) earlier (trees_grown (shape_kind shape) span (item_count shape) text made)
  put_over (literal kind spelled) text is kids =
      made_over (literal kind spelled) (literal kind text) _ (literal kind text, (text, is, refl), refl)
      (ap (λ (ts : List Tree). node span.start span.stop (literal kind text) ∷ ts) (kids.are_made ∙ ap (λ (ts : Trees). stacked ts earlier) kids.are_normal))
  put_over it text is kids =
      made_over it it _ (it, refl, refl)
      (ap (λ (ts : List Tree). node span.start span.stop it ∷ ts) (kids.are_made ∙ ap (λ (ts : Trees). stacked ts earlier) kids.are_normal))
  put_over (name asked) text is kids =
      made_over (name asked) (name asked) _ (name asked, refl, refl)
      (ap (λ (t : List ℕ). node span.start span.stop (name t) ∷ made) is
      ∙ ap (λ (ts : List Tree). node span.start span.stop (name asked) ∷ ts) (kids.are_made ∙ ap (λ (ts : Trees). stacked ts earlier) kids.are_normal))
  put_over (member base asked) text is kids =
      over_one (member base asked) base (λ n. member n asked) (λ ts. trees_grown (shape_kind (member base asked)) span 0 text ts)
      (λ n normal. (member n asked, (n, normal, refl), refl)) (λ n. ap (λ (t : List ℕ). node span.start span.stop (member n t) ∷ earlier) is) refl kids
  put_over (count base) text is kids =
      over_one (count base) base count (λ ts. trees_grown (shape_kind (count base)) span 0 text ts)
      (λ n normal. (count n, (n, normal, refl), refl)) (λ n. refl) refl kids
  put_over (negation operand) text is kids =
      over_one (negation operand) operand negation (λ ts. trees_grown (shape_kind (negation operand)) span 0 text ts)
      (λ n normal. (negation n, (n, normal, refl), refl)) (λ n. refl) refl kids
  put_over (logical_not operand) text is kids =
      over_one (logical_not operand) operand logical_not (λ ts. trees_grown (shape_kind (logical_not operand)) span 0 text ts)
      (λ n normal. (logical_not n, (n, normal, refl), refl)) (λ n. refl) refl kids
  put_over (any_item base) text is kids =
      over_one (any_item base) base any_item (λ ts. trees_grown (shape_kind (any_item base)) span 0 text ts)
      (λ n normal. (any_item n, (n, normal, refl), refl)) (λ n. refl) refl kids
  put_over (binary operator left right) text is kids =
      over_two (binary operator left right) left right (binary operator) (λ ts. trees_grown (shape_kind (binary operator left right)) span 0 text ts)
      (λ f s first second. (binary operator f s, (f, s, first, second, refl), refl)) (λ f s. refl) refl kids
  put_over (has left right) text is kids =
      over_two (has left right) left right has (λ ts. trees_grown (shape_kind (has left right)) span 0 text ts)
      (λ f s first second. (has f s, (f, s, first, second, refl), refl)) (λ f s. refl) refl kids
  put_over (in_path left path) text is kids =
      over_two (in_path left path) left path in_path (λ ts. trees_grown (shape_kind (in_path left path)) span 0 text ts)
      (λ f s first second. (in_path f s, (f, s, first, second, refl), refl)) (λ f s. refl) refl kids
  put_over (lambda quantifier base variable body) text is kids =
      over_two (lambda quantifier base variable body) base body (λ f s. lambda quantifier f variable s)
      (λ ts. trees_grown (shape_kind (lambda quantifier base variable body)) span 0 text ts)
      (λ f s first second. (lambda quantifier f variable s, (f, s, first, second, refl), refl))
      (λ f s. ap (λ (t : List ℕ). node span.start span.stop (lambda quantifier f t s) ∷ earlier) is) refl kids
  put_over (call asked arguments) text is kids =
      let ms = kids.normals in
      let n = count_trees arguments in
      let many : n ≡ count_trees ms = sym (as_many arguments ms kids.are_normal) in
      let top : trees_of_list (last_trees n made) ≡ ms =
      ap (λ (k : ℕ). trees_of_list (last_trees k made)) many ∙ ap (λ (ts : List Tree). trees_of_list (last_trees (count_trees ms) ts)) kids.are_made ∙ on_top ms earlier in
      let below : drop n made ≡ earlier =
      ap (λ (k : ℕ). drop k made) many ∙ ap (λ (ts : List Tree). drop (count_trees ms) ts) kids.are_made ∙ left_below ms earlier in
      made_over (call asked arguments) (call asked ms) _ (call asked ms, (ms, kids.are_normal, refl), refl)
      (ap (λ (t : List ℕ). node span.start span.stop (call t (trees_of_list (last_trees n made))) ∷ drop n made) is
      ∙ ap (λ (ts : Trees). node span.start span.stop (call asked ts) ∷ drop n made) top
      ∙ ap (λ (ts : List Tree). node span.start span.stop (call asked ms) ∷ ts) below)
  put_over (in_list left trees) text is kids =
      let l = kids.are_normal.0 in
      let ms = kids.are_normal.1 in
      let n = count_trees trees in
      let all : made ≡ stacked ms (l ∷ earlier) = kids.are_made ∙ ap (λ (ts : Trees). stacked ts earlier) kids.are_normal.4 in
      let many : n ≡ count_trees ms = sym (as_many trees ms kids.are_normal.3) in
      let top : trees_of_list (last_trees n made) ≡ ms =
      ap (λ (k : ℕ). trees_of_list (last_trees k made)) many ∙ ap (λ (ts : List Tree). trees_of_list (last_trees (count_trees ms) ts)) all ∙ on_top ms (l ∷ earlier) in
      let below : drop n made ≡ l ∷ earlier =
      ap (λ (k : ℕ). drop k made) many ∙ ap (λ (ts : List Tree). drop (count_trees ms) ts) all ∙ left_below ms (l ∷ earlier) in
      made_over (in_list left trees) (in_list l ms) _ (in_list l ms, (l, ms, kids.are_normal.2, kids.are_normal.3, refl), refl)
      (in_made l ms n top below)
    where
      in_made : (l : Tree) (ms : Trees) (n : ℕ) → trees_of_list (last_trees n made) ≡ ms → drop n made ≡ l ∷ earlier
          → trees_grown (shape_kind (in_list left trees)) span n text made ≡ node span.start span.stop (in_list l ms) ∷ earlier
      in_made l ms n top below = rw (top, below) refl

-- the same of a tree
pub put_tree_over : (tree : Tree) (span : Span) (text : List ℕ) (made new earlier : List Tree) → span.start ≡ start_of tree → span.stop ≡ stop_of tree
    → IsNormalText (shape_of tree) text → new ≡ trees_grown (shape_kind (shape_of tree)) span (item_count (shape_of tree)) text made
    → HasChildren tree made earlier → IsPutOver tree earlier new
put_tree_over (node start stop shape) span text made new earlier starts stops is grown kids =
    subst (λ (ts : List Tree). IsPutOver (node start stop shape) earlier ts) (sym grown)
    (put_over start stop span starts stops made earlier shape text is kids)

-- its children were made
pub fed : (tree : Tree) (made earlier : List Tree) → HasChildren tree made earlier
    → child_count (shape_kind (shape_of tree)) (item_count (shape_of tree)) ≤ length made
fed (node start stop shape) made earlier kids =
    let many = as_many (children_of shape) kids.normals kids.are_normal in
    let size : length made ≡ count_trees kids.normals + length earlier = ap (λ (ts : List Tree). length ts) kids.are_made ∙ stacked_length kids.normals earlier in
    let same = child_total shape in
    omega (arith, many, size, same)
  where
    child_total : (s : Shape) → child_count (shape_kind s) (item_count s) ≡ count_trees (children_of s)
    child_total (literal kind text) = refl
    child_total it = refl
    child_total (name text) = refl
    child_total (member base text) = refl
    child_total (count base) = refl
    child_total (negation operand) = refl
    child_total (logical_not operand) = refl
    child_total (binary operator left right) = refl
    child_total (has left right) = refl
    child_total (in_list left trees) = omega arith
    child_total (in_path left path) = refl
    child_total (call text arguments) = refl
    child_total (any_item base) = refl
    child_total (lambda quantifier base variable body) = refl

-- ---- what is wanted

ready_children : (tree : Tree) (more : List Wanted) (made : List Tree) (root : Tree) → IsReady (whole tree ∷ more) made root
    → IsReady (children_wanted (shape_of tree) ++ (over tree ∷ more)) made root
ready_children (node start stop (literal kind text)) more made root ready = (made, record { normals = no_trees; are_normal = refl; are_made = refl }, ready)
ready_children (node start stop it) more made root ready = (made, record { normals = no_trees; are_normal = refl; are_made = refl }, ready)
ready_children (node start stop (name text)) more made root ready = (made, record { normals = no_trees; are_normal = refl; are_made = refl }, ready)
ready_children (node start stop (member base text)) more made root ready =
    λ n normal. (made, record { normals = more_trees n no_trees; are_normal = (n, no_trees, normal, refl, refl); are_made = refl }, ready)
ready_children (node start stop (count base)) more made root ready =
    λ n normal. (made, record { normals = more_trees n no_trees; are_normal = (n, no_trees, normal, refl, refl); are_made = refl }, ready)
ready_children (node start stop (negation operand)) more made root ready =
    λ n normal. (made, record { normals = more_trees n no_trees; are_normal = (n, no_trees, normal, refl, refl); are_made = refl }, ready)
ready_children (node start stop (logical_not operand)) more made root ready =
    λ n normal. (made, record { normals = more_trees n no_trees; are_normal = (n, no_trees, normal, refl, refl); are_made = refl }, ready)
ready_children (node start stop (any_item base)) more made root ready =
    λ n normal. (made, record { normals = more_trees n no_trees; are_normal = (n, no_trees, normal, refl, refl); are_made = refl }, ready)
ready_children (node start stop (binary operator left right)) more made root ready =
    λ f first s second. (
      made,
      record { normals = more_trees f (more_trees s no_trees); are_normal = (f, more_trees s no_trees, first, (s, no_trees, second, refl, refl), refl); are_made = refl },
      ready,
    )
ready_children (node start stop (has left right)) more made root ready =
    λ f first s second. (
      made,
      record { normals = more_trees f (more_trees s no_trees); are_normal = (f, more_trees s no_trees, first, (s, no_trees, second, refl, refl), refl); are_made = refl },
      ready,
    )
ready_children (node start stop (in_path left path)) more made root ready =
    λ f first s second. (
      made,
      record { normals = more_trees f (more_trees s no_trees); are_normal = (f, more_trees s no_trees, first, (s, no_trees, second, refl, refl), refl); are_made = refl },
      ready,
    )
ready_children (node start stop (lambda quantifier base variable body)) more made root ready =
    λ f first s second. (
      made,
      record { normals = more_trees f (more_trees s no_trees); are_normal = (f, more_trees s no_trees, first, (s, no_trees, second, refl, refl), refl); are_made = refl },
      ready,
    )
ready_children (node start stop (in_list left trees)) more made root ready =
    λ f first ms are. (made, record { normals = more_trees f ms; are_normal = (f, ms, first, are, refl); are_made = refl }, ready)
ready_children (node start stop (call text arguments)) more made root ready =
    λ ms are. (made, record { normals = ms; are_normal = are; are_made = refl }, ready)

lighter_children : (tree : Tree) → work (children_wanted (shape_of tree)) + 1 < 2 * tree_weight tree
lighter_children (node start stop (literal kind text)) = omega arith
lighter_children (node start stop it) = omega arith
lighter_children (node start stop (name text)) = omega arith
lighter_children (node start stop (member base text)) = omega arith
lighter_children (node start stop (count base)) = omega arith
lighter_children (node start stop (negation operand)) = omega arith
lighter_children (node start stop (logical_not operand)) = omega arith
lighter_children (node start stop (binary operator left right)) = omega arith
lighter_children (node start stop (has left right)) = omega arith
lighter_children (node start stop (in_list left trees)) = omega arith
lighter_children (node start stop (in_path left path)) = omega arith
lighter_children (node start stop (call text arguments)) = omega arith
lighter_children (node start stop (any_item base)) = omega arith
lighter_children (node start stop (lambda quantifier base variable body)) = omega arith

pub whole_made : (tree : Tree) (more after : List Wanted) (made : List Tree)
    → after ≡ children_wanted (shape_of tree) ++ (over tree ∷ more) → IsMade (whole tree ∷ more) made after made
whole_made tree more after made same =
    let sums : work (children_wanted (shape_of tree) ++ (over tree ∷ more)) ≡ work (children_wanted (shape_of tree)) + work (over tree ∷ more) =
    sum_by-append wanted_weight (children_wanted (shape_of tree)) (over tree ∷ more) in
    let first = sum_by-append wanted_weight (over tree ∷ []) more in
    let before = sum_by-append wanted_weight (whole tree ∷ []) more in
    let light = lighter_children tree in
    let now : work after ≡ work (children_wanted (shape_of tree) ++ (over tree ∷ more)) = ap work same in
    record {
      ready = λ root ready. subst (λ (ws : List Wanted). IsReady ws made root) (sym same) (ready_children tree more made root ready);
      lighter = omega (arith, sums, first, before, light, now);
    }

ready_items : (trees : Trees) (more : List Wanted) (made : List Tree) (root : Tree) → IsReady (items trees ∷ more) made root → IsReady (items_wanted trees more) made root
ready_items no_trees more made root ready = ready no_trees refl
ready_items (more_trees tree trees) more made root ready = λ f first ms are. ready (more_trees f ms) (f, ms, first, are, refl)

lighter_items : (trees : Trees) (more : List Wanted) → work (items_wanted trees more) < work (items trees ∷ more)
lighter_items no_trees more =
    let before = sum_by-append wanted_weight (items no_trees ∷ []) more in
    omega (arith, before)
lighter_items (more_trees tree trees) more =
    let before = sum_by-append wanted_weight (items (more_trees tree trees) ∷ []) more in
    let now = sum_by-append wanted_weight (whole tree ∷ (items trees ∷ [])) more in
    omega (arith, before, now)

pub items_made : (trees : Trees) (more after : List Wanted) (made : List Tree) → after ≡ items_wanted trees more → IsMade (items trees ∷ more) made after made
items_made trees more after made same =
    let light = lighter_items trees more in
    let now : work after ≡ work (items_wanted trees more) = ap work same in
    record {
      ready = λ root ready. subst (λ (ws : List Wanted). IsReady ws made root) (sym same) (ready_items trees more made root ready);
      lighter = omega (arith, light, now);
    }

empty_nodes : (nodes : List Node) → length nodes ≡ 0 → nodes ≡ []
empty_nodes [] none = refl
empty_nodes (there ∷ nodes) none = absurd (omega (arith, none))

pub no_items_made : (nodes : List Node) (more : List Wanted) (made : List Tree) → length nodes ≡ 0 → IsMade (items (trees_of nodes) ∷ more) made more made
no_items_made nodes more made none =
    let same : nodes ≡ [] = empty_nodes nodes none in
    items_made (trees_of nodes) more more made (sym (ap (λ (ns : List Node). items_wanted (trees_of ns) more) same))

pub some_items_made : (nodes : List Node) (first : Node) (rest : List Node) (more mid after : List Wanted) (made : List Tree) → IsFirstAndRest nodes first rest
    → mid ≡ items (trees_of rest) ∷ more → after ≡ whole (tree_of first) ∷ mid → IsMade (items (trees_of nodes) ∷ more) made after made
some_items_made nodes first rest more mid after made parts below top =
    items_made (trees_of nodes) more after made
    (top ∙ ap (λ (ws : List Wanted). whole (tree_of first) ∷ ws) below
    ∙ sym (ap (λ (ns : List Node). items_wanted (trees_of ns) more) parts.0))

-- what is known of a success
pub on_if : {A E P Q : Type 0} (r : Result A E) → (P → Q) → IfOk r (λ _. P) → OnOk r Q
on_if (Ok x) f given = f given
on_if (Err e) f given = tt

pub over_made : (tree : Tree) (more : List Wanted) (made new : List Tree)
    → ((earlier : List Tree) → HasChildren tree made earlier → IsPutOver tree earlier new) → IsMade (over tree ∷ more) made more new
over_made tree more made new put =
    let before = sum_by-append wanted_weight (over tree ∷ []) more in
    record {
      ready = λ root ready.
          let is = put ready.0 ready.1 in
          subst (λ (ts : List Tree). IsReady more ts root) (sym is.is_made) (ready.2 is.normal is.is_normal);
      lighter = omega (arith, before);
    }

-- ---- the stack

wanted_snoc : (tasks : List Task) (task : Task) → all_wanted (tasks ++ task ∷ []) ≡ wanted task ∷ all_wanted tasks
wanted_snoc tasks task =
    ap (λ (ws : List Wanted). reverse ws) (map-append wanted tasks (task ∷ []))
    ∙ reverse-append (map wanted tasks) (wanted task ∷ [])

pub put_task : (old new : List Task) (task : Task) → new ≡ old ++ task ∷ [] → all_wanted new ≡ wanted task ∷ all_wanted old
put_task old new task same = ap all_wanted same ∙ wanted_snoc old task

pub ready_first : (root : Tree) (task : Task) (tasks : List Task) (made : List Tree) → wanted task ≡ whole root → tasks ≡ [] ++ task ∷ [] → made ≡ []
    → IsReady (all_wanted tasks) made root
ready_first root task tasks made first one none =
    let all : all_wanted tasks ≡ whole root ∷ [] = put_task [] tasks task one ∙ ap (λ (w : Wanted). w ∷ []) first in
    subst (λ (ws : List Wanted). IsReady ws made root) (sym all)
    (λ n normal. record { normal = n; is_normal = normal; is_made = ap (λ (ts : List Tree). n ∷ ts) none })

pub ready_next : (root : Tree) (all tasks : List Task) (task : Task) (made : List Tree) → all ≡ tasks ++ task ∷ [] → IsReady (all_wanted all) made root
    → IsReady (wanted task ∷ all_wanted tasks) made root
ready_next root all tasks task made same ready = subst (λ (ws : List Wanted). IsReady ws made root) (put_task tasks all task same) ready

emptied : (o : Option Task) (all new : List Task) (n m : ℕ) → o ≡ None → all ≡ new ++ option_to_list o
    → MatchOption o ((n ≡ 0) × (m ≡ 0)) (λ _. m + 1 ≡ n) → new ≡ take (n - 1) all → all ≡ []
emptied None all new n m is kept cases rest =
    let zero : n ≡ 0 = cases.0 in
    let before : n - 1 ≡ 0 = omega arith in
    let none : new ≡ [] = rest ∙ ap (λ (k : ℕ). take k all) before in
    kept ∙ ap (λ (xs : List Task). xs ++ []) none
emptied (Some x) all new n m is kept cases rest = cc

pub ready_last : (root : Tree) (made : List Tree) (o : Option Task) (all new : List Task) (n m : ℕ) → o ≡ None → all ≡ new ++ option_to_list o
    → MatchOption o ((n ≡ 0) × (m ≡ 0)) (λ _. m + 1 ≡ n) → new ≡ take (n - 1) all → IsReady (all_wanted all) made root → IsPutOver root [] made
ready_last root made o all new n m is kept cases rest ready =
    subst (λ (ts : List Task). IsReady (all_wanted ts) made root) (emptied o all new n m is kept cases rest) ready

pub one_made : (root : Tree) (made : List Tree) → IsPutOver root [] made → length made ≡ 1
one_made root made put = ap (λ (ts : List Tree). length ts) put.is_made

same_first : (a b : Tree) (xs ys : List Tree) → a ∷ xs ≡ b ∷ ys → a ≡ b
same_first a b xs ys same = cc

pub last_made : (root tree : Tree) (made rest : List Tree) → IsPutOver root [] made → made ≡ tree ∷ rest → IsNormalForm root tree
last_made root tree made rest put same =
    subst (IsNormalForm root) (same_first put.normal tree [] rest (sym put.is_made ∙ same)) put.is_normal
