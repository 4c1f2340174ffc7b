-- The paths of the nodes of trees one after another, from their first node on.
use Rattle.std.proofs.Common.{◌≡◌, refl, sym, ap, ◌∙◌, subst, ℕ, ◌<◌, ◌≤◌, ◌+◌, List, [], ◌∷◌, ◌++◌, true, false, Some, map, slice_get, append_assoc, arith}
use Rattle.std.proofs.lemmas.Bool.{false≢true}
use Rattle.std.proofs.lemmas.List.{append-nil, map-append}
use Rattle.odata_syntax.specs.Tree.{Shape, Tree, Trees, any_item, binary, call, count, has, in_list, in_path, lambda, logical_not, member, more_trees, name, negation, no_trees, node}
use Rattle.odata_syntax.specs.Spans.{children_of, list_of_trees}
use Rattle.odata_syntax.specs.declared.node.Quantifier.{Quantifier}
use Rattle.csdl_schema.specs.ExprType.{null_type}
use Rattle.csdl_schema.specs.SchemaModel.{slots_of, type_name_at}
use Rattle.odata_signatures.specs.NeededPaths.{VariablePaths, path_of}
use Rattle.odata_signatures.specs.Typed.{Scope, with_variable}
use Rattle.odata_checked_filter.specs.FlatTree.{FlatTree}
use Rattle.odata_checked_filter.specs.PropertyPaths.{node_paths, path_text, paths_among, paths_below}
use Rattle.odata_checked_filter.specs.declared.checked_node.CheckedNode.{CheckedNode}
use Rattle.odata_checked_filter.specs.declared.checked_node.NodeKind.{NodeKind}
use Rattle.odata_checked_filter.specs.private.LambdaLines.{AreInLine, StandsBetween, kind_is_lambda}
use Rattle.odata_checked_filter.specs.private.PropertyPaths.{texts_among, with_texts}
use Rattle.odata_checked_filter.proofs.flat.Below.{children_line, line_behind}
use Rattle.odata_checked_filter.proofs.flat.Children.{body_there}
use Rattle.odata_checked_filter.proofs.flat.KindForms.{form_there}
use Rattle.odata_checked_filter.proofs.flat.Standing.{between_onward, line_onward}
use Rattle.odata_checked_filter.proofs.named.Texts.{put_both}
use Rattle.odata_checked_filter.proofs.needed.Kinds.{other_there, property_there, step_there, variable_there, way_none}
use Rattle.odata_checked_filter.proofs.nesting.Lines.{is_lambda, lambda_kind}

-- ---- the texts of a tree's nodes, by its children

among_texts : (scope : Scope) (paths : VariablePaths) (trees : Trees) → map path_text (paths_among scope paths trees) ≡ texts_among scope paths (list_of_trees trees)
among_texts scope paths no_trees = refl
among_texts scope paths (more_trees tree trees) =
    map-append path_text (node_paths scope paths tree) (paths_among scope paths trees)
    ∙ ap (λ (rest : List (List ℕ)). map path_text (node_paths scope paths tree) ++ rest) (among_texts scope paths trees)

pub one_text : (scope : Scope) (paths : VariablePaths) (tree : Tree) → map path_text (node_paths scope paths tree) ≡ texts_among scope paths (tree ∷ [])
one_text scope paths tree = sym (append-nil (map path_text (node_paths scope paths tree)))

two_texts : (scope : Scope) (paths : VariablePaths) (left right : Tree)
    → map path_text (node_paths scope paths left ++ node_paths scope paths right) ≡ texts_among scope paths (left ∷ right ∷ [])
two_texts scope paths left right =
    map-append path_text (node_paths scope paths left) (node_paths scope paths right)
    ∙ ap (λ (rest : List (List ℕ)). map path_text (node_paths scope paths left) ++ rest) (one_text scope paths right)

below_texts : (scope : Scope) (paths : VariablePaths) (shape : Shape) → is_lambda shape ≡ false
    → map path_text (paths_below scope paths shape) ≡ texts_among scope paths (children_of shape)
below_texts scope paths (member base asked) plain = one_text scope paths base
below_texts scope paths (count base) plain = one_text scope paths base
below_texts scope paths (negation operand) plain = one_text scope paths operand
below_texts scope paths (logical_not operand) plain = one_text scope paths operand
below_texts scope paths (binary operator left right) plain = two_texts scope paths left right
below_texts scope paths (has left right) plain = two_texts scope paths left right
below_texts scope paths (in_list left items) plain =
    map-append path_text (node_paths scope paths left) (paths_among scope paths items)
    ∙ ap (λ (rest : List (List ℕ)). map path_text (node_paths scope paths left) ++ rest) (among_texts scope paths items)
below_texts scope paths (in_path left path) plain = two_texts scope paths left path
below_texts scope paths (call asked arguments) plain = among_texts scope paths arguments
below_texts scope paths (any_item base) plain = one_text scope paths base
below_texts scope paths (lambda quantifier base variable body) plain = absurd (false≢true (sym plain))
below_texts scope paths _ plain = refl

texts_both : (scope : Scope) (paths : VariablePaths) (trees more : List Tree) → texts_among scope paths (trees ++ more) ≡ texts_among scope paths trees ++ texts_among scope paths more
texts_both scope paths [] more = refl
texts_both scope paths (tree ∷ trees) more =
    ap (λ (rest : List (List ℕ)). map path_text (node_paths scope paths tree) ++ rest) (texts_both scope paths trees more)
    ∙ sym (append_assoc (map path_text (node_paths scope paths tree)) (texts_among scope paths trees) (texts_among scope paths more))

-- ---- the first tree of a line

pub record IsFirst (list : FlatTree) (place stop : ℕ) (trees : List Tree) : Type 0 where
  pub tree : Tree
  pub more : List Tree
  pub middle : ℕ
  pub stands : StandsBetween list place middle tree
  pub after : AreInLine list middle stop more
  pub is : trees ≡ tree ∷ more

pub first_of : (list : FlatTree) (place stop : ℕ) (trees : List Tree) → AreInLine list place stop trees → place < stop → IsFirst list place stop trees
first_of list place stop [] line before = absurd (omega (arith, line, before))
first_of list place stop (tree ∷ more) line before = record { tree = tree; more = more; middle = line.middle; stands = line.left; after = line.right; is = refl }

-- whether it is a lambda operator
lambda_there : (list : FlatTree) (place stop start end : ℕ) (shape : Shape) (found : CheckedNode) → StandsBetween list place stop (node start end shape) → slice_get list.nodes place ≡ Some found
    → is_lambda shape ≡ kind_is_lambda found.kind
lambda_there list place stop start end shape found between at =
    lambda_kind (slots_of between.schema) (type_name_at between.schema between.filtered) between.scope shape found.kind
    (form_there between.schema between.filtered between.scope list place stop start end shape found between.stands at)

-- what stands below the first tree's node, and after that tree
pub line_below : (list : FlatTree) (place stop : ℕ) (trees : List Tree) (here : CheckedNode) (first : IsFirst list place stop trees) → slice_get list.nodes place ≡ Some here
    → (rest : List Tree) × AreInLine list (place + 1) stop rest
line_below list place stop trees here first at = by first.tree first.stands
  where
    by : (tree : Tree) → StandsBetween list place first.middle tree → (rest : List Tree) × AreInLine list (place + 1) stop rest
    by (node start end shape) between = (
      children_of shape ++ first.more,
      line_behind list (place + 1) first.middle stop (children_of shape) first.more
          (children_line between.schema between.filtered list between.scope (place + 1) first.middle shape between.stands.children) first.after,
    )

-- ---- what is left of a line on the way

-- trees from an index on, whose texts after those found make all
pub record IsLeft
    (list : FlatTree) (scope : Scope) (paths : VariablePaths) (old found : List (List ℕ)) (place stop : ℕ) (trees : List Tree) : Type 0 where
  pub rest : List Tree
  pub line : AreInLine list place stop rest
  pub put : with_texts found (texts_among scope paths rest) ≡ with_texts old (texts_among scope paths trees)

-- past a node that is no lambda operator, with its text
pub past_node :
    (list : FlatTree) (scope : Scope) (paths : VariablePaths) (old found new : List (List ℕ)) (place stop : ℕ) (trees : List Tree) (here : CheckedNode)
    → (left : IsLeft list scope paths old found place stop trees) → (first : IsFirst list place stop left.rest)
    → slice_get list.nodes place ≡ Some here → kind_is_lambda here.kind ≡ false
    → new ≡ with_texts found (path_text (path_of scope paths first.tree) ∷ [])
    → IsLeft list scope paths old new (place + 1) stop trees
past_node list scope paths old found new place stop trees here left first at plain put =
    by first.tree first.stands put (subst (λ (ts : List Tree). with_texts found (texts_among scope paths ts) ≡ with_texts old (texts_among scope paths trees)) first.is left.put)
  where
    by : (tree : Tree) → StandsBetween list place first.middle tree → new ≡ with_texts found (path_text (path_of scope paths tree) ∷ [])
        → with_texts found (texts_among scope paths (tree ∷ first.more)) ≡ with_texts old (texts_among scope paths trees)
        → IsLeft list scope paths old new (place + 1) stop trees
    by (node start end shape) between put whole =
        let children = children_of shape in
        let own = path_text (path_of scope paths (node start end shape)) in
        let below : map path_text (paths_below scope paths shape) ≡ texts_among scope paths children = below_texts scope paths shape (lambda_there list place first.middle start end shape here between at ∙ plain) in
        record {
          rest = children ++ first.more;
          line = line_behind list (place + 1) first.middle stop children first.more
              (children_line between.schema between.filtered list between.scope (place + 1) first.middle shape between.stands.children) first.after;
          put =
              ap (λ (held : List (List ℕ)). with_texts held (texts_among scope paths (children ++ first.more))) put
              ∙ put_both found (own ∷ []) (texts_among scope paths (children ++ first.more))
              ∙ ap (λ (more : List (List ℕ)). with_texts found (own ∷ more))
              (texts_both scope paths children first.more
              ∙ ap (λ (more : List (List ℕ)). more ++ texts_among scope paths first.more) (sym below))
              ∙ whole;
        }

pub no_more : (list : FlatTree) (scope : Scope) (paths : VariablePaths) (old found : List (List ℕ)) (place stop : ℕ) (trees : List Tree) → IsLeft list scope paths old found place stop trees
    → stop ≤ place → with_texts found [] ≡ with_texts old (texts_among scope paths trees)
no_more list scope paths old found place stop trees left past = by left.rest left.line left.put
  where
    by : (rest : List Tree) → AreInLine list place stop rest → with_texts found (texts_among scope paths rest) ≡ with_texts old (texts_among scope paths trees)
        → with_texts found [] ≡ with_texts old (texts_among scope paths trees)
    by [] line put = put
    by (tree ∷ more) line put =
        let before = between_onward list place line.middle tree line.left in
        let onward = line_onward list line.middle stop more line.right in
        absurd (omega (arith, before, onward, past))

-- ---- a lambda operator

pub record IsLambda (list : FlatTree) (place stop : ℕ) (tree : Tree) : Type 0 where
  pub start : ℕ
  pub end : ℕ
  pub quantifier : Quantifier
  pub base : Tree
  pub variable : List ℕ
  pub body : Tree
  pub middle : ℕ
  pub is : tree ≡ node start end (lambda quantifier base variable body)
  pub base_stands : StandsBetween list (place + 1) middle base
  pub body_stands : StandsBetween list middle stop body
  pub text_at : slice_get list.texts place ≡ Some variable

pub lambda_of : (list : FlatTree) (place stop : ℕ) (tree : Tree) (found : CheckedNode) → StandsBetween list place stop tree → slice_get list.nodes place ≡ Some found
    → kind_is_lambda found.kind ≡ true → IsLambda list place stop tree
lambda_of list place stop (node start end shape) found between at operator = by shape between (lambda_there list place stop start end shape found between at ∙ operator)
  where
    by : (shape : Shape) → StandsBetween list place stop (node start end shape) → is_lambda shape ≡ true → IsLambda list place stop (node start end shape)
    by (lambda quantifier base variable body) between is =
        let parts = body_there between.schema between.filtered between.scope list (place + 1) stop base variable body between.stands.children in
        record {
          start = start;
          end = end;
          quantifier = quantifier;
          base = base;
          variable = variable;
          body = body;
          middle = parts.middle;
          is = refl;
          base_stands = record { schema = between.schema; filtered = between.filtered; scope = between.scope; stands = parts.left };
          body_stands = record { schema = between.schema; filtered = between.filtered; scope = _; stands = parts.right.body };
          text_at = between.stands.top.text_at;
        }
    by _ between is = absurd (false≢true is)

pub base_line : (list : FlatTree) (i j a b : ℕ) (tree : Tree) → a ≡ i → b ≡ j → StandsBetween list i j tree → AreInLine list a b (tree ∷ [])
base_line list i j a b tree first last between =
    subst (λ (x : ℕ). AreInLine list x b (tree ∷ [])) (sym first)
    (subst (λ (y : ℕ). AreInLine list i y (tree ∷ [])) (sym last) (record { middle = j; left = between; right = refl }))

-- past it, with its text and those of its base and its body
pub past_lambda :
    (list : FlatTree) (scope : Scope) (paths : VariablePaths) (old found first_put base_put new : List (List ℕ)) (place stop : ℕ) (trees : List Tree)
    → (left : IsLeft list scope paths old found place stop trees) → (first : IsFirst list place stop left.rest)
    → (operator : IsLambda list place first.middle first.tree)
    → first_put ≡ with_texts found (path_text (path_of scope paths first.tree) ∷ [])
    → base_put ≡ with_texts first_put (texts_among scope paths (operator.base ∷ []))
    → new ≡ with_texts base_put (texts_among (with_variable scope operator.variable null_type) (path_of scope paths operator.base ∷ paths) (operator.body ∷ []))
    → IsLeft list scope paths old new first.middle stop trees
past_lambda list scope paths old found first_put base_put new place stop trees left first operator own_is base_is new_is =
    let base = map path_text (node_paths scope paths operator.base) in
    let inner = with_variable scope operator.variable null_type in
    let inner_paths = path_of scope paths operator.base ∷ paths in
    let body = map path_text (node_paths inner inner_paths operator.body) in
    let behind = texts_among scope paths first.more in
    let is : left.rest ≡ node operator.start operator.end (lambda operator.quantifier operator.base operator.variable operator.body) ∷ first.more =
    first.is ∙ ap (λ (t : Tree). t ∷ first.more) operator.is in
    let whole : with_texts found ([] ∷ (map path_text (node_paths scope paths operator.base ++ node_paths inner inner_paths operator.body) ++ behind)) ≡ with_texts old (texts_among scope paths trees) =
    subst (λ (ts : List Tree). with_texts found (texts_among scope paths ts) ≡ with_texts old (texts_among scope paths trees)) is left.put in
    let own : first_put ≡ with_texts found ([] ∷ []) = subst (λ (t : Tree). first_put ≡ with_texts found (path_text (path_of scope paths t) ∷ [])) operator.is own_is in
    record {
      rest = first.more;
      line = first.after;
      put =
          ap (λ (held : List (List ℕ)). with_texts held behind) (new_is ∙ ap (λ (texts : List (List ℕ)). with_texts base_put texts) (append-nil body))
          ∙ put_both base_put body behind
          ∙ ap (λ (held : List (List ℕ)). with_texts held (body ++ behind)) (base_is ∙ ap (λ (texts : List (List ℕ)). with_texts first_put texts) (append-nil base))
          ∙ put_both first_put base (body ++ behind)
          ∙ ap (λ (held : List (List ℕ)). with_texts held (base ++ (body ++ behind))) own
          ∙ put_both found ([] ∷ []) (base ++ (body ++ behind))
          ∙ ap (λ (texts : List (List ℕ)). with_texts found ([] ∷ texts))
          (sym (append_assoc base body behind) ∙ ap (λ (texts : List (List ℕ)). texts ++ behind) (sym (map-append path_text (node_paths scope paths operator.base) (node_paths inner inner_paths operator.body))))
          ∙ whole;
    }

-- ---- the path of the node there, by its kind

-- a name, which stands beside it
pub record IsName (list : FlatTree) (place : ℕ) (tree : Tree) : Type 0 where
  pub start : ℕ
  pub end : ℕ
  pub asked : List ℕ
  pub is : tree ≡ node start end (name asked)
  pub text_at : slice_get list.texts place ≡ Some asked

pub property_name : (list : FlatTree) (place stop slot : ℕ) (tree : Tree) (found : CheckedNode) → StandsBetween list place stop tree → slice_get list.nodes place ≡ Some found
    → found.kind ≡ NodeKind.Property slot → IsName list place tree
property_name list place stop slot tree found between at kind =
    let there = property_there between.schema between.filtered between.scope list place stop slot tree found between.stands at kind in
    record { start = there.start; end = there.end; asked = there.asked; is = there.is; text_at = there.text_at }

pub variable_name : (list : FlatTree) (place stop level : ℕ) (tree : Tree) (found : CheckedNode) → StandsBetween list place stop tree → slice_get list.nodes place ≡ Some found
    → found.kind ≡ NodeKind.Variable level → IsName list place tree
variable_name list place stop level tree found between at kind =
    let there = variable_there between.schema between.filtered between.scope list place stop level tree found between.stands at kind in
    record { start = there.start; end = there.end; asked = there.asked; is = there.is; text_at = there.text_at }

-- a step
pub record IsStep (list : FlatTree) (place stop : ℕ) (tree : Tree) : Type 0 where
  pub start : ℕ
  pub end : ℕ
  pub base : Tree
  pub asked : List ℕ
  pub is : tree ≡ node start end (member base asked)
  pub base_stands : StandsBetween list (place + 1) stop base
  pub text_at : slice_get list.texts place ≡ Some asked

pub step_of : (list : FlatTree) (place stop slot : ℕ) (tree : Tree) (found : CheckedNode) → StandsBetween list place stop tree → slice_get list.nodes place ≡ Some found
    → found.kind ≡ NodeKind.Member slot → IsStep list place stop tree
step_of list place stop slot tree found between at kind =
    let there = step_there between.schema between.filtered between.scope list place stop slot tree found between.stands at kind in
    record {
      start = there.start;
      end = there.end;
      base = there.base;
      asked = there.asked;
      is = there.is;
      base_stands = record { schema = between.schema; filtered = between.filtered; scope = between.scope; stands = there.base_stands };
      text_at = there.text_at;
    }

-- any other node has no path
pub no_path_there : (list : FlatTree) (place stop : ℕ) (tree : Tree) (found : CheckedNode) (scope : Scope) (paths : VariablePaths) → StandsBetween list place stop tree → slice_get list.nodes place ≡ Some found
    → ((slot : ℕ) → found.kind ≡ NodeKind.Member slot → ⊥) → ((slot : ℕ) → found.kind ≡ NodeKind.Property slot → ⊥) → ((level : ℕ) → found.kind ≡ NodeKind.Variable level → ⊥)
    → path_of scope paths tree ≡ []
no_path_there list place stop tree found scope paths between at step property variable =
    let none = way_none between.schema between.filtered scope list paths tree
    (other_there between.schema between.filtered between.scope list place stop tree found between.stands at step property variable) in
    none.1.0
