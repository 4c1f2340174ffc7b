-- The shape of the node at an index, as the printer asks for it.
use Rattle.std.proofs.Common.{◌≡◌, ◌∙◌, ℕ, ◌+◌, ◌<◌, ◌≤◌, List, [], ◌∷◌, Some, slice_get, length, refl, sym, subst, ap, arith}
use Rattle.std.specs.Borrow.{Bor}
use Rattle.std.specs.Prelude.{codes}
use Rattle.odata_syntax.specs.PrintedTree.{AreSplit, HasOperands, IsShapeOf, printed_shape}
use Rattle.odata_syntax.specs.Spans.{children_of, list_of_trees}
use Rattle.odata_syntax.specs.Tree.{Shape, Tree, Trees, any_item, binary, call, count, has, in_list, in_path, it, lambda, literal, logical_not, member, more_trees, name, negation, no_trees, node, shape_of, trees_of_list}
use Rattle.odata_syntax.specs.declared.printer.printed_tree.AfterFirst.{AfterFirst}
use Rattle.odata_syntax.specs.declared.printer.printed_tree.NodeShape.{NodeShape}
use Rattle.csdl_schema.specs.SchemaModel.{Slots}
use Rattle.odata_signatures.specs.Functions.{row_of}
use Rattle.odata_signatures.specs.Typed.{Scope}
use Rattle.odata_checked_filter.specs.FlatTree.{FlatTree, first_tree}
use Rattle.odata_checked_filter.specs.Stands.{text_of_shape}
use Rattle.odata_checked_filter.specs.declared.checked_node.CheckedNode.{CheckedNode}
use Rattle.odata_checked_filter.specs.declared.checked_node.NodeKind.{NodeKind}
use Rattle.odata_checked_filter.specs.private.LambdaLines.{AreInLine, IsLine, StandsBetween}
use Rattle.odata_checked_filter.specs.private.PrintedList.{HasTreeAt, tree_there, trees_in, trees_there}
use Rattle.odata_checked_filter.proofs.flat.Below.{children_line}
use Rattle.odata_checked_filter.proofs.flat.Forests.{is_planted, line_before, trees_again}
use Rattle.odata_checked_filter.proofs.flat.KindForms.{HasForm, any_form, binary_form, call_form, count_form, form_at, has_form, it_form, lambda_form, list_form, literal_form, member_form, negation_form, not_form, now_form, path_form, property_form, variable_form}
use Rattle.odata_checked_filter.proofs.flat.Places.{same_found}
use Rattle.odata_checked_filter.proofs.flat.Standing.{between_last, between_onward, between_within, line_onward}

-- ---- the trees of a list

tree_is : (list : FlatTree) (i j : ℕ) (tree : Tree) → StandsBetween list i j tree → tree_there list i ≡ tree
tree_is list i j tree between = ap first_tree (is_planted tree list i j between)

-- the tree at an index, and that it is there
record IsThere (list : FlatTree) (i : ℕ) (tree : Tree) : Type 0 where
  same : tree_there list i ≡ tree
  there : HasTreeAt list i

is_there : (list : FlatTree) (i j a : ℕ) (tree : Tree) → a ≡ i → StandsBetween list i j tree → IsThere list a tree
is_there list i j a tree same between =
    let here : StandsBetween list a j tree = subst (λ (x : ℕ). StandsBetween list x j tree) (sym same) between in
    record { same = tree_is list a j tree here; there = (j, tree, here) }

-- the trees in a line, and that they are there
record AreThere (list : FlatTree) (a b : ℕ) (trees : Trees) : Type 0 where
  same : trees_there list a b ≡ trees
  there : IsLine list a b

are_there : (list : FlatTree) (i j a b : ℕ) (trees : Trees) → a ≡ i → b ≡ j → AreInLine list i j (list_of_trees trees) → AreThere list a b trees
are_there list i j a b trees first last line =
    let here : AreInLine list a b (list_of_trees trees) =
    subst (λ (x : ℕ). AreInLine list x b (list_of_trees trees)) (sym first) (subst (λ (y : ℕ). AreInLine list i y (list_of_trees trees)) (sym last) line) in
    record { same = ap trees_of_list (line_before list a b (list_of_trees trees) here) ∙ trees_again trees; there = (list_of_trees trees, here) }

-- ---- the node at an index

-- what the printer is shown of a node, by its kind, its text, where its first operand begins and stops, and where it stops
abbrev pub shown : NodeKind → Bor (List ℕ) → ℕ → ℕ → ℕ → NodeShape ℕ (ℕ × ℕ)
shown (NodeKind.Literal kind value) text first next stop = NodeShape.Literal kind text
shown NodeKind.It text first next stop = NodeShape.It
shown (NodeKind.Property slot) text first next stop = NodeShape.Name text
shown (NodeKind.Variable level) text first next stop = NodeShape.Name text
shown NodeKind.Now text first next stop = NodeShape.Call text (first, stop)
shown (NodeKind.Call function) text first next stop = NodeShape.Call text (first, stop)
shown NodeKind.Neg text first next stop = NodeShape.Neg first
shown NodeKind.Not text first next stop = NodeShape.Not first
shown (NodeKind.Member slot) text first next stop = NodeShape.Joined first (AfterFirst.Member text)
shown NodeKind.Count text first next stop = NodeShape.Joined first AfterFirst.Count
shown NodeKind.AnyItem text first next stop = NodeShape.Joined first AfterFirst.AnyItem
shown (NodeKind.Lambda quantifier) text first next stop = NodeShape.Joined first (AfterFirst.Lambda quantifier text next)
shown (NodeKind.Binary operator) text first next stop = NodeShape.Joined first (AfterFirst.Binary operator next)
shown NodeKind.Has text first next stop = NodeShape.Joined first (AfterFirst.Has next)
shown NodeKind.InList text first next stop = NodeShape.Joined first (AfterFirst.InList (next, stop))
shown NodeKind.InPath text first next stop = NodeShape.Joined first (AfterFirst.InPath next)

-- the text is the one beside the node, of a call the name of what it calls
abbrev pub HasText : FlatTree → ℕ → NodeKind → List ℕ → Type 0
HasText list i NodeKind.Now text = text ≡ codes "now"
HasText list i (NodeKind.Call function) text = text ≡ (row_of function).name
HasText list i (NodeKind.Literal kind value) text = slice_get list.texts i ≡ Some text
HasText list i (NodeKind.Property slot) text = slice_get list.texts i ≡ Some text
HasText list i (NodeKind.Variable level) text = slice_get list.texts i ≡ Some text
HasText list i (NodeKind.Member slot) text = slice_get list.texts i ≡ Some text
HasText list i (NodeKind.Lambda quantifier) text = slice_get list.texts i ≡ Some text
HasText list i _ text = Unit {0}

-- of the kinds with more than one operand the first type, of others the second
abbrev pub if_further : NodeKind → Type 0 → Type 0 → Type 0
if_further (NodeKind.Lambda quantifier) P Q = P
if_further (NodeKind.Binary operator) P Q = P
if_further NodeKind.Has P Q = P
if_further NodeKind.InList P Q = P
if_further NodeKind.InPath P Q = P
if_further _ P Q = Q

-- the node that is found after the node is its first operand, where others follow that
abbrev pub HasFirst : FlatTree → ℕ → NodeKind → CheckedNode → Type 0
HasFirst list i kind first = if_further kind (slice_get list.nodes (i + 1) ≡ Some first) (Unit {0})

module _ (list : FlatTree) (i last : ℕ) (found first : CheckedNode) (text : Bor (List ℕ)) where
  same_text : (asked : List ℕ) → slice_get list.texts i ≡ Some asked → slice_get list.texts i ≡ Some text.now → text.now ≡ asked
  same_text asked at beside = same_found (slice_get list.texts i) text.now asked beside at

  one : (o : Tree) → AreInLine list (i + 1) last (o ∷ []) → IsThere list (i + 1) o
  one o line = is_there list (i + 1) line.middle (i + 1) o refl line.left

  two : (l r : Tree) → AreInLine list (i + 1) last (l ∷ r ∷ []) → slice_get list.nodes (i + 1) ≡ Some first → IsThere list (i + 1) l × IsThere list first.stop r
  two l r line first_at = (
    is_there list (i + 1) line.middle (i + 1) l refl line.left,
    is_there list line.middle line.right.middle first.stop r (between_last list (i + 1) line.middle l first line.left first_at) line.right.left,
  )

  shaped : (kind : NodeKind) (shape : Shape) → shape ≡ shape_of (tree_there list i) → printed_shape (trees_in list) (shown kind text (i + 1) first.stop found.stop) ≡ shape
      → HasOperands (trees_in list) (shown kind text (i + 1) first.stop found.stop) → IsShapeOf (trees_in list) i (shown kind text (i + 1) first.stop found.stop)
  shaped kind shape same is operands = record { same = is ∙ same; operands = operands }

  by_form : (slots : Slots) (root : List ℕ) (scope : Scope) (shape : Shape) (kind : NodeKind) → HasForm slots root scope shape kind
      → shape ≡ shape_of (tree_there list i) → slice_get list.texts i ≡ Some (text_of_shape shape) → AreInLine list (i + 1) last (children_of shape) → found.stop ≡ last
      → HasText list i kind text.now → HasFirst list i kind first → IsShapeOf (trees_in list) i (shown kind text (i + 1) first.stop found.stop)
  by_form slots root scope shape kind (literal_form {kind = k} {spelling = own}) same at line stops beside first_at =
      shaped kind shape same (λ e. literal k (same_text own at beside e)) tt
  by_form slots root scope shape kind it_form same at line stops beside first_at = shaped kind shape same refl tt
  by_form slots root scope shape kind (property_form {asked = asked} free named) same at line stops beside first_at =
      shaped kind shape same (λ e. name (same_text asked at beside e)) tt
  by_form slots root scope shape kind (variable_form {asked = asked} bound) same at line stops beside first_at =
      shaped kind shape same (λ e. name (same_text asked at beside e)) tt
  by_form slots root scope shape kind (now_form {arguments = arguments} named) same at line stops beside first_at =
      let are = are_there list (i + 1) last (i + 1) found.stop arguments refl stops line in
      shaped kind shape same (λ e. call ((beside ∙ named) e) (are.same e)) are.there
  by_form slots root scope shape kind (call_form {arguments = arguments} named other) same at line stops beside first_at =
      let are = are_there list (i + 1) last (i + 1) found.stop arguments refl stops line in
      shaped kind shape same (λ e. call ((beside ∙ named) e) (are.same e)) are.there
  by_form slots root scope shape kind (negation_form {operand = o}) same at line stops beside first_at =
      let there = one o line in shaped kind shape same (ap negation there.same) there.there
  by_form slots root scope shape kind (not_form {operand = o}) same at line stops beside first_at =
      let there = one o line in shaped kind shape same (ap logical_not there.same) there.there
  by_form slots root scope shape kind (member_form {base = o} {asked = asked} owner typed named) same at line stops beside first_at =
      let there = one o line in shaped kind shape same (λ e. member (there.same e) (same_text asked at beside e)) (there.there, tt)
  by_form slots root scope shape kind (count_form {base = o}) same at line stops beside first_at =
      let there = one o line in shaped kind shape same (ap count there.same) (there.there, tt)
  by_form slots root scope shape kind (any_form {base = o}) same at line stops beside first_at =
      let there = one o line in shaped kind shape same (ap any_item there.same) (there.there, tt)
  by_form slots root scope shape kind (lambda_form {quantifier = q} {base = l} {variable = variable} {body = r}) same at line stops beside first_at =
      let both = two l r line first_at in
      shaped kind shape same (λ e. lambda q (both.0.same e) (same_text variable at beside e) (both.1.same e)) (both.0.there, both.1.there)
  by_form slots root scope shape kind (binary_form {operator = operator} {left = l} {right = r}) same at line stops beside first_at =
      let both = two l r line first_at in shaped kind shape same (λ e. binary operator (both.0.same e) (both.1.same e)) (both.0.there, both.1.there)
  by_form slots root scope shape kind (has_form {left = l} {right = r}) same at line stops beside first_at =
      let both = two l r line first_at in shaped kind shape same (λ e. has (both.0.same e) (both.1.same e)) (both.0.there, both.1.there)
  by_form slots root scope shape kind (path_form {left = l} {path = r}) same at line stops beside first_at =
      let both = two l r line first_at in shaped kind shape same (λ e. in_path (both.0.same e) (both.1.same e)) (both.0.there, both.1.there)
  by_form slots root scope shape kind (list_form {left = l} {items = items}) same at line stops beside first_at =
      let there = is_there list (i + 1) line.middle (i + 1) l refl line.left in
      let are = are_there list line.middle last first.stop found.stop items (between_last list (i + 1) line.middle l first line.left first_at) stops line.right in
      shaped kind shape same (λ e. in_list (there.same e) (are.same e)) (there.there, are.there)

pub shape_at : (list : FlatTree) (i : ℕ) (found first : CheckedNode) (kind : NodeKind) (text : Bor (List ℕ)) → slice_get list.nodes i ≡ Some found → found.kind ≡ kind
    → HasText list i kind text.now → HasFirst list i kind first → HasTreeAt list i → IsShapeOf (trees_in list) i (shown kind text (i + 1) first.stop found.stop)
shape_at list i found first kind text at is beside first_at (j, node start stop shape, between) =
    by_form list i j found first text _ _ _ shape kind (form_at between.schema between.filtered between.scope list i j start stop shape found kind between.stands at is)
    (sym (ap shape_of (tree_is list i j (node start stop shape) between))) between.stands.top.text_at
    (children_line between.schema between.filtered list between.scope (i + 1) j shape between.stands.children)
    (between_last list i j (node start stop shape) found between at) beside first_at

-- of a kind without a text
pub textless_at : (list : FlatTree) (i : ℕ) (found first : CheckedNode) (kind : NodeKind) → slice_get list.nodes i ≡ Some found → found.kind ≡ kind
    → HasText list i kind [] → HasFirst list i kind first → HasTreeAt list i → IsShapeOf (trees_in list) i (shown kind (record { ref_ptr = (0, 0); now = [] }) (i + 1) first.stop found.stop)
textless_at list i found first kind = shape_at list i found first kind (record { ref_ptr = (0, 0); now = [] })

-- ---- the first operand is there

head_within : (list : FlatTree) (i j : ℕ) (tree : Tree) (trees : List Tree) → AreInLine list i j (tree ∷ trees) → i < length list.nodes
head_within list i j tree trees line = between_within list i line.middle tree line.left

pub first_within : (list : FlatTree) (i : ℕ) (found : CheckedNode) (kind : NodeKind) → slice_get list.nodes i ≡ Some found → found.kind ≡ kind
    → if_further kind (Unit {0}) ⊥ → HasTreeAt list i → i + 1 < length list.nodes
first_within list i found kind at is further (j, node start stop shape, between) =
    by _ _ _ shape kind (form_at between.schema between.filtered between.scope list i j start stop shape found kind between.stands at is) further
    (children_line between.schema between.filtered list between.scope (i + 1) j shape between.stands.children)
  where
    by : (slots : Slots) (root : List ℕ) (scope : Scope) (shape : Shape) (kind : NodeKind) → HasForm slots root scope shape kind → if_further kind (Unit {0}) ⊥
        → AreInLine list (i + 1) j (children_of shape) → i + 1 < length list.nodes
    by slots root scope shape kind (binary_form {left = l} {right = r}) further line = head_within list (i + 1) j l (r ∷ []) line
    by slots root scope shape kind (has_form {left = l} {right = r}) further line = head_within list (i + 1) j l (r ∷ []) line
    by slots root scope shape kind (path_form {left = l} {path = r}) further line = head_within list (i + 1) j l (r ∷ []) line
    by slots root scope shape kind (list_form {left = l} {items = items}) further line = head_within list (i + 1) j l (list_of_trees items) line
    by slots root scope shape kind (lambda_form {base = l} {body = r}) further line = head_within list (i + 1) j l (r ∷ []) line
    by slots root scope shape kind _ further line = absurd further

-- ---- items

pub no_items : (list : FlatTree) (i j : ℕ) → IsLine list i j → j ≤ i → trees_there list i j ≡ no_trees
no_items list i j line none = by line.0 line.1
  where
    by : (trees : List Tree) → AreInLine list i j trees → trees_there list i j ≡ no_trees
    by [] same = ap trees_of_list (line_before list i j [] same)
    by (tree ∷ trees) line =
        let first : i < line.middle = between_onward list i line.middle tree line.left in
        let behind : line.middle ≤ j = line_onward list line.middle j trees line.right in
        absurd (omega (arith, first, behind, none))

pub some_items : (list : FlatTree) (i j : ℕ) (found : CheckedNode) → slice_get list.nodes i ≡ Some found → IsLine list i j → i < j
    → AreSplit (trees_in list) (i, j) i (found.stop, j)
some_items list i j found at line more = by line.0 line.1
  where
    by : (trees : List Tree) → AreInLine list i j trees → AreSplit (trees_in list) (i, j) i (found.stop, j)
    by [] same = absurd (omega (arith, same, more))
    by (tree ∷ trees) line =
        let first = is_there list i line.middle i tree refl line.left in
        let after : found.stop ≡ line.middle = between_last list i line.middle tree found line.left at in
        let rest : AreInLine list found.stop j trees = subst (λ (x : ℕ). AreInLine list x j trees) (sym after) line.right in
        record {
          whole = ap trees_of_list (line_before list i j (tree ∷ trees) line)
              ∙ (λ k. more_trees (sym first.same k) (trees_of_list (sym (line_before list found.stop j trees rest) k)));
          has_first = first.there;
          have_rest = (trees, rest);
        }
