-- Each node of a tree stands at its number.
use Rattle.std.proofs.Common.{◌≡◌, refl, sym, ap, ◌∙◌, subst, ℕ, zero, suc, inl, inr, ◌<◌, ◌+◌, List, ◌∷◌, ◌++◌, Some, length, map, slice_get, arith}
use Rattle.std.proofs.lemmas.List.{length-map, map-append}
use Rattle.std.proofs.lemmas.Option.{none-some, slice_get_within}
use Rattle.odata_syntax.specs.Tree.{Shape, Tree, Trees, any_item, binary, call, count, has, in_list, in_path, lambda, logical_not, member, more_trees, negation, no_trees, node}
use Rattle.csdl_schema.specs.SchemaModel.{SchemaModel, slots_of, type_name_at}
use Rattle.odata_signatures.specs.Considered.{IsItself}
use Rattle.odata_checked_filter.specs.NodeScopes.{InEither, IsNode, IsNodeAmong, IsNodeBelow}
use Rattle.odata_checked_filter.specs.FlatTree.{FlatTree}
use Rattle.odata_signatures.specs.PreOrder.{nodes_among, nodes_below, pre_order}
use Rattle.odata_checked_filter.specs.ScopedNodes.{ScopedNode, scoped_among, scoped_below, scoped_nodes}
use Rattle.odata_checked_filter.specs.private.Layout.{AllLie, ChildrenLie, Lies}
use Rattle.odata_checked_filter.specs.Stands.{InBody, variable_names}
use Rattle.odata_signatures.specs.Typed.{Scope, Typed, with_variable}
use Rattle.csdl_schema.specs.ExprType.{single}
use Rattle.odata_checked_filter.proofs.flat.Children.{body_there, one_there, two_there}
use Rattle.odata_checked_filter.proofs.flat.Places.{get_parts}
use Rattle.odata_checked_filter.proofs.flat.Standing.{lies_size}

-- nodes without their variables
abbrev parts : List ScopedNode → List Tree
parts = map (λ (s : ScopedNode). s.part)

parts_joined : (xs ys : List ScopedNode) (ps qs : List Tree) → parts xs ≡ ps → parts ys ≡ qs → parts (xs ++ ys) ≡ ps ++ qs
parts_joined xs ys ps qs first second =
    map-append (λ (s : ScopedNode). s.part) xs ys
    ∙ ap (λ (ts : List Tree). ts ++ parts ys) first
    ∙ ap (λ (ts : List Tree). ps ++ ts) second

two_joined : (variables inner : List (List ℕ)) (left right : Tree) → parts (scoped_nodes variables left) ≡ pre_order left → parts (scoped_nodes inner right) ≡ pre_order right
    → parts (scoped_nodes variables left ++ scoped_nodes inner right) ≡ pre_order left ++ pre_order right
two_joined variables inner left right = parts_joined (scoped_nodes variables left) (scoped_nodes inner right) (pre_order left) (pre_order right)

more_joined : (variables : List (List ℕ)) (tree : Tree) (trees : Trees) → parts (scoped_nodes variables tree) ≡ pre_order tree
    → parts (scoped_among variables trees) ≡ nodes_among trees → parts (scoped_among variables (more_trees tree trees)) ≡ nodes_among (more_trees tree trees)
more_joined variables tree trees = parts_joined (scoped_nodes variables tree) (scoped_among variables trees) (pre_order tree) (nodes_among trees)

-- the nodes with their variables are the nodes
mutual
  pub parts_of : (variables : List (List ℕ)) (tree : Tree) → map (λ (s : ScopedNode). s.part) (scoped_nodes variables tree) ≡ pre_order tree
  parts_of variables (node start stop shape) = ap (λ (ts : List Tree). node start stop shape ∷ ts) (parts_below variables shape)

  parts_below : (variables : List (List ℕ)) (shape : Shape) → map (λ (s : ScopedNode). s.part) (scoped_below variables shape) ≡ nodes_below shape
  parts_below variables (member base asked) = parts_of variables base
  parts_below variables (count base) = parts_of variables base
  parts_below variables (negation operand) = parts_of variables operand
  parts_below variables (logical_not operand) = parts_of variables operand
  parts_below variables (binary operator left right) = two_joined variables variables left right (parts_of variables left) (parts_of variables right)
  parts_below variables (has left right) = two_joined variables variables left right (parts_of variables left) (parts_of variables right)
  parts_below variables (in_list left items) = more_joined variables left items (parts_of variables left) (parts_among variables items)
  parts_below variables (in_path left path) = two_joined variables variables left path (parts_of variables left) (parts_of variables path)
  parts_below variables (call asked arguments) = parts_among variables arguments
  parts_below variables (any_item base) = parts_of variables base
  parts_below variables (lambda quantifier base variable body) =
      two_joined variables (variable ∷ variables) base body (parts_of variables base) (parts_of (variable ∷ variables) body)
  parts_below variables _ = refl

  parts_among : (variables : List (List ℕ)) (trees : Trees) → map (λ (s : ScopedNode). s.part) (scoped_among variables trees) ≡ nodes_among trees
  parts_among variables no_trees = refl
  parts_among variables (more_trees tree trees) = more_joined variables tree trees (parts_of variables tree) (parts_among variables trees)

pub parts_count : (variables : List (List ℕ)) (tree : Tree) → length (scoped_nodes variables tree) ≡ length (pre_order tree)
parts_count variables tree = sym (length-map (scoped_nodes variables tree) (λ (s : ScopedNode). s.part)) ∙ ap (λ (ts : List Tree). length ts) (parts_of variables tree)

-- ---- what stands there

-- a node stands at an index in a scope whose variables it has, and this holds of it there
pub record IsWalkOperand (schema : SchemaModel) (n : ℕ) (list : FlatTree) (place : ℕ) (Node : Scope → Tree → Type 0) (at : ScopedNode) : Type 0 where
  pub inner : Scope
  pub j : ℕ
  pub stands : Lies schema n inner list place j at.part
  pub variables : at.variables ≡ variable_names inner
  pub is_node : Node inner at.part

itself :
    (schema : SchemaModel) (n : ℕ) (scope : Scope) (list : FlatTree) (i j k : ℕ) (tree : Tree) (at : ScopedNode)
    → Lies schema n scope list i j tree → k ≡ i → record { variables = variable_names scope; part = tree } ≡ at
    → IsWalkOperand schema n list k (IsItself scope tree) at
itself schema n scope list i j k tree at stands same is =
    let P : ℕ → Type 0 = λ (x : ℕ). IsWalkOperand schema n list x (IsItself scope tree) at in
    let Q : ScopedNode → Type 0 = λ (x : ScopedNode). IsWalkOperand schema n list i (IsItself scope tree) x in
    subst P (sym same) (subst Q is (record { inner = scope; j = j; stands = stands; variables = refl; is_node = (refl, refl) }))

-- what holds more of it, where the index is given otherwise
part_also :
    (schema : SchemaModel) (n : ℕ) (list : FlatTree) (place other : ℕ) (Node Also : Scope → Tree → Type 0) (at : ScopedNode)
    → place ≡ other → ((scope : Scope) (part : Tree) → Node scope part → Also scope part)
    → IsWalkOperand schema n list place Node at → IsWalkOperand schema n list other Also at
part_also schema n list place other Node Also at same also is =
    subst (λ (x : ℕ). IsWalkOperand schema n list x Also at) same
    (record { inner = is.inner; j = is.j; stands = is.stands; variables = is.variables; is_node = also is.inner at.part is.is_node })

-- of two parts, the second after the first, which has so many nodes
in_either :
    (schema : SchemaModel) (n : ℕ) (list : FlatTree) (i m k size : ℕ) (xs ys : List ScopedNode) (at : ScopedNode)
    (First Second : ℕ → Scope → Tree → Type 0)
    → length xs ≡ size → m ≡ i + size → slice_get (xs ++ ys) k ≡ Some at
    → (slice_get xs k ≡ Some at → IsWalkOperand schema n list (i + k) (First k) at)
    → ((h : ℕ) → slice_get ys h ≡ Some at → IsWalkOperand schema n list (m + h) (Second h) at)
    → IsWalkOperand schema n list (i + k) (λ scope part. InEither size (λ j. First j scope part) (λ j. Second j scope part) k) at
in_either schema n list i m k size xs ys at First Second as_many place found first second =
    let Either : Scope → Tree → Type 0 = λ (s : Scope) (p : Tree). InEither size (λ j. First j s p) (λ j. Second j s p) k in
    elim (get_parts xs ys k at found) [
      | inl h ↦
          let before : k < length xs = slice_get_within xs k at h in
          let within : k < size = omega arith in
          part_also schema n list (i + k) (i + k) (First k) Either at refl (λ s p is. inl (within, is)) (first h)
      | inr h ↦
          let past : k ≡ length xs + h.0 = h.1.0 in
          let e : m + h.0 ≡ i + k = omega arith in
          let own : k ≡ size + h.0 = omega arith in
          part_also schema n list (m + h.0) (i + k) (Second h.0) Either at e (λ s p is. inr (h.0, own, is)) (second h.0 h.1.1)
    ]

module _ (schema : SchemaModel) (n : ℕ) (list : FlatTree) where
  -- of a tree, of what is below a shape, of trees one after another
  abbrev NodeOf : Scope → Tree → ℕ → Scope → Tree → Type 0
  NodeOf scope tree k = λ at part. IsNode (slots_of schema) (type_name_at schema n) scope tree k at part

  abbrev BelowOf : Scope → Shape → ℕ → Scope → Tree → Type 0
  BelowOf scope shape k = λ at part. IsNodeBelow (slots_of schema) (type_name_at schema n) scope shape k at part

  abbrev AmongOf : Scope → Trees → ℕ → Scope → Tree → Type 0
  AmongOf scope trees k = λ at part. IsNodeAmong (slots_of schema) (type_name_at schema n) scope trees k at part

  -- a tree, and nodes after those of that
  after_tree :
      (scope : Scope) (i m k : ℕ) (tree : Tree) (behind : List ScopedNode) (at : ScopedNode) (Behind : ℕ → Scope → Tree → Type 0)
      → Lies schema n scope list i m tree → slice_get (scoped_nodes (variable_names scope) tree ++ behind) k ≡ Some at
      → (slice_get (scoped_nodes (variable_names scope) tree) k ≡ Some at → IsWalkOperand schema n list (i + k) (NodeOf scope tree k) at)
      → ((h : ℕ) → slice_get behind h ≡ Some at → IsWalkOperand schema n list (m + h) (Behind h) at)
      → IsWalkOperand schema n list (i + k) (λ s p. InEither (length (pre_order tree)) (λ h. NodeOf scope tree h s p) (λ h. Behind h s p) k) at
  after_tree scope i m k tree behind at Behind stands =
      in_either schema n list i m k (length (pre_order tree)) (scoped_nodes (variable_names scope) tree) behind at (NodeOf scope tree) Behind
      (parts_count (variable_names scope) tree) (lies_size schema n scope list i m tree stands)

  two_parts :
      (scope : Scope) (i j k : ℕ) (left right : Tree) (at : ScopedNode)
      → ChildrenLie schema n scope list i j (has left right)
      → slice_get (scoped_below (variable_names scope) (has left right)) k ≡ Some at
      → ((m : ℕ) → Lies schema n scope list i m left → slice_get (scoped_nodes (variable_names scope) left) k ≡ Some at → IsWalkOperand schema n list (i + k) (NodeOf scope left k) at)
      → ((m h : ℕ) → Lies schema n scope list m j right → slice_get (scoped_nodes (variable_names scope) right) h ≡ Some at
      → IsWalkOperand schema n list (m + h) (NodeOf scope right h) at)
      → IsWalkOperand schema n list (i + k) (BelowOf scope (has left right) k) at
  two_parts scope i j k left right at stands found first second =
      let stand = two_there schema n scope list i j left right stands in
      after_tree scope i stand.middle k left (scoped_nodes (variable_names scope) right) at (NodeOf scope right) stand.left found
      (first stand.middle stand.left) (λ h. second stand.middle h stand.right)

  mutual
    pub part_stands :
        (scope : Scope) (i j : ℕ) (tree : Tree) (k : ℕ) (at : ScopedNode)
        → Lies schema n scope list i j tree → slice_get (scoped_nodes (variable_names scope) tree) k ≡ Some at
        → IsWalkOperand schema n list (i + k) (NodeOf scope tree k) at
    part_stands scope i j (node start stop shape) zero at stands found =
        itself schema n scope list i j (i + 0) (node start stop shape) at stands (omega arith)
        (cc found)
    part_stands scope i j (node start stop shape) (suc k) at stands found =
        part_also schema n list (i + 1 + k) (i + suc k) (BelowOf scope shape k) (NodeOf scope (node start stop shape) (suc k)) at (omega arith) (λ s p is. is)
        (part_below scope (i + 1) j shape k at stands.children found)

    part_below :
        (scope : Scope) (i j : ℕ) (shape : Shape) (k : ℕ) (at : ScopedNode)
        → ChildrenLie schema n scope list i j shape → slice_get (scoped_below (variable_names scope) shape) k ≡ Some at
        → IsWalkOperand schema n list (i + k) (BelowOf scope shape k) at
    part_below scope i j (member base asked) k at stand found = part_stands scope i j base k at (one_there schema n scope list i j base stand) found
    part_below scope i j (count base) k at stand found = part_stands scope i j base k at (one_there schema n scope list i j base stand) found
    part_below scope i j (negation operand) k at stand found = part_stands scope i j operand k at (one_there schema n scope list i j operand stand) found
    part_below scope i j (logical_not operand) k at stand found = part_stands scope i j operand k at (one_there schema n scope list i j operand stand) found
    part_below scope i j (any_item base) k at stand found = part_stands scope i j base k at (one_there schema n scope list i j base stand) found
    part_below scope i j (binary operator left right) k at stands found =
        two_parts scope i j k left right at stands found (λ m. part_stands scope i m left k at) (λ m h. part_stands scope m j right h at)
    part_below scope i j (has left right) k at stands found =
        two_parts scope i j k left right at stands found (λ m. part_stands scope i m left k at) (λ m h. part_stands scope m j right h at)
    part_below scope i j (in_path left path) k at stands found =
        two_parts scope i j k left path at stands found (λ m. part_stands scope i m left k at) (λ m h. part_stands scope m j path h at)
    part_below scope i j (in_list left items) k at stand found =
        after_tree scope i stand.middle k left (scoped_among (variable_names scope) items) at (AmongOf scope items) stand.left found
        (part_stands scope i stand.middle left k at stand.left) (λ h. part_among scope stand.middle j items h at stand.right)
    part_below scope i j (call asked arguments) k at stand found = part_among scope i j arguments k at stand found
    part_below scope i j (lambda quantifier base variable body) k at stands found =
        let stand = body_there schema n scope list i j base variable body stands in
        let inner = with_variable scope variable (single stand.right.member_type) in
        let Body : ℕ → Scope → Tree → Type 0 =
        λ (h : ℕ) (s : Scope) (p : Tree). InBody scope variable (Typed (slots_of schema) (type_name_at schema n) scope base) (λ wider. NodeOf wider body h s p) in
        after_tree scope i stand.middle k base (scoped_nodes (variable ∷ variable_names scope) body) at Body stand.left found
        (part_stands scope i stand.middle base k at stand.left)
        (λ h there. part_also schema n list (stand.middle + h) (stand.middle + h) (NodeOf inner body h) (Body h) at refl
        (λ s p is. record { member_type = stand.right.member_type; binds = stand.right.binds; body = is })
        (part_stands inner stand.middle j body h at stand.right.body there))
    part_below scope i j _ k at stand found = absurd (none-some at found)

    part_among :
        (scope : Scope) (i j : ℕ) (trees : Trees) (k : ℕ) (at : ScopedNode)
        → AllLie schema n scope list i j trees → slice_get (scoped_among (variable_names scope) trees) k ≡ Some at
        → IsWalkOperand schema n list (i + k) (AmongOf scope trees k) at
    part_among scope i j no_trees k at stand found = absurd (none-some at found)
    part_among scope i j (more_trees tree trees) k at stand found =
        after_tree scope i stand.middle k tree (scoped_among (variable_names scope) trees) at (AmongOf scope trees) stand.left found
        (part_stands scope i stand.middle tree k at stand.left) (λ h. part_among scope stand.middle j trees h at stand.right)
