-- A number of a tree is that of one node, in one scope.
use Rattle.std.proofs.Common.{◌≡◌, refl, sym, ◌∙◌, subst, inl, inr, ℕ, zero, suc, ◌<◌, ◌+◌, List, [], ◌∷◌, ◌++◌, length, length-append, arith}
use Rattle.std.specs.Prelude.{Contains}
use Rattle.odata_syntax.specs.Spans.{IsWithin, children_of, in_child, is_root, list_of_trees}
use Rattle.odata_syntax.specs.Tree.{Shape, Tree, Trees, any_item, binary, call, count, has, in_list, in_path, lambda, logical_not, member, more_trees, negation, no_trees, node}
use Rattle.csdl_schema.specs.ExprType.{SingleType, collection, single}
use Rattle.csdl_schema.specs.SchemaModel.{Slots}
use Rattle.odata_signatures.specs.Laws.{OneType}
use Rattle.odata_signatures.specs.PreOrder.{nodes_among, nodes_below, pre_order}
use Rattle.odata_signatures.specs.Typed.{Scope, Typed, with_variable}
use Rattle.odata_checked_filter.specs.NodeScopes.{InEither, IsNode, IsNodeAmong, IsNodeBelow}
use Rattle.odata_checked_filter.specs.Stands.{InBody}

-- ---- it is before the end, and a node of the tree

pub record IsInTree (tree : Tree) (k : ℕ) (part : Tree) : Type 0 where
  pub before : k < length (pre_order tree)
  pub within : IsWithin part tree

-- of trees that have these nodes, one has it
record IsInOne (trees nodes : List Tree) (k : ℕ) (part : Tree) : Type 0 where
  before : k < length nodes
  child : Tree
  contains : Contains trees child
  within : IsWithin part child

alone_in : (tree : Tree) (k : ℕ) (part : Tree) → IsInTree tree k part → IsInOne (tree ∷ []) (pre_order tree) k part
alone_in tree k part is = record { before = is.before; child = tree; contains = (0, omega arith, refl); within = is.within }

either_in : (tree : Tree) (trees nodes : List Tree) (k : ℕ) (part : Tree) (A B : ℕ → Type 0)
    → (A k → IsInTree tree k part) → ((j : ℕ) → B j → IsInOne trees nodes j part)
    → InEither (length (pre_order tree)) A B k → IsInOne (tree ∷ trees) (pre_order tree ++ nodes) k part
either_in tree trees nodes k part A B first behind (inl is) =
    let here = first is.1 in
    let h : k < length (pre_order tree) = here.before in
    record { before = omega (arith, length-append (pre_order tree) nodes); child = tree; contains = (0, omega arith, refl); within = here.within }
either_in tree trees nodes k part A B first behind (inr is) =
    let there = behind is.0 is.2 in
    let e : k ≡ length (pre_order tree) + is.0 = is.1 in
    let h : is.0 < length nodes = there.before in
    let inside : there.contains.0 < length trees = there.contains.1 in
    record {
      before = omega (arith, length-append (pre_order tree) nodes);
      child = there.child;
      contains = (suc there.contains.0, omega arith, there.contains.2);
      within = there.within;
    }

module _ (slots : Slots) (root : List ℕ) where
  two_in : (scope : Scope) (left right : Tree) (k : ℕ) (at : Scope) (part : Tree)
      → (IsNode slots root scope left k at part → IsInTree left k part) → ((j : ℕ) → IsNode slots root scope right j at part → IsInTree right j part)
      → IsNodeBelow slots root scope (has left right) k at part → IsInOne (left ∷ right ∷ []) (pre_order left ++ pre_order right) k part
  two_in scope left right k at part first second =
      either_in left (right ∷ []) (pre_order right) k part (λ j. IsNode slots root scope left j at part) (λ j. IsNode slots root scope right j at part)
      first (λ j there. alone_in right j part (second j there))

  more_in : (scope : Scope) (tree : Tree) (trees : Trees) (k : ℕ) (at : Scope) (part : Tree)
      → (IsNode slots root scope tree k at part → IsInTree tree k part)
      → ((j : ℕ) → IsNodeAmong slots root scope trees j at part → IsInOne (list_of_trees trees) (nodes_among trees) j part)
      → IsNodeAmong slots root scope (more_trees tree trees) k at part → IsInOne (tree ∷ list_of_trees trees) (pre_order tree ++ nodes_among trees) k part
  more_in scope tree trees k at part =
      either_in tree (list_of_trees trees) (nodes_among trees) k part (λ j. IsNode slots root scope tree j at part) (λ j. IsNodeAmong slots root scope trees j at part)

  mutual
    pub node_in : (scope : Scope) (tree : Tree) (k : ℕ) (at : Scope) (part : Tree) → IsNode slots root scope tree k at part → IsInTree tree k part
    node_in scope (node start stop shape) zero at part is =
        record { before = omega arith; within = subst (λ (t : Tree). IsWithin t (node start stop shape)) (sym is.1) is_root }
    node_in scope (node start stop shape) (suc k) at part is =
        let below = below_in scope shape k at part is in
        let h : k < length (nodes_below shape) = below.before in
        record { before = omega arith; within = in_child {child = below.child} below.contains below.within }

    below_in : (scope : Scope) (shape : Shape) (k : ℕ) (at : Scope) (part : Tree)
        → IsNodeBelow slots root scope shape k at part → IsInOne (children_of shape) (nodes_below shape) k part
    below_in scope (member base asked) k at part is = alone_in base k part (node_in scope base k at part is)
    below_in scope (count base) k at part is = alone_in base k part (node_in scope base k at part is)
    below_in scope (negation operand) k at part is = alone_in operand k part (node_in scope operand k at part is)
    below_in scope (logical_not operand) k at part is = alone_in operand k part (node_in scope operand k at part is)
    below_in scope (any_item base) k at part is = alone_in base k part (node_in scope base k at part is)
    below_in scope (binary operator left right) k at part is = two_in scope left right k at part (node_in scope left k at part) (λ j. node_in scope right j at part) is
    below_in scope (has left right) k at part is = two_in scope left right k at part (node_in scope left k at part) (λ j. node_in scope right j at part) is
    below_in scope (in_path left path) k at part is = two_in scope left path k at part (node_in scope left k at part) (λ j. node_in scope path j at part) is
    below_in scope (in_list left items) k at part is = more_in scope left items k at part (node_in scope left k at part) (λ j. among_in scope items j at part) is
    below_in scope (call asked arguments) k at part is = among_in scope arguments k at part is
    below_in scope (lambda quantifier base variable body) k at part is =
        either_in base (body ∷ []) (pre_order body) k part (λ j. IsNode slots root scope base j at part)
        (λ j. InBody scope variable (Typed slots root scope base) (λ inner. IsNode slots root inner body j at part))
        (node_in scope base k at part)
        (λ j there. alone_in body j part (node_in (with_variable scope variable (single there.member_type)) body j at part there.body)) is
    below_in scope _ k at part is = absurd is

    among_in : (scope : Scope) (trees : Trees) (k : ℕ) (at : Scope) (part : Tree)
        → IsNodeAmong slots root scope trees k at part → IsInOne (list_of_trees trees) (nodes_among trees) k part
    among_in scope no_trees k at part is = absurd is
    among_in scope (more_trees tree trees) k at part is = more_in scope tree trees k at part (node_in scope tree k at part) (λ j. among_in scope trees j at part) is

-- ---- there is no other

-- two nodes of one number are one, in one scope
pub record AreOne (at at' : Scope) (part part' : Tree) : Type 0 where
  pub scopes : at ≡ at'
  pub parts : part ≡ part'

either_one : (size k : ℕ) (A B A' B' : ℕ → Type 0) (P : Type 0) → (A k → A' k → P) → ((j : ℕ) → B j → B' j → P)
    → InEither size A B k → InEither size A' B' k → P
either_one size k A B A' B' P first behind (inl a) (inl b) = first a.1 b.1
either_one size k A B A' B' P first behind (inl a) (inr b) =
    let h : k < size = a.0 in let e : k ≡ size + b.0 = b.1 in absurd (omega arith)
either_one size k A B A' B' P first behind (inr a) (inl b) =
    let h : k < size = b.0 in let e : k ≡ size + a.0 = a.1 in absurd (omega arith)
either_one size k A B A' B' P first behind (inr a) (inr b) =
    let x : k ≡ size + a.0 = a.1 in
    let y : k ≡ size + b.0 = b.1 in
    let same : b.0 ≡ a.0 = omega arith in
    behind a.0 a.2 (subst B' same b.2)

pub same_member : (a b : SingleType) → collection a ≡ collection b → a ≡ b
same_member a b same = cc

module _ (one : OneType) (slots : Slots) (root : List ℕ) where
  -- a node of a number of one, and another
  abbrev OneAt : (Scope → Tree → Type 0) → Type 0
  OneAt Numbered = (at at' : Scope) (part part' : Tree) → Numbered at part → Numbered at' part' → AreOne at at' part part'

  more_one : (scope : Scope) (tree : Tree) (k : ℕ) (Behind : ℕ → Scope → Tree → Type 0)
      → OneAt (λ at part. IsNode slots root scope tree k at part) → ((j : ℕ) → OneAt (λ at part. Behind j at part))
      → OneAt (λ at part. InEither (length (pre_order tree)) (λ j. IsNode slots root scope tree j at part) (λ j. Behind j at part) k)
  more_one scope tree k Behind first behind at at' part part' a b =
      either_one (length (pre_order tree)) k (λ j. IsNode slots root scope tree j at part) (λ j. Behind j at part)
      (λ j. IsNode slots root scope tree j at' part') (λ j. Behind j at' part') (AreOne at at' part part')
      (first at at' part part') (λ j. behind j at at' part part') a b

  mutual
    pub node_one : (scope : Scope) (tree : Tree) (k : ℕ) → OneAt (λ at part. IsNode slots root scope tree k at part)
    node_one scope (node start stop shape) zero at at' part part' a b = record { scopes = a.0 ∙ sym b.0; parts = a.1 ∙ sym b.1 }
    node_one scope (node start stop shape) (suc k) at at' part part' a b = below_one scope shape k at at' part part' a b

    below_one : (scope : Scope) (shape : Shape) (k : ℕ) → OneAt (λ at part. IsNodeBelow slots root scope shape k at part)
    below_one scope (member base asked) k = node_one scope base k
    below_one scope (count base) k = node_one scope base k
    below_one scope (negation operand) k = node_one scope operand k
    below_one scope (logical_not operand) k = node_one scope operand k
    below_one scope (any_item base) k = node_one scope base k
    below_one scope (binary operator left right) k = more_one scope left k (IsNode slots root scope right) (node_one scope left k) (node_one scope right)
    below_one scope (has left right) k = more_one scope left k (IsNode slots root scope right) (node_one scope left k) (node_one scope right)
    below_one scope (in_path left path) k = more_one scope left k (IsNode slots root scope path) (node_one scope left k) (node_one scope path)
    below_one scope (in_list left items) k = more_one scope left k (IsNodeAmong slots root scope items) (node_one scope left k) (among_one scope items)
    below_one scope (call asked arguments) k = among_one scope arguments k
    below_one scope (lambda quantifier base variable body) k =
        more_one scope base k (λ j s p. InBody scope variable (Typed slots root scope base) (λ inner. IsNode slots root inner body j s p)) (node_one scope base k)
        (λ j s s' p p' x y.
        let same : y.member_type ≡ x.member_type =
        same_member y.member_type x.member_type (one slots root scope base (collection y.member_type) (collection x.member_type) y.binds.over x.binds.over) in
        let P : SingleType → Type 0 = λ (m : SingleType). IsNode slots root (with_variable scope variable (single m)) body j s' p' in
        node_one (with_variable scope variable (single x.member_type)) body j s s' p p' x.body (subst P same y.body))
    below_one scope _ k = λ at at' part part' a b. absurd a

    among_one : (scope : Scope) (trees : Trees) (k : ℕ) → OneAt (λ at part. IsNodeAmong slots root scope trees k at part)
    among_one scope no_trees k = λ at at' part part' a b. absurd a
    among_one scope (more_trees tree trees) k = more_one scope tree k (IsNodeAmong slots root scope trees) (node_one scope tree k) (among_one scope trees)
