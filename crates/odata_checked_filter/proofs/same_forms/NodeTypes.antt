-- The nodes of a tree have the types of those of its normal form, and of the tree without its positions, number by
-- number.
use Rattle.std.proofs.Common.{◌≡◌, ◌↔◌, refl, sym, subst, inl, inr, ℕ, zero, suc, ◌+◌, ◌<◌, List, [], ◌∷◌, length, arith}
use Rattle.odata_syntax.specs.NormalForm.{AreNormalForms, IsNormalForm, IsNormalShape, bare, bare_shape, bare_trees}
use Rattle.odata_syntax.specs.Tree.{Shape, Tree, Trees, any_item, binary, call, count, has, in_list, in_path, it, lambda, literal, logical_not, member, more_trees, name, negation, no_trees, node}
use Rattle.csdl_schema.specs.ExprType.{ExprType, collection, single}
use Rattle.csdl_schema.specs.SchemaModel.{Slots}
use Rattle.odata_signatures.specs.PreOrder.{pre_order}
use Rattle.odata_signatures.specs.SameTypes.{HaveSameTypesByNumber}
use Rattle.odata_signatures.specs.Typed.{Scope, Typed, with_variable}
use Rattle.odata_checked_filter.specs.NodeScopes.{InEither, IsNode, IsNodeAmong, IsNodeBelow}
use Rattle.odata_checked_filter.specs.Stands.{InBody}

-- what normal forms and places leave as it is
pub record KeptTypes : Type 0 where
  pub types : (slots : Slots) (root : List ℕ) (scope : Scope) (tree normal : Tree) (type : ExprType) → IsNormalForm tree normal
      → Typed slots root scope tree type ↔ Typed slots root scope normal type
  pub places : (slots : Slots) (root : List ℕ) (scope : Scope) (tree : Tree) (type : ExprType)
      → Typed slots root scope tree type ↔ Typed slots root scope (bare tree) type
  pub nodes : (slots : Slots) (root : List ℕ) (tree normal : Tree) → IsNormalForm tree normal → HaveSameTypesByNumber slots root (pre_order tree) (pre_order normal)
  pub nodes_bare : (slots : Slots) (root : List ℕ) (tree : Tree) → HaveSameTypesByNumber slots root (pre_order tree) (pre_order (bare tree))

pub as_many : (slots : Slots) (root : List ℕ) (ts us : List Tree) → HaveSameTypesByNumber slots root ts us → length ts ≡ length us
as_many slots root [] [] same = refl
as_many slots root (t ∷ ts) (u ∷ us) same = let more : length ts ≡ length us = as_many slots root ts us same.1 in omega arith
as_many slots root [] (u ∷ us) same = absurd same
as_many slots root (t ∷ ts) [] same = absurd same

itself : (P : Type 0) → P ↔ P
itself P = (λ is. is, λ is. is)

module _ (slots : Slots) (root : List ℕ) where
  -- one of these nodes, in the scope that it is judged in, has the type
  pub record HasOne (Numbered : Scope → Tree → Type 0) (type : ExprType) : Type 0 where
    pub at : Scope
    pub part : Tree
    pub numbered : Numbered at part
    pub typed : Typed slots root at part type

  -- the node of a number of the tree, of what is below a shape, of trees one after another
  abbrev pub NodeTyped : Scope → Tree → ℕ → ExprType → Type 0
  NodeTyped scope tree k type = HasOne (λ at part. IsNode slots root scope tree k at part) type

  abbrev BelowTyped : Scope → Shape → ℕ → ExprType → Type 0
  BelowTyped scope shape k type = HasOne (λ at part. IsNodeBelow slots root scope shape k at part) type

  abbrev AmongTyped : Scope → Trees → ℕ → ExprType → Type 0
  AmongTyped scope trees k type = HasOne (λ at part. IsNodeAmong slots root scope trees k at part) type

  abbrev BodyTyped : Scope → List ℕ → Tree → Tree → ℕ → ExprType → Type 0
  BodyTyped scope variable base body k type =
      HasOne (λ at part. InBody scope variable (Typed slots root scope base) (λ inner. IsNode slots root inner body k at part)) type

  -- ---- of two parts

  either_goes : (size other k : ℕ) (A B C D : ℕ → Scope → Tree → Type 0) (type : ExprType) → size ≡ other
      → ((j : ℕ) → HasOne (A j) type → HasOne (C j) type) → ((j : ℕ) → HasOne (B j) type → HasOne (D j) type)
      → (at : Scope) (part : Tree) → InEither size (λ j. A j at part) (λ j. B j at part) k → Typed slots root at part type
      → HasOne (λ s t. InEither other (λ j. C j s t) (λ j. D j s t) k) type
  either_goes size other k A B C D type same first second at part (inl is) typed =
      let there = first k (record { at = at; part = part; numbered = is.1; typed = typed }) in
      let before : k < size = is.0 in
      let within : k < other = omega arith in
      record { at = there.at; part = there.part; numbered = inl (within, there.numbered); typed = there.typed }
  either_goes size other k A B C D type same first second at part (inr is) typed =
      let there = second is.0 (record { at = at; part = part; numbered = is.2; typed = typed }) in
      let after : k ≡ size + is.0 = is.1 in
      let further : k ≡ other + is.0 = omega arith in
      record { at = there.at; part = there.part; numbered = inr (is.0, further, there.numbered); typed = there.typed }

  either_same : (size other k : ℕ) (A B C D : ℕ → Scope → Tree → Type 0) (type : ExprType) → size ≡ other
      → ((j : ℕ) → HasOne (A j) type ↔ HasOne (C j) type) → ((j : ℕ) → HasOne (B j) type ↔ HasOne (D j) type)
      → HasOne (λ s t. InEither size (λ j. A j s t) (λ j. B j s t) k) type ↔ HasOne (λ s t. InEither other (λ j. C j s t) (λ j. D j s t) k) type
  either_same size other k A B C D type same first second = (
    λ found. either_goes size other k A B C D type same (λ j. (first j).0) (λ j. (second j).0) found.at found.part found.numbered found.typed,
    λ found. either_goes other size k C D A B type (sym same) (λ j. (first j).1) (λ j. (second j).1) found.at found.part found.numbered found.typed,
  )

  two_same : (scope : Scope) (left right l r : Tree) (k : ℕ) (type : ExprType) → length (pre_order left) ≡ length (pre_order l)
      → ((j : ℕ) → NodeTyped scope left j type ↔ NodeTyped scope l j type) → ((j : ℕ) → NodeTyped scope right j type ↔ NodeTyped scope r j type)
      → BelowTyped scope (in_path left right) k type ↔ BelowTyped scope (in_path l r) k type
  two_same scope left right l r k type size first second =
      either_same (length (pre_order left)) (length (pre_order l)) k (IsNode slots root scope left) (IsNode slots root scope right)
      (IsNode slots root scope l) (IsNode slots root scope r) type size first second

  more_same : (scope : Scope) (tree t : Tree) (trees ts : Trees) (k : ℕ) (type : ExprType) → length (pre_order tree) ≡ length (pre_order t)
      → ((j : ℕ) → NodeTyped scope tree j type ↔ NodeTyped scope t j type) → ((j : ℕ) → AmongTyped scope trees j type ↔ AmongTyped scope ts j type)
      → AmongTyped scope (more_trees tree trees) k type ↔ AmongTyped scope (more_trees t ts) k type
  more_same scope tree t trees ts k type size first second =
      either_same (length (pre_order tree)) (length (pre_order t)) k (IsNode slots root scope tree) (IsNodeAmong slots root scope trees)
      (IsNode slots root scope t) (IsNodeAmong slots root scope ts) type size first second

  -- ---- in bodies

  body_goes : (scope : Scope) (variable : List ℕ) (base other body also : Tree) (k : ℕ) (type : ExprType)
      → ((t : ExprType) → Typed slots root scope base t → Typed slots root scope other t) → ((at : Scope) → NodeTyped at body k type → NodeTyped at also k type)
      → BodyTyped scope variable base body k type → BodyTyped scope variable other also k type
  body_goes scope variable base other body also k type carry bodies found =
      let inside = found.numbered in
      let there = bodies (with_variable scope variable (single inside.member_type)) (record { at = found.at; part = found.part; numbered = inside.body; typed = found.typed }) in
      record {
        at = there.at;
        part = there.part;
        numbered = record {
          member_type = inside.member_type;
          binds = record { over = carry (collection inside.member_type) inside.binds.over; fresh = inside.binds.fresh };
          body = there.numbered;
        };
        typed = there.typed;
      }

  lambda_same : (scope : Scope) (variable : List ℕ) (base other body also : Tree) (k : ℕ) (type : ExprType) → length (pre_order base) ≡ length (pre_order other)
      → ((t : ExprType) → Typed slots root scope base t ↔ Typed slots root scope other t)
      → ((j : ℕ) → NodeTyped scope base j type ↔ NodeTyped scope other j type) → ((at : Scope) (j : ℕ) → NodeTyped at body j type ↔ NodeTyped at also j type)
      → HasOne (λ at part. InEither (length (pre_order base)) (λ j. IsNode slots root scope base j at part)
      (λ j. InBody scope variable (Typed slots root scope base) (λ inner. IsNode slots root inner body j at part)) k) type
      ↔ HasOne (λ at part. InEither (length (pre_order other)) (λ j. IsNode slots root scope other j at part)
      (λ j. InBody scope variable (Typed slots root scope other) (λ inner. IsNode slots root inner also j at part)) k) type
  lambda_same scope variable base other body also k type size typed first bodies =
      either_same (length (pre_order base)) (length (pre_order other)) k (IsNode slots root scope base)
      (λ j at part. InBody scope variable (Typed slots root scope base) (λ inner. IsNode slots root inner body j at part))
      (IsNode slots root scope other)
      (λ j at part. InBody scope variable (Typed slots root scope other) (λ inner. IsNode slots root inner also j at part)) type size first
      (λ j. (
        body_goes scope variable base other body also j type (λ t. (typed t).0) (λ at. (bodies at j).0),
        body_goes scope variable other base also body j type (λ t. (typed t).1) (λ at. (bodies at j).1),
      ))

  -- ---- a node and those below it

  root_goes : (scope : Scope) (tree other : Tree) (type : ExprType) → (Typed slots root scope tree type → Typed slots root scope other type)
      → (at : Scope) (part : Tree) → at ≡ scope → part ≡ tree → Typed slots root at part type → Typed slots root scope other type
  root_goes scope tree other type carry at part is_scope is_tree typed =
      let P : Scope → Type 0 = λ (s : Scope). Typed slots root s part type in
      let Q : Tree → Type 0 = λ (t : Tree). Typed slots root scope t type in
      carry (subst Q is_tree (subst P is_scope typed))

  node_same : (scope : Scope) (start stop from till : ℕ) (shape other : Shape)
      → ((t : ExprType) → Typed slots root scope (node start stop shape) t ↔ Typed slots root scope (node from till other) t)
      → (k : ℕ) (type : ExprType) → ((j : ℕ) → BelowTyped scope shape j type ↔ BelowTyped scope other j type)
      → NodeTyped scope (node start stop shape) k type ↔ NodeTyped scope (node from till other) k type
  node_same scope start stop from till shape other typed zero type below = (
    λ found. record {
      at = scope;
      part = node from till other;
      numbered = (refl, refl);
      typed = root_goes scope (node start stop shape) (node from till other) type (typed type).0 found.at found.part found.numbered.0 found.numbered.1 found.typed;
    },
    λ found. record {
      at = scope;
      part = node start stop shape;
      numbered = (refl, refl);
      typed = root_goes scope (node from till other) (node start stop shape) type (typed type).1 found.at found.part found.numbered.0 found.numbered.1 found.typed;
    },
  )
  node_same scope start stop from till shape other typed (suc j) type below = (
    λ found. let there = (below j).0 (record { at = found.at; part = found.part; numbered = found.numbered; typed = found.typed }) in
        record { at = there.at; part = there.part; numbered = there.numbered; typed = there.typed },
    λ found. let there = (below j).1 (record { at = found.at; part = found.part; numbered = found.numbered; typed = found.typed }) in
        record { at = there.at; part = there.part; numbered = there.numbered; typed = there.typed },
  )

  module _ (kept : KeptTypes) where
    -- ---- normal forms

    size_normal : (tree normal : Tree) → IsNormalForm tree normal → length (pre_order tree) ≡ length (pre_order normal)
    size_normal tree normal is = as_many slots root (pre_order tree) (pre_order normal) (kept.nodes slots root tree normal is)

    mutual
      pub nodes_normal : (scope : Scope) (tree normal : Tree) (k : ℕ) (type : ExprType) → IsNormalForm tree normal → NodeTyped scope tree k type ↔ NodeTyped scope normal k type
      nodes_normal scope (node start stop shape) normal k type is =
          rw is.2 (node_same scope start stop start stop shape is.0 (λ t. kept.types slots root scope (node start stop shape) (node start stop is.0) t (is.0, is.1, refl)) k type
          (λ j. below_normal scope shape is.0 j type is.1))

      below_normal : (scope : Scope) (shape other : Shape) (k : ℕ) (type : ExprType) → IsNormalShape shape other → BelowTyped scope shape k type ↔ BelowTyped scope other k type
      below_normal scope (literal kind text) other k type is = rw is.2 (itself (BelowTyped scope (literal kind text) k type))
      below_normal scope it other k type is = rw is (itself (BelowTyped scope it k type))
      below_normal scope (name asked) other k type is = rw is (itself (BelowTyped scope (name asked) k type))
      below_normal scope (member base asked) other k type is = rw is.2 (nodes_normal scope base is.0 k type is.1)
      below_normal scope (count base) other k type is = rw is.2 (nodes_normal scope base is.0 k type is.1)
      below_normal scope (negation operand) other k type is = rw is.2 (nodes_normal scope operand is.0 k type is.1)
      below_normal scope (logical_not operand) other k type is = rw is.2 (nodes_normal scope operand is.0 k type is.1)
      below_normal scope (binary operator left right) other k type is =
          rw is.4 (two_same scope left right is.0 is.1 k type (size_normal left is.0 is.2) (λ j. nodes_normal scope left is.0 j type is.2) (λ j. nodes_normal scope right is.1 j type is.3))
      below_normal scope (has left right) other k type is =
          rw is.4 (two_same scope left right is.0 is.1 k type (size_normal left is.0 is.2) (λ j. nodes_normal scope left is.0 j type is.2) (λ j. nodes_normal scope right is.1 j type is.3))
      below_normal scope (in_list left items) other k type is =
          rw is.4 (more_same scope left is.0 items is.1 k type (size_normal left is.0 is.2) (λ j. nodes_normal scope left is.0 j type is.2) (λ j. among_normal scope items is.1 j type is.3))
      below_normal scope (in_path left path) other k type is =
          rw is.4 (two_same scope left path is.0 is.1 k type (size_normal left is.0 is.2) (λ j. nodes_normal scope left is.0 j type is.2) (λ j. nodes_normal scope path is.1 j type is.3))
      below_normal scope (call asked arguments) other k type is = rw is.2 (among_normal scope arguments is.0 k type is.1)
      below_normal scope (any_item base) other k type is = rw is.2 (nodes_normal scope base is.0 k type is.1)
      below_normal scope (lambda quantifier base variable body) other k type is =
          rw is.4 (lambda_same scope variable base is.0 body is.1 k type (size_normal base is.0 is.2) (λ t. kept.types slots root scope base is.0 t is.2)
          (λ j. nodes_normal scope base is.0 j type is.2) (λ at j. nodes_normal at body is.1 j type is.3))

      among_normal : (scope : Scope) (trees normals : Trees) (k : ℕ) (type : ExprType) → AreNormalForms trees normals → AmongTyped scope trees k type ↔ AmongTyped scope normals k type
      among_normal scope no_trees normals k type are = rw are (itself (AmongTyped scope no_trees k type))
      among_normal scope (more_trees tree trees) normals k type are =
          rw are.4 (more_same scope tree are.0 trees are.1 k type (size_normal tree are.0 are.2) (λ j. nodes_normal scope tree are.0 j type are.2) (λ j. among_normal scope trees are.1 j type are.3))

    -- ---- without places

    size_bare : (tree : Tree) → length (pre_order tree) ≡ length (pre_order (bare tree))
    size_bare tree = as_many slots root (pre_order tree) (pre_order (bare tree)) (kept.nodes_bare slots root tree)

    mutual
      pub nodes_bare : (scope : Scope) (tree : Tree) (k : ℕ) (type : ExprType) → NodeTyped scope tree k type ↔ NodeTyped scope (bare tree) k type
      nodes_bare scope (node start stop shape) k type =
          node_same scope start stop 0 0 shape (bare_shape shape) (λ t. kept.places slots root scope (node start stop shape) t) k type (λ j. below_bare scope shape j type)

      below_bare : (scope : Scope) (shape : Shape) (k : ℕ) (type : ExprType) → BelowTyped scope shape k type ↔ BelowTyped scope (bare_shape shape) k type
      below_bare scope (member base asked) k type = nodes_bare scope base k type
      below_bare scope (count base) k type = nodes_bare scope base k type
      below_bare scope (negation operand) k type = nodes_bare scope operand k type
      below_bare scope (logical_not operand) k type = nodes_bare scope operand k type
      below_bare scope (binary operator left right) k type =
          two_same scope left right (bare left) (bare right) k type (size_bare left) (λ j. nodes_bare scope left j type) (λ j. nodes_bare scope right j type)
      below_bare scope (has left right) k type =
          two_same scope left right (bare left) (bare right) k type (size_bare left) (λ j. nodes_bare scope left j type) (λ j. nodes_bare scope right j type)
      below_bare scope (in_list left items) k type =
          more_same scope left (bare left) items (bare_trees items) k type (size_bare left) (λ j. nodes_bare scope left j type) (λ j. among_bare scope items j type)
      below_bare scope (in_path left path) k type =
          two_same scope left path (bare left) (bare path) k type (size_bare left) (λ j. nodes_bare scope left j type) (λ j. nodes_bare scope path j type)
      below_bare scope (call asked arguments) k type = among_bare scope arguments k type
      below_bare scope (any_item base) k type = nodes_bare scope base k type
      below_bare scope (lambda quantifier base variable body) k type =
          lambda_same scope variable base (bare base) body (bare body) k type (size_bare base) (λ t. kept.places slots root scope base t)
          (λ j. nodes_bare scope base j type) (λ at j. nodes_bare at body j type)
      below_bare scope _ k type = (λ is. is, λ is. is)

      among_bare : (scope : Scope) (trees : Trees) (k : ℕ) (type : ExprType) → AmongTyped scope trees k type ↔ AmongTyped scope (bare_trees trees) k type
      among_bare scope no_trees k type = itself (AmongTyped scope no_trees k type)
      among_bare scope (more_trees tree trees) k type =
          more_same scope tree (bare tree) trees (bare_trees trees) k type (size_bare tree) (λ j. nodes_bare scope tree j type) (λ j. among_bare scope trees j type)

    -- ---- what has the normal form but for positions

    pub nodes_same : (scope : Scope) (tree normal again : Tree) (k : ℕ) (type : ExprType) → IsNormalForm tree normal → bare again ≡ bare normal
        → NodeTyped scope tree k type ↔ NodeTyped scope again k type
    nodes_same scope tree normal again k type is same =
        let first = nodes_normal scope tree normal k type is in
        let second = nodes_bare scope normal k type in
        let third = subst (λ (t : Tree). NodeTyped scope again k type ↔ NodeTyped scope t k type) same (nodes_bare scope again k type) in (
          λ found. third.1 (second.0 (first.0 found)),
          λ found. first.1 (second.1 (third.0 found)),
        )

    pub size_same : (tree normal again : Tree) → IsNormalForm tree normal → bare again ≡ bare normal → length (pre_order again) ≡ length (pre_order tree)
    size_same tree normal again is same =
        let first : length (pre_order tree) ≡ length (pre_order normal) = size_normal tree normal is in
        let second : length (pre_order normal) ≡ length (pre_order (bare normal)) = size_bare normal in
        let third : length (pre_order again) ≡ length (pre_order (bare normal)) =
        subst (λ (t : Tree). length (pre_order again) ≡ length (pre_order t)) same (size_bare again) in
        omega arith
