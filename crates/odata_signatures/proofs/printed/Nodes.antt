-- The nodes of a tree, those of its normal form, and those of what has that form but for positions.
use Rattle.std.proofs.Common.{◌≡◌, ◌∙◌, refl, sym, ap, subst, ℕ, List, [], ◌∷◌, ◌++◌, map}
use Rattle.std.proofs.lemmas.List.{map-append}
use Rattle.odata_syntax.specs.NormalForm.{AreNormalForms, IsNormalForm, IsNormalShape, bare, bare_shape, bare_trees}
use Rattle.odata_syntax.specs.Tree.{Shape, Tree, Trees, any_item, binary, call, count, has, in_list, in_path, it, lambda, literal, logical_not, member, more_trees, name, negation, no_trees, node}
use Rattle.csdl_schema.specs.SchemaModel.{Slots}
use Rattle.odata_signatures.specs.PreOrder.{nodes_among, nodes_below, pre_order}
use Rattle.odata_signatures.specs.SameTypes.{HaveSameTypes, HaveSameTypesByNumber}
use Rattle.odata_signatures.specs.Typed.{Typed}
use Rattle.odata_signatures.proofs.printed.Literals.{LiteralFacts}
use Rattle.odata_signatures.proofs.printed.Places.{bare_from, bare_to}
use Rattle.odata_signatures.proofs.printed.Types.{types_from, types_to}

-- ---- nodes and their normal forms, one by one

abbrev AreNormal : List Tree → List Tree → Type 0
AreNormal [] [] = Unit {0}
AreNormal (t ∷ ts) (n ∷ ns) = IsNormalForm t n × AreNormal ts ns
AreNormal _ _ = ⊥

both_normal : (ts ns us ms : List Tree) → AreNormal ts ns → AreNormal us ms → AreNormal (ts ++ us) (ns ++ ms)
both_normal [] [] us ms first second = second
both_normal (t ∷ ts) (n ∷ ns) us ms first second = (first.0, both_normal ts ns us ms first.1 second)
both_normal [] (n ∷ ns) us ms first second = absurd first
both_normal (t ∷ ts) [] us ms first second = absurd first

-- by a shape that the other is
by_shape : (ts : List Tree) (other shape : Shape) → other ≡ shape → AreNormal ts (nodes_below shape) → AreNormal ts (nodes_below other)
by_shape ts other shape same are = subst (λ (s : Shape). AreNormal ts (nodes_below s)) (sym same) are

mutual
  pub normal_nodes : (tree normal : Tree) → IsNormalForm tree normal → AreNormal (pre_order tree) (pre_order normal)
  normal_nodes (node start stop shape) normal is =
      subst (λ (n : Tree). AreNormal (pre_order (node start stop shape)) (pre_order n)) (sym is.2)
      ((is.0, is.1, refl), normal_below shape is.0 is.1)

  normal_below : (shape other : Shape) → IsNormalShape shape other → AreNormal (nodes_below shape) (nodes_below other)
  normal_below (literal kind text) other is = by_shape [] other (literal kind is.0) is.2 tt
  normal_below it other is = by_shape [] other it is tt
  normal_below (name text) other is = by_shape [] other (name text) is tt
  normal_below (member base text) other is = by_shape (pre_order base) other (member is.0 text) is.2 (normal_nodes base is.0 is.1)
  normal_below (count base) other is = by_shape (pre_order base) other (count is.0) is.2 (normal_nodes base is.0 is.1)
  normal_below (negation operand) other is = by_shape (pre_order operand) other (negation is.0) is.2 (normal_nodes operand is.0 is.1)
  normal_below (logical_not operand) other is = by_shape (pre_order operand) other (logical_not is.0) is.2 (normal_nodes operand is.0 is.1)
  normal_below (binary operator left right) other is =
      by_shape (pre_order left ++ pre_order right) other (binary operator is.0 is.1) is.4
      (both_normal (pre_order left) (pre_order is.0) (pre_order right) (pre_order is.1) (normal_nodes left is.0 is.2) (normal_nodes right is.1 is.3))
  normal_below (has left right) other is =
      by_shape (pre_order left ++ pre_order right) other (has is.0 is.1) is.4
      (both_normal (pre_order left) (pre_order is.0) (pre_order right) (pre_order is.1) (normal_nodes left is.0 is.2) (normal_nodes right is.1 is.3))
  normal_below (in_list left items) other is =
      by_shape (pre_order left ++ nodes_among items) other (in_list is.0 is.1) is.4
      (both_normal (pre_order left) (pre_order is.0) (nodes_among items) (nodes_among is.1) (normal_nodes left is.0 is.2) (normal_among items is.1 is.3))
  normal_below (in_path left path) other is =
      by_shape (pre_order left ++ pre_order path) other (in_path is.0 is.1) is.4
      (both_normal (pre_order left) (pre_order is.0) (pre_order path) (pre_order is.1) (normal_nodes left is.0 is.2) (normal_nodes path is.1 is.3))
  normal_below (call text arguments) other is = by_shape (nodes_among arguments) other (call text is.0) is.2 (normal_among arguments is.0 is.1)
  normal_below (any_item base) other is = by_shape (pre_order base) other (any_item is.0) is.2 (normal_nodes base is.0 is.1)
  normal_below (lambda quantifier base variable body) other is =
      by_shape (pre_order base ++ pre_order body) other (lambda quantifier is.0 variable is.1) is.4
      (both_normal (pre_order base) (pre_order is.0) (pre_order body) (pre_order is.1) (normal_nodes base is.0 is.2) (normal_nodes body is.1 is.3))

  normal_among : (trees others : Trees) → AreNormalForms trees others → AreNormal (nodes_among trees) (nodes_among others)
  normal_among no_trees others is = subst (λ (ts : Trees). AreNormal [] (nodes_among ts)) (sym is) tt
  normal_among (more_trees tree trees) others is =
      subst (λ (ts : Trees). AreNormal (pre_order tree ++ nodes_among trees) (nodes_among ts)) (sym is.4)
      (both_normal (pre_order tree) (pre_order is.0) (nodes_among trees) (nodes_among is.1) (normal_nodes tree is.0 is.2) (normal_among trees is.1 is.3))

-- ---- nodes without places

bare_both : (ts us bs cs : List Tree) → map bare ts ≡ bs → map bare us ≡ cs → map bare (ts ++ us) ≡ bs ++ cs
bare_both ts us bs cs first second =
    map-append bare ts us ∙ ap (λ (xs : List Tree). xs ++ map bare us) first ∙ ap (λ (xs : List Tree). bs ++ xs) second

mutual
  bare_nodes : (tree : Tree) → map bare (pre_order tree) ≡ pre_order (bare tree)
  bare_nodes (node start stop shape) = ap (λ (ts : List Tree). node 0 0 (bare_shape shape) ∷ ts) (bare_below shape)

  bare_below : (shape : Shape) → map bare (nodes_below shape) ≡ nodes_below (bare_shape shape)
  bare_below (literal kind text) = refl
  bare_below it = refl
  bare_below (name text) = refl
  bare_below (member base text) = bare_nodes base
  bare_below (count base) = bare_nodes base
  bare_below (negation operand) = bare_nodes operand
  bare_below (logical_not operand) = bare_nodes operand
  bare_below (binary operator left right) =
      bare_both (pre_order left) (pre_order right) (pre_order (bare left)) (pre_order (bare right)) (bare_nodes left) (bare_nodes right)
  bare_below (has left right) =
      bare_both (pre_order left) (pre_order right) (pre_order (bare left)) (pre_order (bare right)) (bare_nodes left) (bare_nodes right)
  bare_below (in_list left items) =
      bare_both (pre_order left) (nodes_among items) (pre_order (bare left)) (nodes_among (bare_trees items)) (bare_nodes left) (bare_among items)
  bare_below (in_path left path) =
      bare_both (pre_order left) (pre_order path) (pre_order (bare left)) (pre_order (bare path)) (bare_nodes left) (bare_nodes path)
  bare_below (call text arguments) = bare_among arguments
  bare_below (any_item base) = bare_nodes base
  bare_below (lambda quantifier base variable body) =
      bare_both (pre_order base) (pre_order body) (pre_order (bare base)) (pre_order (bare body)) (bare_nodes base) (bare_nodes body)

  bare_among : (trees : Trees) → map bare (nodes_among trees) ≡ nodes_among (bare_trees trees)
  bare_among no_trees = refl
  bare_among (more_trees tree trees) =
      bare_both (pre_order tree) (nodes_among trees) (pre_order (bare tree)) (nodes_among (bare_trees trees)) (bare_nodes tree) (bare_among trees)

same_bare : (a b : Tree) → bare a ≡ bare b → map bare (pre_order a) ≡ map bare (pre_order b)
same_bare a b same = bare_nodes a ∙ ap pre_order same ∙ sym (bare_nodes b)

-- ---- their types

pub same_types : LiteralFacts → (slots : Slots) (root : List ℕ) (tree normal again : Tree) → IsNormalForm tree normal → bare again ≡ bare normal → HaveSameTypes slots root tree again
same_types facts slots root tree normal again is same scope type =
    let P : Tree → Type 0 = λ (t : Tree). Typed slots root scope t type in (
      λ typed. bare_from slots root scope again type (subst P (sym same) (bare_to slots root scope normal type (types_to facts slots root scope tree normal type is typed))),
      λ typed. types_from facts slots root scope tree normal type is (bare_from slots root scope normal type (subst P same (bare_to slots root scope again type typed))),
    )

first_tree : (a b : Tree) (ts us : List Tree) → a ∷ ts ≡ b ∷ us → a ≡ b
first_tree a b ts us same = cc

other_trees : (a b : Tree) (ts us : List Tree) → a ∷ ts ≡ b ∷ us → ts ≡ us
other_trees a b ts us same = cc

each_same : LiteralFacts → (slots : Slots) (root : List ℕ) (ts ns us : List Tree) → AreNormal ts ns → map bare us ≡ map bare ns → HaveSameTypesByNumber slots root ts us
each_same facts slots root [] [] [] are same = tt
each_same facts slots root [] [] (u ∷ us) are same = cc
each_same facts slots root (t ∷ ts) (n ∷ ns) [] are same = cc
each_same facts slots root (t ∷ ts) (n ∷ ns) (u ∷ us) are same = (
  same_types facts slots root t n u are.0 (first_tree (bare u) (bare n) (map bare us) (map bare ns) same),
  each_same facts slots root ts ns us are.1 (other_trees (bare u) (bare n) (map bare us) (map bare ns) same),
)
each_same facts slots root [] (n ∷ ns) us are same = absurd are
each_same facts slots root (t ∷ ts) [] us are same = absurd are

normal_each : LiteralFacts → (slots : Slots) (root : List ℕ) (ts ns : List Tree) → AreNormal ts ns → HaveSameTypesByNumber slots root ts ns
normal_each facts slots root [] [] are = tt
normal_each facts slots root (t ∷ ts) (n ∷ ns) are = (
  λ scope type. (types_to facts slots root scope t n type are.0, types_from facts slots root scope t n type are.0),
  normal_each facts slots root ts ns are.1,
)
normal_each facts slots root [] (n ∷ ns) are = absurd are
normal_each facts slots root (t ∷ ts) [] are = absurd are

pub normal_by_number : LiteralFacts → (slots : Slots) (root : List ℕ) (tree normal : Tree) → IsNormalForm tree normal → HaveSameTypesByNumber slots root (pre_order tree) (pre_order normal)
normal_by_number facts slots root tree normal is = normal_each facts slots root (pre_order tree) (pre_order normal) (normal_nodes tree normal is)

bare_each : (slots : Slots) (root : List ℕ) (ts : List Tree) → HaveSameTypesByNumber slots root ts (map bare ts)
bare_each slots root [] = tt
bare_each slots root (t ∷ ts) = (λ scope type. (bare_to slots root scope t type, bare_from slots root scope t type), bare_each slots root ts)

pub bare_by_number : (slots : Slots) (root : List ℕ) (tree : Tree) → HaveSameTypesByNumber slots root (pre_order tree) (pre_order (bare tree))
bare_by_number slots root tree = subst (λ (ts : List Tree). HaveSameTypesByNumber slots root (pre_order tree) ts) (bare_nodes tree) (bare_each slots root (pre_order tree))

pub same_by_number : LiteralFacts → (slots : Slots) (root : List ℕ) (tree normal again : Tree) → IsNormalForm tree normal → bare again ≡ bare normal
    → HaveSameTypesByNumber slots root (pre_order tree) (pre_order again)
same_by_number facts slots root tree normal again is same =
    each_same facts slots root (pre_order tree) (pre_order normal) (pre_order again) (normal_nodes tree normal is) (same_bare again normal same)
