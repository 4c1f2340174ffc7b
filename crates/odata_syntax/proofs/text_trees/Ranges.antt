-- The texts of the nodes of a tree are ranges of its text: the machine reads no others, so a tree is the same whatever
-- is said of the others.
use Rattle.std.proofs.Common.{◌≡◌, ◌≢◌, ◌⊎◌, refl, ap, sym, subst, ◌∙◌, ℕ, zero, suc, ◌+◌, ◌<◌, ◌≤◌, List, [], ◌∷◌, ◌++◌, ◌-◌, Bool, cond, get_or, length, drop, take, reverse, slice_get, slice_index, nat_eq, Some, IsCharBoundary, arith, inl, inr, eqb-true, eq-eqb}
use Rattle.std.proofs.lemmas.Bool.{cases_Bool, cases_lt}
use Rattle.std.proofs.lemmas.List.{get_or-reverse, length-map, length-reverse, reverse-reverse, take-append-drop}
use Rattle.std.proofs.lemmas.Option.{get_or_from_slice_get, slice_get-get_or, slice_get_within}
use Rattle.std.specs.Char.{to_ascii_lowercase}
use Rattle.odata_text.specs.declared.span.Span.{Span}
use Rattle.odata_syntax.specs.declared.syntax_list.SyntaxKind.{SyntaxKind}
use Rattle.odata_syntax.specs.declared.syntax_list.SyntaxNode.{SyntaxNode}
use Rattle.odata_syntax.specs.PostOrder.{AreFedBack, IsWholeTree, Texts, child_count, last_tree, last_trees, shape_over, tree_count_back, trees_back, trees_before, trees_in, trees_left}
use Rattle.odata_syntax.specs.Spans.{list_of_trees}
use Rattle.odata_syntax.specs.TextTree.{AreTextRanges, HasText, IsTextRange, text_in}
use Rattle.odata_syntax.specs.Tree.{Shape, Tree, Trees, any_item, binary, call, count, has, in_list, in_path, it, lambda, literal, logical_not, member, name, negation, shape_of, trees_of_list}
use Rattle.odata_syntax.specs.private.TextParser.{AreRangeTexts}
use Rattle.odata_syntax.proofs.lists.Counts.{length_back, trees_length}

-- What a tree says of the list that it is made of.

-- the text of a node
abbrev text_of_shape : Shape → List ℕ
text_of_shape (literal kind text) = text
text_of_shape it = []
text_of_shape (name text) = text
text_of_shape (member base text) = text
text_of_shape (count base) = []
text_of_shape (negation operand) = []
text_of_shape (logical_not operand) = []
text_of_shape (binary operator left right) = []
text_of_shape (has left right) = []
text_of_shape (in_list left items) = []
text_of_shape (in_path left path) = []
text_of_shape (call text arguments) = text
text_of_shape (any_item base) = []
text_of_shape (lambda quantifier base variable body) = variable

-- the trees before a node, by its children and the trees that are none of them
abbrev trees_again : Shape → List Tree → List Tree
trees_again (literal kind text) left = left
trees_again it left = left
trees_again (name text) left = left
trees_again (member base text) left = base ∷ left
trees_again (count base) left = base ∷ left
trees_again (negation operand) left = operand ∷ left
trees_again (logical_not operand) left = operand ∷ left
trees_again (binary operator first second) left = second ∷ (first ∷ left)
trees_again (has first second) left = second ∷ (first ∷ left)
trees_again (in_list first items) left = reverse (list_of_trees items) ++ (first ∷ left)
trees_again (in_path first second) left = second ∷ (first ∷ left)
trees_again (call text arguments) left = reverse (list_of_trees arguments) ++ left
trees_again (any_item base) left = base ∷ left
trees_again (lambda quantifier base variable body) left = body ∷ (base ∷ left)

list_again : (trees : List Tree) → list_of_trees (trees_of_list trees) ≡ trees
list_again [] = refl
list_again (tree ∷ trees) = ap (λ (ts : List Tree). tree ∷ ts) (list_again trees)

items_again : (items : ℕ) (trees : List Tree) → reverse (list_of_trees (trees_of_list (last_trees items trees))) ≡ take items trees
items_again items trees = ap (λ (ts : List Tree). reverse ts) (list_again (last_trees items trees)) ∙ reverse-reverse (take items trees)

one_again : (trees : List Tree) → 1 ≤ length trees → last_tree trees ∷ trees_before trees ≡ trees
one_again [] some = absurd (omega (arith, some))
one_again (tree ∷ trees) some = refl

two_again : (trees : List Tree) → 2 ≤ length trees → last_tree trees ∷ (last_tree (trees_before trees) ∷ trees_before (trees_before trees)) ≡ trees
two_again [] some = absurd (omega (arith, some))
two_again (tree ∷ []) some = absurd (omega (arith, some))
two_again (tree ∷ (other ∷ trees)) some = refl

drop_some : (items : ℕ) (trees : List Tree) → items + 1 ≤ length trees → 1 ≤ length (drop items trees)
drop_some zero trees some = some
drop_some (suc items) [] some = absurd (omega (arith, some))
drop_some (suc items) (tree ∷ trees) some = drop_some items trees (omega (arith, some))

same_trees : (kind : SyntaxKind) (text : List ℕ) (items : ℕ) (trees : List Tree) → child_count kind items ≤ length trees
    → trees_again (shape_over kind text items trees) (trees_left kind items trees) ≡ trees
same_trees (SyntaxKind.Lit kind) text items trees fed = refl
same_trees SyntaxKind.It text items trees fed = refl
same_trees SyntaxKind.Name text items trees fed = refl
same_trees SyntaxKind.Member text items trees fed = one_again trees fed
same_trees SyntaxKind.Count text items trees fed = one_again trees fed
same_trees SyntaxKind.Neg text items trees fed = one_again trees fed
same_trees SyntaxKind.Not text items trees fed = one_again trees fed
same_trees (SyntaxKind.Binary operator) text items trees fed = two_again trees fed
same_trees SyntaxKind.Has text items trees fed = two_again trees fed
same_trees SyntaxKind.InList text items trees fed =
    ap (λ (ts : List Tree). ts ++ (last_tree (drop items trees) ∷ trees_before (drop items trees))) (items_again items trees)
    ∙ ap (λ (ts : List Tree). take items trees ++ ts) (one_again (drop items trees) (drop_some items trees fed))
    ∙ take-append-drop items trees
same_trees SyntaxKind.InPath text items trees fed = two_again trees fed
same_trees SyntaxKind.Call text items trees fed =
    ap (λ (ts : List Tree). ts ++ drop items trees) (items_again items trees) ∙ take-append-drop items trees
same_trees SyntaxKind.AnyItem text items trees fed = one_again trees fed
same_trees (SyntaxKind.Lambda quantifier) text items trees fed = two_again trees fed

same_length : (kind : SyntaxKind) (text : List ℕ) (items : ℕ) (trees : List Tree) → HasText kind → length (text_of_shape (shape_over kind text items trees)) ≡ length text
same_length (SyntaxKind.Lit kind) text items trees some = refl
same_length SyntaxKind.Name text items trees some = refl
same_length SyntaxKind.Member text items trees some = refl
same_length SyntaxKind.Call text items trees some = length-map text to_ascii_lowercase
same_length (SyntaxKind.Lambda quantifier) text items trees some = refl
same_length SyntaxKind.It text items trees some = absurd some
same_length SyntaxKind.Count text items trees some = absurd some
same_length SyntaxKind.Neg text items trees some = absurd some
same_length SyntaxKind.Not text items trees some = absurd some
same_length (SyntaxKind.Binary operator) text items trees some = absurd some
same_length SyntaxKind.Has text items trees some = absurd some
same_length SyntaxKind.InList text items trees some = absurd some
same_length SyntaxKind.InPath text items trees some = absurd some
same_length SyntaxKind.AnyItem text items trees some = absurd some

-- Two readings of the texts that make one tree.

pub record IsSameStep (texts other : Texts) (n : SyntaxNode) (trees others : List Tree) : Type 0 where
  pub lengths : HasText n.kind → length (texts n.text) ≡ length (other n.text)
  pub trees_same : trees ≡ others

same_step : (texts other : Texts) (n : SyntaxNode) (earlier : List SyntaxNode) → child_count n.kind n.count ≤ tree_count_back earlier
    → trees_back texts (n ∷ earlier) ≡ trees_back other (n ∷ earlier) → IsSameStep texts other n (trees_back texts earlier) (trees_back other earlier)
same_step texts other n earlier fed same =
    let first = trees_back texts earlier in
    let second = trees_back other earlier in
    let shape : shape_over n.kind (texts n.text) n.count first ≡ shape_over n.kind (other n.text) n.count second = ap (λ (ts : List Tree). shape_of (last_tree ts)) same in
    let left : trees_left n.kind n.count first ≡ trees_left n.kind n.count second = ap (λ (ts : List Tree). trees_before ts) same in
    let first_size = length_back texts earlier in
    let second_size = length_back other earlier in
    record {
      lengths = λ some.
          sym (same_length n.kind (texts n.text) n.count first some)
          ∙ ap (λ (s : Shape). length (text_of_shape s)) shape
          ∙ same_length n.kind (other n.text) n.count second some;
      trees_same =
          sym (same_trees n.kind (texts n.text) n.count first (omega (arith, fed, first_size)))
          ∙ ap (λ (s : Shape). trees_again s (trees_left n.kind n.count first)) shape
          ∙ ap (λ (ts : List Tree). trees_again (shape_over n.kind (other n.text) n.count second) ts) left
          ∙ same_trees n.kind (other n.text) n.count second (omega (arith, fed, second_size));
    }

same_back : (texts other : Texts) (back : List SyntaxNode) → AreFedBack back → trees_back texts back ≡ trees_back other back
    → (k : ℕ) (n : SyntaxNode) → slice_get back k ≡ Some n → HasText n.kind → length (texts n.text) ≡ length (other n.text)
same_back texts other [] fed same k n at some = absurd (cc)
same_back texts other (m ∷ earlier) fed same zero n at some =
    let is : m ≡ n = cc in
    let step = same_step texts other m earlier fed.0 same in
    subst (λ (p : SyntaxNode). length (texts p.text) ≡ length (other p.text)) is (step.lengths (subst (λ (p : SyntaxNode). HasText p.kind) (sym is) some))
same_back texts other (m ∷ earlier) fed same (suc k) n at some =
    same_back texts other earlier fed.1 (same_step texts other m earlier fed.0 same).trees_same k n at some

-- from the end of a list
at_back : (nodes : List SyntaxNode) (i : ℕ) (n : SyntaxNode) → slice_get nodes i ≡ Some n → slice_get (reverse nodes) (length nodes - 1 - i) ≡ Some n
at_back nodes i n at =
    let inside = slice_get_within nodes i n at in
    let size = length-reverse nodes in
    let k = length nodes - 1 - i in
    let here : length nodes - 1 - k ≡ i = omega (arith, inside) in
    slice_get-get_or (reverse nodes) k n (omega (arith, size, inside))
    ∙ ap (λ (m : SyntaxNode). Some m) (get_or-reverse nodes k n (omega (arith, inside)) ∙ ap (λ (j : ℕ). get_or nodes j n) here ∙ get_or_from_slice_get nodes i n n at)

one_tree : (trees : List Tree) → length trees ≡ 1 → trees ≡ last_tree trees ∷ []
one_tree [] one = absurd (omega (arith, one))
one_tree (tree ∷ []) one = refl
one_tree (tree ∷ (more ∷ trees)) one = absurd (omega (arith, one))

same_whole : (texts other : Texts) (nodes : List SyntaxNode) → IsWholeTree nodes → last_tree (trees_in texts nodes) ≡ last_tree (trees_in other nodes) → trees_in texts nodes ≡ trees_in other nodes
same_whole texts other nodes whole same =
    one_tree (trees_in texts nodes) (trees_length texts nodes ∙ whole.one)
    ∙ ap (λ (t : Tree). t ∷ []) same
    ∙ sym (one_tree (trees_in other nodes) (trees_length other nodes ∙ whole.one))

-- Ranges.

boundary_or_not : (text : List ℕ) (i : ℕ) → IsCharBoundary text i ⊎ ¬ IsCharBoundary text i
boundary_or_not text i = elim (cases_lt (length text) i) [
  | inl past ↦ inr (λ is. absurd (omega (arith, is.0, past)))
  | inr within ↦ elim (cases_lt (slice_index text i) 128) [
    | inl single ↦ inl (within, λ inside high. absurd (omega (arith, single, high)))
    | inr high ↦ elim (cases_lt (slice_index text i) 192) [
      | inl low ↦ elim (cases_lt i (length text)) [
        | inl inside ↦ inr (λ is. absurd (omega (arith, is.1 inside high, low)))
        | inr last ↦ inl (within, λ inside also. absurd (omega (arith, inside, last)))
      ]
      | inr leads ↦ inl (within, λ inside also. leads)
    ]
  ]
]

range_or_not : (text : List ℕ) (range : Span) → IsTextRange text range ⊎ ¬ IsTextRange text range
range_or_not text range = elim (cases_lt range.stop range.start) [
  | inl backwards ↦ inr (λ is. absurd (omega (arith, is.order, backwards)))
  | inr order ↦ elim (boundary_or_not text range.start) [
    | inr outside ↦ inr (λ is. outside is.begins)
    | inl begins ↦ elim (boundary_or_not text range.stop) [
      | inr outside ↦ inr (λ is. outside is.ends)
      | inl ends ↦ inl (record { order = order; begins = begins; ends = ends })
    ]
  ]
]

-- the bytes of each range, with one byte more at one
abbrev other_at : List ℕ → Span → Texts
other_at text bad range = cond (nat_eq range.start bad.start) (cond (nat_eq range.stop bad.stop) (0 ∷ text_in text range) (text_in text range)) (text_in text range)

other_there : (text : List ℕ) (bad : Span) → other_at text bad bad ≡ 0 ∷ text_in text bad
other_there text bad =
    ap (λ (b : Bool). cond b (cond (nat_eq bad.stop bad.stop) (0 ∷ text_in text bad) (text_in text bad)) (text_in text bad)) (eq-eqb bad.start bad.start refl)
    ∙ ap (λ (b : Bool). cond b (0 ∷ text_in text bad) (text_in text bad)) (eq-eqb bad.stop bad.stop refl)

other_ranges : (text : List ℕ) (bad : Span) → ¬ IsTextRange text bad → AreRangeTexts text (other_at text bad)
other_ranges text bad outside range is = elim (cases_Bool (nat_eq range.start bad.start)) [
  | inr other ↦ ap (λ (b : Bool). cond b (cond (nat_eq range.stop bad.stop) (0 ∷ text_in text range) (text_in text range)) (text_in text range)) other
  | inl same ↦ elim (cases_Bool (nat_eq range.stop bad.stop)) [
    | inr other ↦ ap (λ (b : Bool). cond b (cond (nat_eq range.stop bad.stop) (0 ∷ text_in text range) (text_in text range)) (text_in text range)) same
        ∙ ap (λ (b : Bool). cond b (0 ∷ text_in text range) (text_in text range)) other
    | inl also ↦ let start : range.start ≡ bad.start = eqb-true range.start bad.start same in
        let stop : range.stop ≡ bad.stop = eqb-true range.stop bad.stop also in
        absurd (outside (record {
          order = omega (arith, is.order, start, stop);
          begins = subst (λ (k : ℕ). IsCharBoundary text k) start is.begins;
          ends = subst (λ (k : ℕ). IsCharBoundary text k) stop is.ends;
        }))
  ]
]

-- a tree that is the same by all readings of ranges names ranges alone
pub text_ranges : (text : List ℕ) (nodes : List SyntaxNode) → IsWholeTree nodes
    → ((texts : Texts) → AreRangeTexts text texts → last_tree (trees_in texts nodes) ≡ last_tree (trees_in (text_in text) nodes))
    → AreTextRanges text nodes
text_ranges text nodes whole same i n at some = elim (range_or_not text n.text) [
  | inl is ↦ is
  | inr outside ↦ let trees = same_whole (other_at text n.text) (text_in text) nodes whole (same (other_at text n.text) (other_ranges text n.text outside)) in
      let lengths = same_back (other_at text n.text) (text_in text) (reverse nodes) whole.fed trees (length nodes - 1 - i) n (at_back nodes i n at) some in
      let longer : length (other_at text n.text n.text) ≡ length (0 ∷ text_in text n.text) = ap (λ (xs : List ℕ). length xs) (other_there text n.text) in
      absurd (omega (arith, lengths, longer))
]
