-- What is written of a form with a first operand, and of what it has after that.
use Rattle.std.proofs.Common.{◌≡◌, ◌∙◌, ℕ, zero, suc, ◌+◌, ◌<◌, ◌≤◌, List, [], ◌∷◌, ◌++◌, codes, refl, sym, subst, ap, append-nil, append_assoc, arith}
use Rattle.odata_syntax.specs.declared.node.Quantifier.{Quantifier}
use Rattle.odata_syntax.specs.declared.printer.printed_tree.AfterFirst.{AfterFirst}
use Rattle.odata_syntax.specs.declared.printer.printed_tree.NodeShape.{NodeShape}
use Rattle.odata_syntax.specs.CanonicalText.{shape_level, tree_text}
use Rattle.odata_syntax.specs.Grammar.{Level, operator_level, primary_level}
use Rattle.odata_syntax.specs.Lexeme.{quantifier_word}
use Rattle.odata_syntax.specs.PrintedTree.{IsShapeOf, PrintedTrees, joined, printed_rest, printed_shape}
use Rattle.odata_syntax.specs.Tree.{Shape, Tree, Trees, any_item, binary, call, count, has, in_list, in_path, it, lambda, literal, logical_not, member, name, negation, node, shape_of}
use Rattle.odata_syntax.specs.private.Printer.{IsAfterFirst, IsTextOf, Piece, Writes, after_first, after_weight, body_text, group_weight, listed, no_nodes, operand, operand_text, plain, rest_needs, right_text, weight}
use Rattle.odata_syntax.specs.private.Weights.{shape_weight, tree_weight, trees_weight}
use Rattle.odata_syntax.proofs.printing.Stack.{single, ungrouped}
use Rattle.odata_syntax.proofs.printing.Forms.{closed_texts, closed_weight, listed_weight, two}

-- ---- forms with a first operand

-- the text of the first operand and what stands after that are the text of the form
joins : (rest : AfterFirst Tree Trees) (first : Tree) (start stop : ℕ) (front back : List ℕ) → IsTextOf (operand_text (rest_needs rest)) first front → IsAfterFirst (joined first rest) back
    → IsTextOf tree_text (node start stop (joined first rest)) (front ++ back)
joins (AfterFirst.Member asked) base start stop front back f b = record {
  normal = node start stop (member f.normal asked.now);
  is_normal = (member f.normal asked.now, (f.normal, f.is_normal, refl), refl);
  printed = ap (λ (t : List ℕ). t ++ back) (f.printed ∙ ungrouped f.normal) ∙ ap (λ (t : List ℕ). tree_text f.normal ++ t) b;
}
joins AfterFirst.Count base start stop front back f b = record {
  normal = node start stop (count f.normal);
  is_normal = (count f.normal, (f.normal, f.is_normal, refl), refl);
  printed = ap (λ (t : List ℕ). t ++ back) (f.printed ∙ ungrouped f.normal) ∙ ap (λ (t : List ℕ). tree_text f.normal ++ t) b;
}
joins AfterFirst.AnyItem base start stop front back f b = record {
  normal = node start stop (any_item f.normal);
  is_normal = (any_item f.normal, (f.normal, f.is_normal, refl), refl);
  printed = ap (λ (t : List ℕ). t ++ back) (f.printed ∙ ungrouped f.normal) ∙ ap (λ (t : List ℕ). tree_text f.normal ++ t) b;
}
joins (AfterFirst.Lambda quantifier variable body) base start stop front back f b = record {
  normal = node start stop (lambda quantifier f.normal variable.now b.normal);
  is_normal = (lambda quantifier f.normal variable.now b.normal, (f.normal, b.normal, f.is_normal, b.is_normal, refl), refl);
  printed = ap (λ (t : List ℕ). t ++ back) (f.printed ∙ ungrouped f.normal) ∙ ap (λ (t : List ℕ). tree_text f.normal ++ t) b.printed;
}
joins (AfterFirst.Binary operator right) left start stop front back f b = record {
  normal = node start stop (binary operator f.normal b.normal);
  is_normal = (binary operator f.normal b.normal, (f.normal, b.normal, f.is_normal, b.is_normal, refl), refl);
  printed = λ i. f.printed i ++ b.printed i;
}
joins (AfterFirst.Has right) left start stop front back f b = record {
  normal = node start stop (has f.normal b.normal);
  is_normal = (has f.normal b.normal, (f.normal, b.normal, f.is_normal, b.is_normal, refl), refl);
  printed = λ i. f.printed i ++ b.printed i;
}
joins (AfterFirst.InPath path) left start stop front back f b = record {
  normal = node start stop (in_path f.normal b.normal);
  is_normal = (in_path f.normal b.normal, (f.normal, b.normal, f.is_normal, b.is_normal, refl), refl);
  printed = λ i. f.printed i ++ b.printed i;
}
joins (AfterFirst.InList items) left start stop front back f b = record {
  normal = node start stop (in_list f.normal b.normal);
  is_normal = (in_list f.normal b.normal, (f.normal, b.normal, f.is_normal, b.are_normal, refl), refl);
  printed = λ i. f.printed i ++ b.printed i;
}

-- the level that an operator's first operand needs counts little
group_weight-bound : (level : Level) → group_weight level ≤ 2
group_weight-bound zero = omega arith
group_weight-bound (suc level) = omega arith

joined_lighter : (rest : AfterFirst Tree Trees) (first : Tree) → after_weight (joined first rest) + (tree_weight first + group_weight (rest_needs rest)) < shape_weight (joined first rest)
joined_lighter (AfterFirst.Member asked) first = omega arith
joined_lighter AfterFirst.Count first = omega arith
joined_lighter AfterFirst.AnyItem first = omega arith
joined_lighter (AfterFirst.Lambda quantifier variable body) first = omega arith
joined_lighter (AfterFirst.Binary operator right) first = omega (arith, group_weight-bound (operator_level operator))
joined_lighter (AfterFirst.Has right) first = omega (arith, group_weight-bound primary_level)
joined_lighter (AfterFirst.InPath path) first = omega (arith, group_weight-bound primary_level)
joined_lighter (AfterFirst.InList items) first = omega (arith, group_weight-bound primary_level)

pub joint_form : (start stop : ℕ) (rest : AfterFirst Tree Trees) (first : Tree) (text : List ℕ) (old new : List Piece)
    → new ≡ old ++ (after_first (joined first rest) ∷ operand (rest_needs rest) first ∷ []) → Writes (operand 0 (node start stop (joined first rest))) text text old new
joint_form start stop rest first text old new pushed = record {
  pieces = after_first (joined first rest) ∷ operand (rest_needs rest) first ∷ [];
  pushed = pushed;
  lighter = omega (arith, joined_lighter rest first);
  text = [];
  written = sym (append-nil text);
  goes_on = λ after texts.
      let both = two (after_first (joined first rest)) (operand (rest_needs rest) first) after texts in
      let is = joins rest first start stop both.front both.back both.is_front both.is_back in
      record {
        normal = is.normal;
        is_normal = is.is_normal;
        printed = both.whole ∙ is.printed ∙ sym (ungrouped is.normal);
      };
}

-- ---- what stands after a first operand

-- some text
pub after_text : (shape : Shape) (text before after : List ℕ) (old : List Piece) → 0 < after_weight shape → IsAfterFirst shape text → after ≡ before ++ text
    → Writes (after_first shape) before after old old
after_text shape text before after old heavy is written = record {
  pieces = [];
  pushed = sym (append-nil old);
  lighter = omega (arith, heavy);
  text = text;
  written = written;
  goes_on = λ rest none. subst (IsAfterFirst shape) (sym (ap (λ (t : List ℕ). text ++ t) none ∙ append-nil text)) is;
}

-- nothing
after_nothing : (shape : Shape) (text : List ℕ) (old : List Piece) → 0 < after_weight shape → IsAfterFirst shape [] → Writes (after_first shape) text text old old
after_nothing shape text old heavy is = after_text shape [] text text old heavy is (sym (append-nil text))

-- a word and an operand
pub after_word : (shape : Shape) (word : List ℕ) (level : Level) (right : Tree) (before after : List ℕ) (old new : List Piece)
    → ((text : List ℕ) → IsTextOf (right_text word level) right text → IsAfterFirst shape text)
    → tree_weight right + group_weight level < after_weight shape
    → after ≡ before ++ (32 ∷ (word ++ 32 ∷ [])) → new ≡ old ++ operand level right ∷ [] → Writes (after_first shape) before after old new
after_word shape word level right before after old new same light written pushed = record {
  pieces = operand level right ∷ [];
  pushed = pushed;
  lighter = omega (arith, light);
  text = 32 ∷ (word ++ 32 ∷ []);
  written = written;
  goes_on = λ rest texts.
      let is = single (operand level right) rest texts in
      same ((32 ∷ (word ++ 32 ∷ [])) ++ rest)
      (record {
        normal = is.normal;
        is_normal = is.is_normal;
        printed = ap (λ (t : List ℕ). 32 ∷ t) (append_assoc word (32 ∷ []) rest ∙ ap (λ (t : List ℕ). word ++ (32 ∷ t)) is.printed);
      });
}

pub after_in : (left : Tree) (items : Trees) (before after : List ℕ) (old new : List Piece) → after ≡ before ++ codes " in ("
    → new ≡ old ++ (plain (41 ∷ []) ∷ listed items) → Writes (after_first (in_list left items)) before after old new
after_in left items before after old new written pushed =
    let light : weight (listed items) < trees_weight items = listed_weight items in
    record {
      pieces = plain (41 ∷ []) ∷ listed items;
      pushed = pushed;
      lighter = omega (arith, light, closed_weight (listed items));
      text = codes " in (";
      written = written;
      goes_on = λ rest texts.
          let are = closed_texts items rest texts in
          record { normal = are.normal; are_normal = are.are_normal; printed = ap (λ (t : List ℕ). codes " in (" ++ t) are.printed };
    }

-- a slash, a quantifier and `(`
abbrev pub binder : Quantifier → List ℕ
binder Quantifier.Any = codes "/any("
binder Quantifier.All = codes "/all("

binder_text : (quantifier : Quantifier) (rest : List ℕ) → binder quantifier ++ rest ≡ 47 ∷ (quantifier_word quantifier ++ (40 ∷ rest))
binder_text Quantifier.Any rest = refl
binder_text Quantifier.All rest = refl

pub after_binder : (quantifier : Quantifier) (base : Tree) (variable : List ℕ) (body : Tree) (before after : List ℕ) (old new : List Piece)
    → after ≡ before ++ (binder quantifier ++ (variable ++ 58 ∷ [])) → new ≡ old ++ (plain (41 ∷ []) ∷ operand 0 body ∷ [])
    → Writes (after_first (lambda quantifier base variable body)) before after old new
after_binder quantifier base variable body before after old new written pushed = record {
  pieces = plain (41 ∷ []) ∷ operand 0 body ∷ [];
  pushed = pushed;
  lighter = omega arith;
  text = binder quantifier ++ (variable ++ 58 ∷ []);
  written = written;
  goes_on = λ rest texts.
      let both = two (plain (41 ∷ [])) (operand 0 body) rest texts in
      let is = both.is_front in
      let inner : rest ≡ tree_text is.normal ++ 41 ∷ [] =
      both.whole ∙ ap (λ (t : List ℕ). t ++ both.back) (is.printed ∙ ungrouped is.normal) ∙ ap (λ (t : List ℕ). tree_text is.normal ++ t) both.is_back in
      record {
        normal = is.normal;
        is_normal = is.is_normal;
        printed =
            append_assoc (binder quantifier) (variable ++ 58 ∷ []) rest
            ∙ ap (λ (t : List ℕ). binder quantifier ++ t) (append_assoc variable (58 ∷ []) rest ∙ ap (λ (t : List ℕ). variable ++ (58 ∷ t)) inner)
            ∙ binder_text quantifier (body_text variable is.normal);
      };
}

-- ---- what stands after the first operand of a node

module _ {N I : Type 0} (trees : PrintedTrees N I) (there : N) (shape : NodeShape N I) (is : IsShapeOf trees there shape) where
  pub joint_of : (first : N) (rest shown : AfterFirst N I) (before after : List ℕ) (old new : List Piece) → shape ≡ NodeShape.Joined first rest → rest ≡ shown
      → Writes (after_first (joined (trees.tree_of first) (printed_rest trees shown))) before after old new
      → Writes (after_first (shape_of (trees.tree_of there))) before after old new
  joint_of first rest shown before after old new here same writes =
      let whole : printed_shape trees (NodeShape.Joined first shown) ≡ shape_of (trees.tree_of there) =
      ap (printed_shape trees) (sym (here ∙ ap (λ (r : AfterFirst N I). NodeShape.Joined first r) same)) ∙ is.same in
      subst (λ (s : Shape). Writes (after_first s) before after old new) whole writes

  pub nothing_of : (text : List ℕ) (old : List Piece) → ((first : N) (rest : AfterFirst N I) → shape ≡ NodeShape.Joined first rest → ⊥)
      → Writes (after_first (shape_of (trees.tree_of there))) text text old old
  nothing_of text old none = subst (λ (s : Shape). Writes (after_first s) text text old old) is.same (by shape none)
    where
      by : (s : NodeShape N I) → ((first : N) (rest : AfterFirst N I) → s ≡ NodeShape.Joined first rest → ⊥) → Writes (after_first (printed_shape trees s)) text text old old
      by (NodeShape.Joined first rest) none = absurd (none first rest refl)
      by (NodeShape.Literal kind spelling) none = after_nothing (literal kind spelling.now) text old (omega arith) refl
      by NodeShape.It none = after_nothing it text old (omega arith) refl
      by (NodeShape.Name asked) none = after_nothing (name asked.now) text old (omega arith) refl
      by (NodeShape.Neg below) none = after_nothing (negation (trees.tree_of below)) text old (omega arith) refl
      by (NodeShape.Not below) none = after_nothing (logical_not (trees.tree_of below)) text old (omega arith) refl
      by (NodeShape.Call asked arguments) none = after_nothing (call asked.now (trees.trees_of arguments)) text old (omega arith) refl

-- ---- a node with a first operand

rest_needs-kept : {N I : Type 0} (trees : PrintedTrees N I) (rest : AfterFirst N I) → rest_needs rest ≡ rest_needs (printed_rest trees rest)
rest_needs-kept trees (AfterFirst.Member asked) = refl
rest_needs-kept trees AfterFirst.Count = refl
rest_needs-kept trees AfterFirst.AnyItem = refl
rest_needs-kept trees (AfterFirst.Lambda quantifier variable body) = refl
rest_needs-kept trees (AfterFirst.Binary operator right) = refl
rest_needs-kept trees (AfterFirst.Has right) = refl
rest_needs-kept trees (AfterFirst.InList items) = refl
rest_needs-kept trees (AfterFirst.InPath path) = refl

module _ {N I : Type 0} (trees : PrintedTrees N I) (there : N) (shape : NodeShape N I) (own : Level) (is : IsShapeOf trees there shape)
    (level : own ≡ shape_level (printed_shape no_nodes shape)) where
  pub joined_here : (first : N) (rest : AfterFirst N I) (text : List ℕ) (old new : List Piece) → shape ≡ NodeShape.Joined first rest
      → new ≡ old ++ (after_first (shape_of (trees.tree_of there)) ∷ operand (rest_needs rest) (trees.tree_of first) ∷ [])
      → (start stop : ℕ) → Writes (operand 0 (node start stop (printed_shape trees (NodeShape.Joined first rest)))) text text old new
  joined_here first rest text old new here pushed start stop =
      let same : shape_of (trees.tree_of there) ≡ printed_shape trees (NodeShape.Joined first rest) = sym is.same ∙ ap (printed_shape trees) here in
      joint_form start stop (printed_rest trees rest) (trees.tree_of first) text old new
      (pushed ∙ (λ k. old ++ (after_first (same k) ∷ operand (rest_needs-kept trees rest k) (trees.tree_of first) ∷ [])))
