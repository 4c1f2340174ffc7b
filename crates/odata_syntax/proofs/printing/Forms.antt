-- What is written of each form, and what of it waits.
use Rattle.std.proofs.Common.{◌≡◌, ◌∙◌, ℕ, zero, suc, ◌+◌, ◌<◌, ◌≤◌, List, [], ◌∷◌, ◌++◌, codes, nat_lt, false, true, refl, sym, subst, ap, append-nil, append_assoc, arith}
use Rattle.std.proofs.lemmas.Bool.Decides.{nat_tests}
use Rattle.std.proofs.lemmas.List.Sums.{sum_by-append}
use Rattle.odata_text.specs.LiteralSpelling.{IsLiteralSpelling}
use Rattle.odata_syntax.specs.declared.node.LiteralKind.{LiteralKind}
use Rattle.odata_syntax.specs.declared.printer.printed_tree.AfterFirst.{AfterFirst}
use Rattle.odata_syntax.specs.declared.printer.printed_tree.NodeShape.{NodeShape}
use Rattle.odata_syntax.specs.LiteralText.{IsAppended}
use Rattle.odata_syntax.specs.CanonicalText.{grouped, shape_level, tree_level, tree_text, trees_text}
use Rattle.odata_syntax.specs.Grammar.{Level, unary_level}
use Rattle.odata_syntax.specs.NormalForm.{literal_token}
use Rattle.odata_syntax.specs.PrintedTree.{IsShapeOf, PrintedTrees, printed_shape}
use Rattle.odata_syntax.specs.Tree.{Shape, Tree, Trees, call, it, literal, logical_not, more_trees, name, negation, no_trees, node, shape_of}
use Rattle.odata_syntax.specs.private.Printer.{ArePieceTexts, AreTextsOf, IsPieceText, IsTextOf, Piece, Writes, further, group_weight, listed, no_nodes, operand, piece_weight, plain, weight}
use Rattle.odata_syntax.specs.private.Weights.{tree_weight, trees_weight}
use Rattle.odata_syntax.proofs.printing.Levels.{tree_level-kept}
use Rattle.odata_syntax.proofs.printing.Stack.{single, ungrouped}

-- the texts of two pieces, of which the second is written first
pub record AreTwo (piece first : Piece) (text : List ℕ) : Type 0 where
  pub front : List ℕ
  pub back : List ℕ
  pub is_front : IsPieceText first front
  pub is_back : IsPieceText piece back
  pub whole : text ≡ front ++ back

pub two : (piece first : Piece) (text : List ℕ) → ArePieceTexts (piece ∷ first ∷ []) text → AreTwo piece first text
two piece first text are = record {
  front = are.front;
  back = are.back;
  is_front = single first are.front are.is_front;
  is_back = are.is_back;
  whole = are.whole;
}

-- ---- a group

not_lower : (a b : ℕ) → b ≤ a → nat_lt a b ≡ false
not_lower a b h = grind (arith, nat_tests)

lower : (a b : ℕ) → a < b → nat_lt a b ≡ true
lower a b h = grind (arith, nat_tests)

in_group : (needed own : Level) (text : List ℕ) → nat_lt own needed ≡ true → grouped needed own text ≡ 40 ∷ (text ++ 41 ∷ [])
in_group needed own text tight = rw tight refl

bare : (needed own : Level) (text : List ℕ) → nat_lt own needed ≡ false → grouped needed own text ≡ text
bare needed own text loose = rw loose refl

weighed : (needed own : Level) → own < needed → group_weight needed ≡ 2
weighed zero own tight = absurd (omega arith)
weighed (suc needed) own tight = refl

group_form : (tree : Tree) (needed : Level) (before after : List ℕ) (old new : List Piece) → tree_level tree < needed
    → after ≡ before ++ 40 ∷ [] → new ≡ old ++ (plain (41 ∷ []) ∷ operand 0 tree ∷ []) → Writes (operand needed tree) before after old new
group_form tree needed before after old new tight written pushed =
    let heavy : group_weight needed ≡ 2 = weighed needed (tree_level tree) tight in
    record {
      pieces = plain (41 ∷ []) ∷ operand 0 tree ∷ [];
      pushed = pushed;
      lighter = omega (arith, heavy);
      text = 40 ∷ [];
      written = written;
      goes_on = λ rest texts.
          let both = two (plain (41 ∷ [])) (operand 0 tree) rest texts in
          let n = both.is_front.normal in
          let own : tree_level n ≡ tree_level tree = tree_level-kept tree n both.is_front.is_normal in
          let inner : both.front ≡ tree_text n = both.is_front.printed ∙ ungrouped n in
          let close : nat_lt (tree_level n) needed ≡ true = ap (λ (l : ℕ). nat_lt l needed) own ∙ lower (tree_level tree) needed tight in
          record {
            normal = n;
            is_normal = both.is_front.is_normal;
            printed =
                ap (λ (t : List ℕ). 40 ∷ t) (both.whole ∙ ap (λ (t : List ℕ). t ++ both.back) inner ∙ ap (λ (t : List ℕ). tree_text n ++ t) both.is_back)
                ∙ sym (in_group needed (tree_level n) (tree_text n) close);
          };
    }

bare_form : (tree : Tree) (needed : Level) (before after : List ℕ) (old new : List Piece) → needed ≤ tree_level tree
    → Writes (operand 0 tree) before after old new → Writes (operand needed tree) before after old new
bare_form tree needed before after old new fits writes = record {
  pieces = writes.pieces;
  pushed = writes.pushed;
  lighter = omega (arith, writes.lighter);
  text = writes.text;
  written = writes.written;
  goes_on = λ rest texts.
      let is = writes.goes_on rest texts in
      let own : tree_level is.normal ≡ tree_level tree = tree_level-kept tree is.normal is.is_normal in
      let loose : nat_lt (tree_level is.normal) needed ≡ false = ap (λ (l : ℕ). nat_lt l needed) own ∙ not_lower (tree_level tree) needed fits in
      record {
        normal = is.normal;
        is_normal = is.is_normal;
        printed = is.printed ∙ ungrouped is.normal ∙ sym (bare needed (tree_level is.normal) (tree_text is.normal) loose);
      };
}

-- the level of a shape does not depend on the trees
own_level : {N I : Type 0} (trees : PrintedTrees N I) (shape : NodeShape N I) → shape_level (printed_shape no_nodes shape) ≡ shape_level (printed_shape trees shape)
own_level trees (NodeShape.Literal kind spelling) = refl
own_level trees NodeShape.It = refl
own_level trees (NodeShape.Name asked) = refl
own_level trees (NodeShape.Neg there) = refl
own_level trees (NodeShape.Not there) = refl
own_level trees (NodeShape.Call asked arguments) = refl
own_level trees (NodeShape.Joined first (AfterFirst.Member asked)) = refl
own_level trees (NodeShape.Joined first AfterFirst.Count) = refl
own_level trees (NodeShape.Joined first AfterFirst.AnyItem) = refl
own_level trees (NodeShape.Joined first (AfterFirst.Lambda quantifier variable body)) = refl
own_level trees (NodeShape.Joined first (AfterFirst.Binary operator right)) = refl
own_level trees (NodeShape.Joined first (AfterFirst.Has right)) = refl
own_level trees (NodeShape.Joined first (AfterFirst.InList items)) = refl
own_level trees (NodeShape.Joined first (AfterFirst.InPath path)) = refl

level_of : (tree : Tree) (shape : Shape) → shape ≡ shape_of tree → tree_level tree ≡ shape_level shape
level_of (node start stop own) shape same = sym (ap shape_level same)

bare_shape_form : (tree : Tree) (shape : Shape) (needed : Level) (before after : List ℕ) (old new : List Piece) → shape ≡ shape_of tree → needed ≤ shape_level shape
    → ((start stop : ℕ) → Writes (operand 0 (node start stop shape)) before after old new) → Writes (operand needed tree) before after old new
bare_shape_form (node start stop own) shape needed before after old new same fits writes =
    bare_form (node start stop own) needed before after old new (subst (λ (s : Shape). needed ≤ shape_level s) same fits)
    (subst (λ (s : Shape). Writes (operand 0 (node start stop s)) before after old new) same (writes start stop))

module _ {N I : Type 0} (trees : PrintedTrees N I) (there : N) (shape : NodeShape N I) (own : Level) (is : IsShapeOf trees there shape)
    (level : own ≡ shape_level (printed_shape no_nodes shape)) where
  own_is : own ≡ shape_level (printed_shape trees shape)
  own_is = level ∙ own_level trees shape

  -- a node that needs parentheses
  pub tight_form : (needed : Level) (before after : List ℕ) (old new : List Piece) → own < needed → after ≡ before ++ 40 ∷ []
      → new ≡ old ++ (plain (41 ∷ []) ∷ operand 0 (trees.tree_of there) ∷ []) → Writes (operand needed (trees.tree_of there)) before after old new
  tight_form needed before after old new tight =
      group_form (trees.tree_of there) needed before after old new
      (subst (λ (l : ℕ). l < needed) (own_is ∙ sym (level_of (trees.tree_of there) (printed_shape trees shape) is.same)) tight)

  -- one of that shape that needs none
  pub loose_form : (shown : NodeShape N I) (needed : Level) (before after : List ℕ) (old new : List Piece) → shape ≡ shown → needed ≤ own
      → ((start stop : ℕ) → Writes (operand 0 (node start stop (printed_shape trees shown))) before after old new)
      → Writes (operand needed (trees.tree_of there)) before after old new
  loose_form shown needed before after old new here fits writes =
      bare_shape_form (trees.tree_of there) (printed_shape trees shape) needed before after old new is.same
      (subst (λ (l : ℕ). needed ≤ l) own_is fits)
      (λ start stop. subst (λ (s : NodeShape N I). Writes (operand 0 (node start stop (printed_shape trees s))) before after old new) (sym here) (writes start stop))

-- ---- a text as it is

pub plain_form : (spelled before after : List ℕ) (old : List Piece) → after ≡ before ++ spelled → Writes (plain spelled) before after old old
plain_form spelled before after old written = record {
  pieces = [];
  pushed = sym (append-nil old);
  lighter = omega arith;
  text = spelled;
  written = written;
  goes_on = λ rest none. ap (λ (t : List ℕ). spelled ++ t) none ∙ append-nil spelled;
}

-- ---- a leaf

leaf_form : (tree : Tree) (text before after : List ℕ) (old : List Piece) → 0 < tree_weight tree → after ≡ before ++ text → IsTextOf tree_text tree text
    → Writes (operand 0 tree) before after old old
leaf_form tree text before after old heavy written is = record {
  pieces = [];
  pushed = sym (append-nil old);
  lighter = omega (arith, heavy);
  text = text;
  written = written;
  goes_on = λ rest none. record {
    normal = is.normal;
    is_normal = is.is_normal;
    printed = ap (λ (t : List ℕ). text ++ t) none ∙ append-nil text ∙ is.printed ∙ sym (ungrouped is.normal);
  };
}

pub literal_form : (start stop : ℕ) (kind : LiteralKind) (spelling before after : List ℕ) (old : List Piece)
    → IsAppended (IsLiteralSpelling (literal_token kind) spelling) before after → Writes (operand 0 (node start stop (literal kind spelling))) before after old old
literal_form start stop kind spelling before after old added =
    leaf_form (node start stop (literal kind spelling)) added.text before after old (omega arith) added.whole
    (record { normal = node start stop (literal kind added.text); is_normal = (literal kind added.text, (added.text, added.is_text, refl), refl); printed = refl })

pub it_form : (start stop : ℕ) (before after : List ℕ) (old : List Piece) → after ≡ before ++ codes "$it" → Writes (operand 0 (node start stop it)) before after old old
it_form start stop before after old written =
    leaf_form (node start stop it) (codes "$it") before after old (omega arith) written
    (record { normal = node start stop it; is_normal = (it, refl, refl); printed = refl })

pub name_form : (start stop : ℕ) (asked before after : List ℕ) (old : List Piece) → after ≡ before ++ asked → Writes (operand 0 (node start stop (name asked))) before after old old
name_form start stop asked before after old written =
    leaf_form (node start stop (name asked)) asked before after old (omega arith) written
    (record { normal = node start stop (name asked); is_normal = (name asked, refl, refl); printed = refl })

-- ---- signs

pub negation_form : (start stop : ℕ) (tree : Tree) (before after : List ℕ) (old new : List Piece) → after ≡ before ++ codes "- "
    → new ≡ old ++ operand unary_level tree ∷ [] → Writes (operand 0 (node start stop (negation tree))) before after old new
negation_form start stop tree before after old new written pushed = record {
  pieces = operand unary_level tree ∷ [];
  pushed = pushed;
  lighter = omega arith;
  text = codes "- ";
  written = written;
  goes_on = λ rest texts.
      let is = single (operand unary_level tree) rest texts in
      record {
        normal = node start stop (negation is.normal);
        is_normal = (negation is.normal, (is.normal, is.is_normal, refl), refl);
        printed = ap (λ (t : List ℕ). codes "- " ++ t) is.printed ∙ sym (ungrouped (node start stop (negation is.normal)));
      };
}

pub not_form : (start stop : ℕ) (tree : Tree) (before after : List ℕ) (old new : List Piece) → after ≡ before ++ codes "not "
    → new ≡ old ++ operand unary_level tree ∷ [] → Writes (operand 0 (node start stop (logical_not tree))) before after old new
not_form start stop tree before after old new written pushed = record {
  pieces = operand unary_level tree ∷ [];
  pushed = pushed;
  lighter = omega arith;
  text = codes "not ";
  written = written;
  goes_on = λ rest texts.
      let is = single (operand unary_level tree) rest texts in
      record {
        normal = node start stop (logical_not is.normal);
        is_normal = (logical_not is.normal, (is.normal, is.is_normal, refl), refl);
        printed = ap (λ (t : List ℕ). codes "not " ++ t) is.printed ∙ sym (ungrouped (node start stop (logical_not is.normal)));
      };
}

-- ---- items

pub closed_weight : (pieces : List Piece) → weight (plain (41 ∷ []) ∷ pieces) ≡ 1 + weight pieces
closed_weight pieces = sum_by-append piece_weight (plain (41 ∷ []) ∷ []) pieces

pub listed_weight : (trees : Trees) → weight (listed trees) < trees_weight trees
listed_weight no_trees = omega arith
listed_weight (more_trees tree trees) = omega arith

listed_texts : (trees : Trees) (text : List ℕ) → ArePieceTexts (listed trees) text → AreTextsOf trees_text trees text
listed_texts no_trees text none = record { normal = no_trees; are_normal = refl; printed = none }
listed_texts (more_trees tree trees) text are =
    let both = two (further trees) (operand 0 tree) text are in
    let first = both.is_front in
    let rest = both.is_back in
    record {
      normal = more_trees first.normal rest.normal;
      are_normal = (first.normal, rest.normal, first.is_normal, rest.are_normal, refl);
      printed =
          both.whole ∙ ap (λ (t : List ℕ). t ++ both.back) (first.printed ∙ ungrouped first.normal)
          ∙ ap (λ (t : List ℕ). tree_text first.normal ++ t) rest.printed;
    }

pub closed_texts : (trees : Trees) (text : List ℕ) → ArePieceTexts (plain (41 ∷ []) ∷ listed trees) text → AreTextsOf (λ ts. trees_text ts ++ 41 ∷ []) trees text
closed_texts trees text are =
    let inner = listed_texts trees are.front are.is_front in
    record {
      normal = inner.normal;
      are_normal = inner.are_normal;
      printed = are.whole ∙ ap (λ (t : List ℕ). t ++ are.back) inner.printed ∙ ap (λ (t : List ℕ). trees_text inner.normal ++ t) are.is_back;
    }

pub none_further : (before : List ℕ) (old : List Piece) → Writes (further no_trees) before before old old
none_further before old = record {
  pieces = [];
  pushed = sym (append-nil old);
  lighter = omega arith;
  text = [];
  written = sym (append-nil before);
  goes_on = λ rest none. record { normal = no_trees; are_normal = refl; printed = none };
}

pub further_form : (tree : Tree) (trees : Trees) (before after : List ℕ) (old new : List Piece) → after ≡ before ++ 44 ∷ []
    → new ≡ old ++ listed (more_trees tree trees) → Writes (further (more_trees tree trees)) before after old new
further_form tree trees before after old new written pushed = record {
  pieces = listed (more_trees tree trees);
  pushed = pushed;
  lighter = listed_weight (more_trees tree trees);
  text = 44 ∷ [];
  written = written;
  goes_on = λ rest texts.
      let both = two (further trees) (operand 0 tree) rest texts in
      let first = both.is_front in
      let others = both.is_back in
      record {
        normal = more_trees first.normal others.normal;
        are_normal = (first.normal, others.normal, first.is_normal, others.are_normal, refl);
        printed = ap (λ (t : List ℕ). 44 ∷ t)
            (both.whole ∙ ap (λ (t : List ℕ). t ++ both.back) (first.printed ∙ ungrouped first.normal)
            ∙ ap (λ (t : List ℕ). tree_text first.normal ++ t) others.printed);
      };
}

pub call_form : (start stop : ℕ) (asked : List ℕ) (arguments : Trees) (before between_texts after : List ℕ) (old new : List Piece)
    → between_texts ≡ before ++ asked → after ≡ between_texts ++ 40 ∷ [] → new ≡ old ++ (plain (41 ∷ []) ∷ listed arguments)
    → Writes (operand 0 (node start stop (call asked arguments))) before after old new
call_form start stop asked arguments before between_texts after old new named opened pushed =
    let light : weight (listed arguments) < trees_weight arguments = listed_weight arguments in
    record {
      pieces = plain (41 ∷ []) ∷ listed arguments;
      pushed = pushed;
      lighter = omega (arith, light, closed_weight (listed arguments));
      text = asked ++ 40 ∷ [];
      written = opened ∙ ap (λ (t : List ℕ). t ++ 40 ∷ []) named ∙ append_assoc before asked (40 ∷ []);
      goes_on = λ rest texts.
          let are = closed_texts arguments rest texts in
          record {
            normal = node start stop (call asked are.normal);
            is_normal = (call asked are.normal, (are.normal, are.are_normal, refl), refl);
            printed = append_assoc asked (40 ∷ []) rest ∙ ap (λ (t : List ℕ). asked ++ (40 ∷ t)) are.printed;
          };
    }
