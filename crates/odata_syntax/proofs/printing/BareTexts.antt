-- A tree's text does not depend on its places.
use Rattle.std.proofs.Common.{◌≡◌, suc, [], ◌∷◌, ◌++◌, codes, refl, sym, ◌∙◌, ap}
use Rattle.odata_syntax.specs.CanonicalText.{further_text, grouped, shape_level, shape_text, tree_level, tree_text, trees_text}
use Rattle.odata_syntax.specs.Grammar.{base_level, operator_level, path_level, primary_level, unary_level}
use Rattle.odata_syntax.specs.Lexeme.{operator_word, quantifier_word}
use Rattle.odata_syntax.specs.NormalForm.{bare, bare_shape, bare_trees}
use Rattle.odata_syntax.specs.Tree.{Shape, Tree, Trees, any_item, binary, call, count, has, in_list, in_path, it, lambda, literal, logical_not, member, more_trees, name, negation, no_trees, node}

shape_level-bare : (shape : Shape) → shape_level (bare_shape shape) ≡ shape_level shape
shape_level-bare (literal kind text) = refl
shape_level-bare it = refl
shape_level-bare (name text) = refl
shape_level-bare (member base text) = refl
shape_level-bare (count base) = refl
shape_level-bare (negation operand) = refl
shape_level-bare (logical_not operand) = refl
shape_level-bare (binary operator left right) = refl
shape_level-bare (has left right) = refl
shape_level-bare (in_list left items) = refl
shape_level-bare (in_path left path) = refl
shape_level-bare (call text arguments) = refl
shape_level-bare (any_item base) = refl
shape_level-bare (lambda quantifier base variable body) = refl

tree_level-bare : (tree : Tree) → tree_level (bare tree) ≡ tree_level tree
tree_level-bare (node start stop shape) = shape_level-bare shape

mutual
  pub text-bare : (tree : Tree) → tree_text (bare tree) ≡ tree_text tree
  text-bare (node start stop shape) = shape_text-bare shape

  shape_text-bare : (shape : Shape) → shape_text (bare_shape shape) ≡ shape_text shape
  shape_text-bare (literal kind text) = refl
  shape_text-bare it = refl
  shape_text-bare (name text) = refl
  shape_text-bare (member base text) = λ i. text-bare base i ++ 47 ∷ text
  shape_text-bare (count base) = λ i. text-bare base i ++ 47 ∷ codes "$count"
  shape_text-bare (negation operand) = λ i. codes "- " ++ grouped unary_level (tree_level-bare operand i) (text-bare operand i)
  shape_text-bare (logical_not operand) = λ i. codes "not " ++ grouped unary_level (tree_level-bare operand i) (text-bare operand i)
  shape_text-bare (binary operator left right) = λ i.
      grouped (operator_level operator) (tree_level-bare left i) (text-bare left i)
      ++ (32 ∷ (operator_word operator ++ (32 ∷ grouped (suc (operator_level operator)) (tree_level-bare right i) (text-bare right i))))
  shape_text-bare (has left right) = λ i.
      grouped primary_level (tree_level-bare left i) (text-bare left i)
      ++ (32 ∷ (codes "has" ++ (32 ∷ grouped base_level (tree_level-bare right i) (text-bare right i))))
  shape_text-bare (in_list left items) = λ i.
      grouped primary_level (tree_level-bare left i) (text-bare left i) ++ (codes " in " ++ (40 ∷ (trees_text-bare items i ++ 41 ∷ [])))
  shape_text-bare (in_path left path) = λ i.
      grouped primary_level (tree_level-bare left i) (text-bare left i)
      ++ (32 ∷ (codes "in" ++ (32 ∷ grouped path_level (tree_level-bare path i) (text-bare path i))))
  shape_text-bare (call text arguments) = λ i. text ++ (40 ∷ (trees_text-bare arguments i ++ 41 ∷ []))
  shape_text-bare (any_item base) = λ i. text-bare base i ++ 47 ∷ codes "any()"
  shape_text-bare (lambda quantifier base variable body) = λ i.
      text-bare base i ++ (47 ∷ (quantifier_word quantifier ++ (40 ∷ (variable ++ (58 ∷ (text-bare body i ++ 41 ∷ []))))))

  trees_text-bare : (trees : Trees) → trees_text (bare_trees trees) ≡ trees_text trees
  trees_text-bare no_trees = refl
  trees_text-bare (more_trees tree trees) = λ i. text-bare tree i ++ further_text-bare trees i

  further_text-bare : (trees : Trees) → further_text (bare_trees trees) ≡ further_text trees
  further_text-bare no_trees = refl
  further_text-bare (more_trees tree trees) = λ i. 44 ∷ (text-bare tree i ++ further_text-bare trees i)

-- trees that are one without their positions have one text
pub same-text : (a b : Tree) → bare a ≡ bare b → tree_text a ≡ tree_text b
same-text a b same = sym (text-bare a) ∙ ap tree_text same ∙ text-bare b
