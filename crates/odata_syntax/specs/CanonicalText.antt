-- The text that a tree is printed as (OData URL Conventions 4.01, section 5.1.1; OData ABNF 4.01, section 4).
use Rattle.std.specs.Prelude.{◌≡◌, ℕ, suc, nat_lt, if◌then◌else◌, List, [], ◌∷◌, ◌++◌, codes}
use Rattle.odata_syntax.specs.Tree.{Shape, Tree, Trees, any_item, binary, call, count, has, in_list, in_path, it, lambda, literal, logical_not, member, more_trees, name, negation, no_trees, node}
use Rattle.odata_syntax.specs.Grammar.{Level, base_level, open_path_level, operator_level, path_level, primary_level, unary_level}
use Rattle.odata_syntax.specs.Lexeme.{operator_word, quantifier_word}
use Rattle.odata_syntax.specs.NormalForm.{IsNormalForm}

-- the tightest level at which a shape stands without parentheses
abbrev pub shape_level : Shape → Level
shape_level (literal kind text) = base_level
shape_level it = open_path_level
shape_level (name text) = open_path_level
shape_level (member base text) = open_path_level
shape_level (count base) = path_level
shape_level (negation operand) = unary_level
shape_level (logical_not operand) = unary_level
shape_level (binary operator left right) = operator_level operator
shape_level (has left right) = primary_level
shape_level (in_list left items) = primary_level
shape_level (in_path left path) = primary_level
shape_level (call text arguments) = base_level
shape_level (any_item base) = path_level
shape_level (lambda quantifier base variable body) = path_level

abbrev pub tree_level : Tree → Level
tree_level (node start stop shape) = shape_level shape

-- in parentheses (40 and 41) where its own level is below the one that its position needs
abbrev pub grouped : Level → Level → List ℕ → List ℕ
grouped needed own text = if nat_lt own needed then 40 ∷ (text ++ 41 ∷ []) else text

-- one space (32) stands on each side of a word between operands and after `-` and `not`, nothing round `,` (44), `/`
-- (47) and `:` (58); names and literals as they are
abbrev mutual
  pub tree_text : Tree → List ℕ
  tree_text (node start stop shape) = shape_text shape

  pub shape_text : Shape → List ℕ
  shape_text (literal kind text) = text
  shape_text it = codes "$it"
  shape_text (name text) = text
  shape_text (member base text) = tree_text base ++ 47 ∷ text
  shape_text (count base) = tree_text base ++ 47 ∷ codes "$count"
  shape_text (negation operand) = codes "- " ++ grouped unary_level (tree_level operand) (tree_text operand)
  shape_text (logical_not operand) = codes "not " ++ grouped unary_level (tree_level operand) (tree_text operand)
  shape_text (binary operator left right) =
      grouped (operator_level operator) (tree_level left) (tree_text left)
      ++ (32 ∷ (operator_word operator
      ++ (32 ∷ grouped (suc (operator_level operator)) (tree_level right) (tree_text right))))
  shape_text (has left right) =
      grouped primary_level (tree_level left) (tree_text left)
      ++ (32 ∷ (codes "has" ++ (32 ∷ grouped base_level (tree_level right) (tree_text right))))
  shape_text (in_list left items) =
      grouped primary_level (tree_level left) (tree_text left) ++ (codes " in " ++ (40 ∷ (trees_text items ++ 41 ∷ [])))
  shape_text (in_path left path) =
      grouped primary_level (tree_level left) (tree_text left)
      ++ (32 ∷ (codes "in" ++ (32 ∷ grouped path_level (tree_level path) (tree_text path))))
  shape_text (call text arguments) = text ++ (40 ∷ (trees_text arguments ++ 41 ∷ []))
  shape_text (any_item base) = tree_text base ++ 47 ∷ codes "any()"
  shape_text (lambda quantifier base variable body) =
      tree_text base
      ++ (47 ∷ (quantifier_word quantifier ++ (40 ∷ (variable ++ (58 ∷ (tree_text body ++ 41 ∷ []))))))

  pub trees_text : Trees → List ℕ
  trees_text no_trees = []
  trees_text (more_trees tree trees) = tree_text tree ++ further_text trees

  pub further_text : Trees → List ℕ
  further_text no_trees = []
  further_text (more_trees tree trees) = 44 ∷ (tree_text tree ++ further_text trees)

-- the text of a tree's normal form
pub record IsCanonicalText (tree : Tree) (text : List ℕ) : Type 0 where
  pub normal : Tree
  pub is_normal : IsNormalForm tree normal
  pub printed : text ≡ tree_text normal
