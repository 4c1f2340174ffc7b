-- Which tree the grammar derives from which tokens (OData URL Conventions 4.01, 5.1.1; OData ABNF 4.01, section 4).
use Rattle.std.specs.Prelude.{ℕ, suc, List, [], ◌∷◌, ◌++◌, codes}
use Rattle.std.specs.Str.{str_to_ascii_lowercase}
use Rattle.odata_syntax.specs.declared.binary_operator.BinaryOperator.{BinaryOperator}
use Rattle.odata_syntax.specs.declared.binary_operator.LogicalOperator.{LogicalOperator}
use Rattle.odata_syntax.specs.declared.binary_operator.ComparisonOperator.{ComparisonOperator}
use Rattle.odata_syntax.specs.declared.binary_operator.ArithmeticOperator.{ArithmeticOperator}
use Rattle.odata_syntax.specs.declared.node.LiteralKind.{LiteralKind}
use Rattle.odata_syntax.specs.declared.node.Quantifier.{Quantifier}
use Rattle.odata_text.specs.declared.token.TokenKind.{TokenKind}
use Rattle.odata_text.specs.TokenModel.{TokenModel}
use Rattle.odata_syntax.specs.Tree.{Shape, Tree, Trees, any_item, binary, call, count, has, in_list, in_path, it, lambda, literal, logical_not, member, more_trees, name, negation, no_trees, node, shape_of, start_of, stop_of}
use Rattle.odata_syntax.specs.Lexeme.{IsA, IsLiteral, IsName, IsOperator, IsQuantifier, IsVariable, SpellsDollar, SpellsWord}

-- how tightly a form binds, the loosest first (URL Conventions 4.01, 5.1.1.17, operator precedence)
abbrev pub Level : Type 0
Level = ℕ

-- a whole expression
abbrev pub or_level : Level
or_level = 1

abbrev pub and_level : Level
and_level = 2

-- `eq` and `ne`
abbrev pub eq_level : Level
eq_level = 3

-- `gt`, `ge`, `lt` and `le`
abbrev pub relational_level : Level
relational_level = 4

-- `add` and `sub`
abbrev pub additive_level : Level
additive_level = 5

-- `mul`, `div` and `mod`
abbrev pub multiplicative_level : Level
multiplicative_level = 6

-- `-` and `not`
abbrev pub unary_level : Level
unary_level = 7

-- `has` and `in`
abbrev pub primary_level : Level
primary_level = 8

-- an operand without operators: a literal, a path, a call, an expression in parentheses
abbrev pub base_level : Level
base_level = 9

-- a path
abbrev pub path_level : Level
path_level = 10

-- a path that may go on: no `$count`, no lambda operator
abbrev pub open_path_level : Level
open_path_level = 11

-- the level of an operator's form
abbrev pub operator_level : BinaryOperator → Level
operator_level (BinaryOperator.Logical LogicalOperator.Or) = or_level
operator_level (BinaryOperator.Logical LogicalOperator.And) = and_level
operator_level (BinaryOperator.Comparison ComparisonOperator.Eq) = eq_level
operator_level (BinaryOperator.Comparison ComparisonOperator.Ne) = eq_level
operator_level (BinaryOperator.Comparison ComparisonOperator.Gt) = relational_level
operator_level (BinaryOperator.Comparison ComparisonOperator.Ge) = relational_level
operator_level (BinaryOperator.Comparison ComparisonOperator.Lt) = relational_level
operator_level (BinaryOperator.Comparison ComparisonOperator.Le) = relational_level
operator_level (BinaryOperator.Arithmetic ArithmeticOperator.Add) = additive_level
operator_level (BinaryOperator.Arithmetic ArithmeticOperator.Sub) = additive_level
operator_level (BinaryOperator.Arithmetic ArithmeticOperator.Mul) = multiplicative_level
operator_level (BinaryOperator.Arithmetic ArithmeticOperator.Div) = multiplicative_level
operator_level (BinaryOperator.Arithmetic ArithmeticOperator.Mod) = multiplicative_level

-- a tree of one token
abbrev pub token_tree : TokenModel → Shape → Tree
token_tree t shape = node t.start t.stop shape

-- an operator between two trees, from the start of the first to the stop of the second
abbrev pub binary_tree : BinaryOperator → Tree → Tree → Tree
binary_tree operator left right = node (start_of left) (stop_of right) (binary operator left right)

abbrev pub has_tree : Tree → Tree → Tree
has_tree left right = node (start_of left) (stop_of right) (has left right)

abbrev pub in_path_tree : Tree → Tree → Tree
in_path_tree left path = node (start_of left) (stop_of path) (in_path left path)

-- a sign from its token to the stop of its operand
abbrev pub negation_tree : TokenModel → Tree → Tree
negation_tree sign operand = node sign.start (stop_of operand) (negation operand)

abbrev pub not_tree : TokenModel → Tree → Tree
not_tree sign operand = node sign.start (stop_of operand) (logical_not operand)

-- from the start of a tree to the stop of a last token
abbrev pub tree_to : Tree → TokenModel → Shape → Tree
tree_to first last shape = node (start_of first) last.stop shape

-- from a first token to a last
abbrev pub tree_between : TokenModel → TokenModel → Shape → Tree
tree_between first last shape = node first.start last.stop shape

-- the name of a function in ASCII lower case
abbrev pub function_name : TokenModel → List ℕ
function_name t = str_to_ascii_lowercase t.text

mutual
  -- at this level, these tokens are this tree
  pub data Derives : Level → List TokenModel → Tree → Type 0 where
    -- a form of the next level
    looser :
        {level : Level} {ts : List TokenModel} {tree : Tree}
        → Derives (suc level) ts tree
        → Derives level ts tree
    -- an operator, whose own form may stand again to its left alone
    derives_binary :
        {operator : BinaryOperator} {ls rs : List TokenModel} {t : TokenModel} {left right : Tree}
        → Derives (operator_level operator) ls left
        → IsOperator operator t
        → Derives (suc (operator_level operator)) rs right
        → Derives (operator_level operator) (ls ++ (t ∷ rs)) (binary_tree operator left right)
    -- `-` and `not`, whose own form may stand again after them
    derives_negation :
        {t : TokenModel} {ts : List TokenModel} {operand : Tree}
        → IsA TokenKind.Minus t
        → Derives unary_level ts operand
        → Derives unary_level (t ∷ ts) (negation_tree t operand)
    derives_not :
        {t : TokenModel} {ts : List TokenModel} {operand : Tree}
        → SpellsWord (codes "not") t
        → Derives unary_level ts operand
        → Derives unary_level (t ∷ ts) (not_tree t operand)
    -- `has` before an operand without operators
    derives_has :
        {ls rs : List TokenModel} {t : TokenModel} {left right : Tree}
        → Derives primary_level ls left
        → SpellsWord (codes "has") t
        → Derives base_level rs right
        → Derives primary_level (ls ++ (t ∷ rs)) (has_tree left right)
    -- `in` before a list in parentheses, and before a path
    derives_in_list :
        {ls is : List TokenModel} {t first last : TokenModel} {left : Tree} {items : Trees}
        → Derives primary_level ls left
        → SpellsWord (codes "in") t
        → IsA TokenKind.Open first
        → DerivesItems is items
        → IsA TokenKind.Close last
        → Derives primary_level (ls ++ (t ∷ first ∷ (is ++ (last ∷ [])))) (tree_to left last (in_list left items))
    derives_in_path :
        {ls rs : List TokenModel} {t : TokenModel} {left path : Tree}
        → Derives primary_level ls left
        → SpellsWord (codes "in") t
        → Derives path_level rs path
        → Derives primary_level (ls ++ (t ∷ rs)) (in_path_tree left path)
    -- one token that is a literal
    derives_literal :
        {kind : LiteralKind} {t : TokenModel}
        → IsLiteral kind t
        → Derives base_level (t ∷ []) (token_tree t (literal kind t.text))
    -- a function's name and its arguments in parentheses
    derives_call :
        {is : List TokenModel} {t first last : TokenModel} {arguments : Trees}
        → IsName t
        → IsA TokenKind.Open first
        → DerivesItems is arguments
        → IsA TokenKind.Close last
        → Derives base_level (t ∷ first ∷ (is ++ (last ∷ []))) (tree_between t last (call (function_name t) arguments))
    -- an expression in parentheses: the same form, which takes them in
    derives_group :
        {ts : List TokenModel} {first last : TokenModel} {tree : Tree}
        → IsA TokenKind.Open first
        → Derives or_level ts tree
        → IsA TokenKind.Close last
        → Derives base_level (first ∷ (ts ++ (last ∷ []))) (tree_between first last (shape_of tree))
    -- `/$count`, `/any()`, and `/any(v:..)` or `/all(v:..)` end a path
    derives_count :
        {bs : List TokenModel} {slash t : TokenModel} {base : Tree}
        → Derives open_path_level bs base
        → IsA TokenKind.Slash slash
        → SpellsDollar (codes "$count") t
        → Derives path_level (bs ++ (slash ∷ t ∷ [])) (tree_to base t (count base))
    derives_any_item :
        {bs : List TokenModel} {slash t first last : TokenModel} {base : Tree}
        → Derives open_path_level bs base
        → IsA TokenKind.Slash slash
        → IsQuantifier Quantifier.Any t
        → IsA TokenKind.Open first
        → IsA TokenKind.Close last
        → Derives path_level (bs ++ (slash ∷ t ∷ first ∷ last ∷ [])) (tree_to base last (any_item base))
    derives_lambda :
        {quantifier : Quantifier} {bs ts : List TokenModel} {slash t first variable colon last : TokenModel}
        {base body : Tree}
        → Derives open_path_level bs base
        → IsA TokenKind.Slash slash
        → IsQuantifier quantifier t
        → IsA TokenKind.Open first
        → IsVariable variable
        → IsA TokenKind.Colon colon
        → Derives or_level ts body
        → IsA TokenKind.Close last
        → Derives path_level
        (bs ++ (slash ∷ t ∷ first ∷ variable ∷ colon ∷ (ts ++ (last ∷ []))))
        (tree_to base last (lambda quantifier base variable.text body))
    -- `$it` or a name begins a path
    derives_it :
        {t : TokenModel}
        → SpellsDollar (codes "$it") t
        → Derives open_path_level (t ∷ []) (token_tree t it)
    derives_name :
        {t : TokenModel}
        → IsName t
        → Derives open_path_level (t ∷ []) (token_tree t (name t.text))
    -- and any word after a `/` goes on with it
    derives_member :
        {bs : List TokenModel} {slash t : TokenModel} {base : Tree}
        → Derives open_path_level bs base
        → IsA TokenKind.Slash slash
        → IsA TokenKind.Word t
        → Derives open_path_level (bs ++ (slash ∷ t ∷ [])) (tree_to base t (member base t.text))

  -- expressions with commas between them, or none
  pub data DerivesItems : List TokenModel → Trees → Type 0 where
    no_items : DerivesItems [] no_trees
    some_items :
        {ts rs : List TokenModel} {tree : Tree} {rest : Trees}
        → Derives or_level ts tree
        → DerivesFurther rs rest
        → DerivesItems (ts ++ rs) (more_trees tree rest)

  -- any number of further ones, each after a comma
  pub data DerivesFurther : List TokenModel → Trees → Type 0 where
    no_further : DerivesFurther [] no_trees
    one_further :
        {comma : TokenModel} {ts rs : List TokenModel} {tree : Tree} {rest : Trees}
        → IsA TokenKind.Comma comma
        → Derives or_level ts tree
        → DerivesFurther rs rest
        → DerivesFurther (comma ∷ (ts ++ rs)) (more_trees tree rest)
