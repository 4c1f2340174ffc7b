-- The normal form of a tree: which spellings and positions it forgets (OData ABNF 4.01, section 7).
use Rattle.std.specs.Prelude.{◌≡◌, List, ℕ}
use Rattle.odata_text.specs.LiteralSpelling.{IsLiteralSpelling}
use Rattle.odata_text.specs.declared.token.TokenKind.{TokenKind}
use Rattle.odata_syntax.specs.declared.node.LiteralKind.{LiteralKind}
use Rattle.odata_syntax.specs.Tree.{Shape, Tree, Trees, any_item, binary, call, count, has, in_list, in_path, it, lambda, literal, logical_not, member, more_trees, name, negation, no_trees, node}

-- the kind of token that a literal is
abbrev pub literal_token : LiteralKind → TokenKind
literal_token LiteralKind.Null = TokenKind.Word
literal_token LiteralKind.Bool = TokenKind.Word
literal_token LiteralKind.Int = TokenKind.Int
literal_token LiteralKind.Date = TokenKind.Date
literal_token LiteralKind.Moment = TokenKind.Moment
literal_token LiteralKind.Guid = TokenKind.Guid
literal_token LiteralKind.Str = TokenKind.Str
literal_token LiteralKind.EnumLit = TokenKind.EnumLit

-- the second is the first with each literal in its canonical spelling, and all positions kept
abbrev mutual
  pub IsNormalForm : Tree → Tree → Type 0
  IsNormalForm (node start stop shape) normal =
      (other : Shape) × IsNormalShape shape other × (normal ≡ node start stop other)

  pub IsNormalShape : Shape → Shape → Type 0
  IsNormalShape (literal kind text) other =
      (spelling : List ℕ) × IsLiteralSpelling (literal_token kind) text spelling × (other ≡ literal kind spelling)
  IsNormalShape it other = other ≡ it
  IsNormalShape (name text) other = other ≡ name text
  IsNormalShape (member base text) other = (b : Tree) × IsNormalForm base b × (other ≡ member b text)
  IsNormalShape (count base) other = (b : Tree) × IsNormalForm base b × (other ≡ count b)
  IsNormalShape (negation operand) other = (o : Tree) × IsNormalForm operand o × (other ≡ negation o)
  IsNormalShape (logical_not operand) other = (o : Tree) × IsNormalForm operand o × (other ≡ logical_not o)
  IsNormalShape (binary operator left right) other =
      (l : Tree) × (r : Tree) × IsNormalForm left l × IsNormalForm right r × (other ≡ binary operator l r)
  IsNormalShape (has left right) other =
      (l : Tree) × (r : Tree) × IsNormalForm left l × IsNormalForm right r × (other ≡ has l r)
  IsNormalShape (in_list left items) other =
      (l : Tree) × (is : Trees) × IsNormalForm left l × AreNormalForms items is × (other ≡ in_list l is)
  IsNormalShape (in_path left path) other =
      (l : Tree) × (p : Tree) × IsNormalForm left l × IsNormalForm path p × (other ≡ in_path l p)
  IsNormalShape (call text arguments) other =
      (is : Trees) × AreNormalForms arguments is × (other ≡ call text is)
  IsNormalShape (any_item base) other = (b : Tree) × IsNormalForm base b × (other ≡ any_item b)
  IsNormalShape (lambda quantifier base variable body) other =
      (b : Tree) × (e : Tree) × IsNormalForm base b × IsNormalForm body e × (other ≡ lambda quantifier b variable e)

  pub AreNormalForms : Trees → Trees → Type 0
  AreNormalForms no_trees others = others ≡ no_trees
  AreNormalForms (more_trees tree trees) others =
      (t : Tree) × (ts : Trees) × IsNormalForm tree t × AreNormalForms trees ts × (others ≡ more_trees t ts)

-- a tree without its positions
abbrev mutual
  pub bare : Tree → Tree
  bare (node start stop shape) = node 0 0 (bare_shape shape)

  pub bare_shape : Shape → Shape
  bare_shape (literal kind text) = literal kind text
  bare_shape it = it
  bare_shape (name text) = name text
  bare_shape (member base text) = member (bare base) text
  bare_shape (count base) = count (bare base)
  bare_shape (negation operand) = negation (bare operand)
  bare_shape (logical_not operand) = logical_not (bare operand)
  bare_shape (binary operator left right) = binary operator (bare left) (bare right)
  bare_shape (has left right) = has (bare left) (bare right)
  bare_shape (in_list left items) = in_list (bare left) (bare_trees items)
  bare_shape (in_path left path) = in_path (bare left) (bare path)
  bare_shape (call text arguments) = call text (bare_trees arguments)
  bare_shape (any_item base) = any_item (bare base)
  bare_shape (lambda quantifier base variable body) = lambda quantifier (bare base) variable (bare body)

  pub bare_trees : Trees → Trees
  bare_trees no_trees = no_trees
  bare_trees (more_trees tree trees) = more_trees (bare tree) (bare_trees trees)
