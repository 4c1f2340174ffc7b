-- What the printer still has to write. For private clauses.
use Rattle.std.specs.Prelude.{◌≡◌, ℕ, zero, suc, ◌+◌, ◌<◌, List, [], ◌∷◌, ◌++◌, IfNone, Option, codes, sum_by}
use Rattle.std.specs.List.{AllByRecursion}
use Rattle.std.specs.Option.{option_to_list}
use Rattle.odata_syntax.specs.CanonicalText.{further_text, grouped, tree_level, tree_text, trees_text}
use Rattle.odata_syntax.specs.Grammar.{Level, base_level, operator_level, path_level, primary_level, unary_level}
use Rattle.odata_syntax.specs.Lexeme.{operator_word, quantifier_word}
use Rattle.odata_syntax.specs.NormalForm.{AreNormalForms, IsNormalForm}
use Rattle.odata_syntax.specs.PrintedTree.{PrintedTrees}
use Rattle.odata_syntax.specs.Tree.{Shape, Tree, Trees, any_item, binary, count, has, in_list, in_path, it, lambda, member, more_trees, no_trees, node, shape_of}
use Rattle.odata_syntax.specs.private.Weights.{tree_weight, trees_weight}
use Rattle.odata_syntax.specs.declared.printer.PrintTask.{PrintTask}
use Rattle.odata_syntax.specs.declared.printer.PrintTask.TheVariants.{Close, Further, Joint, Operand}
use Rattle.odata_syntax.specs.declared.printer.printed_tree.AfterFirst.{AfterFirst}
use Rattle.odata_syntax.specs.declared.printer.printed_tree.NodeShape.{NodeShape}

-- nodes without their trees
abbrev pub no_nodes : {N I : Type 0} → PrintedTrees N I
no_nodes =
    record {
      tree_of = λ there. node 0 0 it;
      trees_of = λ those. no_trees;
      HasTree = λ there. Unit {0};
      HaveTrees = λ those. Unit {0};
    }

-- what is still to be written: some text as it is, further items each after a comma, an operand whose position needs a
-- level, and what a form has after its first operand
pub data Piece : Type 0 where
  plain : List ℕ → Piece
  further : Trees → Piece
  operand : Level → Tree → Piece
  after_first : Shape → Piece

-- a text is a function of the normal form of a tree
pub record IsTextOf (text_of : Tree → List ℕ) (tree : Tree) (text : List ℕ) : Type 0 where
  pub normal : Tree
  pub is_normal : IsNormalForm tree normal
  pub printed : text ≡ text_of normal

-- and of trees
pub record AreTextsOf (text_of : Trees → List ℕ) (trees : Trees) (text : List ℕ) : Type 0 where
  pub normal : Trees
  pub are_normal : AreNormalForms trees normal
  pub printed : text ≡ text_of normal

-- the canonical text of an operand, in parentheses where its position needs them
abbrev pub operand_text : Level → Tree → List ℕ
operand_text needed tree = grouped needed (tree_level tree) (tree_text tree)

-- a word between spaces (32)
abbrev pub spaced : List ℕ → List ℕ
spaced word = 32 ∷ (word ++ 32 ∷ [])

-- the same, and the operand after it
abbrev pub right_text : List ℕ → Level → Tree → List ℕ
right_text word needed tree = 32 ∷ (word ++ (32 ∷ operand_text needed tree))

-- a variable with its colon (58) and a body, up to the parenthesis (41) that ends it
abbrev pub body_text : List ℕ → Tree → List ℕ
body_text variable tree = variable ++ (58 ∷ (tree_text tree ++ 41 ∷ []))

-- what a form has after its first operand; nothing where it has none
abbrev pub IsAfterFirst : Shape → List ℕ → Type 0
IsAfterFirst (member base asked) text = text ≡ 47 ∷ asked
IsAfterFirst (count base) text = text ≡ codes "/$count"
IsAfterFirst (any_item base) text = text ≡ codes "/any()"
IsAfterFirst (binary operator left right) text =
    IsTextOf (right_text (operator_word operator) (suc (operator_level operator))) right text
IsAfterFirst (has left right) text = IsTextOf (right_text (codes "has") base_level) right text
IsAfterFirst (in_path left path) text = IsTextOf (right_text (codes "in") path_level) path text
IsAfterFirst (in_list left items) text = AreTextsOf (λ ts. codes " in (" ++ (trees_text ts ++ 41 ∷ [])) items text
IsAfterFirst (lambda quantifier base variable body) text =
    IsTextOf (λ t. 47 ∷ (quantifier_word quantifier ++ (40 ∷ body_text variable t))) body text
IsAfterFirst _ text = text ≡ []

-- the text of a piece
abbrev pub IsPieceText : Piece → List ℕ → Type 0
IsPieceText (plain spelled) text = text ≡ spelled
IsPieceText (further trees) text = AreTextsOf further_text trees text
IsPieceText (operand level tree) text = IsTextOf (operand_text level) tree text
IsPieceText (after_first shape) text = IsAfterFirst shape text

-- the text of pieces of which the last is written first
pub record IsFrontOf (Front Back : List ℕ → Type 0) (text : List ℕ) : Type 0 where
  pub front : List ℕ
  pub back : List ℕ
  pub is_front : Front front
  pub is_back : Back back
  pub whole : text ≡ front ++ back

abbrev pub ArePieceTexts : List Piece → List ℕ → Type 0
ArePieceTexts [] text = text ≡ []
ArePieceTexts (piece ∷ pieces) text = IsFrontOf (λ front. ArePieceTexts pieces front) (IsPieceText piece) text

-- what a task stands for
abbrev pub piece_of : {N I : Type 0} → PrintedTrees N I → PrintTask N I → Piece
piece_of trees (Operand there needed) = operand needed (trees.tree_of there)
piece_of trees (Joint there) = after_first (shape_of (trees.tree_of there))
piece_of trees (Further those) = further (trees.trees_of those)
piece_of trees Close = plain (41 ∷ [])

-- the node or the items of a task have trees
abbrev pub HasTrees : {N I : Type 0} → PrintedTrees N I → PrintTask N I → Type 0
HasTrees trees (Operand there needed) = trees.HasTree there
HasTrees trees (Joint there) = trees.HasTree there
HasTrees trees (Further those) = trees.HaveTrees those
HasTrees trees Close = Unit {0}

abbrev pub AllHaveTrees : {N I : Type 0} → PrintedTrees N I → List (PrintTask N I) → Type 0
AllHaveTrees trees tasks = AllByRecursion (HasTrees trees) tasks

-- the tasks on the stack, and above them the one that is next, if there is one
abbrev pub waiting : {X : Type 0} → List X → Option X → List X
waiting tasks next = tasks ++ option_to_list next

-- all of them have trees; where none is next, none is left
pub record IsReady {N I : Type 0} (trees : PrintedTrees N I) (tasks : List (PrintTask N I)) (next : Option (PrintTask N I)) : Type 0 where
  pub have : AllHaveTrees trees (waiting tasks next)
  pub none : IfNone next (tasks ≡ [])

-- the level that the first operand of a node needs
abbrev pub rest_needs : {N I : Type 0} → AfterFirst N I → Level
rest_needs (AfterFirst.Binary operator right) = operator_level operator
rest_needs (AfterFirst.Has right) = primary_level
rest_needs (AfterFirst.InList items) = primary_level
rest_needs (AfterFirst.InPath path) = primary_level
rest_needs _ = 0

abbrev pub first_needs : {N I : Type 0} → NodeShape N I → Level
first_needs (NodeShape.Neg there) = unary_level
first_needs (NodeShape.Not there) = unary_level
first_needs (NodeShape.Joined first rest) = rest_needs rest
first_needs _ = 0

-- items on the stack, the first one last
abbrev pub listed : Trees → List Piece
listed no_trees = []
listed (more_trees tree trees) = further trees ∷ (operand 0 tree ∷ [])

-- how much there is to write of what a form has after its first operand
abbrev pub after_weight : Shape → ℕ
after_weight (binary operator left right) = tree_weight right + 3
after_weight (has left right) = tree_weight right + 3
after_weight (in_list left items) = trees_weight items + 3
after_weight (in_path left path) = tree_weight path + 3
after_weight (lambda quantifier base variable body) = tree_weight body + 3
after_weight _ = 1

-- an operand in parentheses counts two more
abbrev pub group_weight : Level → ℕ
group_weight zero = 0
group_weight (suc level) = 2

abbrev pub piece_weight : Piece → ℕ
piece_weight (plain spelled) = 1
piece_weight (further trees) = trees_weight trees
piece_weight (operand level tree) = tree_weight tree + group_weight level
piece_weight (after_first shape) = after_weight shape

abbrev pub weight : List Piece → ℕ
weight pieces = sum_by piece_weight pieces

-- a piece was written, or its beginning, and the rest was put after what is still to be written
pub record Writes (piece : Piece) (before after : List ℕ) (old new : List Piece) : Type 0 where
  pub pieces : List Piece
  pub pushed : new ≡ old ++ pieces
  pub lighter : weight pieces < piece_weight piece
  pub text : List ℕ
  pub written : after ≡ before ++ text
  pub goes_on : (rest : List ℕ) → ArePieceTexts pieces rest → IsPieceText piece (text ++ rest)

-- after a text stands what is still to be written, and the whole is the text of a piece
abbrev pub IsPending : Piece → List ℕ → List Piece → Type 0
IsPending piece text pieces = (rest : List ℕ) → ArePieceTexts pieces rest → IsPieceText piece (text ++ rest)
