-- Which tokens and bytes the nodes of a tree take in.
use Rattle.std.specs.Prelude.{◌≡◌, ◌≤◌, ◌⊎◌, List, [], ◌∷◌, ◌++◌, Contains}
use Rattle.odata_text.specs.TokenModel.{TokenModel}
use Rattle.odata_syntax.specs.Tree.{Shape, Tree, Trees, any_item, binary, call, count, has, in_list, in_path, it, lambda, literal, logical_not, member, more_trees, name, negation, no_trees, shape_of, start_of, stop_of}

-- trees one after another, as a list
abbrev pub list_of_trees : Trees → List Tree
list_of_trees no_trees = []
list_of_trees (more_trees tree more) = tree ∷ list_of_trees more

-- the children of a node, in the order of the text
abbrev pub children_of : Shape → List Tree
children_of (literal kind text) = []
children_of it = []
children_of (name text) = []
children_of (member base text) = base ∷ []
children_of (count base) = base ∷ []
children_of (negation operand) = operand ∷ []
children_of (logical_not operand) = operand ∷ []
children_of (binary operator left right) = left ∷ right ∷ []
children_of (has left right) = left ∷ right ∷ []
children_of (in_list left items) = left ∷ list_of_trees items
children_of (in_path left path) = left ∷ path ∷ []
children_of (call text arguments) = list_of_trees arguments
children_of (any_item base) = base ∷ []
children_of (lambda quantifier base variable body) = base ∷ body ∷ []

-- a node of a tree: its root, or a node of a child; the first is a descendant of the second or the same
pub data IsWithin : Tree → Tree → Type 0 where
  is_root : {tree : Tree} → IsWithin tree tree
  in_child :
      {part child tree : Tree}
      → Contains (children_of (shape_of tree)) child
      → IsWithin part child
      → IsWithin part tree

-- the span runs from the first token to the last
pub record IsSpanned (ts : List TokenModel) (tree : Tree) : Type 0 where
  pub first : TokenModel
  pub later : List TokenModel
  pub begins : ts ≡ first ∷ later
  pub starts : start_of tree ≡ first.start
  pub earlier : List TokenModel
  pub last : TokenModel
  pub ends : ts ≡ earlier ++ (last ∷ [])
  pub stops : stop_of tree ≡ last.stop

-- some tokens side by side are those that the span runs over
pub record IsSpannedWithin (ts : List TokenModel) (tree : Tree) : Type 0 where
  pub before : List TokenModel
  pub own : List TokenModel
  pub behind : List TokenModel
  pub split : ts ≡ before ++ (own ++ behind)
  pub spanned : IsSpanned own tree

-- the span of the first holds that of the second
pub record HoldsSpan (outer inner : Tree) : Type 0 where
  pub starts : start_of outer ≤ start_of inner
  pub stops : stop_of inner ≤ stop_of outer

-- no byte is in the spans of both: one stops before the other starts
abbrev pub SharesNoByte : Tree → Tree → Type 0
SharesNoByte tree other = (stop_of tree ≤ start_of other) ⊎ (stop_of other ≤ start_of tree)
