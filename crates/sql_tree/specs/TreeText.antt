-- The text of a tree of SQL: the pieces of each node around its children. No value of a parameter is in it.
use Rattle.std.specs.Prelude.{◌≡◌, ◌<◌, ◌^◌, ℕ, ◌+◌, List, [], ◌∷◌, ◌++◌, IsSomeAnd, length, slice_get}
use Rattle.sql_tree.specs.FixedPieces.{PieceTexts}
use Rattle.sql_tree.specs.NodePieces.{node_pieces}
use Rattle.sql_tree.specs.PathText.{IsPathOf}
use Rattle.sql_tree.specs.TableModel.{HasColumn, TableModel}
use Rattle.sql_tree.specs.Term.{Term, Terms, term, no_terms, more_terms}
use Rattle.sql_tree.specs.declared.dialect.Dialect.{Dialect}
use Rattle.sql_tree.specs.declared.sql_node.SqlNode.{SqlNode}
use Rattle.sql_tree.specs.declared.json_path.Path.{Path}

abbrev mutual
  pub text_of : Dialect → TableModel → List Path → Term → List ℕ
  text_of dialect table paths (term node children) =
      woven dialect table paths (node_pieces dialect table paths node) children

  -- pieces with the texts of trees between them
  pub woven : Dialect → TableModel → List Path → PieceTexts → Terms → List ℕ
  woven dialect table paths [] children = []
  woven dialect table paths (piece ∷ pieces) no_terms = piece
  woven dialect table paths (piece ∷ pieces) (more_terms first rest) =
      piece ++ (text_of dialect table paths first ++ woven dialect table paths pieces rest)

abbrev pub count_of : Terms → ℕ
count_of no_terms = 0
count_of (more_terms first rest) = count_of rest + 1

-- what a node counts fits 64 bits, and one more of it does
abbrev pub CountsFit : SqlNode → Type 0
CountsFit (SqlNode.Parameter place type) = place + 1 < 2 ^ 64
CountsFit (SqlNode.Let level count) = level + count + 1 < 2 ^ 64
CountsFit (SqlNode.Among count type) = count + 1 < 2 ^ 64
CountsFit node = Unit {0}

-- what a node names is there: a column, or a path that can be followed
abbrev pub NamesWhatIs : TableModel → List Path → SqlNode → Type 0
NamesWhatIs table paths (SqlNode.Column slot) = HasColumn table.storage slot
NamesWhatIs table paths (SqlNode.Field path type) = IsSomeAnd (slice_get paths path) (IsPathOf table)
NamesWhatIs table paths (SqlNode.IsMissing path) = IsSomeAnd (slice_get paths path) (IsPathOf table)
NamesWhatIs table paths (SqlNode.Count path) = IsSomeAnd (slice_get paths path) (IsPathOf table)
NamesWhatIs table paths (SqlNode.Exists path level) = IsSomeAnd (slice_get paths path) (IsPathOf table)
NamesWhatIs table paths (SqlNode.Least path level) = IsSomeAnd (slice_get paths path) (IsPathOf table)
NamesWhatIs table paths node = Unit {0}

abbrev mutual
  -- each node has as many children as its text takes them, and names what is there
  pub IsWhole : Dialect → TableModel → List Path → Term → Type 0
  IsWhole dialect table paths (term node children) =
      (length (node_pieces dialect table paths node) ≡ count_of children + 1) × NamesWhatIs table paths node
      × CountsFit node × AreWhole dialect table paths children

  pub AreWhole : Dialect → TableModel → List Path → Terms → Type 0
  AreWhole dialect table paths no_terms = Unit {0}
  AreWhole dialect table paths (more_terms first rest) =
      IsWhole dialect table paths first × AreWhole dialect table paths rest
