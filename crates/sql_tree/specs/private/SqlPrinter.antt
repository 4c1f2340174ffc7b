-- For private clauses: what is still to be written of a tree.
use Rattle.std.specs.Prelude.{◌≡◌, ◌⊎◌, ℕ, ◌+◌, List, [], ◌∷◌, ◌++◌, drop, length}
use Rattle.sql_tree.specs.NodePieces.{node_pieces}
use Rattle.sql_tree.specs.TableModel.{TableModel}
use Rattle.sql_tree.specs.Term.{Term, Terms, nodes_of, nodes_of_all}
use Rattle.sql_tree.specs.TreeText.{AreWhole, CountsFit, IsWhole, NamesWhatIs, count_of, text_of, woven}
use Rattle.sql_tree.specs.declared.dialect.Dialect.{Dialect}
use Rattle.sql_tree.specs.declared.printer_frames.Frame.{Frame}
use Rattle.sql_tree.specs.declared.sql_node.SqlNode.{SqlNode}
use Rattle.sql_tree.specs.declared.json_path.Path.{Path}

-- one child more of the innermost node has been written: these nodes are to come, and with them this text
abbrev pub Completed : Dialect → TableModel → List Path → List Frame → List SqlNode → List ℕ → Type 0
Completed dialect table paths [] nodes text = (nodes ≡ []) × (text ≡ [])
Completed dialect table paths (frame ∷ frames) nodes text =
    (children : Terms) × (more : List SqlNode) × (tail : List ℕ) × (nodes ≡ nodes_of_all children ++ more)
    × (text ≡ woven dialect table paths
    (drop (frame.done + 1) (node_pieces dialect table paths frame.node)) children ++ tail)
    × (length (node_pieces dialect table paths frame.node) ≡ frame.done + 1 + count_of children + 1)
    × NamesWhatIs table paths frame.node × CountsFit frame.node × AreWhole dialect table paths children
    × Completed dialect table paths frames more tail

-- a child is to come first
abbrev pub Expecting : Dialect → TableModel → List Path → List Frame → List SqlNode → List ℕ → Type 0
Expecting dialect table paths frames nodes text =
    (child : Term) × (more : List SqlNode) × (tail : List ℕ) × (nodes ≡ nodes_of child ++ more)
    × (text ≡ text_of dialect table paths child ++ tail) × IsWhole dialect table paths child
    × Completed dialect table paths frames more tail

-- all is written, or a child is to come
abbrev pub GoesOn : Dialect → TableModel → List Path → List Frame → List SqlNode → List ℕ → Type 0
GoesOn dialect table paths frames nodes text =
    ((frames ≡ []) × (nodes ≡ []) × (text ≡ [])) ⊎ Expecting dialect table paths frames nodes text

-- what is added to a text, and what is left of another then
pub record Adds (before after text : List ℕ) (Left : List ℕ → Type 0) : Type 0 where
  pub added : List ℕ
  pub rest : List ℕ
  pub after_is : after ≡ before ++ added
  pub text_is : text ≡ added ++ rest
  pub left : Left rest
