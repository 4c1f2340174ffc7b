-- How many children a node has, by its pieces.
use Rattle.std.proofs.Common.{◌≡◌, ◌<◌, ℕ, zero, suc, ◌+◌, List, length, Option, Some, None, refl, ap, ◌∙◌, arith}
use Rattle.std.specs.Prelude.{unwrap_or}
use Rattle.sql_tree.specs.FixedPieces.{PieceTexts}
use Rattle.sql_tree.specs.NodePieces.{fixed_pieces, named_pieces, node_pieces, pieces_for_codes}
use Rattle.sql_tree.specs.private.PiecesView.{pieces_around, pieces_in}
use Rattle.sql_tree.specs.TableDigits.{arity_of_table}
use Rattle.sql_tree.specs.TableModel.{TableModel}
use Rattle.sql_tree.specs.declared.dialect.Dialect.{Dialect}
use Rattle.sql_tree.specs.declared.look_up.LookUp.{LookUp}
use Rattle.sql_tree.specs.declared.sql_node.SqlNode.{SqlNode}
use Rattle.sql_tree.specs.declared.json_path.Path.{Path}
use Rattle.sql_tree.specs.declared.piece_texts.Pieces.{Pieces}
use Rattle.sql_tree.specs.private.PrinterFrames.{HasArity}

around_length : (n : ℕ) (p : Pieces) → 0 < n → n < 4 → length (pieces_around n p) ≡ n + 1
around_length zero p some few = absurd (omega (arith, some))
around_length (suc zero) p some few = refl
around_length (suc (suc zero)) p some few = refl
around_length (suc (suc (suc n))) p some few = omega arith

pub length_pieces : (p : Pieces) → 0 < p.arity → p.arity < 4 → length (pieces_in p) ≡ p.arity + 1
length_pieces p some few = around_length p.arity p some few

-- a node whose text is fixed
pub fixed_are : (dialect : Dialect) (node : SqlNode) (pieces : PieceTexts) (table : TableModel) (paths : List Path) → fixed_pieces dialect node ≡ Some pieces
    → node_pieces dialect table paths node ≡ pieces
fixed_are dialect node pieces table paths is = ap (λ (o : Option PieceTexts). unwrap_or o (named_pieces dialect table paths node)) is

pub fixed_arity : (dialect : Dialect) (node : SqlNode) (p : Pieces) → 0 < p.arity → p.arity < 4 → fixed_pieces dialect node ≡ Some (pieces_in p) → HasArity dialect node p.arity
fixed_arity dialect node p some few is = λ table paths fit there. ap length (fixed_are dialect node (pieces_in p) table paths is) ∙ length_pieces p some few

-- and one whose text is not
pub named_are : (dialect : Dialect) (node : SqlNode) (table : TableModel) (paths : List Path) → fixed_pieces dialect node ≡ None
    → node_pieces dialect table paths node ≡ named_pieces dialect table paths node
named_are dialect node table paths is = ap (λ (o : Option PieceTexts). unwrap_or o (named_pieces dialect table paths node)) is

-- a table has as many codes as its text takes
pub table_length : (dialect : Dialect) (table : LookUp) → length (pieces_for_codes dialect table (arity_of_table table)) ≡ arity_of_table table + 1
table_length dialect LookUp.Not = refl
table_length dialect LookUp.And = refl
table_length dialect LookUp.Or = refl
table_length dialect LookUp.Equal = refl
table_length dialect LookUp.NotEqual = refl
table_length dialect LookUp.Greater = refl
table_length dialect LookUp.AtLeast = refl
table_length dialect LookUp.Less = refl
table_length dialect LookUp.AtMost = refl
table_length dialect LookUp.IsNull = refl
table_length dialect LookUp.IsNotNull = refl
table_length dialect LookUp.Never = refl
