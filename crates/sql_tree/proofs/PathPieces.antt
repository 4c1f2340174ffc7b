-- The pieces of nodes that name paths.
use Rattle.std.proofs.Common.{◌≡◌, ◌∙◌, ◌<◌, ℕ, zero, suc, List, [], ◌∷◌, false, length, nat_eq, refl, sym, ap, subst, arith, slice_get, slice_index_or}
use Rattle.std.specs.Prelude.{IsSomeAnd, codes}
use Rattle.sql_tree.specs.FixedPieces.{PieceTexts}
use Rattle.sql_tree.specs.NodePieces.{exists_pieces, least_pieces, node_pieces, of_path}
use Rattle.sql_tree.specs.PathText.{IsPathOf, base_text, dots_text, extracted_text, members_text}
use Rattle.sql_tree.specs.private.PiecesView.{piece_at}
use Rattle.sql_tree.specs.TableModel.{TableModel}
use Rattle.sql_tree.specs.TreeText.{NamesWhatIs}
use Rattle.sql_tree.specs.declared.dialect.Dialect.{Dialect}
use Rattle.sql_tree.specs.declared.sql_node.SqlNode.{SqlNode}
use Rattle.sql_tree.specs.declared.json_path.Base.{Base}
use Rattle.sql_tree.specs.declared.json_path.Path.{Path}
use Rattle.sql_tree.specs.declared.json_path.Step.{Step}
use Rattle.sql_tree.proofs.Written.{all_from}

-- what is said of the path at an index is said of the one that stands there
path_at : (table : TableModel) (pieces : Path → PieceTexts) (paths : List Path) (k : ℕ) (p : Path) → IsSomeAnd (slice_get paths k) (IsPathOf table) → p ≡ slice_index_or paths k p → of_path paths k pieces ≡ pieces p
path_at table pieces [] k p there is = absurd there
path_at table pieces (path ∷ paths) zero p there is = ap pieces (sym is)
path_at table pieces (path ∷ paths) (suc k) p there is = path_at table pieces paths k p there is

module _ (dialect : Dialect) (table : TableModel) (paths : List Path) where
  pub exists_start : (node : SqlNode) (path level : ℕ) (p : Path) → node ≡ SqlNode.Exists path level → NamesWhatIs table paths node → p ≡ slice_index_or paths path p
      → all_from (codes "(EXISTS (SELECT 1 FROM ") (members_text dialect table p level ∷ codes " WHERE " ∷ []) ≡ piece_at (node_pieces dialect table paths node) 0
  exists_start node path level p is named at =
      let there : IsSomeAnd (slice_get paths path) (IsPathOf table) = subst (NamesWhatIs table paths) is named in
      let pieces_are : node_pieces dialect table paths node ≡ exists_pieces dialect table p level =
      ap (λ (n : SqlNode). node_pieces dialect table paths n) is ∙ path_at table (λ q. exists_pieces dialect table q level) paths path p there at in
      sym (ap (λ (ps : PieceTexts). piece_at ps 0) pieces_are)

  pub least_end : (node : SqlNode) (path level done : ℕ) (p : Path) → node ≡ SqlNode.Least path level → NamesWhatIs table paths node → p ≡ slice_index_or paths path p
      → 0 < done → done < length (node_pieces dialect table paths node)
      → all_from (codes ") FROM ") (members_text dialect table p level ∷ codes ")" ∷ []) ≡ piece_at (node_pieces dialect table paths node) done
  least_end node path level done p is named at some few =
      let there : IsSomeAnd (slice_get paths path) (IsPathOf table) = subst (NamesWhatIs table paths) is named in
      let pieces_are : node_pieces dialect table paths node ≡ least_pieces dialect table p level =
      ap (λ (n : SqlNode). node_pieces dialect table paths n) is ∙ path_at table (λ q. least_pieces dialect table q level) paths path p there at in
      let two : done < 2 = subst (λ (ps : PieceTexts). done < length ps) pieces_are few in
      let one : done ≡ 1 = omega (arith, some, two) in
      sym (ap (λ (ps : PieceTexts). piece_at ps done) pieces_are ∙ ap (λ (n : ℕ). piece_at (least_pieces dialect table p level) n) one)

-- JSON at some steps
pub extracted_some : (table : TableModel) (base : Base) (steps : List Step) → nat_eq (length steps) 0 ≡ false
    → all_from (codes "json_extract(") (base_text Dialect.Sqlite table base ∷ codes ", '$" ∷ dots_text table steps ∷ codes "')" ∷ []) ≡ extracted_text table base steps
extracted_some table base [] some = absurd (cc)
extracted_some table base (step ∷ steps) some = refl
