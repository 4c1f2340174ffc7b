-- The pieces of the code as a list of texts.
use Rattle.std.specs.Prelude.{ℕ, zero, suc, List, [], slice_get, unwrap_or}
use Rattle.sql_tree.specs.FixedPieces.{PieceTexts, among, around, between}
use Rattle.sql_tree.specs.declared.piece_texts.Pieces.{Pieces}

-- so many children are within them
abbrev pub pieces_around : ℕ → Pieces → PieceTexts
pieces_around zero p = []
pieces_around (suc zero) p = around p.front.now p.close.now
pieces_around (suc (suc zero)) p = between p.front.now p.second.now p.close.now
pieces_around (suc (suc (suc n))) p = among p.front.now p.second.now p.third.now p.close.now

abbrev pub pieces_in : Pieces → PieceTexts
pieces_in p = pieces_around p.arity p

-- the piece after so many children
abbrev pub piece_at : PieceTexts → ℕ → List ℕ
piece_at pieces done = unwrap_or (slice_get pieces done) []
