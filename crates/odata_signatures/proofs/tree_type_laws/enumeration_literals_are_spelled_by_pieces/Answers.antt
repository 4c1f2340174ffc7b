use Rattle.odata_signatures.proofs.spelled.Pieces.{spelled_by_pieces}
use Rattle.odata_signatures.proofs.tree_type_laws.enumeration_literals_are_spelled_by_pieces.Goals as goal

pub returns : goal.returns
returns c = spelled_by_pieces
