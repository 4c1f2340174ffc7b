use Rattle.std.proofs.lemmas.Bool.{le-ltb}
use Rattle.odata_text.proofs.Common.{arith, ◌∙◌}
use Rattle.odata_text.proofs.characters.Identifiers.{reach-reports-none}
use Rattle.odata_text.proofs.identifier.is_identifier.Goals as goal

pub returns-else-length-gt0 : goal.returns-else-length-gt0
returns-else-length-gt0 c =
    le-ltb 0 c.identifier_length-length.result c.if-length-gt0.false ∙ reach-reports-none c.args.text.now c.identifier_length-length.result c.utf8.text c.identifier_length-length.ensures.reach (omega arith)
