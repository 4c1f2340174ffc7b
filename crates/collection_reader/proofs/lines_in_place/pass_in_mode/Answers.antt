use Rattle.collection_reader.specs.private.ItemText.{scanned}
use Rattle.collection_reader.proofs.ItemRunLemmas.{none_passed}
use Rattle.collection_reader.proofs.lines_in_place.pass_in_mode.Goals as goal

pub returns-in-Escape-clause-passed : goal.returns-in-Escape-clause-passed
returns-in-Escape-clause-passed c = none_passed (scanned c.args.document.now) c.args.bytes.now c.args.from
