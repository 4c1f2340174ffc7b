use Rattle.collection_reader.specs.private.ItemText.{scanned}
use Rattle.collection_reader.proofs.ItemRunLemmas.{none_passed}
use Rattle.collection_reader.proofs.lines_in_place.pass.Goals as goal

pub returns-then-depth-eq0-clause-passed : goal.returns-then-depth-eq0-clause-passed
returns-then-depth-eq0-clause-passed c = none_passed (scanned c.args.document.now) c.args.bytes.now c.args.from

pub returns-then-depth-gt-ITEM_DEPTH-clause-passed : goal.returns-then-depth-gt-ITEM_DEPTH-clause-passed
returns-then-depth-gt-ITEM_DEPTH-clause-passed c = none_passed (scanned c.args.document.now) c.args.bytes.now c.args.from

pub returns-in_default-clause-passed : goal.returns-in_default-clause-passed
returns-in_default-clause-passed c = none_passed (scanned c.args.document.now) c.args.bytes.now c.args.from
