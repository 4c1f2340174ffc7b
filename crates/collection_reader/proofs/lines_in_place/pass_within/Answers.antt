use Rattle.std.specs.Prelude.{slice_range}
use Rattle.collection_reader.specs.private.ItemText.{scanned}
use Rattle.collection_reader.proofs.ItemRunLemmas.{moved_within, passed_within}
use Rattle.collection_reader.proofs.lines_in_place.pass_within.Goals as goal

pub returns-clause-passed : goal.returns-clause-passed
returns-clause-passed c =
    let s = scanned c.args.document.now in
    let run = c.pass_item-run in
    passed_within s _ c.args.in_text (slice_range c.args.bytes.now c.args.from run.result.end) run.result.depth run.result.in_text
    c.requires.item c.requires.mode run.ensures.passes (moved_within s run.result.depth run.result.in_text c.mode_of.result c.requires.item c.mode_of.ensures)
