use Rattle.edm_rows.proofs.LeavesKept.{text_rejected}
use Rattle.edm_rows.proofs.kept_leaf.rejected_text_end.Goals as goal

pub returns-then-is_text_rejected-clause-rejected : goal.returns-then-is_text_rejected-clause-rejected
returns-then-is_text_rejected-clause-rejected c slots depth =
    let f = c.in-Some.ensures in
    text_rejected c.args.line.now c.args.place c.in-Some.end c.args.slot.now.sieve slots depth c.in-Some.text.now f.further f.text c.is_text_rejected.ensures.utf8 (c.is_text_rejected.ensures.rejected c.if-is_text_rejected.true)
