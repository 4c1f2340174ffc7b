use Rattle.std.proofs.Common.{sym, ◌∙◌}
use Rattle.std.proofs.lemmas.List.{take_more_set}
use Rattle.collection_reader.specs.private.ItemText.{scanned}
use Rattle.collection_reader.proofs.EndLemmas.{ends_marked, ends_none}
use Rattle.collection_reader.proofs.StepLemmas.{text_left-nil}
use Rattle.collection_reader.proofs.document_end.put_end.Goals as goal

pub returns-then-is_over-clause-put : goal.returns-then-is_over-clause-put
returns-then-is_over-clause-put c = sym (ends_none (scanned c.args.document.now) c.in_ok-is_over.is_over c.in_ok-is_over.ensures c.if-is_over.true)

pub returns-then-is_over-clause-over : goal.returns-then-is_over-clause-over
returns-then-is_over-clause-over c = ends_none (scanned c.args.document.now) c.in_ok-is_over.is_over c.in_ok-is_over.ensures c.if-is_over.true

pub returns-clause-put : goal.returns-clause-put
returns-clause-put c =
    take_more_set c.args.bytes.now 0 255 c.requires.some
    ∙ sym (ends_marked (scanned c.args.document.now) c.in_ok-is_over.is_over c.in_ok-is_over.ensures c.if-is_over.false)

pub returns-clause-over : goal.returns-clause-over
returns-clause-over c = text_left-nil _
