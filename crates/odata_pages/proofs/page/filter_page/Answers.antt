use Rattle.odata_pages.proofs.FaultLemmas.{page_failed}
use Rattle.odata_pages.proofs.PageLemmas.{page_filtered}
use Rattle.odata_pages.proofs.page.filter_page.Goals as goal

pub returns-in-Ok-clause-filters : goal.returns-in-Ok-clause-filters
returns-in-Ok-clause-filters g c =
    let contents = g.W.Strategy.Writes.contents in
    page_filtered c.args.checked.now c.args.now.now (g.R.Read.remaining c.args.document) c.new.result _ (contents c.args.out.now) (contents c.filter_lines_with.new.out) c.in-Ok.tally
    c.new-lines.ensures.left c.new.ensures c.in-Ok.ensures.filters

pub returns-clause-stops : goal.returns-clause-stops
returns-clause-stops g c =
    let contents = g.W.Strategy.Writes.contents in
    let source = c.filter_lines_with.new.rows in
    page_failed c.args.checked.now c.args.now.now source.waiting source.reader (g.R.Read.remaining c.args.document) c.new.result _ (contents c.args.out.now) (contents c.filter_lines_with.new.out)
    c.in-Err.fault c.page_fault.result c.new-lines.ensures.left c.new.ensures c.in-Err.ensures.stops c.page_fault.ensures
