use Rattle.odata_filter.proofs.RowLemmas.OneCollection.{collection_faults_never, collection_faults_once, collection_kept_once}
use Rattle.odata_filter.proofs.RowLemmas.OneFault.{same_kind}
use Rattle.odata_filter.proofs.laws.collections_stop_once.Goals as goal

pub items_stop_once-requires : goal.items_stop_once-requires
items_stop_once-requires c = λ json j k p q.
    same_kind j k (c.rows_are_judged_once.ensures.value c.args.checked.now c.args.now.now json j k p q)

pub returns-clause-judged : goal.returns-clause-judged
returns-clause-judged c = c.rows_are_judged_once.ensures.value c.args.checked.now c.args.now.now

pub returns-clause-stopped : goal.returns-clause-stopped
returns-clause-stopped c =
    let once = c.rows_are_judged_once.ensures.value c.args.checked.now c.args.now.now in
    let law = c.items_stop_once.ensures in
    collection_faults_once c.args.checked.now c.args.now.now once law.stopped law.filtered law.kept

pub returns-clause-filtered : goal.returns-clause-filtered
returns-clause-filtered c document text other tally f passes of stops =
    let once = c.rows_are_judged_once.ensures.value c.args.checked.now c.args.now.now in
    let law = c.items_stop_once.ensures in
    collection_faults_never c.args.checked.now c.args.now.now once law.stopped law.filtered law.kept document text other tally f passes of stops

pub returns-clause-kept : goal.returns-clause-kept
returns-clause-kept c =
    let once = c.rows_are_judged_once.ensures.value c.args.checked.now c.args.now.now in
    let law = c.items_stop_once.ensures in
    collection_kept_once c.args.checked.now c.args.now.now once law.stopped law.filtered law.kept
