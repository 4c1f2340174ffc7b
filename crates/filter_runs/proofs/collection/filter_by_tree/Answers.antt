use Rattle.std.proofs.Common.{Err, ap, ◌∙◌}
use Rattle.std.proofs.lemmas.Result.{err_from_is_err_and}
use Rattle.serde_json.specs.View.{view}
use Rattle.filter_runs.proofs.RowLemmas.DeviceCalls.{no_writes, unjudged_writes, writes_until_fault}
use Rattle.filter_runs.proofs.RowLemmas.Collections.{collection_filtered, collection_of, collection_stopped, no_array, unjudged}
use Rattle.filter_runs.proofs.collection.filter_by_tree.Goals as goal

pub returns-in_err-json-clause-stops : goal.returns-in_err-json-clause-stops
returns-in_err-json-clause-stops g c =
    let exit = err_from_is_err_and c.from_residual.result c.from_residual.ensures.1 in
    rw (exit.1 ∙ ap Err exit.2) (unjudged c.args.checked.now c.args.now.now c.args.document.now _ c.in_err-json.field-0.0 c.in_err-json.ensures.fault)

pub returns-in-None-clause-stops : goal.returns-in-None-clause-stops
returns-in-None-clause-stops g c =
    no_array c.args.checked.now c.args.now.now c.args.document.now _ (view c.in_ok-json.json) c.array_of.result c.in_ok-json.ensures.json c.array_of.ensures c.in-None.is

pub returns-in-Ok-clause-filters : goal.returns-in-Ok-clause-filters
returns-in-Ok-clause-filters g c =
    let (text, wrote, filtered) = c.in-Ok.ensures.filters in
    let is = collection_of c.args.document.now (view c.in_ok-json.json) c.array_of.result c.in-Some.items c.deref.result.now c.in_ok-json.ensures.json c.array_of.ensures c.in-Some.is c.deref.ensures.value in
    (text, wrote, collection_filtered c.args.checked.now c.args.now.now c.args.document.now c.deref.result.now is text c.in-Ok.tally filtered)

pub returns-clause-stops : goal.returns-clause-stops
returns-clause-stops g c =
    let (text, wrote, stops) = c.in-Err.ensures.stops in
    let is = collection_of c.args.document.now (view c.in_ok-json.json) c.array_of.result c.in-Some.items c.deref.result.now c.in_ok-json.ensures.json c.array_of.ensures c.in-Some.is c.deref.ensures.value in (
      text,
      wrote,
      collection_stopped c.args.checked.now c.args.now.now c.args.document.now c.deref.result.now is text c.run_fault.result c.in-Err.stop c.run_fault.ensures stops,
    )

pub returns-in_err-json-clause-writes : goal.returns-in_err-json-clause-writes
returns-in_err-json-clause-writes g c =
    let exit = err_from_is_err_and c.from_residual.result c.from_residual.ensures.1 in
    rw (exit.1 ∙ ap Err exit.2) (unjudged_writes c.args.document.now (g.T.Writes.calls c.args.out.now) c.in_err-json.field-0.0 c.in_err-json.ensures.fault)

pub returns-in-None-clause-writes : goal.returns-in-None-clause-writes
returns-in-None-clause-writes g c = no_writes (g.T.Writes.calls c.args.out.now)

pub returns-clause-writes : goal.returns-clause-writes
returns-clause-writes g c =
    writes_until_fault (g.T.Writes.calls c.args.out.now) (g.T.Writes.calls c.filter_items.new.out) c.run_fault.result c.in-Err.stop c.run_fault.ensures c.in-Err.ensures.writes
