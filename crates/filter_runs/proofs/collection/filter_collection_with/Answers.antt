use Rattle.std.proofs.Common.{List, Bool, sym, subst}
use Rattle.serde_json.specs.Data.{Data}
use Rattle.collection_items.specs.JudgedItems.{AreJudged, IsArrayIn}
use Rattle.row_judges.specs.RowJudgment.{JudgesValue, judgment_where}
use Rattle.filter_runs.proofs.RowLemmas.KnownCollections.{filtered_so, stopped_so}
use Rattle.filter_runs.proofs.collection.filter_collection_with.Goals as goal

pub returns-in-Some-clause-filters : goal.returns-in-Some-clause-filters
returns-in-Some-clause-filters g c =
    let filter = c.args.checked.now in
    let now = c.args.now.now in
    let document = c.args.document.now in
    let known = subst (λ (flags : List Bool). (items : List Data) × IsArrayIn document items × AreJudged (λ json kept. JudgesValue filter now json (judgment_where kept)) items flags) (sym c.as_slice.ensures.value) c.in-Some.ensures.judged in
    filtered_so filter now document c.as_slice.result.now (g.T.Writes.contents c.args.out.now) (g.T.Writes.contents c.filter_known.new.out) c.in-Some.ensures.utf8 known c.filter_known.result c.filter_known.ensures.filters

pub returns-in-Some-clause-stops : goal.returns-in-Some-clause-stops
returns-in-Some-clause-stops g c =
    let filter = c.args.checked.now in
    let now = c.args.now.now in
    let document = c.args.document.now in
    let known = subst (λ (flags : List Bool). (items : List Data) × IsArrayIn document items × AreJudged (λ json kept. JudgesValue filter now json (judgment_where kept)) items flags) (sym c.as_slice.ensures.value) c.in-Some.ensures.judged in
    stopped_so filter now document c.as_slice.result.now (g.T.Writes.contents c.args.out.now) (g.T.Writes.contents c.filter_known.new.out) c.in-Some.ensures.utf8 known c.filter_known.result c.filter_known.ensures.stops
