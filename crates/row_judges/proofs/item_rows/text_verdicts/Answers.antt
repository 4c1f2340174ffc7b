use Rattle.std.proofs.Common.{ℕ, List, IfSome, subst}
use Rattle.serde_json.specs.Data.{Data}
use Rattle.collection_items.specs.JudgedItems.{AreJudged, IsArrayIn}
use Rattle.row_judges.specs.RowJudgment.{JudgesValue, judgment_where}
use Rattle.row_judges.proofs.RowLemmas.ItemsInPlace.{always_some}
use Rattle.row_judges.proofs.item_rows.text_verdicts.Goals as goal

pub returns-clause-utf8 : goal.returns-clause-utf8
returns-clause-utf8 c = always_some c.judged_items.result c.utf8.text

pub returns-clause-judged : goal.returns-clause-judged
returns-clause-judged c =
    subst (λ (t : List ℕ). IfSome c.judged_items.result (λ kept. (items : List Data) × IsArrayIn t items
    × AreJudged (λ json is_kept. JudgesValue c.args.checked.now c.args.now.now json (judgment_where is_kept)) items kept.items)) c.new-2.ensures c.judged_items.ensures
