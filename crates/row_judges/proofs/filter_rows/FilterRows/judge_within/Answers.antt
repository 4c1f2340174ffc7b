use Rattle.row_judges.proofs.RowLemmas.RowsInPlace.{kept_again}
use Rattle.row_judges.proofs.filter_rows.FilterRows.judge_within.Goals as goal

pub judge_held-requires-clause-rows : goal.judge_held-requires-clause-rows
judge_held-requires-clause-rows c = kept_again c.args.checked.now c.args.self.now.type_rows c.reads_copy.new.rows c.reads_copy.ensures.same c.requires

pub returns-then-reads_copy-clause-rows : goal.returns-then-reads_copy-clause-rows
returns-then-reads_copy-clause-rows c = kept_again c.args.checked.now c.args.self.now.type_rows c.reads_copy.new.rows c.reads_copy.ensures.same c.requires

pub returns-clause-rows : goal.returns-clause-rows
returns-clause-rows c = kept_again c.args.checked.now c.args.self.now.type_rows c.reads_copy.new.rows c.reads_copy.ensures.same c.requires
