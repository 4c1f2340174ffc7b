use Rattle.std.proofs.Common.{subst}
use Rattle.edm_rows.specs.declared.type_rows.Reading.{Reading}
use Rattle.row_judges.specs.private.RowsInPlace.{IsRead}
use Rattle.row_judges.proofs.rows_in_place.reads_copy.Goals as goal

pub returns-in-Row-clause-whole : goal.returns-in-Row-clause-whole
returns-in-Row-clause-whole c _ = (subst (λ (r : Reading). IsRead r c.args.row.now c.read_copy.new.rows) c.in-Row.is c.read_copy.ensures.read).0

pub returns-in-Row-clause-ready : goal.returns-in-Row-clause-ready
returns-in-Row-clause-ready c _ = (subst (λ (r : Reading). IsRead r c.args.row.now c.read_copy.new.rows) c.in-Row.is c.read_copy.ensures.read).1

pub returns-in-Row-clause-row : goal.returns-in-Row-clause-row
returns-in-Row-clause-row c _ = (subst (λ (r : Reading). IsRead r c.args.row.now c.read_copy.new.rows) c.in-Row.is c.read_copy.ensures.read).2
