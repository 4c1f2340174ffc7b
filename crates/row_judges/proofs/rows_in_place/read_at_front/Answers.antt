use Rattle.std.proofs.Common.{subst}
use Rattle.std.specs.Prelude.{take}
use Rattle.edm_rows.specs.declared.type_rows.Reading.{Reading}
use Rattle.row_judges.specs.private.RowsInPlace.{IsRead}
use Rattle.row_judges.proofs.RowLemmas.RowsInPlace.{is_read, reader_further}
use Rattle.row_judges.proofs.rows_in_place.read_at_front.Goals as goal

pub returns-in-Row-clause-read : goal.returns-in-Row-clause-read
returns-in-Row-clause-read c =
    let line = take c.args.count c.args.bytes.now in
    subst (λ (r : Reading). IsRead r line c.read.new.self) c.in-Row.is (is_read c.read.result line c.read.new.self c.read.ensures.whole c.read.ensures.ready c.read.ensures.row c.read.ensures.left_out)

pub returns-in-LeftOut-clause-read : goal.returns-in-LeftOut-clause-read
returns-in-LeftOut-clause-read c =
    let line = take c.args.count c.args.bytes.now in
    subst (λ (r : Reading). IsRead r line c.read.new.self) c.in-LeftOut.is (is_read c.read.result line c.read.new.self c.read.ensures.whole c.read.ensures.ready c.read.ensures.row c.read.ensures.left_out)

pub returns-else-not-is_first-clause-same : goal.returns-else-not-is_first-clause-same
returns-else-not-is_first-clause-same c = reader_further c.args.rows.now c.read.new.self c.read_copy.new.rows c.read.ensures.same c.read_copy.ensures.same
