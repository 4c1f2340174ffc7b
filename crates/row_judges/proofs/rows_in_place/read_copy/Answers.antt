use Rattle.std.proofs.Common.{◌≡◌, ℕ, List, length, rules, sym, subst}
use Rattle.std.specs.Prelude.{take}
use Rattle.row_judges.specs.private.RowsInPlace.{IsRead}
use Rattle.row_judges.proofs.RowLemmas.RowsInPlace.{is_read, reader_further}
use Rattle.row_judges.proofs.rows_in_place.read_copy.Goals as goal

pub returns-clause-read : goal.returns-clause-read
returns-clause-read c =
    let count = length c.args.row.now in
    let copied : take count c.as_slice.result.now ≡ c.args.row.now = subst (λ (l : List ℕ). take count l ≡ c.args.row.now) (sym c.as_slice.ensures.value) (c.copy_with_room.ensures.copied (search rules)) in
    subst (λ (l : List ℕ). IsRead c.read.result l c.read.new.self) copied
    (is_read c.read.result (take count c.as_slice.result.now) c.read.new.self c.read.ensures.whole c.read.ensures.ready c.read.ensures.row c.read.ensures.left_out)

pub returns-clause-same : goal.returns-clause-same
returns-clause-same c = reader_further c.args.rows.now c.begin_first.new.rows c.read.new.self c.begin_first.ensures c.read.ensures.same
