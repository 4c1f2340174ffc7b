use Rattle.std.proofs.Common.{◌-◌, ◌≤◌, ℕ, sym, subst₂, arith}
use Rattle.line_filter.proofs.PartLaws.Ends.{part_end_order}
use Rattle.line_filter.proofs.PartLaws.Readers.{part_given, sought_end}
use Rattle.line_filter.proofs.part_reader.part_of.Goals as goal

pub lines_between-requires : goal.lines_between-requires
lines_between-requires g c =
    rw (c.part_end-from.ensures, c.part_end-to.ensures)
    (part_end_order c.in_ok-size.size c.args.part.count (c.args.part.number - 1) c.args.part.number (omega arith) (omega arith))

pub returns : goal.returns
returns g c bytes sought =
    let (long, at_end) = sought_end g.R.Read.remaining g.R.Seek.stream_position g.R.Seek.stream_bytes c.args.reader c.seek.new.self bytes c.in_ok-size.size sought c.seek.ensures.bytes
    c.in_ok-size.ensures.moves in
    let order : c.part_end-from.result ≤ c.part_end-to.result =
    subst₂ (λ (a b : ℕ). a ≤ b) (sym c.part_end-from.ensures) (sym c.part_end-to.ensures)
    (part_end_order c.in_ok-size.size c.args.part.count (c.args.part.number - 1) c.args.part.number (omega arith) (omega arith)) in
    part_given c.args.part.number c.args.part.count c.in_ok-size.size c.part_end-from.result c.part_end-to.result bytes long c.part_end-from.ensures c.part_end-to.ensures
    order c.lines_between.result (c.lines_between.ensures bytes at_end)
