use Rattle.std.proofs.Common.{inr, sym, ◌∙◌, arith}
use Rattle.json_room.proofs.RoomLemmas.{other_default}
use Rattle.json_room.proofs.numbers.fraction_end.Goals as goal

pub returns : goal.returns
returns c =
    let d = c.args.line.now in
    let end = c.digits_end-end in
    inr (record {
      bounds = (omega arith, end.ensures.bounds.1);
      point = other_default d c.args.from 46 (sym c.byte.ensures.here ∙ c.if-byte-ne46.false) (λ e. omega (arith, e));
      digits = end.ensures.digits;
    })
