use Rattle.odata_queries.proofs.Common.{◌≡◌, length, arith, ap, name_of, value_of}
use Rattle.odata_queries.proofs.queries.QueryLoops.{name-room}
use Rattle.odata_queries.proofs.query.filter_of_option.Goals as goal

pub decoded_part-requires-2 : goal.decoded_part-requires-2
decoded_part-requires-2 c =
    let name : length c.name_and_value.result.0.now ≡ length (name_of c.args.option.now) = ap length c.name_and_value.ensures.name in
    let value : length c.name_and_value.result.1.now ≡ length (value_of c.args.option.now) = ap length c.name_and_value.ensures.value in
    omega (arith, name-room c.args.option.now, c.requires)
