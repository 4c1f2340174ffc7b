use Rattle.std.proofs.Common.{arith}
use Rattle.odata_checked_filter.proofs.needed_paths.variable_node.Goals as goal

pub unreachable-requires : goal.unreachable-requires
unreachable-requires c =
    let count = c.in-Fewer.ensures.0 in
    let most = c.in-Fewer.ensures.1 in
    let less = c.requires in
    absurd (omega (arith, count, most, less))
