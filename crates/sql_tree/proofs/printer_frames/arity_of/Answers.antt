use Rattle.std.proofs.Common.{◌≡◌, ◌<◌, ◌+◌, ◌^◌, length, ap, subst, arith}
use Rattle.sql_tree.specs.FixedPieces.{is_collated}
use Rattle.sql_tree.specs.NodePieces.{let_pieces, list_pieces, node_pieces}
use Rattle.sql_tree.specs.TreeText.{CountsFit}
use Rattle.sql_tree.specs.declared.sql_node.SqlNode.{SqlNode}
use Rattle.sql_tree.proofs.Bindings.{length_let, length_list}
use Rattle.sql_tree.proofs.printer_frames.arity_of.Goals as goal

pub returns-in-Let : goal.returns-in-Let
returns-in-Let c = λ table paths fit some.
    let dialect = c.args.dialect in
    let level = c.in-Let.level in
    let count = c.in-Let.count in
    let is = c.in-Let.is in
    let fits : level + count + 1 < 2 ^ 64 = subst CountsFit is fit in
    let there : 0 < length (let_pieces dialect level count) = subst (λ (n : SqlNode). 0 < length (node_pieces dialect table paths n)) is some in
    let same : length (node_pieces dialect table paths c.args.node.now) ≡ length (let_pieces dialect level count) = ap (λ (n : SqlNode). length (node_pieces dialect table paths n)) is in
    let long = length_let dialect level count there in
    omega (arith, same, long, fits, c.saturating_add.ensures)

pub returns-in-Among : goal.returns-in-Among
returns-in-Among c = λ table paths fit some.
    let dialect = c.args.dialect in
    let texts = is_collated dialect c.in-Among.value_type in
    let count = c.in-Among.count in
    let is = c.in-Among.is in
    let fits : count + 1 < 2 ^ 64 = subst CountsFit is fit in
    let there : 0 < length (list_pieces dialect texts count) = subst (λ (n : SqlNode). 0 < length (node_pieces dialect table paths n)) is some in
    let same : length (node_pieces dialect table paths c.args.node.now) ≡ length (list_pieces dialect texts count) = ap (λ (n : SqlNode). length (node_pieces dialect table paths n)) is in
    let long = length_list dialect texts count there in
    omega (arith, same, long, fits, c.saturating_add-in-Among.ensures)
