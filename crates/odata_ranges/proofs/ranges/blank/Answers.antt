use Rattle.std.proofs.Common.{◌∙◌, [], ◌∷◌, length, length-append, ap, arith}
use Rattle.odata_ranges.proofs.ranges.blank.Goals as goal

pub loop-made-preserved : goal.loop-made-preserved
loop-made-preserved c =
    let l = c.loop-made in
    let long = ap length c.in_ok-push.ensures.items ∙ length-append l.ranges.items (c.plain.result ∷ []) in
    let was = l.invariant.0 in
    (omega (arith, long, was), omega arith)

pub returns : goal.returns
returns c =
    let l = c.loop-made in
    let was = l.invariant.0 in
    let most = l.invariant.1 in
    omega (arith, was, most)
