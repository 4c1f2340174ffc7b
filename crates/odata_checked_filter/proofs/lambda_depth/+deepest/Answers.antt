use Rattle.std.proofs.Common.{◌≡◌, ◌≤◌, ◌+◌, max, sym, ◌∙◌, arith}
use Rattle.odata_checked_filter.proofs.flat.Standing.{line_onward, line_within}
use Rattle.odata_checked_filter.proofs.nesting.Lines.{first_of, is_max, rest_behind, rest_below, rest_none}
use Rattle.odata_checked_filter.specs.private.LambdaLines.{deepest_of}
use Rattle.odata_checked_filter.proofs.lambda_depth.+deepest.Goals as goal

pub node-node-requires : goal.node-node-requires
node-node-requires t c =
    let rest = c.loop-place.invariant.1 c.requires.0 c.requires.1 in
    line_within c.args.list.now c.loop-place.place c.args.stop rest.trees rest.line c.loop-place-test.true

pub deepest-inside-requires : goal.deepest-inside-requires
deepest-inside-requires t c =
    let list = c.args.list.now in
    let place = c.loop-place.place in
    let node = c.node-node.result in
    let rest = c.loop-place.invariant.1 c.requires.0 c.requires.1 in
    let before = c.loop-place-test.true in
    let first = first_of list place c.args.stop node rest.trees rest.line before c.node-node.ensures in
    let onward : place + 1 ≤ node.stop = line_onward list (place + 1) node.stop first.below first.line_below in
    let within : node.stop ≤ c.args.stop = line_onward list node.stop c.args.stop first.behind first.line_behind in
    let since = c.loop-place.invariant.0 in
    (omega (arith, before, onward, within, since), (first.below, first.line_below))

pub loop-place-preserved-then-is_lambda : goal.loop-place-preserved-then-is_lambda
loop-place-preserved-then-is_lambda t c =
    let list = c.args.list.now in
    let place = c.loop-place.place in
    let node = c.node-node.result in
    let inside = c.deepest-inside.result in
    let since = c.loop-place.invariant.0 in
    let small = c.deepest-inside.ensures.small in
    let greater : c.max-depth.result ≡ max c.loop-place.depth (inside + 1) = c.max-depth.ensures ∙ is_max c.loop-place.depth (inside + 1) in
    let operator = sym c.is_lambda.ensures ∙ c.if-is_lambda.true in (
      omega (arith, since, small, greater),
      λ trees line.
          rw (greater)
          (rest_behind list place c.args.stop c.loop-place.depth (deepest_of trees) inside node (c.loop-place.invariant.1 trees line)
          c.loop-place-test.true c.node-node.ensures operator c.deepest-inside.ensures.depth),
    )

pub loop-place-preserved : goal.loop-place-preserved
loop-place-preserved t c =
    let list = c.args.list.now in
    let since = c.loop-place.invariant.0 in
    let plain = sym c.is_lambda.ensures ∙ c.if-is_lambda.false in (
      omega (arith, since),
      λ trees line.
          rest_below list c.loop-place.place c.args.stop c.loop-place.depth (deepest_of trees) c.node-node.result
          (c.loop-place.invariant.1 trees line) c.loop-place-test.true c.node-node.ensures plain,
    )

pub returns-clause-depth : goal.returns-clause-depth
returns-clause-depth t c = λ trees line.
    let past = c.loop-place-test.false in
    rest_none c.args.list.now c.loop-place.place c.args.stop c.loop-place.depth (deepest_of trees) (c.loop-place.invariant.1 trees line) (omega (arith, past))

pub returns-clause-small : goal.returns-clause-small
returns-clause-small t c =
    let rest = c.loop-place.invariant.1 c.requires.0 c.requires.1 in
    let within : c.loop-place.place ≤ c.args.stop = line_onward c.args.list.now c.loop-place.place c.args.stop rest.trees rest.line in
    let since = c.loop-place.invariant.0 in
    omega (arith, within, since)
