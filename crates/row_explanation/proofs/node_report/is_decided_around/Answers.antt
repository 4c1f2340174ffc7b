use Rattle.std.proofs.Common.{arith}
use Rattle.row_explanation.proofs.NeededOperands.{decided_around, in_second, none_at_next, none_at_outer, none_by_kind, none_in_first, none_past_end, undecided_around}
use Rattle.row_explanation.proofs.node_report.is_decided_around.Goals as goal

pub returns-in-None-clause-undecided : goal.returns-in-None-clause-undecided
returns-in-None-clause-undecided c =
    let e = c.args.evaluation.now in
    λ _. none_at_outer e.entity.now e.moment.now e.filter.now.list c.args.outer c.args.index c.in-None.ensures

pub returns-in-None-node_at-clause-undecided : goal.returns-in-None-node_at-clause-undecided
returns-in-None-node_at-clause-undecided c =
    let e = c.args.evaluation.now in
    λ _. none_at_next e.entity.now e.moment.now e.filter.now.list c.args.outer c.args.index c.in-None-node_at.ensures

pub returns-in-None-logical_operator-clause-undecided : goal.returns-in-None-logical_operator-clause-undecided
returns-in-None-logical_operator-clause-undecided c =
    let e = c.args.evaluation.now in
    λ _. none_by_kind e.entity.now e.moment.now e.filter.now.list c.args.outer c.args.index c.in-Some.node.now c.in-Some.ensures c.in-None-logical_operator.ensures.none

pub returns-then-index-first-clause-undecided : goal.returns-then-index-first-clause-undecided
returns-then-index-first-clause-undecided c =
    let e = c.args.evaluation.now in
    λ _. none_in_first e.entity.now e.moment.now e.filter.now.list c.args.outer c.args.index c.in-Some-node_at.first.now c.in-Some-node_at.ensures c.if-index-first.true

pub returns-then-node-index-clause-undecided : goal.returns-then-node-index-clause-undecided
returns-then-node-index-clause-undecided c =
    let e = c.args.evaluation.now in
    λ _. none_past_end e.entity.now e.moment.now e.filter.now.list c.args.outer c.args.index c.in-Some.node.now c.in-Some.ensures c.if-node-index.true

pub returns-clause-decided : goal.returns-clause-decided
returns-clause-decided c =
    let e = c.args.evaluation.now in
    let operator = c.in-Some-logical_operator.operator in
    decided_around e.entity.now e.moment.now e.filter.now.list c.args.outer c.args.index operator c.decides.result
    (in_second e.entity.now e.moment.now e.filter.now.list c.args.outer c.args.index operator c.in-Some.node.now c.in-Some-node_at.first.now c.requires.before
    c.in-Some.ensures c.in-Some-node_at.ensures c.in-Some-logical_operator.ensures.some (omega arith) (omega arith)) c.decides.ensures.decides

pub returns-clause-undecided : goal.returns-clause-undecided
returns-clause-undecided c =
    let e = c.args.evaluation.now in
    undecided_around e.entity.now e.moment.now e.filter.now.list c.args.outer c.args.index c.in-Some-logical_operator.operator c.in-Some.node.now c.decides.result
    c.in-Some.ensures c.in-Some-logical_operator.ensures.some c.decides.ensures.undecided
