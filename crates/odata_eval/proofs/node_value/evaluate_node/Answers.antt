use Rattle.std.proofs.Common.{◌≡◌, ◌<◌, ◌≤◌, ℕ, List, Ok, Err, Some, ap, arith, length, subst}
use Rattle.odata_checked_filter.specs.declared.checked_node.CheckedNode.{CheckedNode}
use Rattle.filter_context.specs.private.Place.{OperandStands}
use Rattle.odata_eval.specs.declared.budget.Budget.{Budget}
use Rattle.odata_eval.specs.declared.stop.EvalStop.{EvalStop}
use Rattle.odata_eval.specs.private.Spending.{SpendsAt}
use Rattle.odata_eval.proofs.spending.Bound.{never_costly}
use Rattle.odata_eval.proofs.spending.Stops.{unbounded_datum}
use Rattle.odata_eval.proofs.walking.NodeWays.{body_reported, node_reported, whole_lies}
use Rattle.odata_eval.proofs.node_value.evaluate_node.Goals as goal

pub of-context-requires : goal.of-context-requires
of-context-requires c = c.requires.as_value

pub loop-outer-init : goal.loop-outer-init
loop-outer-init c =
    let evaluation = c.args.evaluation.now in
    let count = ap (λ (nodes : List CheckedNode). length nodes) c.nodes-nodes.ensures.same in
    let within : c.args.index < length evaluation.filter.now.list.nodes = omega (arith, count) in
    whole_lies evaluation.filter.now evaluation.entity.now evaluation.moment.now c.of-context.result c.nodes-nodes.ensures.right c.requires.one_schema c.requires.one_type
    c.of-context.ensures.row c.of-context.ensures.moment c.of-context.ensures.list c.of-context.ensures.variables c.args.index within

pub loop-outer-preserved : goal.loop-outer-preserved
loop-outer-preserved c = c.in-Some.ensures.0

pub loop-outer-smaller : goal.loop-outer-smaller
loop-outer-smaller c = let further : c.loop-outer.outer < c.in-Some.operand = c.in-Some.ensures.1 in let before = c.in-Some.ensures.0.from_there in omega arith

pub returns-in-None : goal.returns-in-None
returns-in-None c =
    let evaluation = c.args.evaluation.now in
    λ within.
    body_reported evaluation.filter.now evaluation.entity.now evaluation.moment.now c.of-context.result c.nodes-nodes.ensures.right c.requires.one_schema c.requires.one_type
    c.of-context.ensures.row c.of-context.ensures.moment c.of-context.ensures.list c.of-context.ensures.variables c.args.index c.in-None.ensures

pub counted_at-requires : goal.counted_at-requires
counted_at-requires c =
    let lies = c.loop-outer.invariant in
    let same : c.loop-outer.outer ≡ c.args.index = omega (arith, lies.from_there) in
    record { stands = subst (λ (k : ℕ). OperandStands c.of-context.result k) same lies.stands }

pub fault_of-requires : goal.fault_of-requires
fault_of-requires c =
    let lies = c.loop-outer.invariant in
    let same : c.loop-outer.outer ≡ c.args.index = omega (arith, lies.from_there) in
    λ costly.
    never_costly c.of-context.result c.args.index (subst (λ (k : ℕ). OperandStands c.of-context.result k) same lies.stands) c.costs_once.ensures Budget.Unbounded
    (subst (λ (s : EvalStop). SpendsAt c.of-context.result c.args.index Budget.Unbounded Budget.Unbounded (Some s)) costly c.in-Err.ensures.spent)

pub returns-in-Ok : goal.returns-in-Ok
returns-in-Ok c =
    let evaluation = c.args.evaluation.now in
    let lies = c.loop-outer.invariant in
    let same : c.loop-outer.outer ≡ c.args.index = omega (arith, lies.from_there) in
    node_reported evaluation.filter.now evaluation.entity.now evaluation.moment.now c.of-context.result c.nodes-nodes.ensures.right c.requires.one_schema c.requires.one_type
    c.of-context.ensures.row c.of-context.ensures.moment c.of-context.ensures.list c.of-context.ensures.variables c.args.index (Ok c.in-Ok.value) c.ends_once.ensures
    (subst (λ (k : ℕ). OperandStands c.of-context.result k) same lies.stands) c.in-Ok.ensures.answers

pub returns-in-Err : goal.returns-in-Err
returns-in-Err c =
    let evaluation = c.args.evaluation.now in
    let lies = c.loop-outer.invariant in
    let same : c.loop-outer.outer ≡ c.args.index = omega (arith, lies.from_there) in
    node_reported evaluation.filter.now evaluation.entity.now evaluation.moment.now c.of-context.result c.nodes-nodes.ensures.right c.requires.one_schema c.requires.one_type
    c.of-context.ensures.row c.of-context.ensures.moment c.of-context.ensures.list c.of-context.ensures.variables c.args.index (Err c.fault_of.result) c.ends_once.ensures
    (subst (λ (k : ℕ). OperandStands c.of-context.result k) same lies.stands)
    (unbounded_datum c.of-context.result c.args.index c.in-Err.stop c.fault_of.result c.fault_of.ensures c.in-Err.ensures.answers)
