use Rattle.std.proofs.Common.{◌≡◌, ◌⊎◌, ℕ, ◌-◌, ◌<◌, ◌≤◌, inl, inr, subst, List, Option, Some, None, IfSome, arith}
use Rattle.odata_syntax.specs.Places.{lambda_at, number_at, places_of, stop_at}
use Rattle.odata_syntax.specs.PostOrder.{last_tree}
use Rattle.csdl_schema.specs.SchemaModel.{slots_of, type_name_at}
use Rattle.odata_signatures.specs.TypeView.{expr_type}
use Rattle.odata_signatures.specs.FirstUntypable.{IsFirstUntypable}
use Rattle.odata_signatures.specs.Typed.{Scope, variable_type}
use Rattle.odata_typing.specs.declared.variables.NamedVariable.{NamedVariable}
use Rattle.odata_typing.specs.private.CheckContexts.{name_of, run_tree}
use Rattle.odata_typing.specs.private.Variables.{IsNamedBy, scope_of}
use Rattle.odata_typing.proofs.bodies.Bases.{body_refused, not_collection, variable_taken}
use Rattle.odata_typing.proofs.stacks.Again.{judged_again, ready_again}
use Rattle.odata_typing.proofs.stacks.Bound.{body_places, fresh_variable, judged_since, over_body, scope_is}
use Rattle.odata_typing.proofs.stacks.Loop.{lambda_there, mark_at, none_read}
use Rattle.odata_typing.proofs.stacks.Contexts.{node_ready}
use Rattle.odata_typing.proofs.stacks.Walking.{IsWalking, node_children, node_is_plain, node_step, ready_still, run_trees, step_goes_on, step_refuses, walk_ends}
use Rattle.odata_typing.proofs.+typing.Goals.{node_walk::checked_nodes-else-lambda-ne-NO_NODE-via-then-lambda-ne-NO_NODE+else-index-from, node_walk::checked_nodes-else-lambda-ne-NO_NODE-via-else-lambda-ne-NO_NODE}
use Rattle.odata_typing.proofs.+typing.Goals as goal

-- A lambda expression whose base is not a collection, or whose variable is in scope.

pub lambda_node::checked_lambda-returns-in_default : goal.lambda_node::checked_lambda-returns-in_default
lambda_node::checked_lambda-returns-in_default t c = λ judged quantifier base asked.
    let context = c.args.context.now in
    let old = c.args.walk.now in
    let other = c.node_at-lambda.result in
    let body = run_tree context c.args.from c.args.index in
    let ready = ready_again context old c.args.from c.args.index judged other quantifier base c.node_at-lambda.ensures asked in
    let stands = ready.base_stands in
    judged_again context c.args.index judged other quantifier base body old c.refuse.new.self c.refuse.result asked.at c.node_at-lambda.ensures
    (not_collection c.laws_below.ensures context other old c.refuse.new.self quantifier base body (number_at (places_of context.nodes.now) (c.args.index - 1)) c.refuse.result stands
    old c.type_at.result.now (c.type_at.ensures stands.found stands.at) c.in_default.not-Collection c.refuse.ensures.stops c.refuse.ensures.fault)

pub lambda_node::checked_lambda-returns-in-Ok-Some : goal.lambda_node::checked_lambda-returns-in-Ok-Some
lambda_node::checked_lambda-returns-in-Ok-Some t c = λ judged quantifier base asked.
    let context = c.args.context.now in
    let old = c.args.walk.now in
    let other = c.node_at-lambda.result in
    let body = run_tree context c.args.from c.args.index in
    let ready = ready_again context old c.args.from c.args.index judged other quantifier base c.node_at-lambda.ensures asked in
    let stands = ready.base_stands in
    let Named : Option NamedVariable → Type 0 = λ (o : Option NamedVariable). IsNamedBy context.schema.now (scope_of context) c.text_in-variable.result.now o in
    let named : Named (Some c.in-Ok-Some.field-0-0) = subst Named c.in-Ok-Some.field-0-is (c.in-Ok-Some.ensures.named context.schema.now) in
    let taken = expr_type context.schema.now c.in-Ok-Some.field-0-0.edm_type in
    let found : variable_type (scope_of context) (name_of context other) ≡ Some taken =
    subst (λ (asked : List ℕ). variable_type (scope_of context) asked ≡ Some taken) c.text_in-variable.ensures named.1 in
    judged_again context c.args.index judged other quantifier base body old c.refuse-in-Ok-Some.new.self c.refuse-in-Ok-Some.result asked.at c.node_at-lambda.ensures
    (variable_taken c.laws_below.ensures context other old c.refuse-in-Ok-Some.new.self quantifier base body (number_at (places_of context.nodes.now) (c.args.index - 1)) c.refuse-in-Ok-Some.result stands
    old c.type_at.result.now c.in-Collection.member taken (c.type_at.ensures stands.found stands.at) c.in-Collection.is found c.refuse-in-Ok-Some.ensures.stops c.refuse-in-Ok-Some.ensures.fault)

-- One whose body is judged.

pub lambda_node::checked_lambda-close_lambda-requires-clause-children : goal.lambda_node::checked_lambda-close_lambda-requires-clause-children
lambda_node::checked_lambda-close_lambda-requires-clause-children t c =
    let context = c.args.context.now in
    let old = c.args.walk.now in
    let other = c.node_at-lambda.result in
    let r = c.requires in
    let ready = ready_again context old c.args.from c.args.index r.0 other r.1 r.2 c.node_at-lambda.ensures r.3 in
    let stands = ready.base_stands in
    let fresh : variable_type (scope_of context) (name_of context other) ≡ None =
    fresh_variable context other c.text_in-variable.result.now c.in-Ok-None.field-0 c.in-Ok-None.field-0-is (c.in-Ok-None.ensures.named context.schema.now) c.text_in-variable.ensures in (
      r.2,
      run_tree context c.args.from c.args.index,
      over_body c.laws_below.ensures context old c.checked_nodes.new.walk c.args.from c.args.index other r.1 r.2 c.in-Collection.member c.text_in-variable.result c.type_at.result.now ready
          (c.type_at.ensures stands.found stands.at) c.in-Collection.is fresh c.text_in-variable.ensures c.if-checked_nodes.ensures,
    )

pub lambda_node::checked_lambda-returns-then-checked_nodes : goal.lambda_node::checked_lambda-returns-then-checked_nodes
lambda_node::checked_lambda-returns-then-checked_nodes t c = λ judged quantifier base asked.
    let context = c.args.context.now in
    let old = c.args.walk.now in
    let mid = c.checked_nodes.new.walk in
    let new = c.close_lambda.new.walk in
    let other = c.node_at-lambda.result in
    let body = run_tree context c.args.from c.args.index in
    let ready = ready_again context old c.args.from c.args.index judged other quantifier base c.node_at-lambda.ensures asked in
    let stands = ready.base_stands in
    let fresh = fresh_variable context other c.text_in-variable.result.now c.in-Ok-None.field-0 c.in-Ok-None.field-0-is (c.in-Ok-None.ensures.named context.schema.now) c.text_in-variable.ensures in
    let put = c.if-checked_nodes.ensures in
    let over =
    over_body c.laws_below.ensures context old mid c.args.from c.args.index other quantifier base c.in-Collection.member c.text_in-variable.result c.type_at.result.now ready
    (c.type_at.ensures stands.found stands.at) c.in-Collection.is fresh c.text_in-variable.ensures put in
    let closed = c.close_lambda.ensures quantifier base body ready.lambda_is over in
    let last : stop_at (places_of context.nodes.now) (c.args.index - 1) ≡ other.stop = ready.body_stop in
    judged_again context c.args.index judged other quantifier base body old new c.close_lambda.result asked.at c.node_at-lambda.ensures
    (judged_since context.schema.now context.filtered_type (scope_of context) (number_at (places_of context.nodes.now) (c.args.index - 1)) (stop_at (places_of context.nodes.now) (c.args.index - 1))
    other.number other.stop _ old mid new c.close_lambda.result (record { kept = put.kept; navigates = put.navigates })
    (body_places context old c.args.from c.args.index other quantifier base ready) (omega arith) closed)

pub lambda_node::checked_lambda-returns-else-checked_nodes : goal.lambda_node::checked_lambda-returns-else-checked_nodes
lambda_node::checked_lambda-returns-else-checked_nodes t c = λ judged quantifier base asked.
    let context = c.args.context.now in
    let old = c.args.walk.now in
    let new = c.checked_nodes.new.walk in
    let other = c.node_at-lambda.result in
    let body = run_tree context c.args.from c.args.index in
    let ready = ready_again context old c.args.from c.args.index judged other quantifier base c.node_at-lambda.ensures asked in
    let stands = ready.base_stands in
    let fresh = fresh_variable context other c.text_in-variable.result.now c.in-Ok-None.field-0 c.in-Ok-None.field-0-is (c.in-Ok-None.ensures.named context.schema.now) c.text_in-variable.ensures in
    let First : Scope → Type 0 = λ (scope : Scope).
    IfSome new.fault (IsFirstUntypable (slots_of context.schema.now) (type_name_at context.schema.now context.filtered_type) scope body) in
    judged_again context c.args.index judged other quantifier base body old new c.checked_nodes.result asked.at c.node_at-lambda.ensures
    (body_refused c.laws_below.ensures context other old new quantifier base body (number_at (places_of context.nodes.now) (c.args.index - 1)) c.checked_nodes.result stands
    c.type_at.result.now c.in-Collection.member (c.type_at.ensures stands.found stands.at) c.in-Collection.is fresh c.if-checked_nodes.false
    (subst First (scope_is context other c.text_in-variable.result c.in-Collection.member c.text_in-variable.ensures) c.if-checked_nodes.ensures))

-- The loop: a lambda expression.

pub node_walk::checked_nodes-checked_lambda-requires : goal.node_walk::checked_nodes-checked_lambda-requires
node_walk::checked_nodes-checked_lambda-requires t c =
    let context = c.args.context.now in
    let index = c.loop-index.index in
    let last = mark_at context index in
    let there = lambda_there context c.args.from c.args.stop index c.args.walk.now c.loop-index.walk c.requires.context c.requires.ready c.requires.run c.loop-index.invariant
    c.loop-index-test.true c.if-index-from.true c.if-lambda-ne-NO_NODE.true in
    let order : index < last = there.order in
    let within : last < c.args.stop = there.within in
    let later : c.args.from < index = there.later in
    (omega arith, (there.judged, there.quantifier, last_tree (run_trees context c.args.from index), there.ready))

pub node_walk::checked_nodes-returns-then-not-checked_lambda : goal.node_walk::checked_nodes-returns-then-not-checked_lambda
node_walk::checked_nodes-returns-then-not-checked_lambda t c =
    let context = c.args.context.now in
    let index = c.loop-index.index in
    let last = mark_at context index in
    let there = lambda_there context c.args.from c.args.stop index c.args.walk.now c.loop-index.walk c.requires.context c.requires.ready c.requires.run c.loop-index.invariant
    c.loop-index-test.true c.if-index-from.true c.if-lambda-ne-NO_NODE.true in
    step_refuses c.laws_below.ensures context c.args.from c.args.stop last c.loop-index.walk there.judged _ c.requires.context c.requires.run there.step c.checked_lambda.new.walk
    (c.if-not-checked_lambda.ensures there.judged there.quantifier (last_tree (run_trees context c.args.from index)) there.ready)

pub node_walk::checked_nodes-overflow_add-index : goal.node_walk::checked_nodes-overflow_add-index
node_walk::checked_nodes-overflow_add-index t c =
    let context = c.args.context.now in
    let index = c.loop-index.index in
    let last = mark_at context index in
    let there = lambda_there context c.args.from c.args.stop index c.args.walk.now c.loop-index.walk c.requires.context c.requires.ready c.requires.run c.loop-index.invariant
    c.loop-index-test.true c.if-index-from.true c.if-lambda-ne-NO_NODE.true in
    let within : last < c.args.stop = there.within in
    record { fits = omega (arith, c.ranges.stop.fits) }

pub node_walk::checked_nodes-loop-index-smaller-then-index-from : goal.node_walk::checked_nodes-loop-index-smaller-then-index-from
node_walk::checked_nodes-loop-index-smaller-then-index-from t c =
    let context = c.args.context.now in
    let index = c.loop-index.index in
    let last = mark_at context index in
    let there = lambda_there context c.args.from c.args.stop index c.args.walk.now c.loop-index.walk c.requires.context c.requires.ready c.requires.run c.loop-index.invariant
    c.loop-index-test.true c.if-index-from.true c.if-lambda-ne-NO_NODE.true in
    let order : index < last = there.order in
    let within : last < c.args.stop = there.within in
    omega arith

pub node_walk::checked_nodes-loop-index-preserved-then-index-from : goal.node_walk::checked_nodes-loop-index-preserved-then-index-from
node_walk::checked_nodes-loop-index-preserved-then-index-from t c =
    let context = c.args.context.now in
    let index = c.loop-index.index in
    let last = mark_at context index in
    let there = lambda_there context c.args.from c.args.stop index c.args.walk.now c.loop-index.walk c.requires.context c.requires.ready c.requires.run c.loop-index.invariant
    c.loop-index-test.true c.if-index-from.true c.if-lambda-ne-NO_NODE.true in
    step_goes_on c.laws_below.ensures context c.args.from c.args.stop last c.loop-index.walk there.judged _ c.requires.context c.requires.run there.step
    index c.args.walk.now c.checked_lambda.new.walk c.loop-index.invariant
    (c.if-not-checked_lambda.ensures there.judged there.quantifier (last_tree (run_trees context c.args.from index)) there.ready)

-- The loop: any other node.

pub node_walk::checked_nodes-checked_node-requires-clause-ready : goal.node_walk::checked_nodes-checked_node-requires-clause-ready
node_walk::checked_nodes-checked_node-requires-clause-ready t c =
    node_ready c.args.context.now c.loop-index.walk c.loop-index.index c.node_at.result c.requires.context
    (ready_still c.args.context.now c.args.from c.args.stop c.loop-index.index c.args.walk.now c.loop-index.walk c.requires.ready c.loop-index.invariant)
    c.node_at.ensures

pub node_walk::checked_nodes-checked_node-requires-clause-text : goal.node_walk::checked_nodes-checked_node-requires-clause-text
node_walk::checked_nodes-checked_node-requires-clause-text t c = λ has.
    c.requires.context.ranges c.loop-index.index c.node_at.result.node.now c.node_at.ensures.at has

pub node_walk::checked_nodes-checked_node-requires-clause-kind : goal.node_walk::checked_nodes-checked_node-requires-clause-kind
node_walk::checked_nodes-checked_node-requires-clause-kind t c = λ quantifier is.
    node_is_plain c.args.context.now c.args.from c.args.stop c.loop-index.index c.args.walk.now c.loop-index.walk
    c.requires.context c.requires.run c.loop-index.invariant c.loop-index-test.true c.node_at.result.node.now quantifier c.node_at.ensures.at is

pub node_walk::checked_nodes-checked_node-requires-clause-children : goal.node_walk::checked_nodes-checked_node-requires-clause-children
node_walk::checked_nodes-checked_node-requires-clause-children t c = (
  run_trees c.args.context.now c.args.from c.loop-index.index,
  node_children c.args.context.now c.args.from c.args.stop c.loop-index.index c.args.walk.now c.loop-index.walk
      c.requires.context c.requires.run c.loop-index.invariant c.loop-index-test.true c.node_at.result c.node_at.ensures,
)

pub node_walk::checked_nodes-returns-then-not-checked_node : goal.node_walk::checked_nodes-returns-then-not-checked_node
node_walk::checked_nodes-returns-then-not-checked_node t c =
    let context = c.args.context.now in
    let index = c.loop-index.index in
    let before : index < c.args.stop = c.loop-index-test.true in
    let unmarked : (lambda_at (places_of context.nodes.now) index ≡ 0) ⊎ (index ≡ c.args.from) = elim c.else-lambda-ne-NO_NODE.branch [
      | node_walk::checked_nodes-else-lambda-ne-NO_NODE-via-then-lambda-ne-NO_NODE+else-index-from w ↦ inr w.if-index-from.false
      | node_walk::checked_nodes-else-lambda-ne-NO_NODE-via-else-lambda-ne-NO_NODE w ↦ inl (none_read context c.args.from c.args.stop index c.requires.context c.requires.run before w.if-lambda-ne-NO_NODE.false)
    ] in
    let children = node_children context c.args.from c.args.stop index c.args.walk.now c.loop-index.walk c.requires.context c.requires.run c.loop-index.invariant before c.node_at.result c.node_at.ensures in
    step_refuses c.laws_below.ensures context c.args.from c.args.stop index c.loop-index.walk c.node_at.result _ c.requires.context c.requires.run
    (node_step context c.args.from c.args.stop index c.args.walk.now c.loop-index.walk c.requires.context c.requires.run c.loop-index.invariant before c.node_at.result c.node_at.ensures unmarked)
    c.checked_node.new.walk
    (c.if-not-checked_node.ensures (run_trees context c.args.from index) children)

pub node_walk::checked_nodes-loop-index-preserved : goal.node_walk::checked_nodes-loop-index-preserved
node_walk::checked_nodes-loop-index-preserved t c =
    let context = c.args.context.now in
    let index = c.loop-index.index in
    let before : index < c.args.stop = c.loop-index-test.true in
    let unmarked : (lambda_at (places_of context.nodes.now) index ≡ 0) ⊎ (index ≡ c.args.from) = elim c.else-lambda-ne-NO_NODE.branch [
      | node_walk::checked_nodes-else-lambda-ne-NO_NODE-via-then-lambda-ne-NO_NODE+else-index-from w ↦ inr w.if-index-from.false
      | node_walk::checked_nodes-else-lambda-ne-NO_NODE-via-else-lambda-ne-NO_NODE w ↦ inl (none_read context c.args.from c.args.stop index c.requires.context c.requires.run before w.if-lambda-ne-NO_NODE.false)
    ] in
    let children = node_children context c.args.from c.args.stop index c.args.walk.now c.loop-index.walk c.requires.context c.requires.run c.loop-index.invariant before c.node_at.result c.node_at.ensures in
    step_goes_on c.laws_below.ensures context c.args.from c.args.stop index c.loop-index.walk c.node_at.result _ c.requires.context c.requires.run
    (node_step context c.args.from c.args.stop index c.args.walk.now c.loop-index.walk c.requires.context c.requires.run c.loop-index.invariant before c.node_at.result c.node_at.ensures unmarked)
    index c.args.walk.now c.checked_node.new.walk c.loop-index.invariant
    (c.if-not-checked_node.ensures (run_trees context c.args.from index) children)

-- The end.

pub node_walk::checked_nodes-returns : goal.node_walk::checked_nodes-returns
node_walk::checked_nodes-returns t c =
    let past : c.args.stop ≤ c.loop-index.index = c.loop-index-test.false in
    let within : c.loop-index.index ≤ c.args.stop = c.loop-index.invariant.inside in
    walk_ends c.args.context.now c.args.from c.args.stop c.args.walk.now c.loop-index.walk c.requires.run
    (subst (λ (k : ℕ). IsWalking c.args.context.now c.args.from c.args.stop k c.args.walk.now c.loop-index.walk) (omega arith) c.loop-index.invariant)
