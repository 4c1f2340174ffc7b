use Rattle.std.proofs.Common.{◌≡◌, ◌+◌, ◌<◌, ◌≤◌, ℕ, suc, Bool, Some, length, refl, rules, slice_get, subst, arith}
use Rattle.std.proofs.lemmas.Option.{slice_get_read}
use Rattle.edm_values.specs.declared.value.Value.{Value}
use Rattle.csdl_schema.specs.SchemaModel.{slots_of}
use Rattle.odata_meaning.specs.Costs.{item_cost}
use Rattle.filter_context.specs.private.ContextModel.{environment_of}
use Rattle.odata_eval.specs.private.Spending.{HasFewer, IsTaken, Takes, members_due, stored_cost}
use Rattle.odata_eval.proofs.spending.Budgets.{takes_nothing}
use Rattle.odata_eval.proofs.spending.Compared.{compared_within, first_short, found_at, member_paid, second_short}
use Rattle.odata_eval.proofs.spending.TextCosts.{taken_cost}
use Rattle.odata_eval.proofs.budget.take_members.Goals as goal

pub loop-at-init : goal.loop-at-init
loop-at-init g c = takes_nothing (g.B.Counting.left c.args.budget.now)

pub bounds-members-at : goal.bounds-members-at
bounds-members-at g c =
    let held = c.args.members.now in
    let at = c.loop-at.at in
    let within : c.args.count ≤ length held = compared_within c.args.left.now held c.args.count c.requires in
    let below : at < length held = omega (arith, within) in
    below

pub offset_bounds-members-at : goal.offset_bounds-members-at
offset_bounds-members-at g c =
    let held = c.args.members.now in
    let at = c.loop-at.at in
    let within : c.args.count ≤ length held = compared_within c.args.left.now held c.args.count c.requires in
    let below : at < length held = omega (arith, within) in
    search rules

pub returns-then-not-take_item : goal.returns-then-not-take_item
returns-then-not-take_item g c =
    let held = c.args.members.now in
    let at = c.loop-at.at in
    let within : c.args.count ≤ length held = compared_within c.args.left.now held c.args.count c.requires in
    let below : at < length held = omega (arith, within) in
    let each = item_cost (environment_of c.args.context.now) in
    let old = g.B.Counting.left c.args.budget.now in
    let now = g.B.Counting.left c.loop-at.budget in
    let there : (found : Value) × (slice_get held at ≡ Some found) = found_at held at below in
    let fewer : HasFewer now each = subst (λ (b : Bool). IsTaken b now (g.B.Counting.left c.take_item.new.budget) each) c.if-not-take_item.true c.take_item.ensures in
    first_short each c.args.left.now held at there.0 there.1 old now c.loop-at.invariant c.args.count c.loop-at-test.true fewer

pub returns-then-not-take : goal.returns-then-not-take
returns-then-not-take g c =
    let held = c.args.members.now in
    let at = c.loop-at.at in
    let within : c.args.count ≤ length held = compared_within c.args.left.now held c.args.count c.requires in
    let below : at < length held = omega (arith, within) in
    let each = item_cost (environment_of c.args.context.now) in
    let old = g.B.Counting.left c.args.budget.now in
    let now = g.B.Counting.left c.loop-at.budget in
    let found = c.index-members-at.result in
    let there : slice_get held at ≡ Some found = slice_get_read held (length held) at found refl below c.index-members-at.is in
    let mid = g.B.Counting.left c.take_item.new.budget in
    let cost = c.comparison_cost.result in
    let cost_is : cost ≡ stored_cost c.args.left.now found = taken_cost (slots_of c.args.context.now.row.schema) c.args.left.now c.datum_of.result found cost c.datum_of.ensures c.comparison_cost.ensures in
    let first : Takes now mid each = subst (λ (b : Bool). IsTaken b now mid each) c.if-not-take_item.false c.take_item.ensures in
    let fewer : HasFewer mid cost = subst (λ (b : Bool). IsTaken b mid (g.B.Counting.left c.take.new.self) cost) c.if-not-take.true c.take.ensures in
    second_short each c.args.left.now held at found there old now c.loop-at.invariant c.args.count c.loop-at-test.true mid cost cost_is first fewer

pub loop-at-preserved : goal.loop-at-preserved
loop-at-preserved g c =
    let held = c.args.members.now in
    let at = c.loop-at.at in
    let within : c.args.count ≤ length held = compared_within c.args.left.now held c.args.count c.requires in
    let below : at < length held = omega (arith, within) in
    let each = item_cost (environment_of c.args.context.now) in
    let old = g.B.Counting.left c.args.budget.now in
    let now = g.B.Counting.left c.loop-at.budget in
    let found = c.index-members-at.result in
    let there : slice_get held at ≡ Some found = slice_get_read held (length held) at found refl below c.index-members-at.is in
    let mid = g.B.Counting.left c.take_item.new.budget in
    let cost = c.comparison_cost.result in
    let cost_is : cost ≡ stored_cost c.args.left.now found = taken_cost (slots_of c.args.context.now.row.schema) c.args.left.now c.datum_of.result found cost c.datum_of.ensures c.comparison_cost.ensures in
    let first : Takes now mid each = subst (λ (b : Bool). IsTaken b now mid each) c.if-not-take_item.false c.take_item.ensures in
    let new = g.B.Counting.left c.take.new.self in
    let second : Takes mid new cost = subst (λ (b : Bool). IsTaken b mid new cost) c.if-not-take.false c.take.ensures in
    let next : suc at ≡ at + 1 = omega arith in
    subst (λ (k : ℕ). Takes old new (members_due each c.args.left.now held k)) next
    (member_paid each c.args.left.now held at found there old now c.loop-at.invariant mid new cost cost_is first second)

pub returns : goal.returns
returns g c =
    let held = c.args.members.now in
    let each = item_cost (environment_of c.args.context.now) in
    let old = g.B.Counting.left c.args.budget.now in
    let now = g.B.Counting.left c.loop-at.budget in
    let all : c.loop-at.at ≡ c.args.count = omega arith in
    subst (λ (k : ℕ). Takes old now (members_due each c.args.left.now held k)) all c.loop-at.invariant
