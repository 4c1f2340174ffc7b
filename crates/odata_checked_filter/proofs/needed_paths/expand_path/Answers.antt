use Rattle.std.proofs.Common.{◌≡◌, ◌+◌, ◌-◌, ◌++◌, ◌∷◌, [], ℕ, List, IsSome, slice_get, sym, subst, arith}
use Rattle.csdl_schema.specs.ExpansionView.{LeadsTo}
use Rattle.csdl_schema.specs.SchemaModel.{slots_of, type_name_at}
use Rattle.odata_signatures.specs.NeededPaths.{path_of}
use Rattle.odata_checked_filter.specs.private.Layout.{Lies}
use Rattle.odata_signatures.specs.declared.edm_type.EdmType.{EdmType}
use Rattle.odata_signatures.specs.declared.edm_type.ValueType.{ValueType}
use Rattle.odata_checked_filter.specs.declared.checked_node.NodeKind.{NodeKind}
use Rattle.odata_checked_filter.specs.private.NeededPaths.{IsPathEnd, Puts}
use Rattle.odata_checked_filter.proofs.flat.Places.{before_is, found_before, same_found}
use Rattle.odata_checked_filter.proofs.needed.Kinds.{step_there, typed_there}
use Rattle.odata_checked_filter.proofs.needed.Paths.{owner_there, step_end}
use Rattle.odata_checked_filter.proofs.needed.StepRows.{stands_below, step_found, there_at}
use Rattle.odata_checked_filter.proofs.needed_paths.expand_path.Goals as goal

-- the text of a node is that of its shape
pub expand_base-requires-clause-stands : goal.expand_base-requires-clause-stands
expand_base-requires-clause-stands c =
    let r = c.requires in
    let below = stands_below c.args.context.now.schema.now c.args.context.now.filtered_type r.scope c.args.context.now.list.now c.args.place c.path_base-bottom.result r.stop c.path_base-bottom.result r.tree r.stands
    c.path_base-bottom.ensures.steps c.path_base-bottom.ensures.below (omega arith) in
    record { scope = r.scope; paths = r.paths; stop = r.stop; tree = below.0; stands = below.1; lead = r.lead }

pub loop-at-init : goal.loop-at-init
loop-at-init c = record { above = c.path_base-bottom.ensures.below; within = omega arith; ends = c.in_ok-end.ensures }

-- the step before a node that has been reached
pub step_target-target-requires : goal.step_target-target-requires
step_target-target-requires c =
    let r = c.requires in
    let b = before_is c.loop-at.at c.args.place c.path_base-bottom.result c.loop-at-test.true c.loop-at.invariant.within in
    let below = stands_below c.args.context.now.schema.now c.args.context.now.filtered_type r.scope c.args.context.now.list.now c.args.place c.path_base-bottom.result r.stop (c.loop-at.at - 1) r.tree r.stands
    c.path_base-bottom.ensures.steps b.1.1 (let within = b.1.0 in omega (arith, within)) in
    record { scope = r.scope; stop = r.stop; tree = below.0; stands = below.1 }

pub text-requires : goal.text-requires
text-requires c =
    let list = c.args.context.now.list.now in
    let b = before_is c.loop-at.at c.args.place c.path_base-bottom.result c.loop-at-test.true c.loop-at.invariant.within in
    let step = step_found list (c.loop-at.at - 1) (c.path_base-bottom.ensures.steps (c.loop-at.at - 1) b.1.0 b.1.1) in
    found_before list.nodes (c.loop-at.at - 1) step.found step.stands_at

pub step_to-requires : goal.step_to-requires
step_to-requires c =
    let r = c.requires in
    let below = stands_below c.args.context.now.schema.now c.args.context.now.filtered_type r.scope c.args.context.now.list.now c.args.place c.path_base-bottom.result r.stop c.loop-at.at r.tree r.stands
    c.path_base-bottom.ensures.steps c.loop-at.invariant.above c.loop-at.invariant.within in
    (path_of r.scope r.paths below.0, (c.loop-at.invariant.ends r.scope r.paths r.stop below.0 below.1 r.lead).leads)

pub loop-at-preserved : goal.loop-at-preserved
loop-at-preserved c =
    let schema = c.args.context.now.schema.now in
    let n = c.args.context.now.filtered_type in
    let list = c.args.context.now.list.now in
    let at = c.loop-at.at - 1 in
    let b = before_is c.loop-at.at c.args.place c.path_base-bottom.result c.loop-at-test.true c.loop-at.invariant.within in
    let within = b.1.0 in
    record {
      above = b.1.1;
      within = omega (arith, within);
      ends = λ scope paths stop tree stands lead.
          let step = step_found list at (c.path_base-bottom.ensures.steps at b.1.0 b.1.1) in
          let there = step_there schema n scope list at stop step.slot tree step.found stands step.stands_at step.kind_is in
          let base_stands = subst (λ (k : ℕ). Lies schema n scope list k stop there.base) b.0 there.base_stands in
          let before = c.loop-at.invariant.ends scope paths stop there.base base_stands lead in
          let path = path_of scope paths there.base in
          let named : c.text.result.now ≡ there.asked = same_found (slice_get list.texts at) c.text.result.now there.asked c.text.ensures there.text_at in
          let below = typed_there schema n scope list (at + 1) stop there.base there.base_stands in
          let owner = owner_there c.trees_have_one_type.ensures schema n scope list at stop step.slot tree below.0 there below.1.0 in
          let target = c.step_target-target.result in
          let mid = c.loop-at.expansion in
          let new = c.step_to.new.expansion in
          let after = c.in_ok-node.node in
          let leads = subst (λ (name : List ℕ). LeadsTo new (path ++ name ∷ []) after) named (c.in_ok-node.ensures.leads path before.leads) in
          let puts = subst (λ (name : List ℕ). Puts mid new (λ put. IsSome target × (put ≡ path ++ name ∷ []))) named (c.in_ok-node.ensures.puts path before.leads) in
          step_end schema n scope list paths c.args.expansion.now c.trees_have_one_type.ensures mid new at stop step.slot owner.id after tree c.loop-at.end target there
          owner.owner_is
          (c.step_target-target.ensures step.slot owner.id (there_at (λ found. found.kind ≡ NodeKind.Member step.slot) (slice_get list.nodes at) step.found step.stands_at step.kind_is, there_at (λ base. base.edm_type ≡ EdmType.Single (ValueType.Structured owner.id)) (slice_get list.nodes (at + 1)) below.0 below.1.0 owner.type_is))
          (subst (λ (k : ℕ). IsPathEnd (slots_of schema) (type_name_at schema n) scope paths c.args.expansion.now mid k there.base c.loop-at.end) (sym b.0) before) leads puts;
    }

pub returns : goal.returns
returns c =
    let above : c.loop-at.at ≡ c.args.place = (let past = c.loop-at-test.false in let since = c.loop-at.invariant.above in omega (arith, past, since)) in
    λ scope paths stop tree stands lead.
    let ended = c.loop-at.invariant.ends scope paths stop tree (subst (λ (k : ℕ). Lies c.args.context.now.schema.now c.args.context.now.filtered_type scope c.args.context.now.list.now k stop tree) (sym above) stands) lead in
    subst (λ (k : ℕ). IsPathEnd (slots_of c.args.context.now.schema.now) (type_name_at c.args.context.now.schema.now c.args.context.now.filtered_type) scope paths c.args.expansion.now c.loop-at.expansion k tree c.loop-at.end) above ended
