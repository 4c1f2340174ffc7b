use Rattle.std.proofs.Common.{◌≡◌, ◌<◌, ◌≤◌, ◌+◌, ◌-◌, ℕ, List, slice_get, sym, subst, arith}
use Rattle.odata_checked_filter.specs.declared.checked_node.CheckedNode.{CheckedNode}
use Rattle.filter_context.proofs.Parts.{found_there, there_found}
use Rattle.odata_ranges.specs.Owners.{NamesSlotOf}
use Rattle.sql_tree.specs.declared.json_path.Step.{Step}
use Rattle.sql_draft.specs.private.Paths.{StepsLead}
use Rattle.sql_draft.specs.Translated.{question_of}
use Rattle.sql_draft.proofs.PathsPut.{path_ok, step_up}
use Rattle.sql_draft.proofs.paths.put_path.Goals as goal

pub loop-at-init : goal.loop-at-init
loop-at-init c = record {
  above = c.base_of-base.ensures.after;
  inside = omega arith;
  leads = subst (λ (steps : List Step). StepsLead (question_of c.args.context.now) c.args.draft.now.members.items c.base_of-base.result.0 steps c.lowest_of-lowest.result c.base_of-base.result.1)
      (sym c.new-steps.ensures.items) c.base_of-base.ensures.leads;
}

-- each node above the base names a property
pub loop-at-preserved : goal.loop-at-preserved
loop-at-preserved c =
    let before = c.loop-at-test.true in
    let within = c.loop-at.invariant.inside in
    let first : c.args.place ≤ c.loop-at.at - 1 = omega (arith, before) in
    let below : c.loop-at.at - 1 < c.base_of-base.result.1 = omega (arith, within, before) in
    let named = c.base_of-base.ensures.names (c.loop-at.at - 1) first below in
    let here = slice_get c.args.context.now.checked.now.list.nodes (c.loop-at.at - 1) in
    let names = there_found (λ (n : CheckedNode). NamesSlotOf n.kind named.slot) here named.found named.at named.names in
    absurd (c.in_default.ensures.none named.slot (found_there (λ (n : CheckedNode). NamesSlotOf n.kind named.slot) here c.node.result c.node.ensures names))

pub loop-at-preserved-in-Continue-1 : goal.loop-at-preserved-in-Continue-1
loop-at-preserved-in-Continue-1 c =
    let before = c.loop-at-test.true in
    let within = c.loop-at.invariant.inside in
    let most = c.base_of-base.ensures.inside in
    let back : c.loop-at.at - 1 + 1 ≡ c.loop-at.at = omega (arith, before) in
    let first : c.args.place ≤ c.loop-at.at - 1 = omega (arith, before) in
    let inside : c.loop-at.at - 1 ≤ c.lowest_of-lowest.result = omega (arith, within, most, before) in
    let lead =
    subst (λ (k : ℕ). StepsLead (question_of c.args.context.now) c.args.draft.now.members.items c.base_of-base.result.0 c.loop-at.steps.items c.lowest_of-lowest.result k) (sym back)
    c.loop-at.invariant.leads in
    record {
      above = first;
      inside = omega (arith, within);
      leads = subst (λ (steps : List Step). StepsLead (question_of c.args.context.now) c.args.draft.now.members.items c.base_of-base.result.0 steps c.lowest_of-lowest.result (c.loop-at.at - 1))
          (sym c.in_ok-push.ensures.items)
          (step_up c.trees_have_one_type.ensures (question_of c.args.context.now) c.args.draft.now.members.items c.base_of-base.result.0 c.loop-at.steps.items c.args.place c.lowest_of-lowest.result
          (c.loop-at.at - 1) (record { owner = c.owner_of.result; slot = c.in-Some.slot }) c.node.result c.lowest_of-lowest.ensures c.node.ensures c.in-Some.ensures.some c.owner_of.ensures first inside lead);
    }

pub returns : goal.returns
returns c =
    let past = c.loop-at-test.false in
    let above = c.loop-at.invariant.above in
    let same : c.loop-at.at ≡ c.args.place = omega (arith, past, above) in
    path_ok (question_of c.args.context.now) c.args.draft.now c.add_path.new.self (record { base = c.base_of-base.result.0; steps = c.loop-at.steps }) c.lowest_of-lowest.result c.args.place
    c.add_path.result c.lowest_of-lowest.ensures.after
    (subst (λ (k : ℕ). StepsLead (question_of c.args.context.now) c.args.draft.now.members.items c.base_of-base.result.0 c.loop-at.steps.items c.lowest_of-lowest.result k) same c.loop-at.invariant.leads)
    c.add_path.ensures.ok
