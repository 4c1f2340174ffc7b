use Rattle.odata_ranges.proofs.Common.{◌≡◌, List, length, sym, ap, subst, arith, CheckedNode, found_before, same_found, IsOwnerAt, NamesSlotOf}
use Rattle.odata_ranges.proofs.PropertyOwners.{if_none, named_member, named_property, property_owned, step_inside, step_owned, step_type}
use Rattle.odata_ranges.proofs.named_properties.owner_of.Goals.{in-Member+else-prove+in_default-structured_type, in_default}
use Rattle.odata_ranges.proofs.named_properties.owner_of.Goals as goal

pub node_at-node-requires : goal.node_at-node-requires
node_at-node-requires c = found_before c.args.checked.now.list.nodes c.args.place c.requires.found c.requires.at

pub prove-unreachable-requires : goal.prove-unreachable-requires
prove-unreachable-requires c =
    let same : c.requires.found ≡ c.node_at-node.result = same_found _ c.requires.found c.node_at-node.result c.requires.at c.node_at-node.ensures.found in
    let names = subst (λ (n : CheckedNode). NamesSlotOf n.kind c.requires.slot) same c.requires.names in
    let inside = step_inside c.args.checked.now c.node_at-node.ensures.right c.args.place c.node_at-node.result c.node_at-node.ensures.found c.requires.slot (named_member c.node_at-node.result.kind c.requires.slot _ names c.in-Member.is) in
    absurd (omega (arith, inside, ap (λ (ns : List CheckedNode). length ns) c.nodes-count.ensures.same))

pub node_at-base-requires : goal.node_at-base-requires
node_at-base-requires c =
    let same : c.requires.found ≡ c.node_at-node.result = same_found _ c.requires.found c.node_at-node.result c.requires.at c.node_at-node.ensures.found in
    let names = subst (λ (n : CheckedNode). NamesSlotOf n.kind c.requires.slot) same c.requires.names in
    step_inside c.args.checked.now c.node_at-node.ensures.right c.args.place c.node_at-node.result c.node_at-node.ensures.found c.requires.slot (named_member c.node_at-node.result.kind c.requires.slot _ names c.in-Member.is)

pub returns-in-Some : goal.returns-in-Some
returns-in-Some c =
    let same : c.requires.found ≡ c.node_at-node.result = same_found _ c.requires.found c.node_at-node.result c.requires.at c.node_at-node.ensures.found in
    let names = subst (λ (n : CheckedNode). NamesSlotOf n.kind c.requires.slot) same c.requires.names in
    step_owned c.args.checked.now c.node_at-node.ensures.right c.args.place c.node_at-node.result c.node_at-node.ensures.found c.trees_have_one_type.ensures
    c.node_at-base.result c.node_at-base.ensures.found c.requires.slot c.in-Some.owner (named_member c.node_at-node.result.kind c.requires.slot _ names c.in-Member.is) c.in-Some.ensures.some

pub returns : goal.returns
returns c =
    let same : c.requires.found ≡ c.node_at-node.result = same_found _ c.requires.found c.node_at-node.result c.requires.at c.node_at-node.ensures.found in
    let names = subst (λ (n : CheckedNode). NamesSlotOf n.kind c.requires.slot) same c.requires.names in
    elim c.match-node.branch [
      | in-Member+else-prove+in_default-structured_type w ↦ (
          let type = step_type c.args.checked.now c.node_at-node.ensures.right c.args.place c.node_at-node.result c.node_at-node.ensures.found c.trees_have_one_type.ensures
          w.node_at-base.result w.node_at-base.ensures.found c.requires.slot (named_member c.node_at-node.result.kind c.requires.slot _ names w.in-Member.is) in
          absurd (if_none w.structured_type.result _ w.in_default-structured_type.not-Some w.structured_type.ensures.none type.0 type.1)
          )
      | in_default w ↦
          subst (IsOwnerAt c.args.checked.now c.args.place) (sym c.filtered_type.ensures.same)
          (property_owned c.args.checked.now c.node_at-node.ensures.right c.args.place c.node_at-node.result c.node_at-node.ensures.found c.requires.slot
          (named_property c.node_at-node.result.kind c.requires.slot names w.in_default.not-Member))
    ]
