use Rattle.odata_ranges.proofs.Common.{◌<◌, ◌≤◌, ◌+◌, ◌∙◌, inr, length, refl, sym, subst, arith, SchemaModel, properties_at}
use Rattle.odata_ranges.proofs.Flags.{of_left, of_right}
use Rattle.odata_ranges.proofs.Holding.{step_holds}
use Rattle.odata_ranges.proofs.Inside.{step_kind}
use Rattle.odata_ranges.proofs.PropertyOwners.{read_there, step_inside}
use Rattle.odata_ranges.proofs.Quiet.{own_above}
use Rattle.odata_ranges.proofs.leaf_ranges.of_step.Goals as goal

pub range_in-base-requires : goal.range_in-base-requires
range_in-base-requires c =
    let step = step_kind c.args.node.kind c.args.slot c.requires.form.is in
    let there = step_inside c.args.checked.now c.requires.form.right c.args.place c.args.node c.requires.form.at c.args.slot step in
    omega (arith, there, c.requires.known.as_many)

pub owner_of-owner-requires : goal.owner_of-owner-requires
owner_of-owner-requires c =
    record { found = c.args.node; at = c.requires.form.at; slot = c.args.slot; names = inr (step_kind c.args.node.kind c.args.slot c.requires.form.is) }

pub property-requires : goal.property-requires
property-requires c =
    subst (λ (s : SchemaModel). c.args.slot < length (properties_at s c.owner_of-owner.result)) (sym c.schema.ensures)
    (c.owner_of-owner.ensures.slot_in c.args.node c.args.slot c.requires.form.at (inr (step_kind c.args.node.kind c.args.slot c.requires.form.is)))

pub returns : goal.returns
returns c =
    let next : c.args.place + 1 ≤ c.args.place + 1 = omega arith in
    own_above c.requires.form tt (record {
      bounded = c.of_value.ensures.bounded;
      holds = step_holds c.typed_trees_end_once.ensures c.args.checked.now c.args.place c.args.node c.requires.form.at c.of_value.result
          c.trees_have_one_type.ensures c.args.slot c.owner_of-owner.result c.either-may_be_null.result c.range_in-base.result
          (step_kind c.args.node.kind c.args.slot c.requires.form.is) c.owner_of-owner.ensures
          (c.requires.known.after (c.args.place + 1) c.range_in-base.result next c.range_in-base.ensures).holds c.of_value.ensures.within
          (of_left c.either-may_be_null.result c.range_in-base.result.may_be_null c.takes_null-takes.result c.either-may_be_null.ensures)
          (λ p found may. of_right c.either-may_be_null.result c.range_in-base.result.may_be_null c.takes_null-takes.result c.either-may_be_null.ensures
          (c.takes_null-takes.ensures c.args.checked.now.schema p
          (read_there c.schema.result.now c.args.checked.now.schema c.owner_of-owner.result c.owner_of-owner.result c.args.slot p c.property.result.now
          c.schema.ensures refl c.property.ensures found) ∙ may));
    })
    (λ makes quiet. c.of_value.ensures.faults)
