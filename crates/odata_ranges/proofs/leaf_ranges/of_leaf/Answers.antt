use Rattle.odata_ranges.proofs.Common.{◌<◌, ℕ, inl, inr, length, sym, subst, rules, SchemaModel, properties_at}
use Rattle.odata_ranges.proofs.Holding.{it_holds, literal_holds, now_holds, property_holds, variable_holds}
use Rattle.odata_ranges.proofs.Inside.{leaf_rest, literal_inside}
use Rattle.odata_ranges.proofs.Quiet.{no_entity}
use Rattle.odata_ranges.proofs.PropertyOwners.{property_slot, read_there}
use Rattle.odata_ranges.proofs.leaf_ranges.of_leaf.Goals as goal

pub value_at-requires : goal.value_at-requires
value_at-requires c = literal_inside c.args.checked.now c.requires.right c.args.place c.args.node c.requires.at _ c.in-Literal.value c.in-Literal.is

pub property-requires : goal.property-requires
property-requires c =
    subst (λ (s : SchemaModel). c.in-Property.slot < length (properties_at s c.filtered_type-owner.result)) (sym c.schema.ensures)
    (subst (λ (n : ℕ). c.in-Property.slot < length (properties_at c.args.checked.now.schema n)) (sym c.filtered_type-owner.ensures.same)
    (property_slot c.args.checked.now c.requires.right c.args.place c.args.node c.requires.at c.in-Property.slot c.in-Property.is))

pub returns-in-Literal-clause-right : goal.returns-in-Literal-clause-right
returns-in-Literal-clause-right c = record {
  bounded = c.range_of_value.ensures.bounded;
  holds = literal_holds c.typed_trees_end_once.ensures c.args.checked.now c.args.place c.args.node c.requires.at c.range_of_value.result
      c.literals_have_one_value.ensures _ c.in-Literal.value c.value_at.result.now c.in-Literal.is c.value_at.ensures c.range_of_value.ensures.within;
}

pub returns-in-Property-clause-right : goal.returns-in-Property-clause-right
returns-in-Property-clause-right c = record {
  bounded = c.of_value.ensures.bounded;
  holds = property_holds c.typed_trees_end_once.ensures c.args.checked.now c.args.place c.args.node c.requires.at c.of_value.result
      c.in-Property.slot c.takes_null-takes.result c.in-Property.is c.of_value.ensures.within (λ p found.
      c.takes_null-takes.ensures c.args.checked.now.schema p
      (read_there c.schema.result.now c.args.checked.now.schema c.filtered_type-owner.result c.args.checked.now.filtered c.in-Property.slot p c.property.result.now
      c.schema.ensures c.filtered_type-owner.ensures.same c.property.ensures found));
}

pub returns-in-Variable-clause-right : goal.returns-in-Variable-clause-right
returns-in-Variable-clause-right c = record {
  bounded = c.of_value-in-Variable.ensures.bounded;
  holds = variable_holds c.typed_trees_end_once.ensures c.args.checked.now c.args.place c.args.node c.requires.at c.of_value-in-Variable.result
      c.in-Variable.level c.in-Variable.is c.of_value-in-Variable.ensures.within;
}

pub returns-in_default-clause-right : goal.returns-in_default-clause-right
returns-in_default-clause-right c = record {
  bounded = search rules;
  holds = elim (leaf_rest c.args.node.kind c.requires.is c.in_default.not-Literal c.in_default.not-Property c.in_default.not-Variable) [
    | inl is ↦ it_holds c.typed_trees_end_once.ensures c.args.checked.now c.args.place c.args.node c.requires.at c.plain.result is
    | inr is ↦ now_holds c.typed_trees_end_once.ensures c.args.checked.now c.args.place c.args.node c.requires.at c.plain.result c.calls_have_one_type.ensures.named is
  ];
}

pub returns-in-Literal-clause-entity : goal.returns-in-Literal-clause-entity
returns-in-Literal-clause-entity c = λ it. absurd (no_entity c.in-Literal.is tt it)

pub returns-in-Property-clause-entity : goal.returns-in-Property-clause-entity
returns-in-Property-clause-entity c = λ it. absurd (no_entity c.in-Property.is tt it)

pub returns-in-Variable-clause-entity : goal.returns-in-Variable-clause-entity
returns-in-Variable-clause-entity c = λ it. absurd (no_entity c.in-Variable.is tt it)
