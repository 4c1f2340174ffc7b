use Rattle.csdl_schema.proofs.DeclaredSlots.{declared_slots, distinct_slots, rising_members, undeclared_slots}
use Rattle.csdl_schema.proofs.laws.slots_as_declared.Goals as goal

pub returns-clause-members : goal.returns-clause-members
returns-clause-members c = λ document schema stands. declared_slots document schema stands (c.declared_in_order.ensures.types document stands.json stands.is_json.1)

pub returns-clause-once : goal.returns-clause-once
returns-clause-once c = λ document schema stands. distinct_slots document schema stands (c.declared_in_order.ensures.types document stands.json stands.is_json.1)

pub returns-clause-ordered : goal.returns-clause-ordered
returns-clause-ordered c = λ document schema stands. rising_members document schema stands (c.declared_in_order.ensures.types document stands.json stands.is_json.1)

pub returns-clause-none : goal.returns-clause-none
returns-clause-none c = undeclared_slots
