use Rattle.std.proofs.Common.{inl, inr, Ok, ap, refl}
use Rattle.edm_values.specs.declared.value.Value.{Record}
use Rattle.edm_entities.proofs.leaf.record_of.Goals as goal

pub returns-in-Ok-Some-clause-record : goal.returns-in-Ok-Some-clause-record
returns-in-Ok-Some-clause-record c = inr (c.in-Ok-Some.held, refl, rw c.in-Ok-Some.field-0-is at c.in-Ok-Some.ensures.few)

pub returns-in-Ok-None-clause-record : goal.returns-in-Ok-None-clause-record
returns-in-Ok-None-clause-record c = inl (ap Record (c.in-Ok-None.ensures.many (ap Ok c.in-Ok-None.field-0-is)))
