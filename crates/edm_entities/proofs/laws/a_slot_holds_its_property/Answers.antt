use Rattle.edm_entities.proofs.SlotLemmas.EntitySlots.{slot_value}
use Rattle.edm_entities.proofs.laws.a_slot_holds_its_property.Goals as goal

pub returns : goal.returns
returns c = slot_value
