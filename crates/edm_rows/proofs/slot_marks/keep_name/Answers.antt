use Rattle.std.proofs.Common.{◌↔◌, List, Bool, true, length, ap, sym, ◌∙◌, subst}
use Rattle.std.proofs.lemmas.List.{length-set}
use Rattle.csdl_schema.specs.SchemaModel.{properties_at}
use Rattle.edm_rows.specs.private.HeldRows.{keeps_of}
use Rattle.edm_rows.proofs.SlotMarks.{IsUnmarked, marked, none_marked, others_as_were}
use Rattle.edm_rows.proofs.TypesChanged.{same_self}
use Rattle.edm_rows.proofs.slot_marks.keep_name.Goals as goal

pub returns-in-Some-clause-slots : goal.returns-in-Some-clause-slots
returns-in-Some-clause-slots c = ap length c.keep_slot.ensures.kept ∙ length-set (keeps_of c.args.of.now) c.in-Some.slot true

pub returns-in-Some-clause-named : goal.returns-in-Some-clause-named
returns-in-Some-clause-named c =
    let ps = properties_at c.args.schema.now c.args.of.now.type_id in
    subst (λ (m : List Bool). IsUnmarked ps m c.args.name.now → ⊥) (sym c.keep_slot.ensures.kept) (marked ps c.requires c.args.name.now (keeps_of c.args.of.now) c.in-Some.slot c.in-Some.ensures)

pub returns-in-Some-clause-others : goal.returns-in-Some-clause-others
returns-in-Some-clause-others c other differs =
    let ps = properties_at c.args.schema.now c.args.of.now.type_id in
    subst (λ (m : List Bool). IsUnmarked ps m other ↔ IsUnmarked ps (keeps_of c.args.of.now) other) (sym c.keep_slot.ensures.kept) (others_as_were ps c.requires c.args.name.now (keeps_of c.args.of.now) c.in-Some.slot c.in-Some.ensures other differs)

pub returns-in-None-clause-same : goal.returns-in-None-clause-same
returns-in-None-clause-same c = same_self c.args.of.now

pub returns-in-None-clause-named : goal.returns-in-None-clause-named
returns-in-None-clause-named c =
    none_marked (properties_at c.args.schema.now c.args.of.now.type_id) c.requires c.args.name.now (keeps_of c.args.of.now) c.in-None.ensures

pub returns-in-None-clause-others : goal.returns-in-None-clause-others
returns-in-None-clause-others c other differs = ((λ un. un), (λ un. un))
