use Rattle.std.proofs.Common.{Err, ℕ, suc, ◌≡◌, ◌⊎◌, ◌<◌, ◌≤◌, ◌+◌, ◌*◌, ◌++◌, [], ◌∷◌, true, false, is_some, length, Option, Some, None, option_map, IfOk, IfErr, refl, sym, ap, ap₂, ◌∙◌, subst, rules, arith, add-one}
use Rattle.std.proofs.lemmas.Result.{err_from_is_err_and}
use Rattle.std.proofs.lemmas.Grind.{common_steps}
use Rattle.serde_json.specs.Data.{Data, Items, array, depth, item, items_depth, no_items}
use Rattle.json_room.specs.private.ItemTokens.{append_items}
use Rattle.serde_json.specs.Find.{get, as_object}
use Rattle.csdl_schema.specs.ExprType.{single, collection, primitive, enumeration, structured}
use Rattle.csdl_schema.specs.ExpansionView.{paths_at}
use Rattle.csdl_schema.specs.PropertyView.{property_type, target_of}
use Rattle.csdl_schema.specs.SchemaModel.{Slots, properties_at, slots_behind, type_name_at}
use Rattle.edm_entities.specs.Fits.{FitsFound, FitsType, FitsProperty}
use Rattle.edm_entities.specs.FitsPrimitive.{Flaw, FitsPrimitive, FitsText, IsMemberText}
use Rattle.edm_entities.specs.HoldsEachSlot.{HoldsEachSlot}
use Rattle.edm_entities.specs.Row.{field_of, val_of}
use Rattle.edm_entities.specs.RowFaults.{Path, IsFoundFault, IsValueFault}
use Rattle.edm_entities.specs.private.Walk.{IsPropertyFault}
use Rattle.std.specs.Prelude.{decimal}
use Rattle.edm_entities.specs.private.Faults.{IsBelow, IsFaultOf}
use Rattle.edm_row_plans.specs.Expanded.{slots_at, wanted_with}
use Rattle.edm_entities.specs.private.Walk.{slots_in}
use Rattle.edm_entities.specs.private.JsonNodes.{HasMembersOf, IsNextItem, data_of, items_left}
use Rattle.edm_entities.specs.private.Walk.{FitList, FitsSlot, HoldsInSlot, wanted_single}
use Rattle.edm_entities.specs.declared.flaw.ReadFlaw.TheVariants as code
use Rattle.edm_entities.specs.private.Walk.{IsRecordOf}
use Rattle.edm_values.specs.declared.value.Value.{Null}
use Rattle.edm_entities.proofs.SlotLemmas.Depth.{found_measure, found_less, measure_of, rank_found, rank_single, rank_slots}
use Rattle.edm_entities.proofs.SlotLemmas.EachSlot.{IsLookedAt, null_holds, null_in_slot, held_seen, primitive_holds, member_holds, slots_held, list_held, holds_push, holds_as}
use Rattle.edm_entities.proofs.SlotLemmas.FaultsBelow.{fault_by}
use Rattle.edm_entities.proofs.SlotLemmas.FewSlots.{record_held, record_val}
use Rattle.edm_entities.proofs.SlotLemmas.FoundWalk.{ok_by, err_by, reported_here, other_fits, other_fault, null_fits, null_flaw, type_wanted, seen_as, items_as, items_null, ok_seen, err_seen, unwanted_fits, nothing_fits, nothing_missing, nothing_expanded, node_slots}
use Rattle.edm_entities.proofs.SlotLemmas.ItemWalk.{append_next, append_none, item_within, list_push, list_fault}
use Rattle.edm_entities.proofs.SlotLemmas.ReadEntities.{slots_fit}
use Rattle.edm_entities.proofs.SlotLemmas.SlotsByName.{as_many}
use Rattle.edm_entities.proofs.SlotLemmas.SlotWalk.{slot_pushed, slots_fault}
use Rattle.edm_entities.proofs.SlotLemmas.ValueWalk.{leaf_fits, leaf_fault, read_as, value_as, record_fault, array_fits, array_fault, none_of}
use Rattle.edm_entities.proofs.json_walk.+walk.Goals as goal

pub read_slots-read_property-requires : goal.read_slots-read_property-requires
read_slots-read_property-requires t c =
    let found = c.find.ensures (properties_at c.args.context.now.schema.now c.args.type_id) (data_of c.args.json.now) c.loop-slot.invariant.2 c.at.ensures.name in
    let smaller : found_measure (option_map data_of c.find.result) < measure_of (depth (data_of c.args.json.now)) rank_slots =
    found_less c.at.result.0.now (data_of c.args.json.now) (option_map data_of c.find.result) found.0 in
    search rules

pub read_slots-loop-slot-preserved : goal.read_slots-loop-slot-preserved
read_slots-loop-slot-preserved t c =
    let l = c.loop-slot in
    let schema = c.args.context.now.schema.now in
    let steps = c.args.context.now.expansion.now in
    let name = c.at.result.0.now in
    let type = property_type schema c.at.result.1.now in
    let v = c.in-Ok-read_property.value in
    let found = c.find.ensures (properties_at schema c.args.type_id) (data_of c.args.json.now) l.invariant.2 c.at.ensures.name in
    let inner : slots_at schema steps c.node_behind-inner.result ≡ slots_behind (slots_at schema steps c.args.node) name =
    ap (slots_at schema steps) c.node_behind-inner.ensures ∙ node_slots schema steps c.args.node name in
    let pushed : c.push.new.self.items ≡ l.values.items ++ v ∷ [] = grind (arith, common_steps) in
    let fits = subst (λ (s : Slots). FitsProperty s c.at.result.1.now.nullable type (option_map data_of c.find.result) (field_of s.properties type (val_of v))) inner c.in-Ok-read_property.ensures.fits in
    let read = slot_pushed schema (paths_at steps c.args.node) c.args.type_id l.slot (data_of c.args.json.now) l.values.items name c.at.result.1.now c.at.ensures.name c.at.ensures.property l.invariant.0 v
    (subst (λ (o : Option Data). FitsProperty (slots_behind (slots_at schema steps c.args.node) name) c.at.result.1.now.nullable type o (field_of (slots_behind (slots_at schema steps c.args.node) name).properties type (val_of v))) found.0 fits)
    (subst (λ (s : Slots). HoldsInSlot s type v) inner c.in-Ok-read_property.ensures.holds) in
    let next : l.slot + 1 ≡ suc l.slot = omega arith in
    let members = subst (λ (n : ℕ). HasMembersOf (properties_at schema c.args.type_id) (data_of c.args.json.now) n c.find.new.self) next found.1 in
    rw (pushed, add-one) (read, c.at.ensures.cursor, members)

pub read_slots-returns-in-Err-clause-fault : goal.read_slots-returns-in-Err-clause-fault
read_slots-returns-in-Err-clause-fault t c =
    let l = c.loop-slot in
    let schema = c.args.context.now.schema.now in
    let steps = c.args.context.now.expansion.now in
    let name = c.at.result.0.now in
    let type = property_type schema c.at.result.1.now in
    let found = c.find.ensures (properties_at schema c.args.type_id) (data_of c.args.json.now) l.invariant.2 c.at.ensures.name in
    let inner : slots_at schema steps c.node_behind-inner.result ≡ slots_behind (slots_at schema steps c.args.node) name =
    ap (slots_at schema steps) c.node_behind-inner.ensures ∙ node_slots schema steps c.args.node name in
    slots_fault schema (paths_at steps c.args.node) c.args.type_id l.slot (data_of c.args.json.now) l.values.items name c.at.result.1.now
    c.at.ensures.name c.at.ensures.property l.invariant.0 false c.in-Err.fault c.fault_below.result (sym c.in-Ok.ensures.object ∙ ap is_some c.in-Some.is) c.fault_below.ensures
    (subst (λ (o : Option Data). IsFaultOf (IsPropertyFault (slots_behind (slots_at schema steps c.args.node) name) c.at.result.1.now.nullable type o) c.in-Err.fault) found.0
    (subst (λ (s : Slots). IsFaultOf (IsPropertyFault s c.at.result.1.now.nullable type (option_map data_of c.find.result)) c.in-Err.fault) inner c.in-Err.ensures.fault))

pub read_slots-returns-in_default-found-clause-fault : goal.read_slots-returns-in_default-found-clause-fault
read_slots-returns-in_default-found-clause-fault t c =
    reported_here (λ path flaw. IsValueFault (slots_in c.args.context.now c.args.node) false path (single (structured (type_name_at c.args.context.now.schema.now c.args.type_id))) (data_of c.args.json.now) flaw)
    c.fault_here-in_default-found.result code.WrongKind c.fault_here-in_default-found.ensures.flaw c.fault_here-in_default-found.ensures.here
    (none_of (as_object (data_of c.args.json.now)) (is_some c.in-Ok.found) c.in-Ok.ensures.object (ap is_some c.in_default-found.is))

pub read_property-read_items-requires : goal.read_property-read_items-requires
read_property-read_items-requires t c =
    let smaller : measure_of (depth (data_of c.in-Some-found.json)) rank_single < found_measure (option_map data_of c.args.found) = rw c.in-Some-found.is (omega arith) in
    search rules

pub read_property-read_single-requires : goal.read_property-read_single-requires
read_property-read_single-requires t c =
    let smaller : measure_of (depth (data_of c.in-Some-found.json)) rank_single < found_measure (option_map data_of c.args.found) = rw c.in-Some-found.is (omega arith) in
    search rules

pub read_property-returns-in_default-clause-fits : goal.read_property-returns-in_default-clause-fits
read_property-returns-in_default-clause-fits t c =
    unwanted_fits c.args.context.now.schema.now (slots_in c.args.context.now c.args.node) c.args.property.now.nullable c.args.property.now.kind (target_of c.args.property.now) c.args.property.now.many _ Null
    (ap (wanted_with c.args.property.now.kind) (sym c.expanded_target-target.ensures) ∙ sym c.wanted_with.ensures ∙ c.in_default.is) refl

pub read_property-returns-in_default-clause-holds : goal.read_property-returns-in_default-clause-holds
read_property-returns-in_default-clause-holds t c = null_in_slot (slots_in c.args.context.now c.args.node) (property_type c.args.context.now.schema.now c.args.property.now) Null refl

pub read_property-returns-then-property-clause-fits : goal.read_property-returns-then-property-clause-fits
read_property-returns-then-property-clause-fits t c =
    let schema = c.args.context.now.schema.now in
    let slots = slots_in c.args.context.now c.args.node in
    let p = c.args.property.now in
    let is = ap (wanted_with c.args.property.now.kind) (sym c.expanded_target-target.ensures) ∙ sym c.wanted_with.ensures ∙ c.in-Some.is in
    let seen = subst (IsLookedAt slots (property_type schema p)) (ap (type_wanted schema c.in-Some.wanted) c.if-property.true) (seen_as schema slots p.kind (target_of p) p.many c.in-Some.wanted is) in
    ok_seen c.read_items.result slots p.nullable (property_type schema p) (collection (wanted_single schema c.in-Some.wanted)) (data_of c.in-Some-found.json) _ false _
    (ap (option_map data_of) c.in-Some-found.is) seen refl (c.may_hold_null.ensures ∙ items_as schema slots p.kind (target_of p) p.many p.nullable c.in-Some.wanted is) c.read_items.ensures.fits

pub read_property-returns-then-property-clause-holds : goal.read_property-returns-then-property-clause-holds
read_property-returns-then-property-clause-holds t c =
    let schema = c.args.context.now.schema.now in
    let slots = slots_in c.args.context.now c.args.node in
    let p = c.args.property.now in
    let is = ap (wanted_with c.args.property.now.kind) (sym c.expanded_target-target.ensures) ∙ sym c.wanted_with.ensures ∙ c.in-Some.is in
    let seen = subst (IsLookedAt slots (property_type schema p)) (ap (type_wanted schema c.in-Some.wanted) c.if-property.true) (seen_as schema slots p.kind (target_of p) p.many c.in-Some.wanted is) in
    let type = collection (wanted_single schema c.in-Some.wanted) in
    ok_by c.read_items.result (λ v. HoldsEachSlot v slots type) (HoldsInSlot slots (property_type schema p)) (λ v holds. held_seen slots (property_type schema p) type v seen holds) c.read_items.ensures.holds

pub read_property-returns-then-property-clause-fault : goal.read_property-returns-then-property-clause-fault
read_property-returns-then-property-clause-fault t c =
    let schema = c.args.context.now.schema.now in
    let slots = slots_in c.args.context.now c.args.node in
    let p = c.args.property.now in
    let is = ap (wanted_with c.args.property.now.kind) (sym c.expanded_target-target.ensures) ∙ sym c.wanted_with.ensures ∙ c.in-Some.is in
    let seen = subst (IsLookedAt slots (property_type schema p)) (ap (type_wanted schema c.in-Some.wanted) c.if-property.true) (seen_as schema slots p.kind (target_of p) p.many c.in-Some.wanted is) in
    err_seen c.read_items.result slots p.nullable (property_type schema p) (collection (wanted_single schema c.in-Some.wanted)) (data_of c.in-Some-found.json) _ false _
    (ap (option_map data_of) c.in-Some-found.is) seen refl (c.may_hold_null.ensures ∙ items_as schema slots p.kind (target_of p) p.many p.nullable c.in-Some.wanted is) c.read_items.ensures.fault

pub read_property-returns-else-property-clause-fits : goal.read_property-returns-else-property-clause-fits
read_property-returns-else-property-clause-fits t c =
    let schema = c.args.context.now.schema.now in
    let slots = slots_in c.args.context.now c.args.node in
    let p = c.args.property.now in
    let is = ap (wanted_with c.args.property.now.kind) (sym c.expanded_target-target.ensures) ∙ sym c.wanted_with.ensures ∙ c.in-Some.is in
    let seen = subst (IsLookedAt slots (property_type schema p)) (ap (type_wanted schema c.in-Some.wanted) c.if-property.false) (seen_as schema slots p.kind (target_of p) p.many c.in-Some.wanted is) in
    ok_seen c.read_single.result slots p.nullable (property_type schema p) (single (wanted_single schema c.in-Some.wanted)) (data_of c.in-Some-found.json) _ p.nullable _
    (ap (option_map data_of) c.in-Some-found.is) seen refl refl (c.read_single.ensures.fits (items_null (property_type schema p) p.nullable))

pub read_property-returns-else-property-clause-holds : goal.read_property-returns-else-property-clause-holds
read_property-returns-else-property-clause-holds t c =
    let schema = c.args.context.now.schema.now in
    let slots = slots_in c.args.context.now c.args.node in
    let p = c.args.property.now in
    let is = ap (wanted_with c.args.property.now.kind) (sym c.expanded_target-target.ensures) ∙ sym c.wanted_with.ensures ∙ c.in-Some.is in
    let seen = subst (IsLookedAt slots (property_type schema p)) (ap (type_wanted schema c.in-Some.wanted) c.if-property.false) (seen_as schema slots p.kind (target_of p) p.many c.in-Some.wanted is) in
    let type = single (wanted_single schema c.in-Some.wanted) in
    ok_by c.read_single.result (λ v. HoldsEachSlot v slots type) (HoldsInSlot slots (property_type schema p)) (λ v holds. held_seen slots (property_type schema p) type v seen holds) c.read_single.ensures.holds

pub read_property-returns-else-property-clause-fault : goal.read_property-returns-else-property-clause-fault
read_property-returns-else-property-clause-fault t c =
    let schema = c.args.context.now.schema.now in
    let slots = slots_in c.args.context.now c.args.node in
    let p = c.args.property.now in
    let is = ap (wanted_with c.args.property.now.kind) (sym c.expanded_target-target.ensures) ∙ sym c.wanted_with.ensures ∙ c.in-Some.is in
    let seen = subst (IsLookedAt slots (property_type schema p)) (ap (type_wanted schema c.in-Some.wanted) c.if-property.false) (seen_as schema slots p.kind (target_of p) p.many c.in-Some.wanted is) in
    err_seen c.read_single.result slots p.nullable (property_type schema p) (single (wanted_single schema c.in-Some.wanted)) (data_of c.in-Some-found.json) _ p.nullable _
    (ap (option_map data_of) c.in-Some-found.is) seen refl refl (c.read_single.ensures.fault (items_null (property_type schema p) p.nullable))

pub read_single-returns-then-is_null-clause-fits : goal.read_single-returns-then-is_null-clause-fits
read_single-returns-then-is_null-clause-fits t c items =
    let type = single (wanted_single c.args.context.now.schema.now c.args.wanted.now) in
    ok_by c.null_value.result (λ v. (c.args.nullable ≡ true) × (v ≡ Null))
    (λ v. FitsFound (Some (data_of c.args.json.now)) c.args.nullable (val_of v (slots_in c.args.context.now c.args.node).properties type)
    (λ found. FitsType (slots_in c.args.context.now c.args.node) items type found (val_of v (slots_in c.args.context.now c.args.node).properties type)))
    (λ v is. null_fits (data_of c.args.json.now) c.args.nullable (slots_in c.args.context.now c.args.node) type v _ (sym c.is_null.ensures ∙ c.if-is_null.true) is.0 is.1)
    c.null_value.ensures.value

pub read_single-returns-then-is_null-clause-holds : goal.read_single-returns-then-is_null-clause-holds
read_single-returns-then-is_null-clause-holds t c =
    let type = single (wanted_single c.args.context.now.schema.now c.args.wanted.now) in
    ok_by c.null_value.result (λ v. (c.args.nullable ≡ true) × (v ≡ Null)) (λ v. HoldsEachSlot v (slots_in c.args.context.now c.args.node) type)
    (λ v is. null_holds (slots_in c.args.context.now c.args.node) type v is.1) c.null_value.ensures.value

pub read_single-returns-then-is_null-clause-fault : goal.read_single-returns-then-is_null-clause-fault
read_single-returns-then-is_null-clause-fault t c items =
    let type = single (wanted_single c.args.context.now.schema.now c.args.wanted.now) in
    let P : (Path → Flaw → Type 0) = λ path flaw. IsFoundFault (Some (data_of c.args.json.now)) c.args.nullable path flaw
    (λ found. IsValueFault (slots_in c.args.context.now c.args.node) items path type found flaw) in
    err_by c.null_value.result (λ fault. (c.args.nullable ≡ false) × (fault.path ≡ None) × (fault.flaw ≡ code.NullNotAllowed)) (IsFaultOf P)
    (λ fault is. reported_here P fault code.NullNotAllowed is.2 is.1 (null_flaw (data_of c.args.json.now) c.args.nullable _ (sym c.is_null.ensures ∙ c.if-is_null.true) is.0))
    c.null_value.ensures.fault

pub read_single-returns-clause-fits : goal.read_single-returns-clause-fits
read_single-returns-clause-fits t c items =
    let type = single (wanted_single c.args.context.now.schema.now c.args.wanted.now) in
    ok_by c.read_value.result (λ v. FitsType (slots_in c.args.context.now c.args.node) items type (data_of c.args.json.now) (val_of v (slots_in c.args.context.now c.args.node).properties type))
    (λ v. FitsFound (Some (data_of c.args.json.now)) c.args.nullable (val_of v (slots_in c.args.context.now c.args.node).properties type)
    (λ found. FitsType (slots_in c.args.context.now c.args.node) items type found (val_of v (slots_in c.args.context.now c.args.node).properties type)))
    (λ v fits. other_fits (data_of c.args.json.now) c.args.nullable _ _ (sym c.is_null.ensures ∙ c.if-is_null.false) fits)
    (c.read_value.ensures.fits items)

pub read_single-returns-clause-fault : goal.read_single-returns-clause-fault
read_single-returns-clause-fault t c items =
    let type = single (wanted_single c.args.context.now.schema.now c.args.wanted.now) in
    let Here : (Path → Flaw → Type 0) = λ path flaw. IsValueFault (slots_in c.args.context.now c.args.node) items path type (data_of c.args.json.now) flaw in
    let P : (Path → Flaw → Type 0) = λ path flaw. IsFoundFault (Some (data_of c.args.json.now)) c.args.nullable path flaw
    (λ found. IsValueFault (slots_in c.args.context.now c.args.node) items path type found flaw) in
    err_by c.read_value.result (IsFaultOf Here) (IsFaultOf P)
    (λ reported fault. fault_by Here P reported (λ path flaw here. other_fault (data_of c.args.json.now) c.args.nullable path flaw _ (sym c.is_null.ensures ∙ c.if-is_null.false) here) fault)
    (c.read_value.ensures.fault items)

pub read_value-returns-in-Prim-clause-fits : goal.read_value-returns-in-Prim-clause-fits
read_value-returns-in-Prim-clause-fits t c nullable =
    let type = single (primitive c.in-Prim.prim) in
    read_as (slots_in c.args.context.now c.args.node) nullable (data_of c.args.json.now) (wanted_single c.args.context.now.schema.now c.args.wanted.now) (primitive c.in-Prim.prim) c.leaf_read.result
    (ap (wanted_single c.args.context.now.schema.now) c.in-Prim.is)
    (leaf_fits c.read_primitive.result c.leaf_read.result (λ v. FitsType (slots_in c.args.context.now c.args.node) nullable type (data_of c.args.json.now) (val_of v (slots_in c.args.context.now c.args.node).properties type))
    c.leaf_read.ensures.value (c.read_primitive.ensures.fits (data_of c.args.json.now) (slots_in c.args.context.now c.args.node) type c.scalar.ensures))

pub read_value-returns-in-Prim-clause-holds : goal.read_value-returns-in-Prim-clause-holds
read_value-returns-in-Prim-clause-holds t c =
    let slots = slots_in c.args.context.now c.args.node in
    let type = primitive c.in-Prim.prim in
    let wanted = wanted_single c.args.context.now.schema.now c.args.wanted.now in
    leaf_fits c.read_primitive.result c.leaf_read.result (λ v. HoldsEachSlot v slots (single wanted)) c.leaf_read.ensures.value
    (ok_by c.read_primitive.result (λ v. FitsPrimitive c.in-Prim.prim (data_of c.args.json.now) (val_of v slots.properties (single type))) (λ v. HoldsEachSlot v slots (single wanted))
    (λ v fits. holds_as slots wanted type v (ap (wanted_single c.args.context.now.schema.now) c.in-Prim.is) (primitive_holds slots c.in-Prim.prim (data_of c.args.json.now) v fits))
    (c.read_primitive.ensures.fits (data_of c.args.json.now) slots (single type) c.scalar.ensures))

pub read_value-returns-in-Prim-clause-fault : goal.read_value-returns-in-Prim-clause-fault
read_value-returns-in-Prim-clause-fault t c nullable =
    rw c.in-Prim.is (leaf_fault c.read_primitive.result c.leaf_read.result
    (λ path flaw. IsValueFault (slots_in c.args.context.now c.args.node) nullable path (single (primitive c.in-Prim.prim)) (data_of c.args.json.now) flaw)
    c.leaf_read.ensures.fault (c.read_primitive.ensures.flaw (data_of c.args.json.now) c.scalar.ensures))

pub read_value-returns-in-Enum-clause-fits : goal.read_value-returns-in-Enum-clause-fits
read_value-returns-in-Enum-clause-fits t c nullable =
    let type = single (enumeration (type_name_at c.args.context.now.schema.now c.in-Enum.id)) in
    read_as (slots_in c.args.context.now c.args.node) nullable (data_of c.args.json.now) (wanted_single c.args.context.now.schema.now c.args.wanted.now) (enumeration (type_name_at c.args.context.now.schema.now c.in-Enum.id))
    c.leaf_read-in-Enum.result (ap (wanted_single c.args.context.now.schema.now) c.in-Enum.is)
    (leaf_fits c.read_member.result c.leaf_read-in-Enum.result
    (λ v. FitsType (slots_in c.args.context.now c.args.node) nullable type (data_of c.args.json.now) (val_of v (slots_in c.args.context.now c.args.node).properties type))
    c.leaf_read-in-Enum.ensures.value (c.read_member.ensures.fits (data_of c.args.json.now) (slots_in c.args.context.now c.args.node) type c.scalar-in-Enum.ensures))

pub read_value-returns-in-Enum-clause-holds : goal.read_value-returns-in-Enum-clause-holds
read_value-returns-in-Enum-clause-holds t c =
    let slots = slots_in c.args.context.now c.args.node in
    let name = type_name_at c.args.context.now.schema.now c.in-Enum.id in
    let wanted = wanted_single c.args.context.now.schema.now c.args.wanted.now in
    leaf_fits c.read_member.result c.leaf_read-in-Enum.result (λ v. HoldsEachSlot v slots (single wanted)) c.leaf_read-in-Enum.ensures.value
    (ok_by c.read_member.result (λ v. FitsText (IsMemberText (slots.enumerations name)) (data_of c.args.json.now) (val_of v slots.properties (single (enumeration name)))) (λ v. HoldsEachSlot v slots (single wanted))
    (λ v fits. holds_as slots wanted (enumeration name) v (ap (wanted_single c.args.context.now.schema.now) c.in-Enum.is) (member_holds slots name (data_of c.args.json.now) v fits))
    (c.read_member.ensures.fits (data_of c.args.json.now) slots (single (enumeration name)) c.scalar-in-Enum.ensures))

pub read_value-returns-in-Enum-clause-fault : goal.read_value-returns-in-Enum-clause-fault
read_value-returns-in-Enum-clause-fault t c nullable =
    let type = single (enumeration (type_name_at c.args.context.now.schema.now c.in-Enum.id)) in
    rw c.in-Enum.is (leaf_fault c.read_member.result c.leaf_read-in-Enum.result
    (λ path flaw. IsValueFault (slots_in c.args.context.now c.args.node) nullable path type (data_of c.args.json.now) flaw)
    c.leaf_read-in-Enum.ensures.fault (c.read_member.ensures.flaw (data_of c.args.json.now) c.scalar-in-Enum.ensures))

pub read_value-returns-in_ok-values-in-Complex-clause-fits : goal.read_value-returns-in_ok-values-in-Complex-clause-fits
read_value-returns-in_ok-values-in-Complex-clause-fits t c nullable =
    let slots = slots_in c.args.context.now c.args.node in
    let schema = c.args.context.now.schema.now in
    let name = type_name_at schema c.in-Complex.id in
    let values = c.in_ok-values-in-Complex.values in
    let read = c.in_ok-values-in-Complex.ensures in
    let long = as_many (FitsSlot slots (λ found. get found (data_of c.args.json.now))) (slots.properties name) values.items read.fits in
    let fits = slots_fit slots name nullable (data_of c.args.json.now) values read.distinct read.object read.fits in
    let type = single (wanted_single schema c.args.wanted.now) in
    ok_by c.record_of.result (IsRecordOf values) (λ v. FitsType slots nullable type (data_of c.args.json.now) (val_of v slots.properties type))
    (λ v is. value_as slots nullable (data_of c.args.json.now) (wanted_single schema c.args.wanted.now) (structured name) v (ap (wanted_single schema) c.in-Complex.is)
    (subst (FitsType slots nullable (single (structured name)) (data_of c.args.json.now)) (sym (record_val slots name values long v is)) fits))
    c.record_of.ensures.record

pub read_value-returns-in_ok-values-in-Complex-clause-holds : goal.read_value-returns-in_ok-values-in-Complex-clause-holds
read_value-returns-in_ok-values-in-Complex-clause-holds t c =
    let slots = slots_in c.args.context.now c.args.node in
    let schema = c.args.context.now.schema.now in
    let name = type_name_at schema c.in-Complex.id in
    let values = c.in_ok-values-in-Complex.values in
    let read = c.in_ok-values-in-Complex.ensures in
    let long = as_many (FitsSlot slots (λ found. get found (data_of c.args.json.now))) (slots.properties name) values.items read.fits in
    let holds = slots_held slots name (λ found. get found (data_of c.args.json.now)) values read.fits in
    ok_by c.record_of.result (IsRecordOf values) (λ v. HoldsEachSlot v slots (single (wanted_single schema c.args.wanted.now)))
    (λ v is. holds_as slots (wanted_single schema c.args.wanted.now) (structured name) v (ap (wanted_single schema) c.in-Complex.is) (record_held slots name values long v is holds))
    c.record_of.ensures.record

pub read_value-returns-in_ok-values-in-Complex-clause-fault : goal.read_value-returns-in_ok-values-in-Complex-clause-fault
read_value-returns-in_ok-values-in-Complex-clause-fault t c nullable =
    let P : (Path → Flaw → Type 0) = λ path flaw. IsValueFault (slots_in c.args.context.now c.args.node) nullable path (single (wanted_single c.args.context.now.schema.now c.args.wanted.now)) (data_of c.args.json.now) flaw in
    err_by c.record_of.result (λ fault. (fault.path ≡ None) × (fault.flaw ≡ code.Memory)) (IsFaultOf P) (λ fault is. reported_here P fault code.Memory is.1 is.0 tt) c.record_of.ensures.fault

pub read_value-returns-in_err-values-in-Complex-clause-fault : goal.read_value-returns-in_err-values-in-Complex-clause-fault
read_value-returns-in_err-values-in-Complex-clause-fault t c nullable =
    let exit = err_from_is_err_and c.from_residual.result c.from_residual.ensures.1 in
    rw (exit.1 ∙ ap Err exit.2) (rw c.in-Complex.is (record_fault (slots_in c.args.context.now c.args.node) false nullable (type_name_at c.args.context.now.schema.now c.in-Complex.id) (data_of c.args.json.now) c.in_err-values-in-Complex.field-0.0 c.in_err-values-in-Complex.ensures.fault))

pub read_items-returns-clause-fits : goal.read_items-returns-clause-fits
read_items-returns-clause-fits t c =
    array_fits (slots_in c.args.context.now c.args.node) c.args.nullable (wanted_single c.args.context.now.schema.now c.args.wanted.now) (data_of c.args.json.now) (items_left c.in-Some.items) c.in_ok-values.values
    (sym c.items.ensures ∙ ap (option_map items_left) c.in-Some.is) c.in_ok-values.ensures.fits

pub read_items-returns-clause-holds : goal.read_items-returns-clause-holds
read_items-returns-clause-holds t c =
    list_held (slots_in c.args.context.now c.args.node) (wanted_single c.args.context.now.schema.now c.args.wanted.now) c.in_ok-values.values c.in_ok-values.ensures.holds

pub read_items-returns-in_err-values-clause-fault : goal.read_items-returns-in_err-values-clause-fault
read_items-returns-in_err-values-clause-fault t c =
    let exit = err_from_is_err_and c.from_residual.result c.from_residual.ensures.1 in
    rw (exit.1 ∙ ap Err exit.2) (array_fault (slots_in c.args.context.now c.args.node) c.args.nullable (wanted_single c.args.context.now.schema.now c.args.wanted.now) (data_of c.args.json.now) (items_left c.in-Some.items) c.in_err-values.field-0.0
    (sym c.items.ensures ∙ ap (option_map items_left) c.in-Some.is) c.in_err-values.ensures.fault)

-- what the walk took and what is left of the array, before an item was taken
next_taken : (all taken old new : Items) (json : Data) → all ≡ append_items taken old → IsNextItem old (Some json) new → (old ≡ item json new)
next_taken all taken no_items new json is next = absurd (cc)
next_taken all taken (item first more) new json is next = let same : first ≡ json = cc in ap₂ item same (sym next.1)

-- no item is left where there is no next one
none_left : (left new : Items) → IsNextItem left None new → left ≡ no_items
none_left no_items new next = refl
none_left (item json more) new next = absurd (cc)

pub read_list-items-init : goal.read_list-items-init
read_list-items-init t c =
    let none : c.in-Ok.values.items ≡ [] = c.in-Ok.ensures.items in
    (no_items, refl, rw none tt, rw none refl)

pub read_list-returns-clause-fits : goal.read_list-returns-clause-fits
read_list-returns-clause-fits t c =
    let l = c.items in
    let none : items_left l.left ≡ no_items = none_left (items_left l.left) (items_left c.next.new.self) c.in_default-next.ensures in
    let all = l.invariant.1 ∙ ap (append_items l.invariant.0) none ∙ append_none l.invariant.0 in
    subst (λ (ds : Items). FitList (slots_in c.args.context.now c.args.node) c.args.nullable (wanted_single c.args.context.now.schema.now c.args.wanted.now) ds l.values.items) (sym all) l.invariant.2

pub read_list-returns-clause-holds : goal.read_list-returns-clause-holds
read_list-returns-clause-holds t c = c.items.invariant.3

pub read_list-read_single-requires : goal.read_list-read_single-requires
read_list-read_single-requires t c =
    let l = c.items in
    let old = next_taken (items_left c.args.items) l.invariant.0 (items_left l.left) (items_left c.next.new.self) (data_of c.in-Some.item) l.invariant.1 (subst (λ (o : Option Data). IsNextItem (items_left l.left) o (items_left c.next.new.self)) (ap (option_map data_of) c.in-Some.is) c.next.ensures) in
    let all = l.invariant.1 ∙ ap (append_items l.invariant.0) old in
    let within : depth (data_of c.in-Some.item) ≤ items_depth (items_left c.args.items) = subst (λ (ds : Items). depth (data_of c.in-Some.item) ≤ items_depth ds) (sym all) (item_within l.invariant.0 (data_of c.in-Some.item) (items_left c.next.new.self)) in
    let smaller : measure_of (depth (data_of c.in-Some.item)) rank_single < measure_of (items_depth (items_left c.args.items)) rank_found = omega (arith, within) in
    search rules

pub read_list-items-preserved : goal.read_list-items-preserved
read_list-items-preserved t c =
    let l = c.items in
    let slots = slots_in c.args.context.now c.args.node in
    let type = wanted_single c.args.context.now.schema.now c.args.wanted.now in
    let json = data_of c.in-Some.item in
    let v = c.in-Ok-read_single.value in
    let left = items_left c.next.new.self in
    let old = next_taken (items_left c.args.items) l.invariant.0 (items_left l.left) left json l.invariant.1 (subst (λ (o : Option Data). IsNextItem (items_left l.left) o left) (ap (option_map data_of) c.in-Some.is) c.next.ensures) in
    let pushed : c.push.new.self.items ≡ l.values.items ++ v ∷ [] = grind (arith, common_steps) in (
      append_items l.invariant.0 (item json no_items),
      l.invariant.1 ∙ ap (append_items l.invariant.0) old ∙ sym (append_next l.invariant.0 json left),
      rw pushed (list_push slots c.args.nullable type l.invariant.0 l.values.items json v l.invariant.2 (c.in-Ok-read_single.ensures.fits c.args.nullable)),
      rw pushed (holds_push slots type l.values.items v l.invariant.3 c.in-Ok-read_single.ensures.holds),
    )

pub read_list-returns-in-Err-clause-fault : goal.read_list-returns-in-Err-clause-fault
read_list-returns-in-Err-clause-fault t c =
    let l = c.items in
    let slots = slots_in c.args.context.now c.args.node in
    let type = wanted_single c.args.context.now.schema.now c.args.wanted.now in
    let json = data_of c.in-Some.item in
    let left = items_left c.next.new.self in
    let old = next_taken (items_left c.args.items) l.invariant.0 (items_left l.left) left json l.invariant.1 (subst (λ (o : Option Data). IsNextItem (items_left l.left) o left) (ap (option_map data_of) c.in-Some.is) c.next.ensures) in
    let all = l.invariant.1 ∙ ap (append_items l.invariant.0) old in
    let many : c.len.result ≡ length l.values.items = omega (arith, c.len.ensures, l.values.ok.0) in
    let below = subst (λ (n : ℕ). IsBelow (decimal n) c.in-Err.fault c.fault_in_item.result) many c.fault_in_item.ensures in
    subst (λ (ds : Items). IsFaultOf (λ path flaw. IsValueFault slots c.args.nullable path (collection type) (array ds) flaw) c.fault_in_item.result) (sym all)
    (list_fault slots c.args.nullable type l.invariant.0 json left l.values.items c.in-Err.fault c.fault_in_item.result l.invariant.2 below (c.in-Err.ensures.fault c.args.nullable))

pub read_property-returns-then-navigates-clause-fault : goal.read_property-returns-then-navigates-clause-fault
read_property-returns-then-navigates-clause-fault t c =
    let schema = c.args.context.now.schema.now in
    let slots = slots_in c.args.context.now c.args.node in
    let p = c.args.property.now in
    let P : (Option Data → Path → Flaw → Type 0) = λ o. IsPropertyFault slots p.nullable (property_type schema p) o in
    let none : option_map data_of c.args.found ≡ None = ap (option_map data_of) c.in-None.is in
    subst (λ (o : Option Data). IsFaultOf (P o) c.fault_here.result) (sym none)
    (reported_here (P None) c.fault_here.result code.NotExpanded c.fault_here.ensures.flaw c.fault_here.ensures.here
    (nothing_expanded schema slots p.nullable p.kind (target_of p) p.many c.in-Some.wanted (ap (wanted_with c.args.property.now.kind) (sym c.expanded_target-target.ensures) ∙ sym c.wanted_with.ensures ∙ c.in-Some.is) (sym c.navigates.ensures ∙ c.if-navigates.true)))

pub read_property-returns-else-navigates-clause-fits : goal.read_property-returns-else-navigates-clause-fits
read_property-returns-else-navigates-clause-fits t c =
    let schema = c.args.context.now.schema.now in
    let slots = slots_in c.args.context.now c.args.node in
    let p = c.args.property.now in
    let type = property_type schema p in
    let none : option_map data_of c.args.found ≡ None = ap (option_map data_of) c.in-None.is in
    subst (λ (o : Option Data). IfOk c.absent_value.result (λ v. FitsProperty slots p.nullable type o (field_of slots.properties type (val_of v)))) (sym none)
    (ok_by c.absent_value.result (λ v. (p.many ≡ false) × (p.nullable ≡ true) × (v ≡ Null)) (λ v. FitsProperty slots p.nullable type None (field_of slots.properties type (val_of v)))
    (λ v is. nothing_fits schema slots p.nullable p.kind (target_of p) p.many c.in-Some.wanted v (ap (wanted_with c.args.property.now.kind) (sym c.expanded_target-target.ensures) ∙ sym c.wanted_with.ensures ∙ c.in-Some.is) (sym c.navigates.ensures ∙ c.if-navigates.false) is.0 is.1 is.2)
    c.absent_value.ensures.value)

pub read_property-returns-else-navigates-clause-holds : goal.read_property-returns-else-navigates-clause-holds
read_property-returns-else-navigates-clause-holds t c =
    let p = c.args.property.now in
    ok_by c.absent_value.result (λ v. (p.many ≡ false) × (p.nullable ≡ true) × (v ≡ Null)) (HoldsInSlot (slots_in c.args.context.now c.args.node) (property_type c.args.context.now.schema.now p))
    (λ v is. null_in_slot (slots_in c.args.context.now c.args.node) (property_type c.args.context.now.schema.now p) v is.2) c.absent_value.ensures.value

pub read_property-returns-else-navigates-clause-fault : goal.read_property-returns-else-navigates-clause-fault
read_property-returns-else-navigates-clause-fault t c =
    let schema = c.args.context.now.schema.now in
    let slots = slots_in c.args.context.now c.args.node in
    let p = c.args.property.now in
    let P : (Option Data → Path → Flaw → Type 0) = λ o. IsPropertyFault slots p.nullable (property_type schema p) o in
    let none : option_map data_of c.args.found ≡ None = ap (option_map data_of) c.in-None.is in
    subst (λ (o : Option Data). IfErr c.absent_value.result (IsFaultOf (P o))) (sym none)
    (err_by c.absent_value.result (λ fault. ((p.many ≡ true) ⊎ (p.nullable ≡ false)) × (fault.path ≡ None) × (fault.flaw ≡ code.Missing)) (IsFaultOf (P None))
    (λ fault is. reported_here (P None) fault code.Missing is.2 is.1
    (nothing_missing schema slots p.nullable p.kind (target_of p) p.many c.in-Some.wanted (ap (wanted_with c.args.property.now.kind) (sym c.expanded_target-target.ensures) ∙ sym c.wanted_with.ensures ∙ c.in-Some.is) (sym c.navigates.ensures ∙ c.if-navigates.false) is.0))
    c.absent_value.ensures.fault)
