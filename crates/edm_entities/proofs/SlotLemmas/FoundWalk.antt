-- What was found for a value: nothing, null or other JSON, and what is read of it.
use Rattle.std.proofs.Common.{◌≡◌, ◌⊎◌, ℕ, inl, inr, List, [], Bool, true, false, ◌&&◌, not, Option, Some, None, is_some, option_map, Result, IfOk, IfErr, refl, rules, sym, ap, ◌∙◌, subst}
use Rattle.serde_json.specs.Data.{Data, null as json_null, boolean, number, string, array, object}
use Rattle.serde_json.specs.Find.{as_null}
use Rattle.edm_values.specs.Val.{Val, null}
use Rattle.edm_values.specs.declared.value.Value.{Value, Null, the_lemmas}
use Rattle.csdl_schema.specs.ExprType.{ExprType, single, collection, SingleType, primitive, enumeration, structured}
use Rattle.csdl_schema.specs.ExpansionView.{StepModel}
use Rattle.csdl_schema.specs.PropertyView.{type_of_kind}
use Rattle.csdl_schema.specs.Resolution.{type_of_single}
use Rattle.csdl_schema.specs.SchemaModel.{SchemaModel, Slots, PropertyType, declared, opaque, navigation, slots_behind, target_type, type_name_at}
use Rattle.csdl_schema.specs.declared.property.PropertyKind.{PropertyKind}
use Rattle.csdl_schema.specs.declared.property.PropertyKind.TheVariants as kind
use Rattle.edm_entities.specs.Fits.{takes_null, FitsFound, FitsNavigation, FitsType, FitsProperty}
use Rattle.edm_entities.specs.FitsPrimitive.{Flaw, missing, null_not_allowed, not_expanded}
use Rattle.edm_entities.specs.Row.{field_of, val_of}
use Rattle.edm_entities.specs.RowFaults.{Path, IsFoundFault, IsValueFault}
use Rattle.edm_entities.specs.private.Walk.{IsPropertyFault}
use Rattle.edm_entities.specs.private.Faults.{OnFlaw, IsFaultOf}
use Rattle.edm_row_plans.specs.Expanded.{may_hold_null, navigates, node_behind, slots_at, target_if, wanted_target}
use Rattle.edm_entities.specs.private.Walk.{wanted_of}
use Rattle.edm_entities.specs.private.Walk.{wanted_single}
use Rattle.edm_entities.specs.declared.flaw.ReadFlaw.{ReadFlaw}
use Rattle.edm_entities.specs.declared.flaw.ReadFault.{ReadFault}
use Rattle.edm_row_plans.specs.declared.wanted.Wanted.{Wanted}
use Rattle.edm_row_plans.specs.declared.wanted.Wanted.TheVariants.{Prim, Enum, Complex}
use Rattle.edm_entities.proofs.SlotLemmas.EachSlot.{IsLookedAt}
use Rattle.edm_entities.proofs.SlotLemmas.FaultsBelow.{flaw_here, fault_by}

-- ---- answers that are handed on

pub ok_by : {V E : Type 0} (r : Result V E) (P Q : V → Type 0) → ((v : V) → P v → Q v) → IfOk r P → IfOk r Q
ok_by (Result.Ok v) P Q by holds = by v holds
ok_by (Result.Err e) P Q by holds = tt

pub err_by : {V E : Type 0} (r : Result V E) (P Q : E → Type 0) → ((e : E) → P e → Q e) → IfErr r P → IfErr r Q
err_by (Result.Ok v) P Q by holds = tt
err_by (Result.Err e) P Q by holds = by e holds

-- a flaw of a value itself
pub reported_here : (P : Path → Flaw → Type 0) (reported : ReadFault) (code : ReadFlaw) → reported.flaw ≡ code → reported.path ≡ None → OnFlaw code (P []) → IsFaultOf P reported
reported_here P reported code is none holds = flaw_here P reported none (subst (λ (f : ReadFlaw). OnFlaw f (P [])) (sym is) holds)

-- ---- null and other JSON

pub other_fits : (json : Data) (takes : Bool) (v : Val) (P : Data → Type 0) → is_some (as_null json) ≡ false → P json → FitsFound (Some json) takes v P
other_fits json_null takes v P other holds = absurd (cc)
other_fits (boolean b) takes v P other holds = holds
other_fits (number n) takes v P other holds = holds
other_fits (string s) takes v P other holds = holds
other_fits (array ds) takes v P other holds = holds
other_fits (object ms) takes v P other holds = holds

pub other_fault : (json : Data) (takes : Bool) (path : Path) (flaw : Flaw) (P : Data → Type 0) → is_some (as_null json) ≡ false → P json → IsFoundFault (Some json) takes path flaw P
other_fault json_null takes path flaw P other holds = absurd (cc)
other_fault (boolean b) takes path flaw P other holds = holds
other_fault (number n) takes path flaw P other holds = holds
other_fault (string s) takes path flaw P other holds = holds
other_fault (array ds) takes path flaw P other holds = holds
other_fault (object ms) takes path flaw P other holds = holds

pub val_of-Null : (slots : Slots) (type : ExprType) → val_of Null slots.properties type ≡ null
val_of-Null slots type = search (rules, the_lemmas)

-- the value null, of what may be null
pub null_fits : (json : Data) (takes : Bool) (slots : Slots) (type : ExprType) (v : Value) (P : Data → Type 0) → is_some (as_null json) ≡ true → takes ≡ true → v ≡ Null
    → FitsFound (Some json) takes (val_of v slots.properties type) P
null_fits json_null takes slots type v P is may same = (may, subst (λ (w : Value). val_of w slots.properties type ≡ null) (sym same) (val_of-Null slots type))
null_fits (boolean b) takes slots type v P is may same = absurd (cc)
null_fits (number n) takes slots type v P is may same = absurd (cc)
null_fits (string s) takes slots type v P is may same = absurd (cc)
null_fits (array ds) takes slots type v P is may same = absurd (cc)
null_fits (object ms) takes slots type v P is may same = absurd (cc)

pub null_flaw : (json : Data) (takes : Bool) (P : Data → Type 0) → is_some (as_null json) ≡ true → takes ≡ false → IsFoundFault (Some json) takes [] null_not_allowed P
null_flaw json_null takes P is may = (may, refl, refl)
null_flaw (boolean b) takes P is may = absurd (cc)
null_flaw (number n) takes P is may = absurd (cc)
null_flaw (string s) takes P is may = absurd (cc)
null_flaw (array ds) takes P is may = absurd (cc)
null_flaw (object ms) takes P is may = absurd (cc)

-- ---- properties by what they are read as

and_true : (b : Bool) → (b && not false) ≡ b
and_true true = refl
and_true false = refl

-- one value, or many
abbrev pub type_wanted : SchemaModel → Wanted → Bool → ExprType
type_wanted schema wanted true = collection (wanted_single schema wanted)
type_wanted schema wanted false = single (wanted_single schema wanted)

-- what is read is seen as that
pub seen_as : (schema : SchemaModel) (slots : Slots) (of : PropertyKind) (target : Option ℕ) (many : Bool) (wanted : Wanted) → wanted_of of (slots.needed []) target ≡ Some wanted
    → IsLookedAt slots (type_of_kind (type_name_at schema) of target many) (type_wanted schema wanted many)
seen_as schema slots (kind.Prim p) target true wanted is = let same : Prim p ≡ wanted = cc in ap (λ w. collection (wanted_single schema w)) same
seen_as schema slots (kind.Prim p) target false wanted is = let same : Prim p ≡ wanted = cc in ap (λ w. single (wanted_single schema w)) same
seen_as schema slots (kind.Enum e) target true wanted is = let same : Enum e ≡ wanted = cc in ap (λ w. collection (wanted_single schema w)) same
seen_as schema slots (kind.Enum e) target false wanted is = let same : Enum e ≡ wanted = cc in ap (λ w. single (wanted_single schema w)) same
seen_as schema slots (kind.Complex t) target true wanted is = let same : Complex t ≡ wanted = cc in ap (λ w. collection (wanted_single schema w)) same
seen_as schema slots (kind.Complex t) target false wanted is = let same : Complex t ≡ wanted = cc in ap (λ w. single (wanted_single schema w)) same
seen_as schema slots kind.Opaque target many wanted is = absurd (cc)
seen_as schema slots kind.Navigation target many wanted is = by target (slots.needed []) many refl is
  where
    by : (o : Option ℕ) (b many : Bool) → slots.needed [] ≡ b → wanted_target (target_if b o) ≡ Some wanted
        → IsLookedAt slots (navigation (target_type (option_map (type_name_at schema) o) many)) (type_wanted schema wanted many)
    by None true many needed is = absurd (cc)
    by None false many needed is = absurd (cc)
    by (Some t) false many needed is = absurd (cc)
    by (Some t) true true needed is = let same : Complex t ≡ wanted = cc in (needed, ap (λ w. collection (wanted_single schema w)) same)
    by (Some t) true false needed is = let same : Complex t ≡ wanted = cc in (needed, ap (λ w. single (wanted_single schema w)) same)

-- null stands in the slot of a navigation property that is not expanded
pub unexpanded_fits : (slots : Slots) (nullable : Bool) (type : ExprType) (found : Option Data) (v : Value) → slots.needed [] ≡ false → v ≡ Null
    → FitsProperty slots nullable (navigation (Some type)) found (field_of slots.properties (navigation (Some type)) (val_of v))
unexpanded_fits slots nullable type found v off is_null =
    let P : (Data → Type 0) = λ json. FitsType slots false type json (val_of v slots.properties type) in
    subst (λ (b : Bool). FitsNavigation b found (takes_null type nullable) (val_of v slots.properties type) P) (sym off)
    (ap (λ (w : Value). val_of w slots.properties type) is_null ∙ val_of-Null slots type)

-- null fits what is not looked at
pub unwanted_fits : (schema : SchemaModel) (slots : Slots) (nullable : Bool) (of : PropertyKind) (target : Option ℕ) (many : Bool) (found : Option Data) (v : Value)
    → wanted_of of (slots.needed []) target ≡ None → v ≡ Null
    → FitsProperty slots nullable (type_of_kind (type_name_at schema) of target many) found (field_of slots.properties (type_of_kind (type_name_at schema) of target many) (val_of v))
unwanted_fits schema slots nullable (kind.Prim p) target many found v is is_null = absurd (cc)
unwanted_fits schema slots nullable (kind.Enum e) target many found v is is_null = absurd (cc)
unwanted_fits schema slots nullable (kind.Complex t) target many found v is is_null = absurd (cc)
unwanted_fits schema slots nullable kind.Opaque target many found v is is_null = tt
unwanted_fits schema slots nullable kind.Navigation target many found v is is_null = by target (slots.needed []) many refl is
  where
    by : (o : Option ℕ) (b many : Bool) → slots.needed [] ≡ b → wanted_target (target_if b o) ≡ None
        → FitsProperty slots nullable (navigation (target_type (option_map (type_name_at schema) o) many)) found
        (field_of slots.properties (navigation (target_type (option_map (type_name_at schema) o) many)) (val_of v))
    by None b many needed is = tt
    by (Some t) true many needed is = absurd (cc)
    by (Some t) false true needed is = unexpanded_fits slots nullable (collection (structured (type_name_at schema t))) found v needed is_null
    by (Some t) false false needed is = unexpanded_fits slots nullable (single (structured (type_name_at schema t))) found v needed is_null

-- whether the items of a collection may be null: those of a navigation property may not
abbrev pub items_null : PropertyType → Bool → Bool
items_null (declared type) nullable = nullable
items_null opaque nullable = false
items_null (navigation type) nullable = false

pub items_as : (schema : SchemaModel) (slots : Slots) (of : PropertyKind) (target : Option ℕ) (many nullable : Bool) (wanted : Wanted) → wanted_of of (slots.needed []) target ≡ Some wanted
    → may_hold_null of nullable ≡ items_null (type_of_kind (type_name_at schema) of target many) nullable
items_as schema slots (kind.Prim p) target true nullable wanted is = and_true nullable
items_as schema slots (kind.Prim p) target false nullable wanted is = and_true nullable
items_as schema slots (kind.Enum e) target true nullable wanted is = and_true nullable
items_as schema slots (kind.Enum e) target false nullable wanted is = and_true nullable
items_as schema slots (kind.Complex t) target true nullable wanted is = and_true nullable
items_as schema slots (kind.Complex t) target false nullable wanted is = and_true nullable
items_as schema slots kind.Opaque target many nullable wanted is = absurd (cc)
items_as schema slots kind.Navigation target many true wanted is = refl
items_as schema slots kind.Navigation target many false wanted is = refl

-- what is found and read of a property that is looked at
pub seen_fits : (slots : Slots) (nullable : Bool) (type : PropertyType) (wanted : ExprType) (json : Data) (v : Value) → IsLookedAt slots type wanted
    → FitsFound (Some json) (takes_null wanted nullable) (val_of v slots.properties wanted) (λ there. FitsType slots (items_null type nullable) wanted there (val_of v slots.properties wanted))
    → FitsProperty slots nullable type (Some json) (field_of slots.properties type (val_of v))
seen_fits slots nullable (declared type) wanted json v is fits =
    subst (λ (t : ExprType). FitsFound (Some json) (takes_null t nullable) (val_of v slots.properties t) (λ there. FitsType slots nullable t there (val_of v slots.properties t))) (sym is) fits
seen_fits slots nullable opaque wanted json v is fits = absurd is
seen_fits slots nullable (navigation None) wanted json v is fits = absurd is
seen_fits slots nullable (navigation (Some type)) wanted json v is fits =
    let P : (Data → Type 0) = λ there. FitsType slots false type there (val_of v slots.properties type) in
    subst (λ (b : Bool). FitsNavigation b (Some json) (takes_null type nullable) (val_of v slots.properties type) P) (sym is.0)
    (subst (λ (t : ExprType). FitsFound (Some json) (takes_null t nullable) (val_of v slots.properties t) (λ there. FitsType slots false t there (val_of v slots.properties t))) (sym is.1) fits)

seen_flaw : (slots : Slots) (nullable : Bool) (type : PropertyType) (wanted : ExprType) (json : Data) (path : Path) (flaw : Flaw) → IsLookedAt slots type wanted
    → IsFoundFault (Some json) (takes_null wanted nullable) path flaw (λ there. IsValueFault slots (items_null type nullable) path wanted there flaw)
    → IsPropertyFault slots nullable type (Some json) path flaw
seen_flaw slots nullable (declared type) wanted json path flaw is fault =
    subst (λ (t : ExprType). IsFoundFault (Some json) (takes_null t nullable) path flaw (λ there. IsValueFault slots nullable path t there flaw)) (sym is) fault
seen_flaw slots nullable opaque wanted json path flaw is fault = absurd is
seen_flaw slots nullable (navigation None) wanted json path flaw is fault = absurd is
seen_flaw slots nullable (navigation (Some type)) wanted json path flaw is fault =
    (is.0, subst (λ (t : ExprType). IsFoundFault (Some json) (takes_null t nullable) path flaw (λ there. IsValueFault slots false path t there flaw)) (sym is.1) fault)

pub seen_fault : (slots : Slots) (nullable : Bool) (type : PropertyType) (wanted : ExprType) (json : Data) (reported : ReadFault) → IsLookedAt slots type wanted
    → IsFaultOf (λ path flaw. IsFoundFault (Some json) (takes_null wanted nullable) path flaw (λ there. IsValueFault slots (items_null type nullable) path wanted there flaw)) reported
    → IsFaultOf (IsPropertyFault slots nullable type (Some json)) reported
seen_fault slots nullable type wanted json reported is fault =
    fault_by (λ path flaw. IsFoundFault (Some json) (takes_null wanted nullable) path flaw (λ there. IsValueFault slots (items_null type nullable) path wanted there flaw))
    (IsPropertyFault slots nullable type (Some json)) reported (λ path flaw here. seen_flaw slots nullable type wanted json path flaw is here) fault

-- the same of what a call answers
pub ok_seen : (r : Result Value ReadFault) (slots : Slots) (nullable : Bool) (type : PropertyType) (wanted : ExprType) (json : Data) (found : Option Data) (takes items : Bool)
    → found ≡ Some json → IsLookedAt slots type wanted → takes ≡ takes_null wanted nullable → items ≡ items_null type nullable
    → IfOk r (λ v. FitsFound (Some json) takes (val_of v slots.properties wanted) (λ there. FitsType slots items wanted there (val_of v slots.properties wanted)))
    → IfOk r (λ v. FitsProperty slots nullable type found (field_of slots.properties type (val_of v)))
ok_seen (Result.Err e) slots nullable type wanted json found takes items here seen same_takes same_items fits = tt
ok_seen (Result.Ok v) slots nullable type wanted json found takes items here seen same_takes same_items fits =
    subst (λ (o : Option Data). FitsProperty slots nullable type o (field_of slots.properties type (val_of v))) (sym here)
    (seen_fits slots nullable type wanted json v seen
    (subst (λ (b : Bool). FitsFound (Some json) (takes_null wanted nullable) (val_of v slots.properties wanted) (λ there. FitsType slots b wanted there (val_of v slots.properties wanted))) same_items
    (subst (λ (b : Bool). FitsFound (Some json) b (val_of v slots.properties wanted) (λ there. FitsType slots items wanted there (val_of v slots.properties wanted))) same_takes fits)))

pub err_seen : (r : Result Value ReadFault) (slots : Slots) (nullable : Bool) (type : PropertyType) (wanted : ExprType) (json : Data) (found : Option Data) (takes items : Bool)
    → found ≡ Some json → IsLookedAt slots type wanted → takes ≡ takes_null wanted nullable → items ≡ items_null type nullable
    → IfErr r (IsFaultOf (λ path flaw. IsFoundFault (Some json) takes path flaw (λ there. IsValueFault slots items path wanted there flaw)))
    → IfErr r (IsFaultOf (IsPropertyFault slots nullable type found))
err_seen (Result.Ok v) slots nullable type wanted json found takes items here seen same_takes same_items fault = tt
err_seen (Result.Err reported) slots nullable type wanted json found takes items here seen same_takes same_items fault =
    subst (λ (o : Option Data). IsFaultOf (IsPropertyFault slots nullable type o) reported) (sym here)
    (seen_fault slots nullable type wanted json reported seen
    (subst (λ (b : Bool). IsFaultOf (λ path flaw. IsFoundFault (Some json) (takes_null wanted nullable) path flaw (λ there. IsValueFault slots b path wanted there flaw)) reported) same_items
    (subst (λ (b : Bool). IsFaultOf (λ path flaw. IsFoundFault (Some json) b path flaw (λ there. IsValueFault slots items path wanted there flaw)) reported) same_takes fault)))

-- ---- nothing found

none_of_declared : (slots : Slots) (nullable many : Bool) (wanted : SingleType) (v : Value) → many ≡ false → nullable ≡ true → v ≡ Null
    → FitsProperty slots nullable (type_of_single (Some wanted) many) None (field_of slots.properties (type_of_single (Some wanted) many) (val_of v))
none_of_declared slots nullable true wanted v one may is_null = absurd (cc)
none_of_declared slots nullable false wanted v one may is_null = (may, ap (λ (w : Value). val_of w slots.properties (single wanted)) is_null ∙ val_of-Null slots (single wanted))

-- nothing is found of a property that does not navigate, and null stands for it
pub nothing_fits : (schema : SchemaModel) (slots : Slots) (nullable : Bool) (of : PropertyKind) (target : Option ℕ) (many : Bool) (wanted : Wanted) (v : Value)
    → wanted_of of (slots.needed []) target ≡ Some wanted → navigates of ≡ false → many ≡ false → nullable ≡ true → v ≡ Null
    → FitsProperty slots nullable (type_of_kind (type_name_at schema) of target many) None (field_of slots.properties (type_of_kind (type_name_at schema) of target many) (val_of v))
nothing_fits schema slots nullable (kind.Prim p) target many wanted v is stays one may is_null = none_of_declared slots nullable many (primitive p) v one may is_null
nothing_fits schema slots nullable (kind.Enum e) target many wanted v is stays one may is_null = none_of_declared slots nullable many (enumeration (type_name_at schema e)) v one may is_null
nothing_fits schema slots nullable (kind.Complex t) target many wanted v is stays one may is_null = none_of_declared slots nullable many (structured (type_name_at schema t)) v one may is_null
nothing_fits schema slots nullable kind.Opaque target many wanted v is stays one may is_null = absurd (cc)
nothing_fits schema slots nullable kind.Navigation target many wanted v is stays one may is_null = absurd (cc)

missing_declared : (slots : Slots) (nullable many : Bool) (wanted : SingleType) → (many ≡ true) ⊎ (nullable ≡ false)
    → IsPropertyFault slots nullable (type_of_single (Some wanted) many) None [] missing
missing_declared slots nullable true wanted no_null = (refl, refl, refl)
missing_declared slots nullable false wanted (inl many) = absurd (cc)
missing_declared slots nullable false wanted (inr never) = (never, refl, refl)

-- nothing is found of it, and null does not stand for it
pub nothing_missing : (schema : SchemaModel) (slots : Slots) (nullable : Bool) (of : PropertyKind) (target : Option ℕ) (many : Bool) (wanted : Wanted)
    → wanted_of of (slots.needed []) target ≡ Some wanted → navigates of ≡ false → (many ≡ true) ⊎ (nullable ≡ false)
    → IsPropertyFault slots nullable (type_of_kind (type_name_at schema) of target many) None [] missing
nothing_missing schema slots nullable (kind.Prim p) target many wanted is stays never = missing_declared slots nullable many (primitive p) never
nothing_missing schema slots nullable (kind.Enum e) target many wanted is stays never = missing_declared slots nullable many (enumeration (type_name_at schema e)) never
nothing_missing schema slots nullable (kind.Complex t) target many wanted is stays never = missing_declared slots nullable many (structured (type_name_at schema t)) never
nothing_missing schema slots nullable kind.Opaque target many wanted is stays never = absurd (cc)
nothing_missing schema slots nullable kind.Navigation target many wanted is stays never = absurd (cc)

-- nothing is found of a navigation property that is expanded
pub nothing_expanded : (schema : SchemaModel) (slots : Slots) (nullable : Bool) (of : PropertyKind) (target : Option ℕ) (many : Bool) (wanted : Wanted)
    → wanted_of of (slots.needed []) target ≡ Some wanted → navigates of ≡ true
    → IsPropertyFault slots nullable (type_of_kind (type_name_at schema) of target many) None [] not_expanded
nothing_expanded schema slots nullable (kind.Prim p) target many wanted is goes = absurd (cc)
nothing_expanded schema slots nullable (kind.Enum e) target many wanted is goes = absurd (cc)
nothing_expanded schema slots nullable (kind.Complex t) target many wanted is goes = absurd (cc)
nothing_expanded schema slots nullable kind.Opaque target many wanted is goes = absurd (cc)
nothing_expanded schema slots nullable kind.Navigation target many wanted is goes = by target (slots.needed []) many refl is
  where
    by : (o : Option ℕ) (b many : Bool) → slots.needed [] ≡ b → wanted_target (target_if b o) ≡ Some wanted
        → IsPropertyFault slots nullable (navigation (target_type (option_map (type_name_at schema) o) many)) None [] not_expanded
    by None true many needed is = absurd (cc)
    by None false many needed is = absurd (cc)
    by (Some t) false many needed is = absurd (cc)
    by (Some t) true true needed is = (needed, (refl, refl))
    by (Some t) true false needed is = (needed, (refl, refl))

-- ---- the node after a step

pub node_slots : (schema : SchemaModel) (steps : List StepModel) (node : Option ℕ) (name : List ℕ)
    → slots_at schema steps (node_behind steps node name) ≡ slots_behind (slots_at schema steps node) name
node_slots schema steps None name = refl
node_slots schema steps (Some node) name = refl
