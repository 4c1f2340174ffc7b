-- What is wrong with a JSON tree that stands for no entity of a type (OData JSON Format 4.01, sections 4.5 and 7).
use Rattle.std.specs.Prelude.{◌≡◌, ℕ, ◌<◌, List, [], ◌∷◌, ◌++◌, Bool, true, false, Option, Some, None, IsSome, string_bytes, decimal}
use Rattle.std.specs.List.{AllByRecursion, join_with_byte}
use Rattle.serde_json.specs.Data.{Data, null as json_null, Items}
use Rattle.serde_json.specs.Find.{get, get_item, as_object, as_array}
use Rattle.edm_values.specs.Val.{Val, FieldVal}
use Rattle.csdl_schema.specs.ExprType.{ExprType, null_type, single, collection, SingleType, primitive, enumeration, structured}
use Rattle.csdl_schema.specs.SchemaModel.{Slots, PropertyModel, PropertyType, declared, opaque, navigation, slots_behind}
use Rattle.edm_entities.specs.Fits.{takes_null, FitsFound, FitsType, FitsProperty}
use Rattle.edm_entities.specs.FitsPrimitive.{Flaw, missing, wrong_kind, null_not_allowed, out_of_range, bad_text, not_expanded, OnWrongKind, IsTextFlaw, IsPrimitiveFlaw, IsMemberText}
use Rattle.edm_entities.specs.declared.row_fault.RowFault.{RowFault}
use Rattle.edm_entities.specs.declared.row_fault.RowFault.TheVariants.{NotObject, Missing, WrongKind, NullNotAllowed, OutOfRange, BadText, NotExpanded, Memory}

-- the way from a value to one within it: names of properties, and zero-based indices of items in decimal
abbrev pub Path : Type 0
Path = List (List ℕ)

-- what is wrong with JSON itself where a type is expected, its parts left aside
abbrev pub IsFlawHere : Slots → ExprType → Data → Flaw → Type 0
IsFlawHere slots (single (primitive type)) json flaw = IsPrimitiveFlaw type json flaw
IsFlawHere slots (single (enumeration name)) json flaw =
    IsTextFlaw (IsMemberText (slots.enumerations name)) json flaw
IsFlawHere slots (single (structured name)) json flaw = OnWrongKind flaw (as_object json ≡ None)
IsFlawHere slots (collection type) json flaw = OnWrongKind flaw (as_array json ≡ None)
IsFlawHere slots null_type json flaw = OnWrongKind flaw (Unit {0})

-- the fault of what was found for a value: nothing, or JSON null, where it may not be null; of other JSON what P says
abbrev pub IsFoundFault : Option Data → Bool → Path → Flaw → (Data → Type 0) → Type 0
IsFoundFault None takes path flaw P = (takes ≡ false) × (path ≡ []) × (flaw ≡ missing)
IsFoundFault (Some json_null) takes path flaw P = (takes ≡ false) × (path ≡ []) × (flaw ≡ null_not_allowed)
IsFoundFault (Some json) takes path flaw P = P json

-- the same of the value of a navigation property that is expanded, where nothing is its own fault
abbrev pub IsExpandedFault : Option Data → Bool → Path → Flaw → (Data → Type 0) → Type 0
IsExpandedFault None takes path flaw P = (path ≡ []) × (flaw ≡ not_expanded)
IsExpandedFault (Some json) takes path flaw P = IsFoundFault (Some json) takes path flaw P

-- the fault of what was found under the name of a property, if that is looked at; of JSON, where a type is expected
-- whose items are as nullable, what P says
abbrev pub IsFaultUnder :
    Slots → Bool → PropertyType → Option Data → Path → Flaw → (Bool → ExprType → Data → Type 0) → Type 0
IsFaultUnder slots nullable (declared type) found path flaw P =
    IsFoundFault found (takes_null type nullable) path flaw (P nullable type)
IsFaultUnder slots nullable opaque found path flaw P = ⊥
IsFaultUnder slots nullable (navigation None) found path flaw P = ⊥
IsFaultUnder slots nullable (navigation (Some type)) found path flaw P =
    (slots.needed [] ≡ true) × IsExpandedFault found (takes_null type nullable) path flaw (P false type)

-- what an object has under a property's name fits it
abbrev pub HasFitting : Slots → Data → PropertyModel → Type 0
HasFitting slots json p =
    (held : FieldVal) × FitsProperty (slots_behind slots p.name) p.nullable p.type_of (get p.name json) held

-- the first faulty property of an object, by the order of the properties: those before it have what fits
pub record IsFirstProperty
    (slots : Slots) (properties : List PropertyModel) (json : Data) (step : List ℕ) (P : PropertyModel → Type 0)
    : Type 0 where
  pub is_object : IsSome (as_object json)
  pub before : List PropertyModel
  pub faulty : PropertyModel
  pub behind : List PropertyModel
  pub split : properties ≡ before ++ faulty ∷ behind
  pub before_fit : AllByRecursion (HasFitting slots json) before
  pub step_is : step ≡ faulty.name
  pub fault : P faulty

-- an item fits
abbrev pub HasFittingItem : Slots → Bool → SingleType → Data → Type 0
HasFittingItem slots nullable type json =
    (value : Val) × FitsFound (Some json) nullable value (λ found. FitsType slots nullable (single type) found value)

-- the first faulty item of an array: those before it fit
pub record IsFirstItem
    (slots : Slots) (nullable : Bool) (type : SingleType) (json : Data) (step : List ℕ) (P : Data → Type 0)
    : Type 0 where
  pub jsons : Items
  pub is_array : as_array json ≡ Some jsons
  pub index : ℕ
  pub faulty : Data
  pub at_index : get_item index jsons ≡ Some faulty
  pub before_fit : (k : ℕ) (before : Data) → k < index → get_item k jsons ≡ Some before
      → HasFittingItem slots nullable type before
  pub step_is : step ≡ decimal index
  pub fault : P faulty

-- the first fault in JSON, not null, where a type is expected, and the way to it; by recursion on the way
abbrev pub IsValueFault : Slots → Bool → Path → ExprType → Data → Flaw → Type 0
IsValueFault slots nullable [] type json flaw = IsFlawHere slots type json flaw
IsValueFault slots nullable (step ∷ path) (single (structured name)) json flaw =
    IsFirstProperty slots (slots.properties name) json step (λ p.
    IsFaultUnder (slots_behind slots p.name) p.nullable p.type_of (get p.name json) path flaw
    (λ nullable type found. IsValueFault (slots_behind slots p.name) nullable path type found flaw))
IsValueFault slots nullable (step ∷ path) (collection type) json flaw =
    IsFirstItem slots nullable type json step (λ faulty. IsFoundFault (Some faulty) nullable path flaw
    (λ found. IsValueFault slots nullable path (single type) found flaw))
IsValueFault slots nullable (step ∷ path) type json flaw = ⊥

-- the first fault within a row of the type of that name; the row itself is an object
abbrev pub IsFirstFault : Slots → List ℕ → Data → Path → Flaw → Type 0
IsFirstFault slots type_name json [] flaw = ⊥
IsFirstFault slots type_name json (step ∷ path) flaw =
    IsValueFault slots false (step ∷ path) (single (structured type_name)) json flaw

-- the same, with the path as a text, its parts joined by slashes
abbrev pub IsFirstFaultAt : Slots → List ℕ → Data → List ℕ → Flaw → Type 0
IsFirstFaultAt slots type_name json path_text flaw =
    (path : Path) × IsFirstFault slots type_name json path flaw × (path_text ≡ join_with_byte 47 path)

-- the fault of a JSON tree that fits no value of the type of that name
abbrev pub IsRowFault : Slots → List ℕ → Data → RowFault → Type 0
IsRowFault slots type_name json NotObject = as_object json ≡ None
IsRowFault slots type_name json (Missing path) = IsFirstFaultAt slots type_name json (string_bytes path) missing
IsRowFault slots type_name json (WrongKind path) = IsFirstFaultAt slots type_name json (string_bytes path) wrong_kind
IsRowFault slots type_name json (NullNotAllowed path) =
    IsFirstFaultAt slots type_name json (string_bytes path) null_not_allowed
IsRowFault slots type_name json (OutOfRange path) = IsFirstFaultAt slots type_name json (string_bytes path) out_of_range
IsRowFault slots type_name json (BadText path) = IsFirstFaultAt slots type_name json (string_bytes path) bad_text
IsRowFault slots type_name json (NotExpanded path) =
    IsFirstFaultAt slots type_name json (string_bytes path) not_expanded
IsRowFault slots type_name json Memory = ⊥

-- running out of memory, which says nothing of the row
abbrev pub IsMemory : RowFault → Type 0
IsMemory Memory = Unit {0}
IsMemory _ = ⊥
