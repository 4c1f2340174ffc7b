-- The values that the walk makes: of leaves, records and arrays.
use Rattle.std.proofs.Common.{◌≡◌, ℕ, List, [], ◌∷◌, Bool, false, Option, Some, None, is_some, Result, IfOk, IfErr, Vec, Global, refl, sym, ap, subst}
use Rattle.serde_json.specs.Data.{Data, array, Items}
use Rattle.serde_json.specs.Find.{as_array, as_null}
use Rattle.edm_values.specs.declared.value.Value.{Value, List as ListOf}
use Rattle.csdl_schema.specs.ExprType.{single, collection, SingleType, structured}
use Rattle.csdl_schema.specs.SchemaModel.{Slots}
use Rattle.edm_entities.specs.Fits.{FitsFound, FitsType}
use Rattle.edm_entities.specs.FitsPrimitive.{Flaw}
use Rattle.edm_entities.specs.Row.{val_of}
use Rattle.edm_entities.specs.RowFaults.{Path, IsFoundFault, IsValueFault}
use Rattle.edm_entities.specs.private.Faults.{OnFlaw, IsFaultOf}
use Rattle.edm_entities.specs.private.Walk.{FitList}
use Rattle.edm_entities.specs.declared.flaw.ReadFlaw.{ReadFlaw}
use Rattle.edm_entities.specs.declared.flaw.ReadFault.{ReadFault}
use Rattle.edm_entities.proofs.FitLemmas.ScalarKinds.{array_is}
use Rattle.edm_entities.proofs.SlotLemmas.FaultsBelow.{flaw_here, fault_by}
use Rattle.edm_entities.proofs.SlotLemmas.FoundWalk.{other_fits, other_fault}
use Rattle.edm_entities.proofs.SlotLemmas.ReadEntities.{val_of-List}

-- ---- leaves

pub leaf_fits : (read : Result Value ReadFlaw) (result : Result Value ReadFault) (P : Value → Type 0) → IfOk result (λ v. read ≡ Result.Ok v) → IfOk read P → IfOk result P
leaf_fits read (Result.Ok v) P is holds = subst (λ (r : Result Value ReadFlaw). IfOk r P) is holds
leaf_fits read (Result.Err e) P is holds = tt

pub leaf_fault : (read : Result Value ReadFlaw) (result : Result Value ReadFault) (P : Path → Flaw → Type 0)
    → IfErr result (λ fault. (fault.path ≡ None) × (read ≡ Result.Err fault.flaw)) → IfErr read (λ f. OnFlaw f (P [])) → IfErr result (IsFaultOf P)
leaf_fault read (Result.Ok v) P is holds = tt
leaf_fault read (Result.Err fault) P is holds = flaw_here P fault is.0 (subst (λ (r : Result Value ReadFlaw). IfErr r (λ f. OnFlaw f (P []))) is.1 holds)

-- a value of a type by another name
pub value_as : (slots : Slots) (nullable : Bool) (json : Data) (type other : SingleType) (v : Value) → type ≡ other
    → FitsType slots nullable (single other) json (val_of v slots.properties (single other)) → FitsType slots nullable (single type) json (val_of v slots.properties (single type))
value_as slots nullable json type other v same fits = subst (λ (s : SingleType). FitsType slots nullable (single s) json (val_of v slots.properties (single s))) (sym same) fits

pub read_as : (slots : Slots) (nullable : Bool) (json : Data) (type other : SingleType) (result : Result Value ReadFault) → type ≡ other
    → IfOk result (λ v. FitsType slots nullable (single other) json (val_of v slots.properties (single other))) → IfOk result (λ v. FitsType slots nullable (single type) json (val_of v slots.properties (single type)))
read_as slots nullable json type other result same fits =
    subst (λ (s : SingleType). IfOk result (λ v. FitsType slots nullable (single s) json (val_of v slots.properties (single s)))) (sym same) fits

-- ---- records

-- whether items may be null says nothing of one value
single_alike : (slots : Slots) (a b : Bool) (name : List ℕ) (json : Data) (path : Path) (flaw : Flaw)
    → IsValueFault slots a path (single (structured name)) json flaw → IsValueFault slots b path (single (structured name)) json flaw
single_alike slots a b name json [] flaw fault = fault
single_alike slots a b name json (step ∷ path) flaw fault = fault

pub record_fault : (slots : Slots) (a b : Bool) (name : List ℕ) (json : Data) (reported : ReadFault)
    → IsFaultOf (λ path flaw. IsValueFault slots a path (single (structured name)) json flaw) reported → IsFaultOf (λ path flaw. IsValueFault slots b path (single (structured name)) json flaw) reported
record_fault slots a b name json reported fault =
    fault_by (λ path flaw. IsValueFault slots a path (single (structured name)) json flaw) (λ path flaw. IsValueFault slots b path (single (structured name)) json flaw) reported
    (λ path flaw here. single_alike slots a b name json path flaw here) fault

-- ---- arrays

-- null is not an array
not_null : (json : Data) (jsons : Items) → as_array json ≡ Some jsons → is_some (as_null json) ≡ false
not_null json jsons is = let same : json ≡ array jsons = array_is json jsons is in ap (λ (d : Data). is_some (as_null d)) same

pub array_fits : (slots : Slots) (nullable : Bool) (type : SingleType) (json : Data) (jsons : Items) (values : Vec Value Global) → as_array json ≡ Some jsons
    → FitList slots nullable type jsons values.items
    → FitsFound (Some json) false (val_of (ListOf values) slots.properties (collection type)) (λ found. FitsType slots nullable (collection type) found (val_of (ListOf values) slots.properties (collection type)))
array_fits slots nullable type json jsons values is fits =
    other_fits json false (val_of (ListOf values) slots.properties (collection type)) (λ found. FitsType slots nullable (collection type) found (val_of (ListOf values) slots.properties (collection type)))
    (not_null json jsons is)
    (subst (FitsType slots nullable (collection type) json) (sym (val_of-List slots (collection type) values)) (jsons, is, fits))

pub array_fault : (slots : Slots) (nullable : Bool) (type : SingleType) (json : Data) (jsons : Items) (reported : ReadFault) → as_array json ≡ Some jsons
    → IsFaultOf (λ path flaw. IsValueFault slots nullable path (collection type) (array jsons) flaw) reported
    → IsFaultOf (λ path flaw. IsFoundFault (Some json) false path flaw (λ found. IsValueFault slots nullable path (collection type) found flaw)) reported
array_fault slots nullable type json jsons reported is fault =
    fault_by (λ path flaw. IsValueFault slots nullable path (collection type) (array jsons) flaw)
    (λ path flaw. IsFoundFault (Some json) false path flaw (λ found. IsValueFault slots nullable path (collection type) found flaw)) reported
    (λ path flaw here. other_fault json false path flaw (λ found. IsValueFault slots nullable path (collection type) found flaw) (not_null json jsons is)
    (subst (λ (d : Data). IsValueFault slots nullable path (collection type) d flaw) (sym (array_is json jsons is)) here)) fault

pub none_of : {X : Type 0} (o : Option X) (b : Bool) → b ≡ is_some o → b ≡ false → o ≡ None
none_of (Some x) b is none = absurd (cc)
none_of None b is none = refl
