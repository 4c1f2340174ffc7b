-- Properties that navigate to a target, as the code reads them.
use Rattle.std.proofs.Common.{◌≡◌, ℕ, ◌<◌, List, length, Bool, true, false, Option, Some, None, IfSome, IsSome, IsSomeAnd, slice_get, position, refl, sym, ap, ◌∙◌, subst, arith}
use Rattle.std.specs.List.{position_or_len}
use Rattle.std.proofs.lemmas.Bool.{false≢true}
use Rattle.std.proofs.lemmas.Bool.Decides.{nat_tests}
use Rattle.std.proofs.lemmas.List.Folds.{find_at}
use Rattle.std.specs.Cmp.Lexicographic.{pointwise}
use Rattle.std.specs.Prelude.{nat_eq}
use Rattle.csdl_schema.specs.ExprType.{ExprType, SingleType, single, collection, structured}
use Rattle.csdl_schema.specs.PropertyView.{IsReadAs, LeadsWithin, target_of, type_of_kind}
use Rattle.csdl_schema.specs.Resolution.{type_of_single}
use Rattle.csdl_schema.specs.SchemaModel.{PropertyModel, SchemaModel, navigation, slot_named, type_name_at}
use Rattle.csdl_schema.specs.declared.property.Property.{Property}
use Rattle.csdl_schema.specs.declared.property.PropertyKind.{PropertyKind}
use Rattle.csdl_schema.specs.declared.property.PropertyKind.TheVariants as kind
use Rattle.odata_signatures.specs.NeededPaths.{Navigates}
use Rattle.odata_signatures.specs.Typed.{property_named}
use Rattle.odata_checked_filter.proofs.flat.Places.{found_within}

slot_found : {X : Type 0} (p : X → Bool) (xs : List X) (k : ℕ) → position p xs ≡ Some k → (position_or_len p xs ≡ k) × (k < length xs)
slot_found p xs k found = grind (arith, nat_tests)

pub slot_below : (properties : List PropertyModel) (asked : List ℕ) (k : ℕ) → slot_named properties asked ≡ Some k → k < length properties
slot_below properties asked k found = (slot_found (λ (p : PropertyModel). pointwise nat_eq asked p.name) properties k found).1

-- the property of a name stands at the slot of that name
property_at : (properties : List PropertyModel) (asked : List ℕ) (k : ℕ) → slot_named properties asked ≡ Some k → property_named properties asked ≡ slice_get properties k
property_at properties asked k found =
    let test : PropertyModel → Bool = λ (p : PropertyModel). pointwise nat_eq asked p.name in
    find_at test properties ∙ ap (λ (i : ℕ). slice_get properties i) (slot_found test properties k found).0

no_navigation : (one : SingleType) (many : Bool) (target : ExprType) → type_of_single (Some one) many ≡ navigation (Some target) → ⊥
no_navigation one true target is = cc
no_navigation one false target is = cc

-- a kind with a target navigates to that, and none without one
kind_leads : (schema : SchemaModel) (of : PropertyKind) (target : Option ℕ) (many : Bool) → LeadsWithin schema of target → IsSome target
    → (t : ExprType) × (type_of_kind (type_name_at schema) of target many ≡ navigation (Some t))
kind_leads schema kind.Navigation None many leads some = absurd (false≢true some)
kind_leads schema kind.Navigation (Some id) true leads some = (collection (structured (type_name_at schema id)), refl)
kind_leads schema kind.Navigation (Some id) false leads some = (single (structured (type_name_at schema id)), refl)
kind_leads schema _ target many leads some = absurd (false≢true (subst IsSome leads some))

leads_kind : (schema : SchemaModel) (of : PropertyKind) (target : Option ℕ) (many : Bool) (t : ExprType)
    → type_of_kind (type_name_at schema) of target many ≡ navigation (Some t) → IsSome target
leads_kind schema kind.Opaque target many t is = absurd (cc)
leads_kind schema kind.Navigation None many t is = absurd (cc)
leads_kind schema kind.Navigation (Some id) many t is = refl
leads_kind schema _ target many t is = absurd (no_navigation _ many t is)

-- so the property at the slot of a name navigates if the code finds a target
pub navigates : (schema : SchemaModel) (properties : List PropertyModel) (asked : List ℕ) (k : ℕ) (p : Property) → slot_named properties asked ≡ Some k
    → IfSome (slice_get properties k) (λ declaration. IsReadAs schema declaration p) → IsSome (target_of p) → Navigates properties asked
navigates schema properties asked k p named read some =
    let at = found_within properties k (slot_below properties asked k named) in
    let reads : IsReadAs schema at.0 p = subst (λ (o : Option PropertyModel). IfSome o (λ declaration. IsReadAs schema declaration p)) at.1 read in
    let leads = kind_leads schema p.kind (target_of p) p.many reads.leads some in
    subst (λ (o : Option PropertyModel). IsSomeAnd o (λ q. (t : ExprType) × (q.type_of ≡ navigation (Some t)))) (sym (property_at properties asked k named ∙ at.1))
    (leads.0, sym reads.type_of ∙ leads.1)

pub finds_target : (schema : SchemaModel) (properties : List PropertyModel) (asked : List ℕ) (k : ℕ) (p : Property) → slot_named properties asked ≡ Some k
    → IfSome (slice_get properties k) (λ declaration. IsReadAs schema declaration p) → Navigates properties asked → IsSome (target_of p)
finds_target schema properties asked k p named read goes =
    by (slice_get properties k) read (subst (λ (o : Option PropertyModel). IsSomeAnd o (λ q. (t : ExprType) × (q.type_of ≡ navigation (Some t)))) (property_at properties asked k named) goes)
  where
    by : (o : Option PropertyModel) → IfSome o (λ declaration. IsReadAs schema declaration p) → IsSomeAnd o (λ q. (t : ExprType) × (q.type_of ≡ navigation (Some t))) → IsSome (target_of p)
    by None read goes = absurd goes
    by (Some declaration) read goes = leads_kind schema p.kind (target_of p) p.many goes.0 (read.type_of ∙ goes.1)
