-- The members of an object on a tape, each at the slot of its name.
use Rattle.std.proofs.lemmas.Bool.{eqb-true, eqb-false}
use Rattle.std.proofs.lemmas.List.{length-replicate, length-set}
use Rattle.std.proofs.Common.{◌≡◌, ◌≢◌, ◌==◌, Bool, true, false, ◌<◌, ◌≤◌, ◌+◌, ◌∙◌, ℕ, zero, suc, List, [], ◌∷◌, Option, Some, None, length, map, option_map, replicate, slice_get, slice_set, refl, sym, ap, subst, arith}
use Rattle.std.specs.Prelude.{IfSome}
use Rattle.std.specs.List.{AllByRecursion}
use Rattle.json.specs.Token.{Token}
use Rattle.json.proofs.Found.{Some_inj, not_found}
use Rattle.serde_json.specs.Data.{Data, Members, null, boolean, number, string, array, no_members, object, put}
use Rattle.serde_json.specs.Find.{as_object, get, get_member}
use Rattle.serde_json.proofs.Views.{get_member-put, get_member-put_other}
use Rattle.csdl_schema.specs.SchemaModel.{HasDistinctNames, PropertyModel, slot_named}
use Rattle.edm_entities.specs.private.TapeNodes.{HasNodes, data_on}
use Rattle.edm_entities.proofs.SlotLemmas.SlotNames.{no_slot_is_named, slot_is_named}

get_set : {A : Type 0} (xs : List A) (n : ℕ) (x : A) → n < length xs → slice_get (slice_set xs n x) n ≡ Some x
get_set [] n x within = absurd (omega (arith, within))
get_set (y ∷ xs) zero x within = refl
get_set (y ∷ xs) (suc n) x within = get_set xs n x (omega (arith, within))

get_set_other : {A : Type 0} (xs : List A) (n k : ℕ) (x : A) → k ≢ n → slice_get (slice_set xs n x) k ≡ slice_get xs k
get_set_other [] n k x differ = refl
get_set_other (y ∷ xs) zero zero x differ = absurd (differ refl)
get_set_other (y ∷ xs) zero (suc k) x differ = refl
get_set_other (y ∷ xs) (suc n) zero x differ = refl
get_set_other (y ∷ xs) (suc n) (suc k) x differ = get_set_other xs n k x (λ is. differ (ap suc is))

name_at : (ps : List PropertyModel) (n : ℕ) (p : PropertyModel) → slice_get ps n ≡ Some p → slice_get (map (λ q. q.name) ps) n ≡ Some p.name
name_at [] n p at = absurd (cc)
name_at (q ∷ ps) zero p at = let same : q ≡ p = cc in ap (λ (r : PropertyModel). Some r.name) same
name_at (q ∷ ps) (suc n) p at = name_at ps n p at

-- a name at one slot is at no other
others_differ : (p : PropertyModel) (ps : List PropertyModel) (n : ℕ) (name : List ℕ) → AllByRecursion (λ q. q.name ≢ p.name) ps → slice_get (map (λ q. q.name) ps) n ≡ Some name → name ≢ p.name
others_differ p [] n name apart at = absurd (cc)
others_differ p (q ∷ ps) zero name apart at = let same : q.name ≡ name = cc in λ is. apart.0 (same ∙ is)
others_differ p (q ∷ ps) (suc n) name apart at = others_differ p ps n name apart.1 at

apart : (ps : List PropertyModel) (n k : ℕ) (name other : List ℕ) → HasDistinctNames ps → slice_get (map (λ q. q.name) ps) n ≡ Some name → slice_get (map (λ q. q.name) ps) k ≡ Some other → k ≢ n → other ≢ name
apart [] n k name other distinct at there differ = absurd (cc)
apart (p ∷ ps) zero zero name other distinct at there differ = absurd (differ refl)
apart (p ∷ ps) zero (suc k) name other distinct at there differ =
    let same : p.name ≡ name = cc in subst (λ (x : List ℕ). other ≢ x) same (others_differ p ps k other distinct.0 there)
apart (p ∷ ps) (suc n) zero name other distinct at there differ =
    let same : p.name ≡ other = cc in λ is. others_differ p ps n name distinct.0 at (sym is ∙ sym same)
apart (p ∷ ps) (suc n) (suc k) name other distinct at there differ = apart ps n k name other distinct.1 at there (λ is. differ (ap suc is))

all_at : (P : PropertyModel → Type 0) (ps : List PropertyModel) (k : ℕ) (p : PropertyModel) → AllByRecursion P ps → slice_get ps k ≡ Some p → P p
all_at P [] k p each at = absurd (cc)
all_at P (q ∷ ps) zero p each at = let same : q ≡ p = cc in subst P same each.0
all_at P (q ∷ ps) (suc k) p each at = all_at P ps k p each.1 at

module _ (properties : List PropertyModel) (found : Members) (nodes : List (Option (List Token))) (so_far : HasNodes properties (object found) 0 nodes) (name : List ℕ) (tokens : List Token) where
  -- a member whose name is no slot's changes none
  pub no_slot_put : None ≡ slot_named properties name → HasNodes properties (object (put name (data_on tokens) found)) 0 nodes
  no_slot_put none = (so_far.0, λ slot least. by slot (slice_get properties slot) refl (so_far.1 slot least))
    where
      by : (slot : ℕ) (o : Option PropertyModel) → slice_get properties slot ≡ o → IfSome o (λ p. option_map (option_map data_on) (slice_get nodes slot) ≡ Some (get_member p.name found))
          → IfSome o (λ p. option_map (option_map data_on) (slice_get nodes slot) ≡ Some (get_member p.name (put name (data_on tokens) found)))
      by slot None at here = tt
      by slot (Some p) at here = here ∙ ap Some (sym (get_member-put_other p.name name (data_on tokens) found (all_at (λ q. q.name ≢ name) properties slot p (no_slot_is_named name properties none) at)))

  -- a member whose name is a slot's stands there, and in no other
  pub slot_put : (n : ℕ) → Some n ≡ slot_named properties name → n < length nodes → HasDistinctNames properties
      → HasNodes properties (object (put name (data_on tokens) found)) 0 (slice_set nodes n (Some tokens))
  slot_put n named within distinct = (length-set nodes n (Some tokens) ∙ so_far.0, λ slot least. by slot (slice_get properties slot) refl (so_far.1 slot least) (slot == n) refl)
    where
      there : slice_get (map (λ q. q.name) properties) n ≡ Some name
      there = slot_is_named name properties n named

      by : (slot : ℕ) (o : Option PropertyModel) → slice_get properties slot ≡ o → IfSome o (λ p. option_map (option_map data_on) (slice_get nodes slot) ≡ Some (get_member p.name found))
          → (b : Bool) → (slot == n) ≡ b
          → IfSome o (λ p. option_map (option_map data_on) (slice_get (slice_set nodes n (Some tokens)) slot) ≡ Some (get_member p.name (put name (data_on tokens) found)))
      by slot None at here b is = tt
      by slot (Some p) at here true eqb =
          let same = eqb-true slot n eqb in
          let is : p.name ≡ name = let both = name_at properties slot p at in let other = subst (λ (k : ℕ). slice_get (map (λ q. q.name) properties) k ≡ Some name) (sym same) there in cc in
          ap (option_map (option_map data_on)) (subst (λ (k : ℕ). slice_get (slice_set nodes n (Some tokens)) k ≡ Some (Some tokens)) (sym same) (get_set nodes n (Some tokens) within))
          ∙ ap Some (sym (subst (λ (x : List ℕ). get_member x (put name (data_on tokens) found) ≡ Some (data_on tokens)) (sym is) (get_member-put name (data_on tokens) found)))
      by slot (Some p) at here false eqb =
          let differ : slot ≢ n = eqb-false slot n eqb in
          ap (option_map (option_map data_on)) (get_set_other nodes n slot (Some tokens) differ) ∙ here
          ∙ ap Some (sym (get_member-put_other p.name name (data_on tokens) found (apart properties n slot name p.name distinct there (name_at properties slot p at) differ)))

-- ---- the first and the last

pub object_is : (d : Data) (ms : Members) → as_object d ≡ Some ms → d ≡ object ms
object_is null ms is = absurd (cc)
object_is (boolean b) ms is = absurd (cc)
object_is (number n) ms is = absurd (cc)
object_is (string s) ms is = absurd (cc)
object_is (array ds) ms is = absurd (cc)
object_is (object ns) ms is = ap object (Some_inj ns ms is)

some_within : {A : Type 0} (xs : List A) (n : ℕ) (x : A) → slice_get xs n ≡ Some x → n < length xs
some_within [] n x at = not_found x at
some_within (y ∷ xs) zero x at = omega arith
some_within (y ∷ xs) (suc n) x at = omega (arith, some_within xs n x at)

none_at : (count slot : ℕ) → slot < count → slice_get (replicate {A = Option (List Token)} count None) slot ≡ Some None
none_at zero slot within = absurd (omega (arith, within))
none_at (suc count) zero within = refl
none_at (suc count) (suc slot) within = none_at count slot (omega (arith, within))

-- where no member was found there is none at any slot
pub empty_nodes : (properties : List PropertyModel) (count : ℕ) → count ≡ length properties → HasNodes properties (object no_members) 0 (replicate count None)
empty_nodes properties count is = (length-replicate count None ∙ is, λ slot least. by slot (slice_get properties slot) refl)
  where
    by : (slot : ℕ) (o : Option PropertyModel) → slice_get properties slot ≡ o → IfSome o (λ p. option_map (option_map data_on) (slice_get (replicate {A = Option (List Token)} count None) slot) ≡ Some (get p.name (object no_members)))
    by slot None at = tt
    by slot (Some p) at = ap (option_map (option_map data_on)) (none_at count slot (omega (arith, is, some_within properties slot p at)))

-- the property of a name at a slot
named_at : (ps : List PropertyModel) (n : ℕ) (name : List ℕ) → slice_get (map (λ q. q.name) ps) n ≡ Some name → (p : PropertyModel) × (slice_get ps n ≡ Some p) × (p.name ≡ name)
named_at [] n name at = not_found name at
named_at (p ∷ ps) zero name at = (p, refl, Some_inj p.name name at)
named_at (p ∷ ps) (suc n) name at = named_at ps n name at

pub slot_within : (properties : List PropertyModel) (name : List ℕ) (n : ℕ) → Some n ≡ slot_named properties name → n < length properties
slot_within properties name n named = let p = named_at properties n name (slot_is_named name properties n named) in some_within properties n p.0 p.1

-- ---- a node that is taken from its slot

module _ (properties : List PropertyModel) (whole : Data) (slot : ℕ) (old new : List (Option (List Token))) (have : HasNodes properties whole slot old) where
  pub node_taken : (taken : Option (List Token)) (name : List ℕ) → slice_get (map (λ p. p.name) properties) slot ≡ Some name → slice_get old slot ≡ Some taken → option_map data_on taken ≡ get name whole
  node_taken taken name named there =
      let p = named_at properties slot name named in
      let here : option_map (option_map data_on) (slice_get old slot) ≡ Some (get p.0.name whole) =
      subst (λ (o : Option PropertyModel). IfSome o (λ q. option_map (option_map data_on) (slice_get old slot) ≡ Some (get q.name whole))) p.1 (have.1 slot (omega arith)) in
      Some_inj _ _ (sym (ap (option_map (option_map data_on)) there) ∙ here) ∙ ap (λ (n : List ℕ). get n whole) p.2

  pub node_within : (name : List ℕ) → slice_get (map (λ p. p.name) properties) slot ≡ Some name → slot < length old
  node_within name named = let p = named_at properties slot name named in omega (arith, have.0, some_within properties slot p.0 p.1)

  pub nodes_left : length new ≡ length old → ((k : ℕ) → k ≢ slot → slice_get new k ≡ slice_get old k) → HasNodes properties whole (slot + 1) new
  nodes_left same stays = (
    same ∙ have.0,
    λ k least.
        subst (λ (o : Option (Option (List Token))). IfSome (slice_get properties k) (λ p. option_map (option_map data_on) o ≡ Some (get p.name whole)))
        (sym (stays k (λ is. omega (arith, least, is)))) (have.1 k (omega (arith, least))),
  )
