-- The slots of a declared type are its members along its chain of bases.
use Rattle.std.proofs.Common.{◌≡◌, ◌≢◌, ℕ, zero, suc, ◌<◌, ◌≤◌, List, [], ◌∷◌, ◌++◌, length, map, Option, Some, None, slice_get, position, Bool, true, false, nat_eq, nat_lt, refl, sym, ap, subst, ◌∙◌, arith}
use Rattle.std.specs.Prelude.{reverse}
use Rattle.std.specs.Ordering.{nat_cmp}
use Rattle.std.specs.Cmp.Lexicographic.{pointwise, slice_cmp}
use Rattle.std.specs.List.{flat_map, AllByRecursion}
use Rattle.std.specs.List.Sorted.{IsStrictlySortedBy}
use Rattle.std.proofs.lemmas.Grind.{flat_map-append}
use Rattle.std.proofs.lemmas.List.{append-nil, reverse-append}
use Rattle.std.proofs.lemmas.Slice.Eq.{bytes_eq-Decides}
use Rattle.serde_json.specs.Data.{Data}
use Rattle.csdl_declarations.specs.DeclaredType.{DeclaredType, declared_types, IsBodyInOrder, AreInOrder}
use Rattle.csdl_declarations.specs.Faults.{declaration_faults}
use Rattle.csdl_declarations.specs.Fault.{unknown_base, base_cycle, unless}
use Rattle.csdl_schema.specs.SchemaModel.{SchemaModel, slots_of, properties_at, properties_in, properties_within, type_called, type_properties, HasDistinctNames, IsInNameOrder}
use Rattle.csdl_schema.specs.Resolution.{base_of, goes_by, schema_of, type_model}
use Rattle.csdl_schema.specs.BaseFaults.{onto, bases_within, bases_of, base_limit, is_base_known, chain_faults, inherited_faults, base_faults, all_base_faults}
use Rattle.csdl_schema.specs.Document.{StandsFor, document_faults}
use Rattle.csdl_schema.specs.TypeMembers.{IsBaseChain, own_members, chain_members}
use Rattle.csdl_schema.specs.private.Placed.{Finder, IsIndexOf}
use Rattle.csdl_schema.proofs.Placing.{length-map, same_schema}
use Rattle.csdl_schema.proofs.Inheritance.{if_based, members, members_named, own_models}
use Rattle.csdl_schema.proofs.Chains.{both_empty, unless_holds, below, at_most}
use Rattle.csdl_schema.proofs.Kept.{each_empty, each_at, own_ordered, name_there, chained_schema}

-- ---- chains of bases

module _ (ds : List DeclaredType) where
  -- what ends within so many bases is a chain
  pub is_chain : (k : ℕ) (t : DeclaredType) → length (bases_within k ds t) < k → IsBaseChain ds t (bases_within k ds t)
  is_chain zero t h = absurd (omega (arith, h))
  is_chain (suc k) t h = by (base_of ds t) refl h (λ u lower. is_chain k u lower)
    where
      by : (o : Option DeclaredType) → base_of ds t ≡ o → length (onto (bases_within k ds) o) < suc k
          → ((u : DeclaredType) → length (bases_within k ds u) < k → IsBaseChain ds u (bases_within k ds u)) → IsBaseChain ds t (onto (bases_within k ds) o)
      by None is h further = is
      by (Some u) is h further =
          let lower : length (bases_within k ds u) < k = omega (arith, h) in
          (is, further u lower)

  pub one_chain : (t : DeclaredType) (us vs : List DeclaredType) → IsBaseChain ds t us → IsBaseChain ds t vs → us ≡ vs
  one_chain t [] [] here there = refl
  one_chain t [] (v ∷ vs) here there =
      let clash : None ≡ Some v = sym here ∙ there.0 in
      absurd (cc)
  one_chain t (u ∷ us) [] here there =
      let clash : Some u ≡ None = sym here.0 ∙ there in
      absurd (cc)
  one_chain t (u ∷ us) (v ∷ vs) here there =
      let found : Some u ≡ Some v = sym here.0 ∙ there.0 in
      let same : u ≡ v = cc in
      let rest : us ≡ vs = one_chain v us vs (subst (λ w. IsBaseChain ds w us) same here.1) there.1 in
      λ j. same j ∷ rest j

  -- the members of a type are those of its chain
  along : (k : ℕ) (t : DeclaredType) (us : List DeclaredType) → IsBaseChain ds t us → length us < k → members ds k t ≡ chain_members ds t us
  along zero t us chain h = absurd (omega (arith, h))
  along (suc k) t [] chain h = ap (λ o. if_based ds (members ds k) o ++ own_models ds t) chain ∙ sym (append-nil (own_models ds t))
  along (suc k) t (u ∷ us) chain h =
      let lower : length us < k = omega (arith, h) in
      let turned : reverse (t ∷ u ∷ us) ≡ reverse (u ∷ us) ++ t ∷ [] = reverse-append (t ∷ []) (u ∷ us) in
      ap (λ o. if_based ds (members ds k) o ++ own_models ds t) chain.0
      ∙ ap (λ ps. ps ++ own_models ds t) (along k u us chain.1 lower)
      ∙ ap (λ ps. chain_members ds u us ++ ps) (sym (append-nil (own_models ds t)))
      ∙ sym (flat_map-append (own_members ds) (reverse (u ∷ us)) (t ∷ []))
      ∙ ap (flat_map (own_members ds)) (sym turned)

  -- ---- types without faults

  chain_without : (n : ℕ) (t : DeclaredType) → all_base_faults ds ≡ [] → slice_get ds n ≡ Some t → chain_faults ds t ≡ []
  chain_without n t none at = (both_empty (chain_faults ds t) (inherited_faults ds t) (each_empty (base_faults ds) ds n t none at)).0

  chain_ends : (n : ℕ) (t : DeclaredType) → all_base_faults ds ≡ [] → slice_get ds n ≡ Some t → (length (bases_of ds t) < length ds) × (length (bases_of ds t) ≤ base_limit)
  chain_ends n t none at =
      let known = both_empty (unless (is_base_known ds t) (unknown_base t.name)) _ (chain_without n t none at) in
      let ends = both_empty (unless (nat_lt (length (bases_of ds t)) (length ds)) (base_cycle t.name)) _ known.1 in
      (below (length (bases_of ds t)) (length ds) (unless_holds _ _ ends.0), at_most (length (bases_of ds t)) base_limit (unless_holds _ _ ends.1))

  chain_of_bases : (n : ℕ) (t : DeclaredType) → all_base_faults ds ≡ [] → slice_get ds n ≡ Some t → IsBaseChain ds t (bases_of ds t)
  chain_of_bases n t none at = is_chain (length ds) t (chain_ends n t none at).0

  -- ---- slots by name

  slots_along : IsStrictlySortedBy (slice_cmp nat_cmp) (map (λ t. t.name) ds) → (n : ℕ) (t : DeclaredType) (us : List DeclaredType) → slice_get ds n ≡ Some t
      → IsBaseChain ds t us → length us < length ds → properties_in (schema_of ds).types t.name ≡ chain_members ds t us
  slots_along rising n t us at chain few =
      ap (λ k. properties_within k (schema_of ds).types t.name) (length-map (type_model ds) ds)
      ∙ members_named ds (λ asked. position (λ u. goes_by u asked) ds) (λ asked. refl) rising (length ds) n t at
      ∙ along (length ds) t us chain few

  -- the names of a type's slots are distinct
  distinct_members : AreInOrder ds → all_base_faults ds ≡ [] → (n : ℕ) (t : DeclaredType) → slice_get ds n ≡ Some t → HasDistinctNames ((slots_of (schema_of ds)).properties t.name)
  distinct_members ordered none n t at =
      let find : Finder = λ asked. position (λ u. goes_by u asked) ds in
      let indexed : IsIndexOf ds find = λ asked. refl in
      let here : HasDistinctNames (properties_at (schema_of ds) n) =
      subst (λ s. HasDistinctNames (properties_at s n)) (same_schema ds find indexed) ((chained_schema ds find indexed ordered none).distinct n) in
      subst (λ name. HasDistinctNames ((slots_of (schema_of ds)).properties name)) (name_there ds ds n t at) here

  apart : (a b : List ℕ) → a ≢ b → pointwise nat_eq a b ≡ false
  apart a b differ = by (pointwise nat_eq a b) refl
    where
      by : (same : Bool) → pointwise nat_eq a b ≡ same → same ≡ false
      by true is = absurd (differ ((bytes_eq-Decides a b).0 is))
      by false is = refl

  none_called : (ts : List DeclaredType) (asked : List ℕ) → AllByRecursion (λ t. t.name ≢ asked) ts → type_called (map (type_model ds) ts) asked ≡ None
  none_called [] asked all = refl
  none_called (t ∷ ts) asked all = rw (apart t.name asked all.0) (none_called ts asked all.1)

  no_slots : (k : ℕ) (asked : List ℕ) → AllByRecursion (λ t. t.name ≢ asked) ds → properties_within k (schema_of ds).types asked ≡ []
  no_slots zero asked all = refl
  no_slots (suc k) asked all = ap (type_properties (properties_within k (schema_of ds).types)) (none_called ds asked all)

-- ---- documents

no_base_faults : (json : Data) → document_faults json ≡ [] → all_base_faults (declared_types json) ≡ []
no_base_faults json none = (both_empty (declaration_faults json) (all_base_faults (declared_types json)) none).1

module _ (document : List ℕ) (schema : SchemaModel) (stands : StandsFor document schema) where
  abbrev ts : List DeclaredType
  ts = declared_types stands.json

  pub ends : (n : ℕ) (t : DeclaredType) → slice_get ts n ≡ Some t → IsBaseChain ts t (bases_of ts t)
  ends n t at = chain_of_bases ts n t (no_base_faults stands.json stands.faultless) at

  pub short : (n : ℕ) (t : DeclaredType) → slice_get ts n ≡ Some t → length (bases_of ts t) ≤ base_limit
  short n t at = (chain_ends ts n t (no_base_faults stands.json stands.faultless) at).1

  pub declared_slots : AreInOrder ts → (n : ℕ) (t : DeclaredType) (us : List DeclaredType) → slice_get ts n ≡ Some t → IsBaseChain ts t us → (slots_of schema).properties t.name ≡ chain_members ts t us
  declared_slots ordered n t us at chain =
      let same : us ≡ bases_of ts t = one_chain ts t us (bases_of ts t) chain (ends n t at) in
      let few : length us < length ts = subst (λ bases. length bases < length ts) (sym same) (chain_ends ts n t (no_base_faults stands.json stands.faultless) at).0 in
      ap (λ s. (slots_of s).properties t.name) stands.is_declared ∙ slots_along ts ordered.names n t us at chain few

  pub distinct_slots : AreInOrder ts → (n : ℕ) (t : DeclaredType) → slice_get ts n ≡ Some t → HasDistinctNames ((slots_of schema).properties t.name)
  distinct_slots ordered n t at =
      subst (λ s. HasDistinctNames ((slots_of s).properties t.name)) (sym stands.is_declared) (distinct_members ts ordered (no_base_faults stands.json stands.faultless) n t at)

  pub rising_members : AreInOrder ts → (n : ℕ) (t : DeclaredType) → slice_get ts n ≡ Some t → IsInNameOrder (own_members ts t)
  rising_members ordered n t at = own_ordered ts t.body (each_at (λ u. IsBodyInOrder u.body) ts n t ordered.properties at)

  pub undeclared_slots : (asked : List ℕ) → AllByRecursion (λ t. t.name ≢ asked) ts → (slots_of schema).properties asked ≡ []
  undeclared_slots asked none = ap (λ s. (slots_of s).properties asked) stands.is_declared ∙ no_slots ts (length (schema_of ts).types) asked none
