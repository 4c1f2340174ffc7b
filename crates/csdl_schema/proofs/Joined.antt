-- The types that are joined are those of the definitions.
use Rattle.std.proofs.Common.{◌≡◌, ℕ, List, [], length, map, position, sym, ap, subst, ◌∙◌}
use Rattle.csdl_declarations.specs.DeclaredType.{DeclaredType, AreInOrder}
use Rattle.csdl_schema.specs.declared.chain.Chain.{Chain}
use Rattle.csdl_schema.specs.declared.property.PropertyKind.{PropertyKind}
use Rattle.csdl_schema.specs.declared.read_bases.FoundBase.{FoundBase}
use Rattle.csdl_schema.specs.SchemaModel.{SchemaModel, is_named}
use Rattle.csdl_schema.specs.Resolution.{type_model, schema_of}
use Rattle.csdl_schema.specs.BaseFaults.{all_base_faults}
use Rattle.csdl_schema.specs.private.Placed.{Finder, IsIndexOf, PlacedType, kinds_from, found_base, types_with, chains_from, faults_from}
use Rattle.csdl_schema.specs.private.SchemaView.{model_of, AreChained}
use Rattle.csdl_schema.proofs.Placing.{all_placed, same_schema, length-map, position-map}
use Rattle.csdl_schema.proofs.Chains.{placed, first_fault, none_first, all_faults}
use Rattle.csdl_schema.proofs.Kept.{chained_schema}

module _ (ds : List DeclaredType) (find : Finder) (indexed : IsIndexOf ds find) (kinds : List PropertyKind) (bases : List FoundBase) (ps : List PlacedType)
    (are_kinds : kinds ≡ kinds_from 0 ds) (are_bases : bases ≡ map (λ t. found_base ds find t.body) ds) (are_types : ps ≡ types_with kinds find bases ds) where
  pub all_are : ps ≡ placed ds find indexed
  all_are = are_types ∙ (λ j. types_with (are_kinds j) find (are_bases j) ds) ∙ all_placed ds find indexed ds

  pub as_many : length ps ≡ length bases
  as_many = ap length all_are ∙ length-map _ ds ∙ sym (length-map (λ t. found_base ds find t.body) ds) ∙ ap length (sym are_bases)

  pub faults_are : first_fault (faults_from ps 0 bases ps) ≡ first_fault (all_base_faults ds)
  faults_are = (λ j. first_fault (faults_from (all_are j) 0 (are_bases j) (all_are j))) ∙ all_faults ds find indexed

  pub model_is : model_of ps ≡ schema_of ds
  model_is = ap model_of all_are ∙ same_schema ds find indexed

  pub chained : (chains : List Chain) → chains ≡ chains_from ps 0 ps → AreInOrder ds → faults_from ps 0 bases ps ≡ [] → AreChained ps chains
  chained chains are_chains ordered none =
      let P : List PlacedType → Type 0 = λ qs. AreChained qs (chains_from qs 0 qs) in
      subst (AreChained ps) (sym are_chains) (subst P (sym all_are) (chained_schema ds find indexed ordered (none_first (faults_from ps 0 bases ps) (all_base_faults ds) faults_are none)))

  pub found_by_name : (asked : List ℕ) → find asked ≡ position (λ t. is_named t asked) (model_of ps).types
  found_by_name asked =
      indexed asked
      ∙ sym (position-map (type_model ds) (λ t. is_named t asked) ds)
      ∙ ap (λ (s : SchemaModel). position (λ t. is_named t asked) s.types) (sym model_is)
