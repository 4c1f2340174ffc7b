-- How many members a collection has.
use Rattle.std.proofs.Common.{◌≡◌, ◌∙◌, ℕ, suc, ℤ, List, [], ◌∷◌, Bool, false, Some, Ok, Err, length, map, ap, arith, refl, sym, subst}
use Rattle.std.specs.Prelude.{not, pos}
use Rattle.std.specs.Bool.{◌==◌}
use Rattle.std.proofs.lemmas.Bool.Decides.{nat_tests}
use Rattle.edm_values.specs.Val.{boolean, whole, items}
use Rattle.edm_values.specs.NumberTypes.{IsNumberOf}
use Rattle.edm_values.specs.declared.primitive.PrimitiveType.{PrimitiveType}
use Rattle.edm_values.specs.declared.value.Value.{Value}
use Rattle.csdl_schema.specs.ExprType.{SingleType}
use Rattle.csdl_schema.specs.SchemaModel.{Slots}
use Rattle.edm_entities.specs.Row.{items_of, val_of}
use Rattle.odata_functions.specs.declared.arithmetic.ArithFault.{ArithFault}
use Rattle.odata_filter_operations.specs.CalculationGives.{GivesNumber}
use Rattle.odata_filter_operations.specs.CollectionGives.{AnyItemGives, members_of}
use Rattle.odata_filter_operations.specs.Outcome.{gives, overflow}
use Rattle.odata_filter_operations.proofs.values.Members.{as_many_members}

module _ (slots : Slots) (member : SingleType) (held : List Value) where
  pub count_within : (n : ℤ) → n ≡ pos (length held) → IsNumberOf PrimitiveType.Int64 (pos (length held))
      → GivesNumber PrimitiveType.Int64 (pos (length (members_of (items_of slots.properties member (map val_of held))))) (gives (whole n))
  count_within n same within =
      let as_many : length held ≡ length (members_of (items_of slots.properties member (map val_of held))) = sym (as_many_members slots member held) in
      (Ok (Some n), (ap Some (same ∙ ap pos as_many), subst (λ (k : ℕ). IsNumberOf PrimitiveType.Int64 (pos k)) as_many within), refl)

  pub count_outside : ¬ (IsNumberOf PrimitiveType.Int64 (pos (length held)))
      → GivesNumber PrimitiveType.Int64 (pos (length (members_of (items_of slots.properties member (map val_of held))))) overflow
  count_outside outside =
      (Err ArithFault.Overflow, (refl, subst (λ (n : ℕ). ¬ (IsNumberOf PrimitiveType.Int64 (pos n))) (sym (as_many_members slots member held)) outside), refl)

not_zero : (n : ℕ) → (suc n == 0) ≡ false
not_zero n = grind (arith, nat_tests)

pub some_member : (slots : Slots) (member : SingleType) (held : List Value) (empty : Bool) → empty ≡ (length held == 0)
    → AnyItemGives (items (items_of slots.properties member (map val_of held))) (gives (boolean (not empty)))
some_member slots member [] empty is = ap (λ (b : Bool). gives (boolean (not b))) is
some_member slots member (v ∷ more) empty is = ap (λ (b : Bool). gives (boolean (not b))) (is ∙ not_zero (length more))
