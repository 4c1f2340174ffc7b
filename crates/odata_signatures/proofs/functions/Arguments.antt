-- The arguments of a call, one by one.
use Rattle.std.proofs.Common.{◌≡◌, ◌↔◌, ◌≤◌, ◌-◌, arith, subst, IsTrue, Bool, List, [], ◌∷◌, length, map, take, drop, get_or}
use Rattle.std.proofs.lemmas.Grind.{common_steps}
use Rattle.csdl_schema.specs.SchemaModel.{SchemaModel}
use Rattle.odata_signatures.specs.declared.argument_kind.ArgumentKind.{ArgumentKind}
use Rattle.odata_signatures.specs.declared.edm_type.EdmType.{EdmType}
use Rattle.odata_signatures.specs.ArgumentTypes.{AreArgumentTypes, IsArgumentType}
use Rattle.odata_signatures.specs.TypeView.{expr_type}

rest : {A : Type 0} (x : A) (xs : List A) → take (length (x ∷ xs) - 1) (drop 1 (x ∷ xs)) ≡ xs
rest x xs = grind (arith, common_steps)

pub behind_first : (schema : SchemaModel) (kinds : List ArgumentKind) (types : List EdmType) (first : EdmType) (test : Bool)
    → 1 ≤ length kinds → 1 ≤ length types → first ≡ get_or types 0 first
    → IsArgumentType (get_or kinds 0 ArgumentKind.Text) (expr_type schema first)
    → (IsTrue test ↔ AreArgumentTypes (take (length kinds - 1) (drop 1 kinds)) (map (expr_type schema) (take (length types - 1) (drop 1 types))))
    → IsTrue test ↔ AreArgumentTypes kinds (map (expr_type schema) types)
behind_first schema [] types first test some more is fits reported = absurd (omega (arith, some))
behind_first schema kinds [] first test some more is fits reported = absurd (omega (arith, more))
behind_first schema (kind ∷ kinds) (type ∷ types) first test some more is fits reported =
    let here : IsArgumentType kind (expr_type schema type) = subst (λ (t : EdmType). IsArgumentType kind (expr_type schema t)) is fits in
    let half = subst (λ (k : List ArgumentKind). IsTrue test ↔ AreArgumentTypes k (map (expr_type schema) (take (length (type ∷ types) - 1) (drop 1 (type ∷ types))))) (rest kind kinds) reported in
    let whole = subst (λ (t : List EdmType). IsTrue test ↔ AreArgumentTypes kinds (map (expr_type schema) t)) (rest type types) half in
    (λ holds. (here, whole.0 holds), λ both. whole.1 both.1)
