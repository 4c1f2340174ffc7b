-- A document has one answer.
use Rattle.std.proofs.Common.{◌≡◌, ℕ, inl, inr, List, [], ◌∷◌, Some, None, position, sym, ap, ◌∙◌, arith}
use Rattle.serde_json.specs.Data.{Data}
use Rattle.csdl_declarations.specs.Fault.{Fault}
use Rattle.csdl_declarations.specs.DeclaredType.{declared_types}
use Rattle.csdl_schema.specs.SchemaModel.{SchemaModel, is_named}
use Rattle.csdl_schema.specs.Resolution.{goes_by, type_model}
use Rattle.csdl_schema.specs.Document.{StandsFor, IsFirstDocumentFault, declared_schema, document_faults}
use Rattle.csdl_schema.specs.JsonText.{IsJsonOf, IsNoJson}
use Rattle.csdl_schema.proofs.Placing.{position-map}

-- a text is the JSON of one value
one_value : (document : List ℕ) (d e : Data) → IsJsonOf document d → IsJsonOf document e → d ≡ e
one_value document d e here there =
    let same : Some d ≡ Some e = sym here.1 ∙ there.1 in
    cc

no_value : (document : List ℕ) (d : Data) → IsNoJson document → IsJsonOf document d → ⊥
no_value document d none here =
    let same : Some d ≡ None = sym here.1 ∙ none here.0 in
    cc

pub one_schema : (document : List ℕ) (a b : SchemaModel) → StandsFor document a → StandsFor document b → a ≡ b
one_schema document a b here there = here.is_declared ∙ ap declared_schema (one_value document here.json there.json here.is_json there.is_json) ∙ sym there.is_declared

first_of : (f g : Fault) (fs gs : List Fault) → f ∷ fs ≡ g ∷ gs → f ≡ g
first_of f g fs gs same = cc

pub one_fault : (document : List ℕ) (f g : Fault) → IsFirstDocumentFault document f → IsFirstDocumentFault document g → f ≡ g
one_fault document f g (inl a) (inl b) = a.1 ∙ sym b.1
one_fault document f g (inl a) (inr (inl b)) = absurd (omega (arith, a.0, b.0))
one_fault document f g (inl a) (inr (inr b)) = absurd (omega (arith, a.0, b.0))
one_fault document f g (inr (inl a)) (inl b) = absurd (omega (arith, a.0, b.0))
one_fault document f g (inr (inl a)) (inr (inl b)) = a.2 ∙ sym b.2
one_fault document f g (inr (inl a)) (inr (inr b)) = absurd (no_value document b.1 a.1 b.2)
one_fault document f g (inr (inr a)) (inl b) = absurd (omega (arith, a.0, b.0))
one_fault document f g (inr (inr a)) (inr (inl b)) = absurd (no_value document a.1 b.1 a.2)
one_fault document f g (inr (inr a)) (inr (inr b)) =
    first_of f g a.3 b.3 (sym a.4 ∙ ap document_faults (one_value document a.1 b.1 a.2 b.2) ∙ b.4)

pub fault_or_schema : (document : List ℕ) (a : SchemaModel) (f : Fault) → StandsFor document a → IsFirstDocumentFault document f → ⊥
fault_or_schema document a f here (inl b) = omega (arith, here.size, b.0)
fault_or_schema document a f here (inr (inl b)) = no_value document here.json b.1 here.is_json
fault_or_schema document a f here (inr (inr b)) =
    let same : [] ≡ f ∷ b.3 = sym here.faultless ∙ ap document_faults (one_value document here.json b.1 here.is_json b.2) ∙ b.4 in
    cc

-- types go by the declared names
pub same_place : (document : List ℕ) (schema : SchemaModel) (stands : StandsFor document schema) (asked : List ℕ)
    → position (λ t. is_named t asked) schema.types ≡ position (λ t. goes_by t asked) (declared_types stands.json)
same_place document schema stands asked =
    let ds = declared_types stands.json in
    ap (λ (s : SchemaModel). position (λ t. is_named t asked) s.types) stands.is_declared ∙ position-map (type_model ds) (λ t. is_named t asked) ds
