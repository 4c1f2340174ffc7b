-- Parameters and literals evaluate to their values.
use Rattle.sql_forms.proofs.Common.{◌≡◌, ℕ, List, [], ◌∷◌, ◌++◌, Some, None, length, refl, sym, ap, ◌∙◌, slice_get, string_bytes, MomentValue, MomentParts, plain_val, Val, moment, Value, found_there, there_found, Outcome, gives, ParameterGives, NodeMeans, no_terms, SqlNode, SqlType, Parameter, Draft, Grows, GrowsBy, GrowsByText, IsFront, IsLiteralAt, Has, IsWorldOf, Puts, Question, World, arity, grown, puts_leaf}
use Rattle.sql_outcomes.specs.private.ValueForms.{Itself}
use Rattle.odata_checked_filter.proofs.flat.Places.{get_front}
use Rattle.sql_outcomes.proofs.nodes.Binding.{at_last}

-- the last parameter of a draft stands where it was put
in_world : {A : Type 0} (xs ys asked : List A) (x : A) → ys ≡ xs ++ x ∷ [] → IsFront ys asked → slice_get asked (length xs) ≡ Some x
in_world {A} xs ys asked x is front =
    ap (λ (l : List A). slice_get l (length xs)) (front.1 ∙ ap (λ (l : List A). l ++ front.0) is) ∙ get_front (xs ++ x ∷ []) front.0 (length xs) x (at_last xs x)

module _ (question : Question) (old new : Draft) where
  pub parameter_put : (type : SqlType) (parameter : Parameter) (Outcomes : Has) (Form : Outcome → Outcome → Type 0)
      → GrowsBy old new (SqlNode.Parameter (length old.tree.parameters.items) type ∷ []) [] (parameter ∷ [])
      → ((world : World) (o : Outcome) → IsWorldOf question new world → Outcomes world o → (x : Outcome) × ParameterGives type parameter x × Form o x)
      → Puts question old new Outcomes Form
  parameter_put type parameter Outcomes Form grows goes =
      let node = SqlNode.Parameter (length old.tree.parameters.items) type in
      puts_leaf question node refl old new Outcomes Form (grown old new (node ∷ []) [] (parameter ∷ []) (refl, refl) grows)
      (λ world o is has.
      let g = goes world o is has in (
        g.0,
        there_found (λ (p : Parameter). ParameterGives type p g.0) (slice_get world.asked.parameters (length old.tree.parameters.items)) parameter
            (in_world old.tree.parameters.items new.tree.parameters.items world.asked.parameters parameter grows.parameters_are is.parameters) g.1,
        g.2,
      ))

  module _ (place : ℕ) (value : Value) (at : slice_get question.filter.list.values place ≡ Some value) where
    -- the value that stands there is what the literal stands for
    pub literal_is : (v : Val) → plain_val value ≡ Some v → (world : World) (o : Outcome) → IsLiteralAt question.filter place world o → o ≡ gives v
    literal_is v plain world o has =
        let found = found_there (λ (w : Value). (u : Val) × (plain_val w ≡ Some u) × (o ≡ gives u)) (slice_get question.filter.list.values place) value at has in
        let is : found.0 ≡ v = cc (found.1, plain) in
        found.2 ∙ ap gives is

    -- a value without parts
    pub no_literal : plain_val value ≡ None → (world : World) (o : Outcome) → IsLiteralAt question.filter place world o → ⊥
    no_literal none world o has =
        let found = found_there (λ (w : Value). (u : Val) × (plain_val w ≡ Some u) × (o ≡ gives u)) (slice_get question.filter.list.values place) value at has in
        let same : None ≡ Some found.0 = sym none ∙ found.1 in
        cc

    pub leaf_literal : (node : SqlNode) → arity node ≡ 0 → (v : Val) → plain_val value ≡ Some v → Grows old new (node ∷ [])
        → ((world : World) → NodeMeans world.asked world.bound node no_terms (gives v)) → Puts question old new (IsLiteralAt question.filter place) Itself
    leaf_literal node many v plain grows means =
        puts_leaf question node many old new (IsLiteralAt question.filter place) Itself grows
        (λ world o is has. (gives v, means world, sym (literal_is v plain world o has)))

    pub parameter_literal : (type : SqlType) (parameter : Parameter) (v : Val) → plain_val value ≡ Some v → ParameterGives type parameter (gives v)
        → GrowsBy old new (SqlNode.Parameter (length old.tree.parameters.items) type ∷ []) [] (parameter ∷ [])
        → Puts question old new (IsLiteralAt question.filter place) Itself
    parameter_literal type parameter v plain given grows =
        parameter_put type parameter (IsLiteralAt question.filter place) Itself grows (λ world o is has. (gives v, given, sym (literal_is v plain world o has)))

  pub moment_literal : (place : ℕ) (m : MomentParts) → slice_get question.filter.list.values place ≡ Some (Value.Moment m)
      → GrowsByText old new SqlType.Moment (λ t. MomentValue (string_bytes t) m) → Puts question old new (IsLiteralAt question.filter place) Itself
  moment_literal place m at grows = parameter_literal place (Value.Moment m) at SqlType.Moment (Parameter.Text grows.written) (moment m) refl (m, grows.meets, refl) grows.by
