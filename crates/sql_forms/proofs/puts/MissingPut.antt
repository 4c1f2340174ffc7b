-- What is put for a lambda operator over a collection that may be null.
use Rattle.sql_forms.proofs.Common.{◌≡◌, ◌+◌, ◌∷◌, [], ℕ, List, Bool, true, false, Option, Some, refl, sym, ap, subst, ◌∙◌, slice_get, Val, boolean, null, Quantifier, Outcome, gives, and3, not3, Range, truth, Digit, SqlNode, Draft, Grows, IsOrNull, LambdaHas, OverHas, missing_front, IsPathTo, AreRanges, Has, IsAskedOf, Puts, Question, World, grows_then, puts_as, puts_leaf, puts_one, puts_two, world_before, path_says}
use Rattle.sql_outcomes.specs.TrueWhere.{IsTrueWhere}
use Rattle.sql_outcomes.specs.private.ValueForms.{Itself}
use Rattle.sql_outcomes.proofs.nodes.Binding.{nothing}
use Rattle.sql_forms.proofs.puts.ComparisonsPut.{not_node}
use Rattle.sql_outcomes.proofs.outcomes.CodeTables.{Coded}
use Rattle.sql_forms.proofs.puts.OrNullsPut.{and_node}
use Rattle.sql_outcomes.proofs.outcomes.Truths.{true_where}
use Rattle.sql_outcomes.proofs.outcomes.UnlessMissing.{CollectionThere, WholeHas, code_unless_missing, given_put, is_null, missing_of, truth_unless_missing}

module _ (question : Question) (quantifier : Quantifier) (place path : ℕ) where
  -- whether what the operator goes over is null
  abbrev MissingHas : Has
  MissingHas world x = (o : Outcome) × (over : OverHas question.filter quantifier place world o) × (x ≡ gives (boolean (is_null over.collection)))

  missing_put : (before old new : Draft) → IsPathTo question before (place + 1) path → (nodes : List SqlNode) → Grows before old nodes → Grows old new (SqlNode.IsMissing path ∷ []) → Puts question old new MissingHas Itself
  missing_put before old new leads nodes earlier grows =
      puts_leaf question (SqlNode.IsMissing path) refl old new MissingHas Itself grows
      (λ world x is has.
      let at_old = world_before question old new (SqlNode.IsMissing path ∷ []) world grows is in
      let at_first = world_before question before old nodes world earlier at_old in (
        gives (boolean (is_null has.1.collection)),
        (has.1.collection, path_says question before (place + 1) path leads world has.1.collection at_first has.1.has, missing_of has.1.collection has.1.members has.1.are),
        sym has.2,
      ))

  -- null over null, and else what comes over the members
  abbrev over_parts : (world : World) (o : Outcome) → OverHas question.filter quantifier place world o → CollectionThere question (place + 1) world
  over_parts world o over = record { c = over.collection; members = over.members; has = over.has; are = over.are }

  abbrev Parted : Has
  Parted = WholeHas question (place + 1) path (OverHas question.filter quantifier place) over_parts

  of_parts : (Form : Outcome → Outcome → Type 0) (old new : Draft) → Puts question old new Parted Form → Puts question old new (LambdaHas question.filter quantifier place) Form
  of_parts Form old new put =
      puts_as question old new Parted (LambdaHas question.filter quantifier place) Form Form put (λ world o is has. (o, (has.whole_outcome, has.over, has.is), λ x form. form))

  pub missing_truth_put : (ranges : List Range) → AreRanges question ranges → (range : Range) → slice_get ranges (place + 1) ≡ Some range → (old middle new : Draft) → IsPathTo question old (place + 1) path
      → Grows old middle (missing_front range.may_be_null path) → Puts question middle new (OverHas question.filter quantifier place) Itself → Puts question old new (LambdaHas question.filter quantifier place) Itself
  missing_truth_put ranges are range at old middle new leads front inner =
      of_parts Itself old new (truth_unless_missing question (place + 1) path (OverHas question.filter quantifier place) over_parts ranges are range at old middle new leads front inner)

  pub missing_code_put : (old middle new : Draft) → IsPathTo question old (place + 1) path → Grows old middle (SqlNode.Case ∷ SqlNode.IsMissing path ∷ SqlNode.Number Digit.Two ∷ [])
      → Puts question middle new (OverHas question.filter quantifier place) Coded → Puts question old new (LambdaHas question.filter quantifier place) Coded
  missing_code_put old middle new leads grows inner =
      of_parts Coded old new (code_unless_missing question (place + 1) path (OverHas question.filter quantifier place) over_parts old middle new leads grows inner)

  -- a code where it is never null
  pub given_code_put : (ranges : List Range) → AreRanges question ranges → (range : Range) → slice_get ranges (place + 1) ≡ Some range → range.may_be_null ≡ false → (old new : Draft)
      → Puts question old new (OverHas question.filter quantifier place) Coded → Puts question old new (LambdaHas question.filter quantifier place) Coded
  given_code_put ranges are range at none old new inner =
      of_parts Coded old new (given_put question (place + 1) path (OverHas question.filter quantifier place) over_parts Coded ranges are range at none old old new (nothing old) inner)

  -- ---- true exactly where it is

  module _ (truth_of : (world : World) (seen : IsAskedOf question world) (o : Outcome) → OverHas question.filter quantifier place world o → (b : Bool) × (o ≡ gives (boolean b))) where
    -- of null members `any` is false
    pub kept_put : ((world : World) (seen : IsAskedOf question world) (o : Outcome) (over : OverHas question.filter quantifier place world o) → over.collection ≡ null → o ≡ gives (boolean false)) → (old new : Draft)
        → Puts question old new (OverHas question.filter quantifier place) Itself → Puts question old new (LambdaHas question.filter quantifier place) (λ o. IsTrueWhere (o ≡ gives (boolean true)))
    kept_put of_null old new inner =
        puts_as question old new (OverHas question.filter quantifier place) (LambdaHas question.filter quantifier place) Itself (λ o. IsTrueWhere (o ≡ gives (boolean true))) inner
        (λ world o is has.
        let b = truth_of world is.seen has.whole_outcome has.over in (
          has.whole_outcome,
          has.over,
          λ x form.
              subst (λ (p : Outcome). IsTrueWhere (o ≡ gives (boolean true)) p) (sym (form ∙ b.1))
              (by has.over.collection refl o has.whole_outcome b.0 has.is b.1 (λ none. of_null world is.seen has.whole_outcome has.over none)),
        ))
      where
        by : {c : Val} (v : Val) → c ≡ v → (o whole_outcome : Outcome) (b : Bool) → IsOrNull c o whole_outcome → whole_outcome ≡ gives (boolean b) → (c ≡ null → whole_outcome ≡ gives (boolean false))
            → IsTrueWhere (o ≡ gives (boolean true)) (gives (boolean b))
        by {c} null same o whole_outcome b is value none =
            let o_null : o ≡ gives null = subst (λ (w : Val). IsOrNull w o whole_outcome) same is in
            let no : gives (boolean b) ≡ gives (boolean false) = sym value ∙ none same in
            let off : b ≡ false = cc in (
              Some b,
              refl,
              (λ is_so. (let t : Some true ≡ Some false = sym is_so ∙ ap (λ (f : Bool). Some f) off in absurd (cc)), λ is_so. (let t : gives null ≡ gives (boolean true) = sym o_null ∙ is_so in absurd (cc))),
            )
        by {c} _ same o whole_outcome b is value none = true_where (Some b) o (sym (subst (λ (w : Val). IsOrNull w o whole_outcome) same is ∙ value))

    -- `all` and that it is not null
    pub kept_all_put : (old d1 d2 d3 new : Draft) → IsPathTo question old (place + 1) path → Grows old d1 (SqlNode.And ∷ []) → Grows d1 d2 (SqlNode.Not ∷ []) → Grows d2 d3 (SqlNode.IsMissing path ∷ [])
        → Puts question d3 new (OverHas question.filter quantifier place) Itself → Puts question old new (LambdaHas question.filter quantifier place) (λ o. IsTrueWhere (o ≡ gives (boolean true)))
    kept_all_put old d1 d2 d3 new leads and_grows not_grows missing_grows inner =
        puts_two question SqlNode.And refl (λ x y z. (s : Option Bool) × (t : Option Bool) × (x ≡ truth s) × (y ≡ truth t) × (z ≡ truth (and3 s t))) old d1 d3 new GivenHas (OverHas question.filter quantifier place)
        (LambdaHas question.filter quantifier place) Itself Itself (λ o. IsTrueWhere (o ≡ gives (boolean true))) and_node and_grows
        (puts_one question SqlNode.Not refl (λ x y. (t : Option Bool) × (x ≡ truth t) × (y ≡ truth (not3 t))) d1 d2 d3 MissingHas GivenHas Itself Itself not_node not_grows
        (missing_put old d2 d3 leads (SqlNode.And ∷ SqlNode.Not ∷ []) (grows_then old d1 d2 (SqlNode.And ∷ []) (SqlNode.Not ∷ []) and_grows not_grows) missing_grows)
        (λ world x is has. (gives (boolean (is_null has.1.collection)), (has.0, has.1, refl), λ y form. (truth (not3 (Some (is_null has.1.collection))), (Some (is_null has.1.collection), form, refl), sym has.2))))
        inner
        (λ world o is has.
        let b = truth_of world is.seen has.whole_outcome has.over in
        let n = is_null has.over.collection in (
          truth (not3 (Some n)),
          has.whole_outcome,
          (has.whole_outcome, has.over, refl),
          has.over,
          λ x y one two. (
            truth (and3 (not3 (Some n)) (Some b.0)),
            (not3 (Some n), Some b.0, one, two ∙ b.1, refl),
            by has.over.collection o has.whole_outcome b.0 has.is b.1,
          ),
        ))
      where
        GivenHas : Has
        GivenHas = λ world x. (o : Outcome) × (over : OverHas question.filter quantifier place world o) × (x ≡ truth (not3 (Some (is_null over.collection))))

        by : (v : Val) (o whole_outcome : Outcome) (b : Bool) → IsOrNull v o whole_outcome → whole_outcome ≡ gives (boolean b) → IsTrueWhere (o ≡ gives (boolean true)) (truth (and3 (not3 (Some (is_null v))) (Some b)))
        by null o whole_outcome true is value = (Some false, refl, (λ is_so. absurd (cc), λ is_so. (let t : gives null ≡ gives (boolean true) = sym is ∙ is_so in absurd (cc))))
        by null o whole_outcome false is value = (Some false, refl, (λ is_so. absurd (cc), λ is_so. (let t : gives null ≡ gives (boolean true) = sym is ∙ is_so in absurd (cc))))
        by _ o whole_outcome true is value = true_where (Some true) o (sym (is ∙ value))
        by _ o whole_outcome false is value = true_where (Some false) o (sym (is ∙ value))
