-- What comes of a collection that may be null: null of null, and else what comes over its members.
use Rattle.sql_outcomes.proofs.Common.{◌≡◌, ◌≢◌, ◌∷◌, [], ℕ, List, Bool, true, false, Some, refl, sym, subst, ◌∙◌, append-nil, pos, slice_get, Val, boolean, items, null, whole, Outcome, gives, Range, ChoiceGives, AreMembers, GivesMissing, NodeMeans, Asked, Bound, no_terms, more_terms, nodes_of, term, Digit, SqlNode, SqlType, Draft, Grows, IsOrNull, missing_front, IsPathTo, AreRanges, Has, IsAskedOf, OfPlace, Puts, Question, World, grows_then, world_before, arity, path_says}
use Rattle.sql_outcomes.specs.private.ValueForms.{Itself}
use Rattle.sql_outcomes.proofs.outcomes.CodeTables.{Coded}
use Rattle.sql_outcomes.proofs.outcomes.Operators.{case_means}

abbrev pub is_null : Val → Bool
is_null null = true
is_null v = false

-- of null and of a list
pub missing_of : (v : Val) (members : List Val) → AreMembers v members → GivesMissing v (gives (boolean (is_null v)))
missing_of null members are = refl
missing_of (items values) members are = refl
missing_of _ members are = absurd are

-- a collection, or null, at the index
pub record CollectionThere (question : Question) (base : ℕ) (world : World) : Type 0 where
  pub c : Val
  pub members : List Val
  pub has : OfPlace question.filter base world (gives c)
  pub are : AreMembers c members

given_whole : (v : Val) (o whole_outcome : Outcome) → v ≢ null → IsOrNull v o whole_outcome → o ≡ whole_outcome
given_whole null o whole_outcome other is = absurd (other refl)
given_whole _ o whole_outcome other is = is

module _ (question : Question) (base path : ℕ) (Over : Has) (parts : (world : World) (o : Outcome) → Over world o → CollectionThere question base world) where
  abbrev pub collection_of : (world : World) (o : Outcome) → Over world o → Val
  collection_of world o over = let p = parts world o over in p.c

  abbrev pub WholeHas : Has
  WholeHas world o = (w : Outcome) × (over : Over world w) × IsOrNull (collection_of world w over) o w

  -- of a range that is never null
  never_null : (ranges : List Range) → AreRanges question ranges → (range : Range) → slice_get ranges base ≡ Some range → range.may_be_null ≡ false
      → (world : World) → IsAskedOf question world → (v : Val) → OfPlace question.filter base world (gives v) → v ≢ null
  never_null ranges are range at none world seen v has is =
      let may : range.may_be_null ≡ true = are.within base range world (gives null) at seen (subst (λ (w : Val). OfPlace question.filter base world (gives w)) is has) in
      let no : true ≡ false = sym may ∙ none in
      cc

  module _ (Form : Outcome → Outcome → Type 0) (none_node : SqlNode) (none_leaf : arity none_node ≡ 0) (none_outcome : Outcome)
      (none_means : (asked : Asked) (bound : Bound) → NodeMeans asked bound none_node no_terms none_outcome) (none_form : Form (gives null) none_outcome) where
    -- where it is null the one leaf, and else what comes over the members
    pub choice_put : (old middle new : Draft) → IsPathTo question old base path → Grows old middle (SqlNode.Case ∷ SqlNode.IsMissing path ∷ none_node ∷ []) → Puts question middle new Over Form
        → Puts question old new WholeHas Form
    choice_put old middle new leads front inner = record {
      t = term SqlNode.Case (more_terms (term (SqlNode.IsMissing path) no_terms) (more_terms (term none_node no_terms) (more_terms inner.t no_terms)));
      shaped = (refl, ((refl, tt), ((sym none_leaf, tt), (inner.shaped, tt))));
      grows = subst (λ (ns : List SqlNode). Grows old new (SqlNode.Case ∷ SqlNode.IsMissing path ∷ none_node ∷ ns)) (sym (append-nil (nodes_of inner.t))) whole_grows;
      says = λ world o is has.
          let before = world_before question old new (SqlNode.Case ∷ SqlNode.IsMissing path ∷ none_node ∷ nodes_of inner.t) world whole_grows is in
          let m = inner.says world has.0 is has.1 in
          let p = parts world has.0 has.1 in
          let c = chosen p.c o has.0 m.0 has.2 m.2 in (
            c.0,
            case_means world.asked world.bound (term (SqlNode.IsMissing path) no_terms) (term none_node no_terms) inner.t (Some (is_null p.c)) none_outcome m.0 c.0
                (p.c, path_says question old base path leads world p.c before p.has, missing_of p.c p.members p.are)
                (none_means world.asked world.bound) m.1 c.1,
            c.2,
          );
    }
      where
        whole_grows : Grows old new (SqlNode.Case ∷ SqlNode.IsMissing path ∷ none_node ∷ nodes_of inner.t)
        whole_grows = grows_then old middle new (SqlNode.Case ∷ SqlNode.IsMissing path ∷ none_node ∷ []) (nodes_of inner.t) front inner.grows

        chosen : (v : Val) (o whole_outcome x : Outcome) → IsOrNull v o whole_outcome → Form whole_outcome x → (y : Outcome) × ChoiceGives (Some (is_null v)) none_outcome x y × Form o y
        chosen null o whole_outcome x is form = (none_outcome, refl, subst (λ (p : Outcome). Form p none_outcome) (sym is) none_form)
        chosen _ o whole_outcome x is form = (x, refl, subst (λ (p : Outcome). Form p x) (sym is) form)

  -- where it is never null
  pub given_put : (Form : Outcome → Outcome → Type 0) (ranges : List Range) → AreRanges question ranges → (range : Range) → slice_get ranges base ≡ Some range → range.may_be_null ≡ false → (old middle new : Draft)
      → Grows old middle [] → Puts question middle new Over Form → Puts question old new WholeHas Form
  given_put Form ranges are range at none old middle new front inner = record {
    t = inner.t;
    shaped = inner.shaped;
    grows = grows_then old middle new [] (nodes_of inner.t) front inner.grows;
    says = λ world o is has.
        let p = parts world has.0 has.1 in
        let same = given_whole p.c o has.0 (never_null ranges are range at none world is.seen p.c p.has) has.2 in
        let m = inner.says world has.0 is has.1 in
        (m.0, m.1, subst (λ (q : Outcome). Form q m.0) (sym same) m.2);
  }

  -- by its value, in any form that null keeps
  pub form_unless_missing : (Form : Outcome → Outcome → Type 0) → Form (gives null) (gives null) → (ranges : List Range) → AreRanges question ranges → (range : Range) → slice_get ranges base ≡ Some range
      → (old middle new : Draft) → IsPathTo question old base path → Grows old middle (missing_front range.may_be_null path) → Puts question middle new Over Form → Puts question old new WholeHas Form
  form_unless_missing Form null_form ranges are range at old middle new leads front inner = by range.may_be_null refl front
    where
      by : (b : Bool) → range.may_be_null ≡ b → Grows old middle (missing_front b path) → Puts question old new WholeHas Form
      by true may grows = choice_put Form (SqlNode.Null SqlType.Truth) refl (gives null) (λ asked bound. refl) null_form old middle new leads grows inner
      by false none grows = given_put Form ranges are range at none old middle new grows inner

  pub truth_unless_missing : (ranges : List Range) → AreRanges question ranges → (range : Range) → slice_get ranges base ≡ Some range → (old middle new : Draft) → IsPathTo question old base path
      → Grows old middle (missing_front range.may_be_null path) → Puts question middle new Over Itself → Puts question old new WholeHas Itself
  truth_unless_missing ranges are range at old middle new leads front inner = form_unless_missing Itself refl ranges are range at old middle new leads front inner

  pub code_unless_missing : (old middle new : Draft) → IsPathTo question old base path → Grows old middle (SqlNode.Case ∷ SqlNode.IsMissing path ∷ SqlNode.Number Digit.Two ∷ [])
      → Puts question middle new Over Coded → Puts question old new WholeHas Coded
  code_unless_missing old middle new leads grows inner = choice_put Coded (SqlNode.Number Digit.Two) refl (gives (whole (pos 2))) (λ asked bound. refl) refl old middle new leads grows inner
