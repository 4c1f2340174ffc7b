-- SQL's own list, over items that are compared with a left side.
use Rattle.sql_forms.proofs.Common.{compared_in, ◌≡◌, ◌≢◌, ◌⊎◌, inl, inr, ◌+◌, ◌++◌, ◌∷◌, [], ℕ, suc, List, Bool, true, false, Some, length, take, refl, sym, ap, subst, ◌∙◌, slice_get, AllByRecursion, Val, boolean, null, Filter, Outcome, gives, SomeTrue, AmongGives, EachEqual, SqlMeans, more_terms, nodes_of, nodes_of_all, term, SqlNode, SqlType, Draft, Operand, Kind, Grows, AreCompared, IsOfKind, IsOfType, AllCompare, AmongHas, EachEquals, some_of, ComparedHas, as_compared, Puts, PutsAll, Question, World, grows_then, world_before}
use Rattle.sql_outcomes.specs.private.ValueForms.{Itself}
use Rattle.sql_meaning.specs.SqlTypeHolds.{IsComparedAs}
use Rattle.sql_outcomes.proofs.outcomes.ComparedValues.{equal_compared}
use Rattle.sql_forms.proofs.puts.OperandsPut.{loosely, compared_typed}
use Rattle.sql_outcomes.proofs.outcomes.ValueWalk.{one_more_put}
use Rattle.sql_outcomes.proofs.nodes.Binding.{puts_none}

-- ---- one item after others

all_but_last : (filter : Filter) (operands : List Operand) (x : Operand) (world : World) (os : List Outcome) → AllCompare filter (operands ++ x ∷ []) world os
    → (front : List Outcome) × (o : Outcome) × AllCompare filter operands world front × ComparedHas filter x world o × (os ≡ front ++ o ∷ [])
all_but_last filter [] x world [] all = absurd all
all_but_last filter [] x world (o ∷ os) all = ([], o, refl, all.0, ap (λ (more : List Outcome). o ∷ more) all.1)
all_but_last filter (operand ∷ operands) x world [] all = absurd all
all_but_last filter (operand ∷ operands) x world (p ∷ os) all =
    let more = all_but_last filter operands x world os all.1 in
    (p ∷ more.0, more.1, (all.0, more.2), more.3, ap (λ (rest : List Outcome). p ∷ rest) more.4)

module _ (question : Question) where
  pub one_compared_put : (operands : List Operand) (n : ℕ) (x : Operand) (old middle new : Draft) → slice_get operands n ≡ Some x
      → PutsAll question old middle (AllCompare question.filter (take n operands)) (length (take n operands)) → Puts question middle new (ComparedHas question.filter x) Itself
      → PutsAll question old new (AllCompare question.filter (take (n + 1) operands)) (length (take (n + 1) operands))
  one_compared_put operands n x old middle new at before after =
      one_more_put question (ComparedHas question.filter) (AllCompare question.filter) (all_but_last question.filter) operands n x old middle new at before after

  pub none_compared_put : (draft : Draft) → PutsAll question draft draft (AllCompare question.filter []) 0
  none_compared_put draft = puts_none question draft (AllCompare question.filter []) (λ world os is. is)

-- ---- what the list evaluates to

abbrev compared_outcomes : List Val → List Outcome
compared_outcomes [] = []
compared_outcomes (v ∷ values) = gives (as_compared v) ∷ compared_outcomes values

abbrev answers_of : List Bool → List Outcome
answers_of [] = []
answers_of (b ∷ bs) = gives (boolean b) ∷ answers_of bs

some_answered : (bs : List Bool) → SomeTrue (answers_of bs) (some_of bs)
some_answered [] = refl
some_answered (true ∷ bs) = (some_of bs, some_answered bs, refl)
some_answered (false ∷ bs) = some_answered bs

among_given : (items : List Outcome) (l : Val) (o : Outcome) → l ≢ null → (answers : List Outcome) → EachEqual l items answers → (answer : Bool) → SomeTrue answers answer → o ≡ gives (boolean answer)
    → AmongGives items l o
among_given items null o other answers each answer some is = absurd (other refl)
among_given items l o other answers each answer some is = (answers, each, (answer, some, is))

-- what is compared is null only where it was
compared_null : (v : Val) → as_compared v ≡ null → v ≡ null
compared_null null is = refl
compared_null v is = let e : as_compared v ≡ null = is in absurd (cc)

-- a value beside one of that type is of the type too
beside_type : (type : SqlType) (kind : Kind) (v : Val) → AreCompared (Kind.Value type) kind → IsOfKind kind v → IsOfType type v
beside_type type Kind.Null v compared is = subst (IsOfType type) (sym is) tt
beside_type type (Kind.Value other) v compared is = subst (λ (t : SqlType). IsOfType t v) (sym compared) is
beside_type type Kind.Structured v compared is = absurd compared

module _ (filter : Filter) (type : SqlType) (l : Val) (of_left : IsOfType type l) (world : World) where
  each_equal : (items : List Operand) (values : List Val) (bs : List Bool) → AllByRecursion (λ (item : Operand). AreCompared (Kind.Value type) item.kind) items → EachEquals filter l items world values bs
      → EachEqual (as_compared l) (compared_outcomes values) (answers_of bs)
  each_equal [] values bs compared each =
      subst (λ (vs : List Val). EachEqual (as_compared l) (compared_outcomes vs) (answers_of bs)) (sym each.0)
      (ap answers_of each.1)
  each_equal (item ∷ items) [] bs compared each = absurd each
  each_equal (item ∷ items) (v ∷ values) [] compared each = absurd each
  each_equal (item ∷ items) (v ∷ values) (b ∷ bs) compared each = (
    equal_compared type l v (gives (boolean b)) of_left (beside_type type item.kind v compared.0 each.0.fits.kind) each.1,
    each_equal items values bs compared.1 each.2,
  )

  all_compare : (items : List Operand) (values : List Val) (bs : List Bool) → EachEquals filter l items world values bs → AllCompare filter items world (compared_outcomes values)
  all_compare [] values bs each = subst (λ (vs : List Val). compared_outcomes vs ≡ []) (sym each.0) refl
  all_compare (item ∷ items) [] bs each = absurd each
  all_compare (item ∷ items) (v ∷ values) [] each = absurd each
  all_compare (item ∷ items) (v ∷ values) (b ∷ bs) each = ((v, loosely each.0, refl), all_compare items values bs each.2)

  as_many_items : (items : List Operand) (values : List Val) (bs : List Bool) → EachEquals filter l items world values bs → length (compared_outcomes values) ≡ length items
  as_many_items [] values bs each = subst (λ (vs : List Val). length (compared_outcomes vs) ≡ 0) (sym each.0) refl
  as_many_items (item ∷ items) [] bs each = absurd each
  as_many_items (item ∷ items) (v ∷ values) [] each = absurd each
  as_many_items (item ∷ items) (v ∷ values) (b ∷ bs) each = ap suc (as_many_items items values bs each.2)

-- null of null, else the answer
abbrev Either : Val → Bool → Outcome → Type 0
Either l answer o = ((l ≡ null) × (o ≡ gives null)) ⊎ ((l ≢ null) × (o ≡ gives (boolean answer)))

module _ (question : Question) (left : Operand) (items : List Operand) (type : SqlType) (left_is : left.kind ≡ Kind.Value type)
    (compared : AllByRecursion (λ (item : Operand). AreCompared left.kind item.kind) items) where
  pub among_put : (count : ℕ) (value_type : SqlType) (old middle next new : Draft) → value_type ≡ compared_in type → length items ≡ count → Grows old middle (SqlNode.Among count value_type ∷ [])
      → Puts question middle next (ComparedHas question.filter left) Itself → PutsAll question next new (AllCompare question.filter items) (length items)
      → Puts question old new (AmongHas question.filter left items) Itself
  among_put count value_type old middle next new type_is many grows first all = record {
    t = term (SqlNode.Among count value_type) (more_terms first.t all.terms);
    shaped = (ap (λ (n : ℕ). n + 1) (all.counted ∙ many), (first.shaped, all.shaped));
    grows = grows_then old middle new (SqlNode.Among count value_type ∷ []) (nodes_of first.t ++ nodes_of_all all.terms) grows (grows_then middle next new (nodes_of first.t) (nodes_of_all all.terms) first.grows all.grows);
    says = λ world o is has.
        let e = has.1 in
        let of_left : IsOfType type e.l = subst (λ (k : Kind). IsOfKind k e.l) left_is e.has.fits.kind in
        let items_compared = subst (λ (k : Kind). AllByRecursion (λ (item : Operand). AreCompared k item.kind) items) left_is compared in
        let m = first.says world (gives (as_compared e.l)) (world_before question next new (nodes_of_all all.terms) world all.grows is) (e.l, loosely e.has, refl) in
        let each = all.says world (compared_outcomes e.values) is (all_compare question.filter type e.l of_left world items e.values e.bs e.each) in
        let as_many = as_many_items question.filter type e.l of_left world items e.values e.bs e.each in
        let equal = each_equal question.filter type e.l of_left world items e.values e.bs items_compared e.each in (
          o,
          (
            gives (as_compared e.l),
            subst (SqlMeans world.asked world.bound first.t) m.2 m.1,
            (
              subst (λ (t : SqlType). IsComparedAs t (as_compared e.l)) (sym type_is) (compared_typed type e.l of_left),
              (compared_outcomes e.values, each, as_many ∙ many, of_either e.l (compared_outcomes e.values) (answers_of e.bs) (some_of e.bs) o equal (some_answered e.bs) (either_of world o has)),
            ),
          ),
          refl,
        );
  }
    where
      either_of : (world : World) (o : Outcome) (has : AmongHas question.filter left items world o) → Either has.1.l (some_of has.1.bs) o
      either_of world o has = elim has.2 [
        | inl is ↦ inl is
        | inr is ↦ inr (is.0, is.1 ∙ has.1.is)
      ]

      of_either : (l : Val) (outcomes answers : List Outcome) (answer : Bool) (o : Outcome) → EachEqual (as_compared l) outcomes answers → SomeTrue answers answer → Either l answer o
          → AmongGives outcomes (as_compared l) o
      of_either l outcomes answers answer o equal some (inl is) = subst (λ (v : Val). AmongGives outcomes (as_compared v) o) (sym is.0) is.1
      of_either l outcomes answers answer o equal some (inr is) = among_given outcomes (as_compared l) o (λ none. is.0 (compared_null l none)) answers equal answer some is.1
