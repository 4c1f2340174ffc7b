-- What loops that put one operand after another have put so far.
use Rattle.sql_forms.proofs.Common.{IsComparedIn, ◌≡◌, ◌<◌, ◌+◌, ◌∷◌, ◌∙◌, ◌⊎◌, inl, inr, [], ℕ, zero, suc, List, Some, length, take, refl, sym, ap, subst, arith, slice_get, AllByRecursion, take-length, Range, Function, SqlFunction, SqlNode, SqlType, Draft, Operand, Kind, FunctionHas, IsSqlFunctionOf, Grows, AreCompared, AllHave, AllCompare, AmongHas, ComparedHas, OperandHas, IsFaultless, Puts, PutsAll, Question, arity_of_function}
use Rattle.sql_outcomes.specs.private.ValueForms.{Itself}
use Rattle.sql_outcomes.proofs.outcomes.ValueWalk.{no_value_put, one_value_put}
use Rattle.sql_forms.proofs.puts.AmongPut.{among_put, none_compared_put, one_compared_put}
use Rattle.sql_forms.proofs.puts.CalledPut.{function_put}

pub take_none : (xs : List Operand) → take 0 xs ≡ []
take_none [] = refl
take_none (x ∷ xs) = refl

-- ---- a function over its operands

-- the function of SQL, and the operands before the index
pub record FunctionSoFar (question : Question) (function : Function) (operands : List Operand) (old now : Draft) (place : ℕ) : Type 0 where
  pub sql : SqlFunction
  pub is_sql : IsSqlFunctionOf function operands sql
  pub many : length operands ≡ arity_of_function sql
  pub middle : Draft
  pub grown : Grows old middle (SqlNode.Function sql ∷ [])
  pub put : PutsAll question middle now (AllHave question.filter (take place operands)) (length (take place operands))

module _ (question : Question) (function : Function) (operands : List Operand) (old : Draft) where
  pub function_starts : (sql : SqlFunction) (middle : Draft) → IsSqlFunctionOf function operands sql → length operands ≡ arity_of_function sql → Grows old middle (SqlNode.Function sql ∷ []) → FunctionSoFar question function operands old middle 0
  function_starts sql middle is_sql many grown = record {
    sql = sql;
    is_sql = is_sql;
    many = many;
    middle = middle;
    grown = grown;
    put = subst (λ (xs : List Operand). PutsAll question middle middle (AllHave question.filter xs) (length xs)) (sym (take_none operands)) (no_value_put question middle);
  }

  pub function_goes_on : (now next : Draft) (place : ℕ) (x : Operand) → slice_get operands place ≡ Some x → FunctionSoFar question function operands old now place
      → Puts question now next (OperandHas question.filter x) Itself → FunctionSoFar question function operands old next (place + 1)
  function_goes_on now next place x at so put = record {
    sql = so.sql;
    is_sql = so.is_sql;
    many = so.many;
    middle = so.middle;
    grown = so.grown;
    put = one_value_put question operands place x so.middle now next at so.put put;
  }

  pub function_ends : (new : Draft) → 0 < length operands → FunctionSoFar question function operands old new (length operands)
      → (sql : SqlFunction) × IsSqlFunctionOf function operands sql × Puts question old new (FunctionHas question.filter sql operands) Itself
  function_ends new some so = (
    so.sql,
    so.is_sql,
    function_put question so.sql operands old so.middle new some so.many so.grown
        (subst (λ (xs : List Operand). PutsAll question so.middle new (AllHave question.filter xs) (length xs)) (take-length operands) so.put),
  )

-- ---- SQL's own list

-- the list, its left side, and the items before the index
pub record AmongSoFar (question : Question) (left : Operand) (items : List Operand) (old now : Draft) (place : ℕ) : Type 0 where
  pub type_of : SqlType
  pub typed : IsComparedIn left.kind type_of
  pub middle : Draft
  pub next : Draft
  pub grown : Grows old middle (SqlNode.Among (length items) type_of ∷ [])
  pub first : Puts question middle next (ComparedHas question.filter left) Itself
  pub put : PutsAll question next now (AllCompare question.filter (take place items)) (length (take place items))

module _ (question : Question) (left : Operand) (items : List Operand) (old : Draft) where
  pub among_starts : (type : SqlType) (middle next : Draft) → IsComparedIn left.kind type → Grows old middle (SqlNode.Among (length items) type ∷ []) → Puts question middle next (ComparedHas question.filter left) Itself
      → AmongSoFar question left items old next 0
  among_starts type middle next typed grown first = record {
    type_of = type;
    typed = typed;
    middle = middle;
    next = next;
    grown = grown;
    first = first;
    put = subst (λ (xs : List Operand). PutsAll question next next (AllCompare question.filter xs) (length xs)) (sym (take_none items)) (none_compared_put question next);
  }

  pub among_goes_on : (now after : Draft) (place : ℕ) (x : Operand) → slice_get items place ≡ Some x → AmongSoFar question left items old now place
      → Puts question now after (ComparedHas question.filter x) Itself → AmongSoFar question left items old after (place + 1)
  among_goes_on now after place x at so put = record {
    type_of = so.type_of;
    typed = so.typed;
    middle = so.middle;
    next = so.next;
    grown = so.grown;
    first = so.first;
    put = one_compared_put question items place x so.next now after at so.put put;
  }

  pub among_ends : (type : SqlType) (new : Draft) → left.kind ≡ Kind.Value type → AllByRecursion (λ (item : Operand). AreCompared left.kind item.kind) items
      → AmongSoFar question left items old new (length items) → Puts question old new (AmongHas question.filter left items) Itself
  among_ends type new left_is compared so =
      among_put question left items type left_is compared (length items) so.type_of old so.middle so.next new (subst (λ (k : Kind). IsComparedIn k so.type_of) left_is so.typed) refl so.grown so.first
      (subst (λ (xs : List Operand). PutsAll question so.next new (AllCompare question.filter xs) (length xs)) (take-length items) so.put)

-- ---- terms that evaluate to no fault

earlier_or_last : (k n : ℕ) → k < n + 1 → (k < n) ⊎ (k ≡ n)
earlier_or_last zero zero below = inr refl
earlier_or_last zero (suc n) below = inl (omega arith)
earlier_or_last (suc k) zero below = absurd (omega (arith, below))
earlier_or_last (suc k) (suc n) below =
    elim (earlier_or_last k n (omega (arith, below))) [
      | inl before ↦ inl (omega (arith, before))
      | inr last ↦ inr (ap suc last)
    ]

pub faultless_on : (ranges : List Range) (terms : List ℕ) (count last : ℕ) → slice_get terms count ≡ Some last → IsFaultless ranges last
    → ((k term : ℕ) → k < count → slice_get terms k ≡ Some term → IsFaultless ranges term) → (k term : ℕ) → k < count + 1 → slice_get terms k ≡ Some term → IsFaultless ranges term
faultless_on ranges terms count last at faultless before k term below there =
    elim (earlier_or_last k count below) [
      | inl earlier ↦ before k term earlier there
      | inr here ↦ (
          let same : Some last ≡ Some term = sym at ∙ ap (λ (n : ℕ). slice_get terms n) (sym here) ∙ there in
          let is : last ≡ term = cc in
          subst (IsFaultless ranges) is faultless)
    ]
