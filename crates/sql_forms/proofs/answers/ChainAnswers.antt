-- What the functions that put chains return.
use Rattle.sql_forms.proofs.Common.{◌≡◌, ◌<◌, ◌++◌, ◌∷◌, [], ℕ, List, Some, Result, OnOk, length, refl, sym, subst, slice_get, AllByRecursion, Range, ComparisonOperator, LogicalOperator, SqlNode, SqlType, Draft, Form, ChainHas, IsChain, IsJoin, IsOfBoth, IsOfValues, GrowsBy, AreRanges, IsFaultless, OfPlace, Puts, Question, named_by, by_node, where_ok}
use Rattle.sql_forms.specs.Forms.{IsInForm}
use Rattle.sql_forms.specs.private.AskedForms.{IsAskedCode, asked_digit}
use Rattle.sql_forms.proofs.puts.ChainsPut.{TableLaws, chain_put}
use Rattle.sql_forms.proofs.puts.DecidedPut.{alone_put, lists_put, undecided_put}
use Rattle.sql_outcomes.proofs.outcomes.Elements.{front_all, rest_all, only_one}

-- two parts of a list
pub record Parts (whole front rest : List ℕ) : Type 0 where
  pub is : whole ≡ front ++ rest
  pub some : 0 < length front
  pub more : 0 < length rest

of_both : (form : Form) (join : SqlNode) → IsOfBoth form → IsOfValues form join
of_both Form.Truth join is = tt
of_both form join is = absurd is

-- what joins terms is no parameter
join_plain : (form : Form) (join : SqlNode) (c : LogicalOperator) → IsJoin form join c → named_by join ≡ []
join_plain Form.Truth SqlNode.And LogicalOperator.And is = refl
join_plain Form.Truth SqlNode.Or LogicalOperator.Or is = refl
join_plain Form.Code (SqlNode.LookUp table) c is = refl
join_plain Form.Keeps SqlNode.And LogicalOperator.And is = refl
join_plain Form.Keeps SqlNode.Or LogicalOperator.Or is = refl
join_plain Form.Denies SqlNode.And LogicalOperator.Or is = refl
join_plain Form.Denies SqlNode.Or LogicalOperator.And is = refl
join_plain form node c is = absurd is

module _ (question : Question) (form : Form) {T E : Type 0} (r : Result T E) where
  -- a node in that form
  pub ok_form : (own : Form) (place : ℕ) (old new : Draft) → form ≡ own → OnOk r (Puts question old new (OfPlace question.filter place) (IsInForm own))
      → OnOk r (Puts question old new (OfPlace question.filter place) (IsInForm form))
  ok_form own place old new is put = subst (λ (f : Form). OnOk r (Puts question old new (OfPlace question.filter place) (IsInForm f))) (sym is) put

  -- one term
  pub ok_alone : (c : LogicalOperator) (terms : List ℕ) (place : ℕ) (old new : Draft) → length terms ≡ 1 → slice_get terms 0 ≡ Some place → OnOk r (Puts question old new (OfPlace question.filter place) (IsInForm form))
      → OnOk r (Puts question old new (ChainHas question.filter c terms) (IsInForm form))
  ok_alone c terms place old new one at put =
      where_ok (alone_put question form c terms place old new (only_one terms place one at)) r put

  -- the front and the rest, joined
  pub ok_joined : (ranges : List Range) → AreRanges question ranges → TableLaws → (join : SqlNode) (c : LogicalOperator) → IsJoin form join c → (terms front rest : List ℕ) → Parts terms front rest
      → (IsOfValues form join → AllByRecursion (IsFaultless ranges) front) → (IsOfBoth form → AllByRecursion (IsFaultless ranges) rest) → (old middle next new : Draft) → GrowsBy old middle (join ∷ []) [] []
      → Puts question middle next (ChainHas question.filter c front) (IsInForm form) → OnOk r (Puts question next new (ChainHas question.filter c rest) (IsInForm form))
      → OnOk r (Puts question old new (ChainHas question.filter c terms) (IsInForm form))
  ok_joined ranges are laws join c is_join terms front rest parts front_plain rest_plain old middle next new grows first second =
      where_ok (λ (p : Puts question next new (ChainHas question.filter c rest) (IsInForm form)). subst (λ (ts : List ℕ). Puts question old new (ChainHas question.filter c ts) (IsInForm form)) (sym parts.is)
      (lists_put question ranges are laws form join c is_join front rest old middle next new parts.some parts.more front_plain rest_plain (by_node old middle join (join_plain form join c is_join) grows) first p)) r second

  -- all of whose terms evaluate to no fault, or may, where that is asked
  pub ok_all_joined : (ranges : List Range) → AreRanges question ranges → TableLaws → (join : SqlNode) (c : LogicalOperator) → IsJoin form join c → (terms front rest : List ℕ) → Parts terms front rest
      → (IsOfValues form join → AllByRecursion (IsFaultless ranges) terms) → (old middle next new : Draft) → GrowsBy old middle (join ∷ []) [] []
      → Puts question middle next (ChainHas question.filter c front) (IsInForm form) → OnOk r (Puts question next new (ChainHas question.filter c rest) (IsInForm form))
      → OnOk r (Puts question old new (ChainHas question.filter c terms) (IsInForm form))
  ok_all_joined ranges are laws join c is_join terms front rest parts plain old middle next new grows first second =
      ok_joined ranges are laws join c is_join terms front rest parts (λ values. front_all (IsFaultless ranges) front rest (subst (AllByRecursion (IsFaultless ranges)) parts.is (plain values)))
      (λ both. rest_all (IsFaultless ranges) front rest (subst (AllByRecursion (IsFaultless ranges)) parts.is (plain (of_both form join both)))) old middle next new grows first second

  -- a list that is another
  pub ok_same_terms : (c : LogicalOperator) (terms others : List ℕ) (old new : Draft) → terms ≡ others → OnOk r (Puts question old new (ChainHas question.filter c others) (IsInForm form))
      → OnOk r (Puts question old new (ChainHas question.filter c terms) (IsInForm form))
  ok_same_terms c terms others old new same put = subst (λ (ts : List ℕ). OnOk r (Puts question old new (ChainHas question.filter c ts) (IsInForm form))) (sym same) put

  -- by the code of the chain
  pub ok_undecided : (c : LogicalOperator) → IsAskedCode form → (terms : List ℕ) (old middle next new : Draft) → GrowsBy old middle (SqlNode.Compare ComparisonOperator.Eq SqlType.Whole ∷ []) [] []
      → Puts question middle next (ChainHas question.filter c terms) (IsInForm Form.Code) → OnOk r (GrowsBy next new (SqlNode.Number (asked_digit form) ∷ []) [] [])
      → OnOk r (Puts question old new (ChainHas question.filter c terms) (IsInForm form))
  ok_undecided c asked terms old middle next new grows code put =
      where_ok (λ (g : GrowsBy next new (SqlNode.Number (asked_digit form) ∷ []) [] []). undecided_put question form c asked terms old middle next new (by_node old middle (SqlNode.Compare ComparisonOperator.Eq SqlType.Whole) refl grows) code
      (by_node next new (SqlNode.Number (asked_digit form)) refl g)) r put

  -- the node that is the top of the chain
  pub ok_chain : (c : LogicalOperator) (place : ℕ) (terms : List ℕ) (old new : Draft) → IsChain question c place terms → OnOk r (Puts question old new (ChainHas question.filter c terms) (IsInForm form))
      → OnOk r (Puts question old new (OfPlace question.filter place) (IsInForm form))
  ok_chain c place terms old new chain put =
      where_ok (chain_put question form c place terms old new chain) r put
