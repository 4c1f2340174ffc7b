-- Operands taken one after another, some of which are bound.
use Rattle.sql_outcomes.proofs.Common.{◌≡◌, ◌≢◌, ◌+◌, ◌++◌, ◌∷◌, [], ℕ, suc, List, Bool, true, false, Option, Some, None, is_some, length, take, refl, sym, ap, subst, ◌∙◌, arith, slice_get, Range, Carrier, Operand, Source, Kind, AreChosen, AreValued, bound_operand, carrier_in, chosen, within_let, bound_source, carrier_of}
use Rattle.sql_outcomes.proofs.outcomes.FaultWalk.{taken_on}

-- ---- one operand more

are_bound : (choices : List Bool) (operands : List Operand) (x : Operand) → AreChosen choices operands → AreChosen (choices ++ true ∷ []) (operands ++ x ∷ [])
are_bound [] [] x are = tt
are_bound [] (operand ∷ operands) x are = absurd are
are_bound (true ∷ choices) [] x are = absurd are
are_bound (false ∷ choices) [] x are = absurd are
are_bound (true ∷ choices) (operand ∷ operands) x are = are_bound choices operands x are
are_bound (false ∷ choices) (operand ∷ operands) x are = (are.0, are_bound choices operands x are.1)

are_kept : (choices : List Bool) (operands : List Operand) (x : Operand) → carrier_in x ≡ None → AreChosen choices operands → AreChosen (choices ++ false ∷ []) (operands ++ x ∷ [])
are_kept [] [] x none are = (none, tt)
are_kept [] (operand ∷ operands) x none are = absurd are
are_kept (true ∷ choices) [] x none are = absurd are
are_kept (false ∷ choices) [] x none are = absurd are
are_kept (true ∷ choices) (operand ∷ operands) x none are = are_kept choices operands x none are
are_kept (false ∷ choices) (operand ∷ operands) x none are = (are.0, are_kept choices operands x none are.1)

valued_bound : (choices : List Bool) (operands : List Operand) (x : Operand) → AreChosen choices operands → x.kind ≢ Kind.Structured → AreValued choices operands
    → AreValued (choices ++ true ∷ []) (operands ++ x ∷ [])
valued_bound [] [] x are other valued = (other, tt)
valued_bound [] (operand ∷ operands) x are other valued = absurd are
valued_bound (true ∷ choices) [] x are other valued = absurd are
valued_bound (false ∷ choices) [] x are other valued = absurd are
valued_bound (true ∷ choices) (operand ∷ operands) x are other valued = (valued.0, valued_bound choices operands x are other valued.1)
valued_bound (false ∷ choices) (operand ∷ operands) x are other valued = valued_bound choices operands x are.1 other valued

valued_kept : (choices : List Bool) (operands : List Operand) (x : Operand) → AreChosen choices operands → AreValued choices operands → AreValued (choices ++ false ∷ []) (operands ++ x ∷ [])
valued_kept [] [] x are valued = tt
valued_kept [] (operand ∷ operands) x are valued = absurd are
valued_kept (true ∷ choices) [] x are valued = absurd are
valued_kept (false ∷ choices) [] x are valued = absurd are
valued_kept (true ∷ choices) (operand ∷ operands) x are valued = (valued.0, valued_kept choices operands x are valued.1)
valued_kept (false ∷ choices) (operand ∷ operands) x are valued = valued_kept choices operands x are.1 valued

chosen_bound : (choices : List Bool) (operands : List Operand) (x : Operand) → AreChosen choices operands → chosen (choices ++ true ∷ []) (operands ++ x ∷ []) ≡ chosen choices operands ++ x ∷ []
chosen_bound [] [] x are = refl
chosen_bound [] (operand ∷ operands) x are = absurd are
chosen_bound (true ∷ choices) [] x are = absurd are
chosen_bound (false ∷ choices) [] x are = absurd are
chosen_bound (true ∷ choices) (operand ∷ operands) x are = ap (λ (xs : List Operand). operand ∷ xs) (chosen_bound choices operands x are)
chosen_bound (false ∷ choices) (operand ∷ operands) x are = chosen_bound choices operands x are.1

chosen_kept : (choices : List Bool) (operands : List Operand) (x : Operand) → AreChosen choices operands → chosen (choices ++ false ∷ []) (operands ++ x ∷ []) ≡ chosen choices operands
chosen_kept [] [] x are = refl
chosen_kept [] (operand ∷ operands) x are = absurd are
chosen_kept (true ∷ choices) [] x are = absurd are
chosen_kept (false ∷ choices) [] x are = absurd are
chosen_kept (true ∷ choices) (operand ∷ operands) x are = ap (λ (xs : List Operand). operand ∷ xs) (chosen_kept choices operands x are)
chosen_kept (false ∷ choices) (operand ∷ operands) x are = chosen_kept choices operands x are.1

within_bound : (level : ℕ) (choices : List Bool) (operands : List Operand) (x : Operand) → AreChosen choices operands
    → within_let level (choices ++ true ∷ []) (operands ++ x ∷ []) ≡ within_let level choices operands ++ bound_operand (level + length (chosen choices operands)) x ∷ []
within_bound level [] [] x are = let e : level ≡ level + 0 = omega arith in ap (λ (k : ℕ). bound_operand k x ∷ []) e
within_bound level [] (operand ∷ operands) x are = absurd are
within_bound level (true ∷ choices) [] x are = absurd are
within_bound level (false ∷ choices) [] x are = absurd are
within_bound level (true ∷ choices) (operand ∷ operands) x are =
    let e : level + 1 + length (chosen choices operands) ≡ level + suc (length (chosen choices operands)) = omega arith in
    ap (λ (xs : List Operand). bound_operand level operand ∷ xs)
    (within_bound (level + 1) choices operands x are ∙ ap (λ (k : ℕ). within_let (level + 1) choices operands ++ bound_operand k x ∷ []) e)
within_bound level (false ∷ choices) (operand ∷ operands) x are = ap (λ (xs : List Operand). operand ∷ xs) (within_bound level choices operands x are.1)

within_kept : (level : ℕ) (choices : List Bool) (operands : List Operand) (x : Operand) → AreChosen choices operands
    → within_let level (choices ++ false ∷ []) (operands ++ x ∷ []) ≡ within_let level choices operands ++ x ∷ []
within_kept level [] [] x are = refl
within_kept level [] (operand ∷ operands) x are = absurd are
within_kept level (true ∷ choices) [] x are = absurd are
within_kept level (false ∷ choices) [] x are = absurd are
within_kept level (true ∷ choices) (operand ∷ operands) x are = ap (λ (xs : List Operand). bound_operand level operand ∷ xs) (within_kept (level + 1) choices operands x are)
within_kept level (false ∷ choices) (operand ∷ operands) x are = ap (λ (xs : List Operand). operand ∷ xs) (within_kept level choices operands x are.1)

-- ---- so far

-- these operands were taken, and those that the body has and those that are bound are so
pub record Taken (level : ℕ) (operands inner bound : List Operand) : Type 0 where
  pub choices : List Bool
  pub are : AreChosen choices operands
  pub valued : AreValued choices operands
  pub inner_is : inner ≡ within_let level choices operands
  pub bound_is : bound ≡ chosen choices operands

pub one_bound : (level : ℕ) (operands inner bound : List Operand) (x : Operand) → x.kind ≢ Kind.Structured → Taken level operands inner bound
    → Taken level (operands ++ x ∷ []) (inner ++ bound_operand (level + length bound) x ∷ []) (bound ++ x ∷ [])
one_bound level operands inner bound x other taken = record {
  choices = taken.choices ++ true ∷ [];
  are = are_bound taken.choices operands x taken.are;
  valued = valued_bound taken.choices operands x taken.are other taken.valued;
  inner_is = ap (λ (xs : List Operand). xs ++ bound_operand (level + length bound) x ∷ []) taken.inner_is
      ∙ ap (λ (xs : List Operand). within_let level taken.choices operands ++ bound_operand (level + length xs) x ∷ []) taken.bound_is ∙ sym (within_bound level taken.choices operands x taken.are);
  bound_is = ap (λ (xs : List Operand). xs ++ x ∷ []) taken.bound_is ∙ sym (chosen_bound taken.choices operands x taken.are);
}

pub one_kept : (level : ℕ) (operands inner bound : List Operand) (x : Operand) → carrier_in x ≡ None → Taken level operands inner bound → Taken level (operands ++ x ∷ []) (inner ++ x ∷ []) bound
one_kept level operands inner bound x none taken = record {
  choices = taken.choices ++ false ∷ [];
  are = are_kept taken.choices operands x none taken.are;
  valued = valued_kept taken.choices operands x taken.are taken.valued;
  inner_is = ap (λ (xs : List Operand). xs ++ x ∷ []) taken.inner_is ∙ sym (within_kept level taken.choices operands x taken.are);
  bound_is = taken.bound_is ∙ sym (chosen_kept taken.choices operands x taken.are);
}

-- ---- one operand of a slice more

abbrev operand_of : Source → Kind → Range → Operand
operand_of source kind range = record { source = source; kind = kind; range = range }

is_bound : (level : ℕ) (x made : Operand) → made.source ≡ bound_source (carrier_in x) level → made.kind ≡ x.kind → made.range ≡ record x.range { may_fault = false } → made ≡ bound_operand level x
is_bound level x made source kind range =
    ap (λ (s : Source). operand_of s made.kind made.range) source ∙ ap (λ (k : Kind). operand_of (bound_source (carrier_in x) level) k made.range) kind
    ∙ ap (λ (r : Range). operand_of (bound_source (carrier_in x) level) x.kind r) range

module _ (level : ℕ) (operands : List Operand) (n : ℕ) (x : Operand) (at : slice_get operands n ≡ Some x) (inner bound more_inner more_bound : List Operand) (taken : Taken level (take n operands) inner bound) where
  pub bound_on : x.kind ≢ Kind.Structured → (count : ℕ) (made : Operand) → count ≡ length bound → made.source ≡ bound_source (carrier_in x) (level + count) → made.kind ≡ x.kind → made.range ≡ record x.range { may_fault = false }
      → more_inner ≡ inner ++ made ∷ [] → more_bound ≡ bound ++ x ∷ [] → Taken level (take (n + 1) operands) more_inner more_bound
  bound_on other count made counted source kind range inner_is bound_is =
      let one = one_bound level (take n operands) inner bound x other taken in
      let same = is_bound (level + count) x made source kind range ∙ ap (λ (k : ℕ). bound_operand (level + k) x) counted in
      subst (λ (xs : List Operand). Taken level xs more_inner more_bound) (sym (taken_on operands n x at))
      (subst (λ (xs : List Operand). Taken level (take n operands ++ x ∷ []) xs more_bound) (sym (inner_is ∙ ap (λ (y : Operand). inner ++ y ∷ []) same))
      (subst (λ (xs : List Operand). Taken level (take n operands ++ x ∷ []) (inner ++ bound_operand (level + length bound) x ∷ []) xs) (sym bound_is) one))

  pub kept_on : carrier_in x ≡ None → more_inner ≡ inner ++ x ∷ [] → more_bound ≡ bound → Taken level (take (n + 1) operands) more_inner more_bound
  kept_on none inner_is bound_is =
      subst (λ (xs : List Operand). Taken level xs more_inner more_bound) (sym (taken_on operands n x at))
      (subst (λ (xs : List Operand). Taken level (take n operands ++ x ∷ []) xs more_bound) (sym inner_is)
      (subst (λ (xs : List Operand). Taken level (take n operands ++ x ∷ []) (inner ++ x ∷ []) xs) (sym bound_is) (one_kept level (take n operands) inner bound x none taken)))

-- no carrier
pub not_some : (o : Option Carrier) → false ≡ is_some o → o ≡ None
not_some None is = refl
not_some (Some carrier) is = let e : false ≡ true = is in absurd (cc)

-- what carries faults is a value
carried_kind : (may : Bool) (kind : Kind) → true ≡ is_some (carrier_of may kind) → kind ≢ Kind.Structured
carried_kind true Kind.Structured is = let e : true ≡ false = is in absurd (cc)
carried_kind false Kind.Structured is = let e : true ≡ false = is in absurd (cc)
carried_kind may Kind.Null is = λ same. cc
carried_kind may (Kind.Value type) is = λ same. cc

pub carried_valued : (operand : Operand) → true ≡ is_some (carrier_in operand) → operand.kind ≢ Kind.Structured
carried_valued operand is = carried_kind operand.range.may_fault operand.kind is

pub not_both : (b : Bool) → b ≡ true → b ≡ false → ⊥
not_both b here there = let e : true ≡ false = sym here ∙ there in cc
