-- What holds of operands holds of those in the body of a `Let`, and of those that it binds.
use Rattle.sql_outcomes.proofs.Common.{◌≡◌, ◌∷◌, [], ◌+◌, ◌<◌, ℕ, zero, suc, List, Bool, true, false, Option, Some, None, length, refl, ap, arith, slice_index_or, AllByRecursion, All, Filter, Range, Carrier, SqlType, Operand, Source, Kind, AreChosen, bound_operand, carrier_in, chosen, within_let, IsPut, IsSourceOf, IsTestable, IsTested, bound_source}

pub within_length : (level : ℕ) (choices : List Bool) (operands : List Operand) → AreChosen choices operands → length (within_let level choices operands) ≡ length operands
within_length level [] [] are = refl
within_length level [] (operand ∷ operands) are = absurd are
within_length level (true ∷ choices) [] are = absurd are
within_length level (false ∷ choices) [] are = absurd are
within_length level (true ∷ choices) (operand ∷ operands) are = ap suc (within_length (level + 1) choices operands are)
within_length level (false ∷ choices) (operand ∷ operands) are = ap suc (within_length level choices operands are.1)

module _ (P : Operand → Type 0) where
  one_more : (x : Operand) (xs : List Operand) → P x → All P xs → (k : ℕ) (d : Operand) → k < length (x ∷ xs) → P (slice_index_or (x ∷ xs) k d)
  one_more x xs first rest zero d below = first
  one_more x xs first rest (suc k) d below = rest k d (omega (arith, below))

  pub each : (xs : List Operand) → AllByRecursion P xs → All P xs
  each [] all = λ k d below. let never : ⊥ = omega (arith, below) in absurd never
  each (x ∷ xs) all = one_more x xs all.0 (each xs all.1)

  module _ (of_bound : (level : ℕ) (operand : Operand) → P operand → P (bound_operand level operand)) where
    pub all_within : (level : ℕ) (choices : List Bool) (operands : List Operand) → AreChosen choices operands → AllByRecursion P operands → AllByRecursion P (within_let level choices operands)
    all_within level [] [] are all = tt
    all_within level [] (operand ∷ operands) are all = absurd are
    all_within level (true ∷ choices) [] are all = absurd are
    all_within level (false ∷ choices) [] are all = absurd are
    all_within level (true ∷ choices) (operand ∷ operands) are all = (of_bound level operand all.0, all_within (level + 1) choices operands are all.1)
    all_within level (false ∷ choices) (operand ∷ operands) are all = (all.0, all_within level choices operands are.1 all.1)

  pub all_chosen : (choices : List Bool) (operands : List Operand) → AreChosen choices operands → AllByRecursion P operands → AllByRecursion P (chosen choices operands)
  all_chosen [] [] are all = tt
  all_chosen [] (operand ∷ operands) are all = absurd are
  all_chosen (true ∷ choices) [] are all = absurd are
  all_chosen (false ∷ choices) [] are all = absurd are
  all_chosen (true ∷ choices) (operand ∷ operands) are all = (all.0, all_chosen choices operands are all.1)
  all_chosen (false ∷ choices) (operand ∷ operands) are all = all_chosen choices operands are.1 all.1

-- ---- operands that are put

module _ (filter : Filter) (ranges : List Range) where
  source_bound : (operand : Operand) (level : ℕ) (carrier : Option Carrier) → IsSourceOf filter ranges operand (bound_source carrier level)
  source_bound operand level None = tt
  source_bound operand level (Some carrier) = tt

  pub put_bound : (level : ℕ) (operand : Operand) → IsPut filter ranges operand → IsPut filter ranges (bound_operand level operand)
  put_bound level operand put = record { source = source_bound (bound_operand level operand) level (carrier_in operand); valued = put.valued; plain = λ truth. refl }

  -- a value may be asked whether it is null
  module _ (operand : Operand) (type : SqlType) (put : IsPut filter ranges operand) where
    testable : (source : Source) (kind : Kind) → kind ≡ Kind.Value type → IsSourceOf filter ranges operand source → IsTestable filter ranges operand source kind
    testable (Source.Place path) kind is there = absurd there
    testable source Kind.Null is there = let no : Kind.Null ≡ Kind.Value type = is in absurd (cc)
    testable source Kind.Structured is there = let no : Kind.Structured ≡ Kind.Value type = is in absurd (cc)
    testable _ (Kind.Value t) is there = put

    pub tested_value : operand.kind ≡ Kind.Value type → IsTested filter ranges operand
    tested_value is = testable operand.source operand.kind is put.source
