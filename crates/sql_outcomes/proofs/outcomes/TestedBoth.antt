-- Operands of a `Let`, as its body has them, may be tested as they may outside.
use Rattle.sql_outcomes.proofs.Common.{◌≡◌, ◌≢◌, ◌+◌, ◌∷◌, ◌∙◌, [], ℕ, List, Bool, true, false, Option, Some, None, refl, AllByRecursion, Filter, Range, Carrier, SqlType, Operand, Source, Kind, IsFaulty, IsFaultyKind, AreChosen, AreValued, bound_operand, carrier_in, chosen, within_let, IsPut, IsSourceOf, IsTestable, IsTested, bound_source}

module _ (filter : Filter) (ranges : List Range) where
  -- one that is bound
  module _ (operand : Operand) (level : ℕ) (valued : operand.kind ≢ Kind.Structured) where
    bound_source_is : (c : Option Carrier) → IsSourceOf filter ranges (bound_operand level operand) (bound_source c level)
    bound_source_is None = tt
    bound_source_is (Some carrier) = tt

    bound_by : (c : Option Carrier) (kind : Kind) → operand.kind ≡ kind → IsTestable filter ranges (bound_operand level operand) (bound_source c level) kind
    bound_by None Kind.Structured same = absurd (valued same)
    bound_by (Some carrier) Kind.Structured same = absurd (valued same)
    bound_by _ _ same = record { source = bound_source_is (carrier_in operand); valued = valued; plain = λ truth. refl }

    bound_tested : IsTested filter ranges (bound_operand level operand)
    bound_tested = bound_by (carrier_in operand) operand.kind refl

  pub all_tested : (choices : List Bool) (operands : List Operand) (level : ℕ) → AreChosen choices operands → AreValued choices operands → AllByRecursion (IsTested filter ranges) operands
      → AllByRecursion (IsTested filter ranges) (within_let level choices operands)
  all_tested [] [] level are valued tested = tt
  all_tested [] (operand ∷ operands) level are valued tested = absurd are
  all_tested (true ∷ choices) [] level are valued tested = absurd are
  all_tested (false ∷ choices) [] level are valued tested = absurd are
  all_tested (true ∷ choices) (operand ∷ operands) level are valued tested = (bound_tested operand level valued.0, all_tested choices operands (level + 1) are valued.1 tested.1)
  all_tested (false ∷ choices) (operand ∷ operands) level are valued tested = (tested.0, all_tested choices operands level are.1 valued tested.1)

  -- those that are bound may be put
  module _ (operand : Operand) (valued : operand.kind ≢ Kind.Structured) where
    put_by : (source : Source) (kind : Kind) → operand.kind ≡ kind → IsTestable filter ranges operand source kind → IsPut filter ranges operand
    put_by (Source.Place path) kind same is = absurd (valued (same ∙ is))
    put_by source Kind.Structured same is = absurd (valued same)
    put_by source Kind.Null same is = is
    put_by source (Kind.Value type) same is = is

    pub tested_put : IsTested filter ranges operand → IsPut filter ranges operand
    tested_put is = put_by operand.source operand.kind refl is

  pub all_may : (choices : List Bool) (operands : List Operand) → AreChosen choices operands → AreValued choices operands → AllByRecursion (IsTested filter ranges) operands
      → AllByRecursion (IsPut filter ranges) (chosen choices operands)
  all_may [] [] are valued tested = tt
  all_may [] (operand ∷ operands) are valued tested = absurd are
  all_may (true ∷ choices) [] are valued tested = absurd are
  all_may (false ∷ choices) [] are valued tested = absurd are
  all_may (true ∷ choices) (operand ∷ operands) are valued tested = (tested_put operand valued.0 tested.0, all_may choices operands are valued.1 tested.1)
  all_may (false ∷ choices) (operand ∷ operands) are valued tested = all_may choices operands are.1 valued tested.1

  -- none that is a truth value is put by its code
  untrue_kind : (operand : Operand) (kind : Kind) → kind ≢ Kind.Value SqlType.Truth → IsFaultyKind filter ranges operand kind → IsTested filter ranges operand
  untrue_kind operand (Kind.Value SqlType.Truth) other faulty = absurd (other refl)
  untrue_kind operand kind other faulty = faulty

  pub untrue_tested : (operand : Operand) → operand.kind ≢ Kind.Value SqlType.Truth → IsFaulty filter ranges operand → IsTested filter ranges operand
  untrue_tested operand other faulty = untrue_kind operand operand.kind other faulty

  -- by its code, which none that is not a truth value has
  pub plain_faulty : (operand : Operand) (kind : Kind) → operand.kind ≡ kind → kind ≢ Kind.Value SqlType.Truth → IsTested filter ranges operand → IsFaultyKind filter ranges operand kind
  plain_faulty operand (Kind.Value SqlType.Truth) same other tested = absurd (other refl)
  plain_faulty operand kind same other tested = tested
