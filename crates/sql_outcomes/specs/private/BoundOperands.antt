-- Operands some of which a `Let` binds.
use Rattle.std.specs.Prelude.{◌≡◌, ◌≢◌, ◌+◌, ◌++◌, ℕ, List, [], ◌∷◌, Bool, true, false, Option, Some, None}
use Rattle.odata_filter_operations.specs.Outcome.{Outcome}
use Rattle.sql_meaning.specs.FaultsGive.{without_fault}
use Rattle.sql_tree.specs.declared.sql_node.Carrier.{Carrier}
use Rattle.sql_tree.specs.declared.sql_node.SqlNode.{SqlNode}
use Rattle.sql_draft.specs.declared.sql_operand.Operand.{Operand}
use Rattle.sql_draft.specs.declared.sql_context.Kind.{Kind}
use Rattle.sql_draft.specs.OperandHas.{bound_source}
use Rattle.sql_outcomes.specs.OperandFaults.{carrier_in, fault_else}

-- the same value, bound at a level; null instead of a fault
abbrev pub bound_operand : ℕ → Operand → Operand
bound_operand level operand = record {
  source = bound_source (carrier_in operand) level;
  kind = operand.kind;
  range = record operand.range { may_fault = false };
}

-- the operands that are chosen
abbrev pub chosen : List Bool → List Operand → List Operand
chosen (true ∷ choices) (operand ∷ operands) = operand ∷ chosen choices operands
chosen (false ∷ choices) (operand ∷ operands) = chosen choices operands
chosen choices operands = []

-- all of them, those that are chosen bound from the level on
abbrev pub within_let : ℕ → List Bool → List Operand → List Operand
within_let level (true ∷ choices) (operand ∷ operands) =
    bound_operand level operand ∷ within_let (level + 1) choices operands
within_let level (false ∷ choices) (operand ∷ operands) = operand ∷ within_let level choices operands
within_let level choices operands = []

-- what is not chosen carries no faults
abbrev pub AreChosen : List Bool → List Operand → Type 0
AreChosen (true ∷ choices) (operand ∷ operands) = AreChosen choices operands
AreChosen (false ∷ choices) (operand ∷ operands) = (carrier_in operand ≡ None) × AreChosen choices operands
AreChosen [] [] = Unit {0}
AreChosen choices operands = ⊥

-- and what is chosen is no entity and no complex value
abbrev pub AreValued : List Bool → List Operand → Type 0
AreValued (true ∷ choices) (operand ∷ operands) = (operand.kind ≢ Kind.Structured) × AreValued choices operands
AreValued (false ∷ choices) (operand ∷ operands) = AreValued choices operands
AreValued choices operands = Unit {0}

-- ---- faults

-- the fault of one that is bound, as its code or for a carrier, before what is put next
abbrev pub fault_front : Option Carrier → ℕ → Option Carrier → List SqlNode
fault_front carrier level None = []
fault_front None level (Some own) = SqlNode.Coalesce ∷ SqlNode.FaultCode own ∷ SqlNode.Bound level ∷ []
fault_front (Some carrier) level (Some own) =
    SqlNode.Coalesce ∷ SqlNode.FaultOfCode carrier ∷ SqlNode.FaultCode own ∷ SqlNode.Bound level ∷ []

abbrev pub faults_front : Option Carrier → ℕ → List Operand → List SqlNode
faults_front carrier level [] = []
faults_front carrier level (operand ∷ operands) =
    fault_front carrier level (carrier_in operand) ++ faults_front carrier (level + 1) operands

-- the outcomes that are chosen, and all of them as the body of the `Let` has them
abbrev pub chosen_of : List Bool → List Outcome → List Outcome
chosen_of (true ∷ choices) (o ∷ os) = o ∷ chosen_of choices os
chosen_of (false ∷ choices) (o ∷ os) = chosen_of choices os
chosen_of choices os = []

abbrev pub unfaulted_by : Option Carrier → Outcome → Outcome
unfaulted_by (Some carrier) o = without_fault o
unfaulted_by None o = o

abbrev pub in_let : List Bool → List Operand → List Outcome → List Outcome
in_let (true ∷ choices) (operand ∷ operands) (o ∷ os) = unfaulted_by (carrier_in operand) o ∷ in_let choices operands os
in_let (false ∷ choices) (operand ∷ operands) (o ∷ os) = o ∷ in_let choices operands os
in_let choices operands os = []

abbrev pub fault_by : Option Carrier → Outcome → Outcome → Outcome
fault_by (Some carrier) o rest = fault_else o rest
fault_by None o rest = rest

-- the first fault of those that are bound, or else the rest
abbrev pub first_fault : List Operand → List Outcome → Outcome → Outcome
first_fault (operand ∷ operands) (o ∷ os) rest = fault_by (carrier_in operand) o (first_fault operands os rest)
first_fault operands os rest = rest
