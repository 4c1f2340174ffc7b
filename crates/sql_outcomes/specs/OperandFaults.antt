-- Operands that may be faults, and the first fault among them.
use Rattle.std.specs.Prelude.{◌≡◌, List, [], ◌∷◌, Option, None}
use Rattle.edm_values.specs.Val.{Val}
use Rattle.odata_checked_filter.specs.Filter.{Filter}
use Rattle.odata_filter_operations.specs.Outcome.{Outcome, gives, overflow, divides_by_zero}
use Rattle.sql_tree.specs.declared.sql_node.Carrier.{Carrier}
use Rattle.sql_draft.specs.declared.sql_operand.Operand.{Operand}
use Rattle.sql_draft.specs.OperandHas.{OperandHas, carrier_of}
use Rattle.sql_draft.specs.World.{World}

abbrev pub carrier_in : Operand → Option Carrier
carrier_in operand = carrier_of operand.range.may_fault operand.kind

-- what each operand evaluates to
abbrev pub AllHave : Filter → List Operand → World → List Outcome → Type 0
AllHave filter [] world os = os ≡ []
AllHave filter (operand ∷ operands) world [] = ⊥
AllHave filter (operand ∷ operands) world (o ∷ os) = OperandHas filter operand world o
    × AllHave filter operands world os

-- a fault, and for a value the rest
abbrev pub fault_else : Outcome → Outcome → Outcome
fault_else (gives v) rest = rest
fault_else overflow rest = overflow
fault_else divides_by_zero rest = divides_by_zero

-- the first fault of outcomes, or else the rest
abbrev pub faults_of : List Outcome → Outcome → Outcome
faults_of [] rest = rest
faults_of (o ∷ os) rest = fault_else o (faults_of os rest)

-- what carries no faults evaluates to values
abbrev pub ArePlain : List Operand → List Outcome → Type 0
ArePlain (operand ∷ operands) (o ∷ os) = (carrier_in operand ≡ None → (v : Val) × (o ≡ gives v)) × ArePlain operands os
ArePlain operands os = Unit {0}
