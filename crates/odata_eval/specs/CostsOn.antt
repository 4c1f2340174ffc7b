-- What a tree costs on an entity, with no variables around it, and which answers a bound allows.
use Rattle.std.specs.Prelude.{◌≡◌, ◌<◌, ◌≤◌, [], ℕ, Option, Some, None, Result, Ok, Err}
use Rattle.edm_values.specs.MomentParts.{MomentParts}
use Rattle.odata_syntax.specs.Tree.{Tree}
use Rattle.csdl_schema.specs.SchemaModel.{slots_of, type_name_at}
use Rattle.edm_entities.specs.Row.{Row, value_of}
use Rattle.odata_meaning.specs.Costs.{Costs}
use Rattle.odata_eval.specs.declared.verdict.Verdict.{Verdict}
use Rattle.odata_filter_operations.specs.declared.eval_fault.EvalFault.{EvalFault}

abbrev pub CostsOn : Row → MomentParts → Tree → ℕ → Type 0
CostsOn row now = Costs (slots_of row.schema) (type_name_at row.schema row.type_id) now (value_of row) []

-- a verdict or a fault of arithmetic says that the bound was kept, none that more was asked for; running out of memory
-- says neither
abbrev pub IsWithin : ℕ → ℕ → Result (Option Verdict) EvalFault → Type 0
IsWithin most n (Ok (Some verdict)) = n ≤ most
IsWithin most n (Ok None) = most < n
IsWithin most n (Err EvalFault.Overflow) = n ≤ most
IsWithin most n (Err EvalFault.DivideByZero) = n ≤ most
IsWithin most n (Err EvalFault.Memory) = Unit {0}

-- the tree has a cost, no other, and by it the answer is one that the bound allows
pub record KeepsBound
    (row : Row) (now : MomentParts) (tree : Tree) (most : ℕ) (answer : Result (Option Verdict) EvalFault) : Type 0 where
  pub cost : ℕ
  pub related : CostsOn row now tree cost
  pub only : (other : ℕ) → CostsOn row now tree other → other ≡ cost
  pub within : IsWithin most cost answer
