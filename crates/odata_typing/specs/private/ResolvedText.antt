-- For private clauses: what an operand is by the type of the other one.
use Rattle.std.specs.Prelude.{ℕ, List, Option}
use Rattle.csdl_schema.specs.ExprType.{ExprType}
use Rattle.csdl_schema.specs.SchemaModel.{Slots}
use Rattle.odata_signatures.specs.QuotedNumber.{IsResolvedBy, LacksNumber, ResolvedNumber}
use Rattle.odata_typing.specs.declared.resolved_text.ResolvedText.{ResolvedText}

-- by the type of the other operand it is not resolved, is resolved to its number, or is resolved and has none
abbrev pub IsRoleFor : Slots → ExprType → Option (List ℕ) → ResolvedText → Type 0
IsRoleFor slots type quoted ResolvedText.Unread = ¬ IsResolvedBy type quoted
IsRoleFor slots type quoted (ResolvedText.Number n) = ResolvedNumber slots type quoted n
IsRoleFor slots type quoted ResolvedText.Unknown = LacksNumber slots type quoted
