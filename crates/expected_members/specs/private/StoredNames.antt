-- For private clauses: what a stored name stands for.
use Rattle.std.specs.Prelude.{ℕ, List}
use Rattle.expected_members.specs.declared.undeclared_names.UndeclaredName.{UndeclaredName}

-- the id of its type, and its bytes
abbrev pub type_and_name : UndeclaredName → ℕ × List ℕ
type_and_name name = (name.type_id, name.key)
