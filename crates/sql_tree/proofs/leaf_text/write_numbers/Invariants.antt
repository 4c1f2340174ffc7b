use Rattle.std.proofs.Common.{◌≡◌, ◌++◌, drop, string_bytes}
use Rattle.csdl_schema.specs.EnumerationText.{members_in}
use Rattle.csdl_schema.specs.SchemaModel.{enumeration_at}
use Rattle.sql_tree.specs.LeafText.{numbers_text}
use Rattle.sql_tree.proofs.MemberTexts.{rest_numbers}
use Rattle.sql_tree.proofs.leaf_text.write_numbers.Given as goal

abbrev pub invariant-loop-place : goal.invariant-loop-place
invariant-loop-place l =
    string_bytes l.out ++ rest_numbers l.place (drop l.place (members_in (enumeration_at l.schema l.id)))
    ≡ string_bytes l.fn.out ++ numbers_text (members_in (enumeration_at l.schema l.id))
