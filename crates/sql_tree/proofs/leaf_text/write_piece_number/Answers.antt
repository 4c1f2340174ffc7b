use Rattle.std.proofs.Common.{◌++◌, refl, append_assoc, string_bytes}
use Rattle.std.specs.Prelude.{codes}
use Rattle.csdl_schema.specs.EnumerationText.{members_in}
use Rattle.csdl_schema.specs.SchemaModel.{enumeration_at}
use Rattle.sql_tree.specs.LeafText.{piece_number_text, some_cases}
use Rattle.sql_tree.proofs.Written.{joined, pushed_more}
use Rattle.sql_tree.proofs.leaf_text.write_piece_number.Goals as goal

pub returns : goal.returns
returns c =
    let members = members_in (enumeration_at c.args.schema.now c.args.id) in
    let before = string_bytes c.args.out.now in
    let cases = some_cases members in
    let begun = joined before (string_bytes c.push_str.new.self) (string_bytes c.write_cases.new.out) (codes "CASE p") cases (codes "CASE p" ++ cases)
    c.in_ok-write_cases.ensures c.in_ok-push_str.ensures.bytes refl in
    pushed_more c.push_str-2.result before (string_bytes c.write_cases.new.out) (string_bytes c.push_str-2.new.self) (codes "CASE p" ++ cases) (codes " ELSE CAST(p AS integer) END")
    (piece_number_text members) c.push_str-2.ensures.bytes begun (append_assoc (codes "CASE p") cases (codes " ELSE CAST(p AS integer) END"))
