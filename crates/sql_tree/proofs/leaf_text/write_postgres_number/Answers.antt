use Rattle.std.proofs.Common.{[], ◌∷◌, string_bytes}
use Rattle.std.specs.Prelude.{codes}
use Rattle.csdl_schema.specs.EnumerationText.{members_in}
use Rattle.csdl_schema.specs.SchemaModel.{enumeration_at}
use Rattle.sql_tree.specs.LeafText.{names_text, numbers_text}
use Rattle.sql_tree.specs.PathText.{value_text}
use Rattle.sql_tree.specs.TableModel.{table_in}
use Rattle.sql_tree.specs.declared.dialect.Dialect.{Dialect}
use Rattle.sql_tree.proofs.Written.{then_pushed, then_text}
use Rattle.sql_tree.proofs.leaf_text.write_postgres_number.Goals as goal

pub returns : goal.returns
returns c =
    let members = members_in (enumeration_at c.args.table.now.schema.now c.args.id) in
    let before = string_bytes c.args.out.now in
    let first = codes "odf.enumeration_number(" in
    let value = value_text Dialect.PostgreSql (table_in c.args.table.now) c.args.path.now in
    let names = names_text members in
    let numbers = numbers_text members in
    let middle = codes "]::text[], ARRAY[" in
    let one = then_text before (string_bytes c.push_str.new.self) (string_bytes c.write_value.new.out) first [] value c.in_ok-write_value.ensures c.in_ok-push_str.ensures.bytes in
    let two = then_text before (string_bytes c.write_value.new.out) (string_bytes c.push_str-2.new.self) first (value ∷ []) (codes ", ARRAY[") c.in_ok-push_str-2.ensures.bytes one in
    let three = then_text before (string_bytes c.push_str-2.new.self) (string_bytes c.write_names.new.out) first (value ∷ codes ", ARRAY[" ∷ []) names c.in_ok-write_names.ensures two in
    let four = then_text before (string_bytes c.write_names.new.out) (string_bytes c.push_str-3.new.self) first (value ∷ codes ", ARRAY[" ∷ names ∷ []) middle c.in_ok-push_str-3.ensures.bytes three in
    let five = then_text before (string_bytes c.push_str-3.new.self) (string_bytes c.write_numbers.new.out) first (value ∷ codes ", ARRAY[" ∷ names ∷ middle ∷ []) numbers c.in_ok-write_numbers.ensures four in
    then_pushed c.push_str-4.result before (string_bytes c.write_numbers.new.out) (string_bytes c.push_str-4.new.self) first (value ∷ codes ", ARRAY[" ∷ names ∷ middle ∷ numbers ∷ []) (codes "]::bigint[])")
    c.push_str-4.ensures.bytes five
