use Rattle.std.proofs.Common.{◌≡◌, ◌∙◌, [], ◌∷◌, ◌++◌, List, ℕ, Bool, true, cond, OnOk, sym, ap, subst, string_bytes}
use Rattle.std.specs.Prelude.{codes}
use Rattle.csdl_schema.specs.EnumerationText.{has_flags, members_in}
use Rattle.csdl_schema.specs.SchemaModel.{enumeration_at}
use Rattle.sql_tree.specs.LeafText.{piece_number_text, sqlite_flags_text, sqlite_member_text}
use Rattle.sql_tree.specs.PathText.{value_text}
use Rattle.sql_tree.specs.TableModel.{table_in}
use Rattle.sql_tree.specs.declared.dialect.Dialect.{Dialect}
use Rattle.sql_tree.proofs.Written.{then_pushed, then_text}
use Rattle.sql_tree.proofs.leaf_text.write_sqlite_number.Goals as goal

pub returns : goal.returns
returns c =
    let table = table_in c.args.table.now in
    let path = c.args.path.now in
    let enumeration = enumeration_at c.args.table.now.schema.now c.args.id in
    let members = members_in enumeration in
    let before = string_bytes c.args.out.now in
    let first = codes "(WITH RECURSIVE w(n, i, a) AS (SELECT 0, 0, '[\"' || replace(" in
    let value = value_text Dialect.Sqlite table path in
    let pieces = codes ", ',', '\",\"') || '\"]' UNION ALL SELECT n | (SELECT " in
    let number = piece_number_text members in
    let next = codes " FROM (SELECT trim(json_extract(a, '$[' || i || ']'), ' ') AS p)), i + 1, a FROM w " in
    let last = codes "WHERE i < json_array_length(a)) SELECT CASE WHEN a IS NOT NULL THEN n END FROM w ORDER BY i DESC LIMIT " ++ codes "1)" in
    let one = then_text before (string_bytes c.push_str-2.new.self) (string_bytes c.write_value-2.new.out) first [] value c.in_ok-write_value-2.ensures c.in_ok-push_str-3.ensures.bytes in
    let two = then_text before (string_bytes c.write_value-2.new.out) (string_bytes c.push_str-3.new.self) first (value ∷ []) pieces c.in_ok-push_str-4.ensures.bytes one in
    let three = then_text before (string_bytes c.push_str-3.new.self) (string_bytes c.write_piece_number-2.new.out) first (value ∷ pieces ∷ []) number c.in_ok-write_piece_number-2.ensures two in
    let four = then_text before (string_bytes c.write_piece_number-2.new.out) (string_bytes c.push_str-4.new.self) first (value ∷ pieces ∷ number ∷ []) next c.in_ok-push_str-5.ensures.bytes three in
    let all = then_pushed c.push_str-5.result before (string_bytes c.push_str-4.new.self) (string_bytes c.push_str-5.new.self) first (value ∷ pieces ∷ number ∷ next ∷ []) last
    c.push_str-5.ensures.bytes four in
    let flags : has_flags enumeration ≡ true = sym c.enum_is_flags.ensures ∙ c.if-not-enum_is_flags.false in
    subst (λ (t : List ℕ). OnOk c.push_str-5.result (string_bytes c.push_str-5.new.self ≡ before ++ t))
    (ap (λ (b : Bool). cond b (sqlite_flags_text table path members) (sqlite_member_text table path members)) (sym flags)) all
