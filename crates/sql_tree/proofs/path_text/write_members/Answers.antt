use Rattle.std.proofs.Common.{◌≡◌, ◌∙◌, [], ◌∷◌, ◌++◌, List, ℕ, OnOk, sym, ap, subst, string_bytes}
use Rattle.std.specs.Fmt.{decimal}
use Rattle.std.specs.Prelude.{codes}
use Rattle.sql_tree.specs.PathText.{json_text, members_text}
use Rattle.sql_tree.specs.TableModel.{table_in}
use Rattle.sql_tree.specs.declared.dialect.Dialect.{Dialect}
use Rattle.sql_tree.proofs.Written.{all_from, then_text, then_written}
use Rattle.sql_tree.proofs.path_text.write_members.Goals as goal

pub returns-in_ok-write_json-in-PostgreSql : goal.returns-in_ok-write_json-in-PostgreSql
returns-in_ok-write_json-in-PostgreSql c =
    let table = table_in c.args.table.now in
    let path = c.args.path.now in
    let before = string_bytes c.args.out.now in
    let first = codes "jsonb_array_elements(" in
    let last = codes ") WITH ORDINALITY AS m" ++ (decimal c.args.level ++ codes "(v, o)") in
    let json = json_text c.args.dialect table path in
    let one = then_text before (string_bytes c.push_str.new.self) (string_bytes c.write_json.new.out) first [] json c.in_ok-write_json-in-PostgreSql.ensures c.in_ok-push_str-in-PostgreSql.ensures.bytes in
    let all = then_written c.write.result before (string_bytes c.write_json.new.out) (string_bytes c.write.new.self) first (json ∷ []) last c.write.ensures.bytes one in
    let whole = ap (λ (d : Dialect). all_from first (json_text d table path ∷ last ∷ [])) c.in-PostgreSql.is ∙ ap (λ (d : Dialect). members_text d table path c.args.level) (sym c.in-PostgreSql.is) in
    subst (λ (t : List ℕ). OnOk c.write.result (string_bytes c.write.new.self ≡ before ++ t)) whole all
