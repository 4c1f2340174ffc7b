use Rattle.std.proofs.Common.{◌≡◌, ◌∙◌, [], ◌∷◌, ◌++◌, List, ℕ, OnOk, sym, ap, subst, string_bytes}
use Rattle.std.specs.Prelude.{codes}
use Rattle.sql_tree.specs.PathText.{arrows_text, base_text, json_text}
use Rattle.sql_tree.specs.TableModel.{table_in}
use Rattle.sql_tree.specs.declared.dialect.Dialect.{Dialect}
use Rattle.sql_tree.specs.declared.json_path.Step.{Step}
use Rattle.sql_tree.proofs.Written.{all_from, then_pushed, then_text}
use Rattle.sql_tree.proofs.path_text.write_json.Goals as goal

pub returns-in_ok-write_arrows-in-PostgreSql : goal.returns-in_ok-write_arrows-in-PostgreSql
returns-in_ok-write_arrows-in-PostgreSql c =
    let dialect = c.args.dialect in
    let table = table_in c.args.table.now in
    let path = c.args.path.now in
    let before = string_bytes c.args.out.now in
    let first = codes "NULLIF(" in
    let last = codes ", 'null'::jsonb)" in
    let text = base_text dialect table path.base in
    let arrows = arrows_text table c.as_slice.result.now in
    let one = then_text before (string_bytes c.push_str.new.self) (string_bytes c.write_base.new.out) first [] text c.in_ok-write_base-in-PostgreSql.ensures c.in_ok-push_str-in-PostgreSql.ensures.bytes in
    let two = then_text before (string_bytes c.write_base.new.out) (string_bytes c.write_arrows.new.out) first (text ∷ []) arrows c.in_ok-write_arrows-in-PostgreSql.ensures one in
    let all = then_pushed c.push_str-in-PostgreSql.result before (string_bytes c.write_arrows.new.out) (string_bytes c.push_str-in-PostgreSql.new.self) first (text ∷ arrows ∷ []) last
    c.push_str-in-PostgreSql.ensures.bytes two in
    let whole = ap (λ (ss : List Step). all_from first (text ∷ arrows_text table ss ∷ last ∷ [])) c.as_slice.ensures.value
    ∙ ap (λ (d : Dialect). all_from first (base_text d table path.base ∷ arrows_text table path.steps.items ∷ last ∷ [])) c.in-PostgreSql.is
    ∙ ap (λ (d : Dialect). json_text d table path) (sym c.in-PostgreSql.is) in
    subst (λ (t : List ℕ). OnOk c.push_str-in-PostgreSql.result (string_bytes c.push_str-in-PostgreSql.new.self ≡ before ++ t)) whole all
