use Rattle.std.proofs.Common.{◌≡◌, ◌∙◌, [], ◌∷◌, ◌++◌, List, ℕ, OnOk, sym, ap, subst, string_bytes}
use Rattle.std.specs.Prelude.{codes}
use Rattle.sql_tree.specs.LeafText.{count_text}
use Rattle.sql_tree.specs.PathText.{json_text}
use Rattle.sql_tree.specs.TableModel.{table_in}
use Rattle.sql_tree.specs.declared.dialect.Dialect.{Dialect}
use Rattle.sql_tree.proofs.Written.{all_from, then_pushed, then_text}
use Rattle.sql_tree.proofs.leaf_text.write_count.Goals.{in-PostgreSql, in-Sqlite}
use Rattle.sql_tree.proofs.leaf_text.write_count.Goals as goal

pub returns : goal.returns
unfolding lib.Utf8.encode
returns c =
    let dialect = c.args.dialect in
    let table = table_in c.args.table.now in
    let path = c.args.path.now in
    let before = string_bytes c.args.out.now in
    let first = c.match-dialect.push_str.now in
    let json = json_text dialect table path in
    let one = then_text before (string_bytes c.push_str.new.self) (string_bytes c.write_json.new.out) first [] json c.in_ok-write_json.ensures c.in_ok-push_str.ensures.bytes in
    let all = then_pushed c.push.result before (string_bytes c.write_json.new.out) (string_bytes c.push.new.self) first (json ∷ []) (codes ")") c.push.ensures.bytes one in
    let whole : all_from first (json ∷ codes ")" ∷ []) ≡ count_text dialect table path = elim c.match-dialect.branch [
      | in-PostgreSql w ↦ ap (λ (xs : List ℕ). all_from xs (json ∷ codes ")" ∷ [])) (ap (λ b. b.now) w.push_str-is)
          ∙ ap (λ (d : Dialect). all_from (codes "jsonb_array_length(") (json_text d table path ∷ codes ")" ∷ [])) w.in-PostgreSql.is ∙ ap (λ (d : Dialect). count_text d table path) (sym w.in-PostgreSql.is)
      | in-Sqlite w ↦ ap (λ (xs : List ℕ). all_from xs (json ∷ codes ")" ∷ [])) (ap (λ b. b.now) w.push_str-is)
          ∙ ap (λ (d : Dialect). all_from (codes "json_array_length(") (json_text d table path ∷ codes ")" ∷ [])) w.in-Sqlite.is ∙ ap (λ (d : Dialect). count_text d table path) (sym w.in-Sqlite.is)
    ] in
    subst (λ (t : List ℕ). OnOk c.push.result (string_bytes c.push.new.self ≡ before ++ t)) whole all
