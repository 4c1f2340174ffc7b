use Rattle.std.proofs.Common.{◌≡◌, ◌∙◌, [], ◌∷◌, ◌++◌, List, ℕ, OnOk, sym, ap, subst, string_bytes}
use Rattle.std.specs.Prelude.{codes}
use Rattle.sql_tree.specs.PathText.{base_text, dots_text, extracted_text}
use Rattle.sql_tree.specs.TableModel.{table_in}
use Rattle.sql_tree.specs.declared.dialect.Dialect.{Dialect}
use Rattle.sql_tree.specs.declared.json_path.Step.{Step}
use Rattle.sql_tree.proofs.PathPieces.{extracted_some}
use Rattle.sql_tree.proofs.Written.{then_pushed, then_text}
use Rattle.sql_tree.proofs.path_text.write_extracted.Goals as goal

pub returns : goal.returns
returns c =
    let table = table_in c.args.table.now in
    let base = c.args.path.now.base in
    let steps = c.as_slice-steps.result.now in
    let before = string_bytes c.args.out.now in
    let first = codes "json_extract(" in
    let text = base_text Dialect.Sqlite table base in
    let one = then_text before (string_bytes c.push_str.new.self) (string_bytes c.write_base-2.new.out) first [] text c.in_ok-write_base.ensures c.in_ok-push_str.ensures.bytes in
    let two = then_text before (string_bytes c.write_base-2.new.out) (string_bytes c.push_str-2.new.self) first (text ∷ []) (codes ", '$") c.in_ok-push_str-2.ensures.bytes one in
    let three = then_text before (string_bytes c.push_str-2.new.self) (string_bytes c.write_dots.new.out) first (text ∷ codes ", '$" ∷ []) (dots_text table steps) c.in_ok-write_dots.ensures two in
    let all = then_pushed c.push_str-3.result before (string_bytes c.write_dots.new.out) (string_bytes c.push_str-3.new.self) first (text ∷ codes ", '$" ∷ dots_text table steps ∷ []) (codes "')")
    c.push_str-3.ensures.bytes three in
    let whole = extracted_some table base steps (sym c.is_empty.ensures ∙ c.if-is_empty.false) ∙ ap (λ (ss : List Step). extracted_text table base ss) c.as_slice-steps.ensures.value in
    subst (λ (t : List ℕ). OnOk c.push_str-3.result (string_bytes c.push_str-3.new.self ≡ before ++ t)) whole all
