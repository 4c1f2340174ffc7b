use Rattle.std.proofs.Common.{◌≡◌, ◌∙◌, ◌++◌, sym, ap, string_bytes}
use Rattle.std.specs.Prelude.{codes}
use Rattle.sql_tree.specs.NodePieces.{digit_start, pieces_for_codes, place_cast}
use Rattle.sql_tree.specs.private.PiecesView.{piece_at}
use Rattle.sql_tree.specs.TableDigits.{arity_of_table}
use Rattle.sql_tree.specs.declared.dialect.Dialect.{Dialect}
use Rattle.sql_tree.proofs.CodeTexts.{code_start, digits_joined}
use Rattle.sql_tree.proofs.Written.{joined, pushed_more}
use Rattle.sql_tree.proofs.printer_frames.write_table.Goals.{in-PostgreSql, in-Sqlite, then-arity-eq2, else-arity-eq2}
use Rattle.sql_tree.proofs.printer_frames.write_table.Goals as goal

pub returns : goal.returns
returns c =
    let dialect = c.args.dialect in
    let table = c.args.table in
    let before = string_bytes c.args.out.now in
    let digits = c.digits-digits.result.now in
    let place = c.match-dialect.push_str.now in
    let rest = c.if-arity-eq2.push_str.now in
    let place_is : place ≡ place_cast dialect = elim c.match-dialect.branch [
      | in-PostgreSql w ↦ ap (λ b. b.now) w.push_str-is ∙ ap (λ (d : Dialect). place_cast d) (sym w.in-PostgreSql.is)
      | in-Sqlite w ↦ ap (λ b. b.now) w.push_str-is ∙ ap (λ (d : Dialect). place_cast d) (sym w.in-Sqlite.is)
    ] in
    let begun = joined before (string_bytes c.write.new.self) (string_bytes c.push_str.new.self) (codes "CAST(substr('" ++ (digits ++ codes "'")) place (digit_start dialect table)
    c.in_ok-push_str.ensures.bytes c.in_ok-write.ensures.bytes (digits_joined dialect table digits place c.digits-digits.ensures place_is) in
    let start : digit_start dialect table ++ rest ≡ piece_at (pieces_for_codes dialect table (arity_of_table table)) 0 = elim c.if-arity-eq2.branch [
      | then-arity-eq2 w ↦ code_start dialect table rest (λ two. ap (λ b. b.now) w.push_str-is) (λ other. absurd (other (sym c.arity.ensures ∙ w.if-arity-eq2.true)))
      | else-arity-eq2 w ↦ code_start dialect table rest (λ two. absurd (w.if-arity-eq2.false (c.arity.ensures ∙ two))) (λ other. ap (λ b. b.now) w.push_str-is)
    ] in
    pushed_more c.push_str-2.result before (string_bytes c.push_str.new.self) (string_bytes c.push_str-2.new.self) (digit_start dialect table) rest
    (piece_at (pieces_for_codes dialect table (arity_of_table table)) 0) c.push_str-2.ensures.bytes begun start
