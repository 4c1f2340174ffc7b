use Rattle.std.proofs.Common.{◌≤◌, ◌∙◌, sym, ap, arith, string_bytes}
use Rattle.sql_tree.specs.NodePieces.{digit_end, pieces_for_codes}
use Rattle.sql_tree.specs.private.PiecesView.{piece_at}
use Rattle.sql_tree.specs.TableDigits.{arity_of_table}
use Rattle.sql_tree.specs.declared.dialect.Dialect.{Dialect}
use Rattle.sql_tree.proofs.CodeTexts.{code_end}
use Rattle.sql_tree.proofs.Written.{pushed_as}
use Rattle.sql_tree.proofs.printer_frames.write_looked.Goals.{in-PostgreSql, in-Sqlite}
use Rattle.sql_tree.proofs.printer_frames.write_looked.Goals as goal

pub returns : goal.returns
returns c =
    let dialect = c.args.dialect in
    let table = c.args.table in
    let past = c.if-done-arity.false in
    let reported = c.arity.ensures in
    let all : arity_of_table table ≤ c.args.done = omega (arith, past, reported) in
    let end = code_end dialect table c.args.done all c.requires.few in
    let piece = piece_at (pieces_for_codes dialect table (arity_of_table table)) c.args.done in
    elim c.match-dialect.branch [
      | in-PostgreSql w ↦ pushed_as c.push_str-2.result (string_bytes c.args.out.now) (string_bytes c.push_str-2.new.self) c.match-dialect.push_str.now piece c.push_str-2.ensures.bytes
          (ap (λ b. b.now) w.push_str-is ∙ ap (λ (d : Dialect). digit_end d) (sym w.in-PostgreSql.is) ∙ sym end)
      | in-Sqlite w ↦ pushed_as c.push_str-2.result (string_bytes c.args.out.now) (string_bytes c.push_str-2.new.self) c.match-dialect.push_str.now piece c.push_str-2.ensures.bytes
          (ap (λ b. b.now) w.push_str-is ∙ ap (λ (d : Dialect). digit_end d) (sym w.in-Sqlite.is) ∙ sym end)
    ]
