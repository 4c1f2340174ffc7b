use Rattle.std.proofs.Common.{◌≡◌, ◌≤◌, ◌+◌, ◌-◌, ◌++◌, ◌∙◌, sym, ap, arith, string_bytes}
use Rattle.std.specs.Prelude.{codes}
use Rattle.sql_tree.specs.NodePieces.{let_end, let_pieces, name_of_bound}
use Rattle.sql_tree.specs.private.PiecesView.{piece_at}
use Rattle.sql_tree.specs.declared.dialect.Dialect.{Dialect}
use Rattle.sql_tree.proofs.Bindings.{length_let, value_before, value_last}
use Rattle.sql_tree.proofs.Written.{pushed_more, written_more}
use Rattle.sql_tree.proofs.printer_frames.write_binding.Goals as goal

pub overflow_add-bound : goal.overflow_add-bound
overflow_add-bound c =
    let few = c.requires.few in
    let long = length_let c.args.dialect c.args.level c.args.count (omega (arith, few)) in
    omega (arith, few, long, c.requires.fit)

pub returns-then-done-count : goal.returns-then-done-count
returns-then-done-count c =
    let done = c.args.done in
    let start = name_of_bound (c.args.level + (done - 2)) in
    let some = c.requires.some in
    let two : 2 ≤ done = omega (arith, some, c.if-done-eq1.false) in
    pushed_more c.push_str-then-done-count.result (string_bytes c.args.out.now) (string_bytes c.write.new.self) (string_bytes c.push_str-then-done-count.new.self) start (codes ", ")
    (piece_at (let_pieces c.args.dialect c.args.level c.args.count) done) c.push_str-then-done-count.ensures.bytes c.in_ok-write.ensures.bytes
    (sym (value_before c.args.dialect c.args.level c.args.count done two c.if-done-count.true))

pub returns-in-PostgreSql : goal.returns-in-PostgreSql
returns-in-PostgreSql c =
    let level = c.args.level in
    let done = c.args.done in
    let few = c.requires.few in
    let some = c.requires.some in
    let past = c.if-done-count.false in
    let start = name_of_bound (level + (done - 2)) in
    let two : 2 ≤ done = omega (arith, some, c.if-done-eq1.false) in
    let long = length_let c.args.dialect level c.args.count (omega (arith, few)) in
    let last : done ≡ c.args.count + 1 = omega (arith, few, long, past) in
    written_more c.write-in-PostgreSql.result (string_bytes c.args.out.now) (string_bytes c.write.new.self) (string_bytes c.write-in-PostgreSql.new.self) start
    (let_end Dialect.PostgreSql level) (piece_at (let_pieces c.args.dialect level c.args.count) done) c.write-in-PostgreSql.ensures.bytes c.in_ok-write.ensures.bytes
    (ap (λ (d : Dialect). start ++ let_end d level) (sym c.in-PostgreSql.is) ∙ sym (value_last c.args.dialect level c.args.count done two last))

pub returns-in-Sqlite : goal.returns-in-Sqlite
returns-in-Sqlite c =
    let level = c.args.level in
    let done = c.args.done in
    let few = c.requires.few in
    let some = c.requires.some in
    let past = c.if-done-count.false in
    let start = name_of_bound (level + (done - 2)) in
    let two : 2 ≤ done = omega (arith, some, c.if-done-eq1.false) in
    let long = length_let c.args.dialect level c.args.count (omega (arith, few)) in
    let last : done ≡ c.args.count + 1 = omega (arith, few, long, past) in
    written_more c.write-in-Sqlite.result (string_bytes c.args.out.now) (string_bytes c.write.new.self) (string_bytes c.write-in-Sqlite.new.self) start
    (let_end Dialect.Sqlite level) (piece_at (let_pieces c.args.dialect level c.args.count) done) c.write-in-Sqlite.ensures.bytes c.in_ok-write.ensures.bytes
    (ap (λ (d : Dialect). start ++ let_end d level) (sym c.in-Sqlite.is) ∙ sym (value_last c.args.dialect level c.args.count done two last))
