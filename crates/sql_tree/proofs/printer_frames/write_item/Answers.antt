use Rattle.std.proofs.Common.{◌≤◌, ◌∙◌, sym, ap, arith, string_bytes}
use Rattle.sql_tree.specs.NodePieces.{list_pieces}
use Rattle.sql_tree.specs.private.PiecesView.{piece_at}
use Rattle.sql_tree.proofs.Bindings.{comma_after, length_list, list_end}
use Rattle.sql_tree.proofs.Written.{pushed_as}
use Rattle.sql_tree.proofs.printer_frames.write_item.Goals.{then-done-count, else-done-count}
use Rattle.sql_tree.proofs.printer_frames.write_item.Goals as goal

pub returns : goal.returns
returns c =
    let dialect = c.args.dialect in
    let collated = c.args.collated in
    let count = c.args.count in
    let done = c.args.done in
    let few = c.requires.few in
    let some = c.requires.some in
    let two : 2 ≤ done = omega (arith, some, c.if-done-eq1.false) in
    let long = length_list dialect collated count (omega (arith, few)) in
    let piece = piece_at (list_pieces dialect collated count) done in
    let before = string_bytes c.args.out.now in
    elim c.if-done-count.branch [
      | then-done-count w ↦ pushed_as c.push_str-2.result before (string_bytes c.push_str-2.new.self) c.if-done-count.push_str.now piece c.push_str-2.ensures.bytes
          (ap (λ b. b.now) w.push_str-is ∙ sym (comma_after dialect collated count done two w.if-done-count.true))
      | else-done-count w ↦ pushed_as c.push_str-2.result before (string_bytes c.push_str-2.new.self) c.if-done-count.push_str.now piece c.push_str-2.ensures.bytes
          (ap (λ b. b.now) w.push_str-is ∙ sym (list_end dialect collated count done two (let past = w.if-done-count.false in omega (arith, past, few, long))))
    ]
