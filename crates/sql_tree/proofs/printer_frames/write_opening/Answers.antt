use Rattle.std.proofs.Common.{◌≡◌, [], ◌∷◌, ◌++◌, List, ℕ, OnOk, subst, string_bytes}
use Rattle.std.specs.Prelude.{codes}
use Rattle.sql_tree.specs.PathText.{members_text}
use Rattle.sql_tree.specs.TableModel.{table_in}
use Rattle.sql_tree.proofs.PathPieces.{exists_start}
use Rattle.sql_tree.proofs.Written.{then_pushed, then_text}
use Rattle.sql_tree.proofs.printer_frames.write_opening.Goals as goal

pub returns-in_ok-write_members-in-Exists : goal.returns-in_ok-write_members-in-Exists
returns-in_ok-write_members-in-Exists c =
    let dialect = c.args.dialect in
    let table = table_in c.args.table.now in
    let paths = c.args.tree.now.paths.items in
    let before = string_bytes c.args.out.now in
    let first = codes "(EXISTS (SELECT 1 FROM " in
    let path = c.index.result.now in
    let members = members_text dialect table path c.in-Exists.level in
    let one = then_text before (string_bytes c.push_str-in-Exists.new.self) (string_bytes c.write_members.new.out) first [] members c.in_ok-write_members-in-Exists.ensures c.in_ok-push_str-in-Exists.ensures.bytes in
    let all = then_pushed c.push_str-in-Exists-2.result before (string_bytes c.write_members.new.out) (string_bytes c.push_str-in-Exists-2.new.self) first (members ∷ []) (codes " WHERE ")
    c.push_str-in-Exists-2.ensures.bytes one in
    subst (λ (t : List ℕ). OnOk c.push_str-in-Exists-2.result (string_bytes c.push_str-in-Exists-2.new.self ≡ before ++ t))
    (exists_start dialect table paths c.args.node c.in-Exists.path c.in-Exists.level path c.in-Exists.is c.requires.named c.index.ensures) all
