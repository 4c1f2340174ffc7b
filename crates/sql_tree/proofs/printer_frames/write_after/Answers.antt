use Rattle.std.proofs.Common.{◌≡◌, [], ◌∷◌, ◌++◌, List, ℕ, OnOk, subst, string_bytes}
use Rattle.std.specs.Prelude.{codes}
use Rattle.sql_tree.specs.PathText.{members_text}
use Rattle.sql_tree.specs.TableModel.{table_in}
use Rattle.sql_tree.proofs.PathPieces.{least_end}
use Rattle.sql_tree.proofs.Written.{then_pushed, then_text}
use Rattle.sql_tree.proofs.printer_frames.write_after.Goals as goal

pub returns-in_ok-write_members-in-Least : goal.returns-in_ok-write_members-in-Least
unfolding lib.Utf8.encode
returns-in_ok-write_members-in-Least c =
    let dialect = c.args.dialect in
    let table = table_in c.args.table.now in
    let paths = c.args.tree.now.paths.items in
    let before = string_bytes c.args.out.now in
    let first = codes ") FROM " in
    let path = c.index.result.now in
    let members = members_text dialect table path c.in-Least.level in
    let one = then_text before (string_bytes c.push_str-in-Least.new.self) (string_bytes c.write_members.new.out) first [] members c.in_ok-write_members-in-Least.ensures c.in_ok-push_str-in-Least.ensures.bytes in
    let all = then_pushed c.push.result before (string_bytes c.write_members.new.out) (string_bytes c.push.new.self) first (members ∷ []) (codes ")") c.push.ensures.bytes one in
    subst (λ (t : List ℕ). OnOk c.push.result (string_bytes c.push.new.self ≡ before ++ t))
    (least_end dialect table paths c.args.frame.now.node c.in-Least.path c.in-Least.level c.args.frame.now.done path c.in-Least.is c.requires.named c.index.ensures c.requires.some c.requires.few) all
