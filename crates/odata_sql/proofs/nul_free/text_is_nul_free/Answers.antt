use Rattle.std.proofs.Common.{lit<}
use Rattle.std.proofs.lemmas.Str.Pattern.{contains_char}
use Rattle.odata_sql.proofs.NulFree.{none_found, one_found}
use Rattle.odata_sql.proofs.nul_free.text_is_nul_free.Goals as goal

pub returns-then-contains : goal.returns-then-contains
returns-then-contains c =
    one_found c.args.text.now ((contains_char 0 c.args.text.now c.contains.result c.contains.ensures.cases (lit< tt)).0 c.if-contains.true)

pub returns : goal.returns
returns c =
    none_found c.args.text.now c.contains.result (contains_char 0 c.args.text.now c.contains.result c.contains.ensures.cases (lit< tt)).1 c.if-contains.false
