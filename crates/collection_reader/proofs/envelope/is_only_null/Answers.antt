use Rattle.std.proofs.Common.{List, sym}
use Rattle.collection_reader.proofs.EnvelopeLemmas.{not_one, one_of_one}
use Rattle.collection_reader.proofs.envelope.is_only_null.Goals as goal

pub returns-then-items-ne1 : goal.returns-then-items-ne1
returns-then-items-ne1 c = sym (not_one c.args.items.now c.if-items-ne1.true)

pub returns : goal.returns
returns c = one_of_one c.args.items.now c.index-items-0.result c.is_null.result c.if-items-ne1.false c.index-items-0.is c.is_null.ensures
