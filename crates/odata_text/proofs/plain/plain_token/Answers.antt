use Rattle.odata_text.proofs.readings.PlainTokens.{mark-at}
use Rattle.odata_text.proofs.plain.plain_token.Goals as goal

pub returns-in-Some : goal.returns-in-Some
returns-in-Some c = mark-at c.args.bytes.now c.args.start c.in-Some.kind c.requires c.in-Some.ensures
