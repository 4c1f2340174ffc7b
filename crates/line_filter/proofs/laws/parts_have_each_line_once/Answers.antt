use Rattle.line_filter.proofs.PartLaws.Ends.{parts_have_all}
use Rattle.line_filter.proofs.laws.parts_have_each_line_once.Goals as goal

pub returns : goal.returns
returns c count bytes some = parts_have_all count bytes some
