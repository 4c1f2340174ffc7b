use Rattle.line_filter.proofs.PartLaws.Runs.{parts_keep_all}
use Rattle.line_filter.proofs.laws.parts_keep_what_all_keeps.Goals as goal

pub returns : goal.returns
returns g c count bytes text other m n some passed filters =
    parts_keep_all (g.J.Judge.says c.args.judge.now) count bytes c.requires text other m n some passed filters
