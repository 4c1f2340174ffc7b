use Rattle.std.proofs.Common.{◌∙◌}
use Rattle.edm_values.proofs.literals.Dates.{calendar_made}
use Rattle.edm_values.proofs.date_literal.calendar_date.Goals as goal

pub returns-clause-only : goal.returns-clause-only
returns-clause-only c = λ d within ymd.
    c.ok.ensures.value ∙ calendar_made c.new.result c.args.year c.args.month c.args.day d
    c.requires.year_in c.requires.month_in c.requires.day_in ymd c.new.ensures.succeeds c.new.ensures.value
