use Rattle.edm_entities.proofs.FitLemmas.Numbers.{val_of-Date, val_of-Moment}
use Rattle.edm_rows.proofs.literals.literal_of.Goals as goal

pub returns-in-Some : goal.returns-in-Some
returns-in-Some c slots type = rw c.in-Date.is (c.in-Some.date, c.in-Some.ensures.value, val_of-Date slots type c.in-Some.date)

pub returns-in-Some-read_moment : goal.returns-in-Some-read_moment
returns-in-Some-read_moment c slots type =
    rw c.in-DateTimeOffset.is (c.in-Some-read_moment.moment, c.in-Some-read_moment.ensures.value, val_of-Moment slots type c.in-Some-read_moment.moment)
