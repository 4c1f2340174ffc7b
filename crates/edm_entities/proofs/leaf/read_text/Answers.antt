use Rattle.std.proofs.Common.{refl, ap, ◌∙◌}
use Rattle.edm_values.specs.Val.{text}
use Rattle.edm_entities.proofs.FitLemmas.Numbers.{val_of-Text, val_of-Date, val_of-Moment, none_some}
use Rattle.edm_entities.proofs.leaf.read_text.Goals as goal

pub returns-in-Ok-clause-fits : goal.returns-in-Ok-clause-fits
returns-in-Ok-clause-fits c slots type =
    rw c.in-String.is
    (c.args.text.now, refl, (c.utf8.text, val_of-Text slots type c.in-Ok.text ∙ ap text c.in-Ok.ensures.ok))

pub returns-in-Some-clause-fits : goal.returns-in-Some-clause-fits
returns-in-Some-clause-fits c slots type =
    rw c.in-Date.is (c.args.text.now, refl, (c.in-Some.date, c.in-Some.ensures.value, val_of-Date slots type c.in-Some.date))

pub returns-in-None-clause-flaw : goal.returns-in-None-clause-flaw
returns-in-None-clause-flaw c =
    rw c.in-Date.is (c.args.text.now, refl, λ value stands. none_some (c.in-None.ensures.only stands.0 stands.1))

pub returns-in-Some-read_moment-clause-fits : goal.returns-in-Some-read_moment-clause-fits
returns-in-Some-read_moment-clause-fits c slots type =
    rw c.in-DateTimeOffset.is
    (c.args.text.now, refl, (c.in-Some-read_moment.moment, c.in-Some-read_moment.ensures.value, val_of-Moment slots type c.in-Some-read_moment.moment))

pub returns-in-None-read_moment-clause-flaw : goal.returns-in-None-read_moment-clause-flaw
returns-in-None-read_moment-clause-flaw c =
    rw c.in-DateTimeOffset.is (c.args.text.now, refl, λ value stands. none_some (c.in-None-read_moment.ensures.only stands.0 stands.1))

pub returns-in-None-read_guid-clause-flaw : goal.returns-in-None-read_guid-clause-flaw
returns-in-None-read_guid-clause-flaw c =
    rw c.in-Guid.is (c.args.text.now, refl, λ value stands. none_some (c.in-None-read_guid.ensures.only stands.0 stands.1))
