use Rattle.std.proofs.Common.{Some, sym, ap, ◌∙◌, ⊎_elim}
use Rattle.json.specs.Text.{short_escape}
use Rattle.json_room.proofs.decoded_escapes.reported_by_byte.Goals as goal

pub returns-in-34-clause-value : goal.returns-in-34-clause-value
unfolding short_escape
returns-in-34-clause-value c =
    ⊎_elim (λ e. ap short_escape e ∙ ap Some (sym e)) (⊎_elim (λ e. ap short_escape e ∙ ap Some (sym e)) (λ e. ap short_escape e ∙ ap Some (sym e))) c.in-34.is

pub returns-in-110-clause-value : goal.returns-in-110-clause-value
unfolding short_escape
returns-in-110-clause-value c = ap short_escape c.in-110.is

pub returns-in-116-clause-value : goal.returns-in-116-clause-value
unfolding short_escape
returns-in-116-clause-value c = ap short_escape c.in-116.is

pub returns-in-114-clause-value : goal.returns-in-114-clause-value
unfolding short_escape
returns-in-114-clause-value c = ap short_escape c.in-114.is

pub returns-in-98-clause-value : goal.returns-in-98-clause-value
unfolding short_escape
returns-in-98-clause-value c = ap short_escape c.in-98.is

pub returns-in-102-clause-value : goal.returns-in-102-clause-value
unfolding short_escape
returns-in-102-clause-value c = ap short_escape c.in-102.is
