use Rattle.sql_forms.proofs.Common.{◌∙◌, ap, subst, sym, Kind, IsComparedIn}
use Rattle.sql_outcomes.specs.private.FaultySides.{compared_in}
use Rattle.sql_forms.proofs.comparison_forms.compared_type.Goals as goal

pub returns : goal.returns
returns c =
    subst (λ (k : Kind). IsComparedIn k c.compared_in.result) (sym c.requires.1) (c.compared_in.ensures ∙ ap compared_in (c.wanted.ensures c.requires.0 c.requires.1))
