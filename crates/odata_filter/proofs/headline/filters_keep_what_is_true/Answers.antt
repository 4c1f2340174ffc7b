use Rattle.odata_filter.proofs.RowLemmas.TrueRows.{one_outcome, answered, kept, written, stopped}
use Rattle.odata_filter.proofs.headline.filters_keep_what_is_true.Goals as goal

pub returns-clause-outcome : goal.returns-clause-outcome
returns-clause-outcome c = one_outcome c.typed_trees_end_once.ensures c.what_fits_has_its_type.ensures

pub returns-clause-answered : goal.returns-clause-answered
returns-clause-answered c = answered

pub returns-clause-kept : goal.returns-clause-kept
returns-clause-kept c = kept c.typed_trees_end_once.ensures c.what_fits_has_its_type.ensures

pub returns-clause-written : goal.returns-clause-written
returns-clause-written c =
    written c.typed_trees_end_once.ensures c.what_fits_has_its_type.ensures c.rows_are_judged_once.ensures.line

pub returns-clause-stopped : goal.returns-clause-stopped
returns-clause-stopped c =
    stopped c.typed_trees_end_once.ensures c.what_fits_has_its_type.ensures c.rows_are_judged_once.ensures.line

pub returns-clause-refused : goal.returns-clause-refused
returns-clause-refused c slots root text refusal is =
    (c.texts_have_one_refusal.ensures.untyped slots root text refusal is, λ other of. c.texts_have_one_refusal.ensures.one slots root text other refusal of is)
