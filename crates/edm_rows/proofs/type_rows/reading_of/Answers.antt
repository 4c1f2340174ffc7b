use Rattle.edm_rows.proofs.type_rows.reading_of.Goals as goal

pub returns-in-Put-clause-row : goal.returns-in-Put-clause-row
returns-in-Put-clause-row c _ = (_, c.in-Put.is)

pub returns-in-Rejected-clause-left_out : goal.returns-in-Rejected-clause-left_out
returns-in-Rejected-clause-left_out c _ = (_, c.in-Rejected.is)
