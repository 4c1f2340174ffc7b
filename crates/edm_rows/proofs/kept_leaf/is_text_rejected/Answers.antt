use Rattle.edm_rows.proofs.kept_leaf.is_text_rejected.Goals as goal

pub returns-clause-utf8 : goal.returns-clause-utf8
returns-clause-utf8 c = c.utf8.text

pub returns-clause-rejected : goal.returns-clause-rejected
returns-clause-rejected c done = c.rejects_text.ensures.0 done
