use Rattle.odata_eval.proofs.evaluator.evaluate_with.Goals as goal

pub returns-then-is_true_by-clause-outcome : goal.returns-then-is_true_by-clause-outcome
returns-then-is_true_by-clause-outcome c = c.is_true_by.ensures c.if-is_true_by.true
