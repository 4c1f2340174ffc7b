use Rattle.spare_values.proofs.stored_texts.write_text.Goals as goal

pub returns-clause-utf8 : goal.returns-clause-utf8
returns-clause-utf8 c = c.utf8.text

pub returns-then-is_filled_again-clause-utf8 : goal.returns-then-is_filled_again-clause-utf8
returns-then-is_filled_again-clause-utf8 c = c.utf8.text
