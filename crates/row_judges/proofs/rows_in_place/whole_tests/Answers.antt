use Rattle.row_judges.proofs.rows_in_place.whole_tests.Goals as goal

pub returns-then-tests : goal.returns-then-tests
returns-then-tests c = c.slot_sieves-tests.ensures.whole c.if-tests.true

pub returns-else-tests : goal.returns-else-tests
returns-else-tests c = λ some. absurd (some c.new.ensures.items)
