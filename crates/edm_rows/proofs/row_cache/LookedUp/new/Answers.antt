use Rattle.edm_rows.proofs.row_cache.LookedUp.new.Goals as goal

pub returns : goal.returns
returns c schema = record { texts = c.new.ensures schema; names = c.new-2.ensures schema }
