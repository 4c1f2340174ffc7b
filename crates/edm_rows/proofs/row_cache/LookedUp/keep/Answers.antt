use Rattle.edm_rows.proofs.row_cache.LookedUp.keep.Goals as goal

pub returns-in-Text : goal.returns-in-Text
returns-in-Text c = record { texts = c.put.ensures; names = c.requires.names }

pub returns-in-Name : goal.returns-in-Name
returns-in-Name c = record { texts = c.requires.texts; names = c.put-in-Name.ensures }
