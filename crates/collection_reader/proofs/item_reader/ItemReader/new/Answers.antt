use Rattle.collection_reader.proofs.ReaderLemmas.{begun}
use Rattle.collection_reader.proofs.item_reader.ItemReader.new.Goals as goal

pub returns : goal.returns
returns g c document known = begun (g.R.Read.remaining c.args.reader) _ document c.new.ensures known
