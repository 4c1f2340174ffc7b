use Rattle.std.specs.Io.KnownBytes.{Keeps}
use Rattle.collection_reader.proofs.item_reader.ItemReaderRead.read.Given as goal

-- nothing was given so far
abbrev pub invariant-loop : goal.invariant-loop
invariant-loop g l = Keeps l.fn.self l.self
