use Rattle.std.proofs.Common.{ap, get_or, refl, sym, ◌∙◌}
use Rattle.collection_reader.specs.private.ItemText.{bytes_of, scanned}
use Rattle.collection_reader.proofs.WrittenLemmas.{one_dropped, one_put}
use Rattle.collection_reader.proofs.lines_in_place.take_one.Goals as goal

pub returns-in-Some-clause-written : goal.returns-in-Some-clause-written
returns-in-Some-clause-written c s first w =
    one_put s first c.args.bytes.now (scanned c.args.document.now) (scanned c.take.new.self) c.args.window.to c.args.window.kept c.args.from (get_or c.args.bytes.now c.args.from 0) c.in-Some.put w c.requires.within
    refl c.take.ensures.scanned (ap bytes_of (sym c.in-Some.is) ∙ c.take.ensures.put)

pub returns-in-None-clause-written : goal.returns-in-None-clause-written
returns-in-None-clause-written c s first w =
    one_dropped s first c.args.bytes.now c.move_back.new.bytes (scanned c.args.document.now) (scanned c.take.new.self) c.args.window.to c.args.window.kept c.args.from (get_or c.args.bytes.now c.args.from 0) c.move_back.result w c.requires.within
    refl c.take.ensures.scanned (ap bytes_of (sym c.in-None.is) ∙ c.take.ensures.put)
    c.move_back.ensures.end c.move_back.ensures.len c.move_back.ensures.moved c.move_back.ensures.rest
