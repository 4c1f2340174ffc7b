use Rattle.std.proofs.Common.{ap, sym, ◌∙◌}
use Rattle.collection_reader.specs.private.ItemText.{Moved, scanned}
use Rattle.collection_reader.proofs.TakeLemmas.{at_back, at_front, at_item, at_over}
use Rattle.collection_reader.proofs.document.Document.take.Goals as goal

pub returns-in-Front-clause-scanned : goal.returns-in-Front-clause-scanned
returns-in-Front-clause-scanned c =
    c.take_front.ensures.scanned ∙ ap (λ (m : Moved). m.scanned) (sym (at_front (scanned c.args.self.now) c.args.byte c.in-Front.is))

pub returns-in-Front-clause-put : goal.returns-in-Front-clause-put
returns-in-Front-clause-put c =
    c.take_front.ensures.put ∙ ap (λ (m : Moved). m.put) (sym (at_front (scanned c.args.self.now) c.args.byte c.in-Front.is))

pub returns-in-Back-clause-scanned : goal.returns-in-Back-clause-scanned
returns-in-Back-clause-scanned c =
    c.take_back.ensures.scanned ∙ ap (λ (m : Moved). m.scanned) (sym (at_back (scanned c.args.self.now) c.args.byte c.in-Back.is))

pub returns-in-Back-clause-put : goal.returns-in-Back-clause-put
returns-in-Back-clause-put c =
    c.take_back.ensures.put ∙ ap (λ (m : Moved). m.put) (sym (at_back (scanned c.args.self.now) c.args.byte c.in-Back.is))

pub returns-in-Over-clause-scanned : goal.returns-in-Over-clause-scanned
returns-in-Over-clause-scanned c = ap (λ (m : Moved). m.scanned) (sym (at_over (scanned c.args.self.now) c.args.byte c.in-Over.is))

pub returns-in-Over-clause-put : goal.returns-in-Over-clause-put
returns-in-Over-clause-put c = ap (λ (m : Moved). m.put) (sym (at_over (scanned c.args.self.now) c.args.byte c.in-Over.is))

pub returns-in_default : goal.returns-in_default
returns-in_default c =
    let is = at_item (scanned c.args.self.now) c.args.byte c.in_default.not-Front c.in_default.not-Back c.in_default.not-Over in
    record {
      scanned = c.take_item.ensures.scanned ∙ ap (λ (m : Moved). m.scanned) (sym is);
      put = c.take_item.ensures.put ∙ ap (λ (m : Moved). m.put) (sym is);
      room = c.take_item.ensures.room;
    }
