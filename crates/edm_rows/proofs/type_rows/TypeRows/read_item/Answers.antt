use Rattle.std.proofs.Common.{◌≡◌, sym, ◌∙◌, subst}
use Rattle.edm_rows.specs.declared.kept_leaf.Taken.{Taken}
use Rattle.edm_rows.specs.private.HeldRows.{ReadsRowAt}
use Rattle.edm_rows.proofs.type_rows.TypeRows.read_item.Goals as goal

pub returns-in-Put-clause-ready : goal.returns-in-Put-clause-ready
returns-in-Put-clause-ready c to _ = c.read_object-taken.ensures.ready (λ broken. let wrong : Taken.Put c.in-Put.end ≡ Taken.Broken = sym c.in-Put.is ∙ broken in cc)

pub returns-in-Put-clause-item : goal.returns-in-Put-clause-item
returns-in-Put-clause-item c = subst (ReadsRowAt 124 c.args.text.now c.args.place c.read_object-taken.new.self) c.in-Put.is c.read_object-taken.ensures.object

pub returns-in-Rejected-clause-item : goal.returns-in-Rejected-clause-item
returns-in-Rejected-clause-item c = subst (ReadsRowAt 124 c.args.text.now c.args.place c.read_object-taken.new.self) c.in-Rejected.is c.read_object-taken.ensures.object
