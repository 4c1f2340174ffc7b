use Rattle.std.proofs.Common.{refl, sym, subst}
use Rattle.edm_values.specs.declared.value.Value.{Text}
use Rattle.spare_values.specs.Fillers.{HoldsFiller}
use Rattle.spare_values.proofs.spares.Spares.put_filler.Goals as goal

pub returns-in-EmptyText : goal.returns-in-EmptyText
returns-in-EmptyText c = subst (λ f. HoldsFiller f (Text c.new.result)) (sym c.in-EmptyText.is) (c.new.result, refl, c.new.ensures.bytes)
