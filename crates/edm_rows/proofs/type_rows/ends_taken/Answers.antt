use Rattle.std.proofs.Common.{◌≡◌, sym, ◌∙◌}
use Rattle.edm_rows.specs.declared.kept_leaf.Taken.{Taken}
use Rattle.edm_rows.proofs.type_rows.ends_taken.Goals as goal

pub returns-in-Put-clause-broken : goal.returns-in-Put-clause-broken
returns-in-Put-clause-broken c _ broken = let wrong : Taken.Put c.in-Put.end ≡ Taken.Broken = sym c.in-Put.is ∙ broken in cc

pub returns-in-Rejected-clause-broken : goal.returns-in-Rejected-clause-broken
returns-in-Rejected-clause-broken c _ broken = let wrong : Taken.Rejected c.in-Rejected.end ≡ Taken.Broken = sym c.in-Rejected.is ∙ broken in cc
