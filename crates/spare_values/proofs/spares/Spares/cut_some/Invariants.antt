use Rattle.std.proofs.Common.{◌≡◌, length, take}
use Rattle.spare_values.proofs.spares.Spares.cut_some.Given as goal

-- the first items stay
abbrev pub invariant-extra : goal.invariant-extra
invariant-extra l = take l.count l.items.items ≡ take l.count l.initial.items.items

abbrev pub decreases-extra : goal.decreases-extra
decreases-extra l = length l.items.items
