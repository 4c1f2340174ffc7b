use Rattle.std.proofs.Common.{◌<◌, ◌+◌, ◌^◌}
use Rattle.odata_typing.proofs.scopes.Scopes.{count_more}
use Rattle.odata_typing.proofs.variables.+count.Goals as goal

pub returns-in-Some : goal.returns-in-Some
returns-in-Some t c = λ schema.
    rw c.in-Bound.is
    (count_more schema c.in-Bound.field-0 c.in-Bound.field-1 c.in-Bound.outer c.in-Some.n (c.in-Some.n + 1 < 2 ^ 64) c.checked_add.result (c.in-Some.ensures schema) c.checked_add.ensures)
