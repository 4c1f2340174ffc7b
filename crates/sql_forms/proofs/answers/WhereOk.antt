-- What holds where a call returns `Ok`.
use Rattle.std.proofs.Common.{Result, Ok, Err, OnOk}

pub where_ok : {T E P Q : Type 0} → (P → Q) → (r : Result T E) → OnOk r P → OnOk r Q
where_ok goes (Ok v) is = goes is
where_ok goes (Err e) is = tt
