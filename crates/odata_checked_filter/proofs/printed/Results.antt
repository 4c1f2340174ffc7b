-- What is known where a call succeeds.
use Rattle.std.proofs.Common.{◌≡◌, List, ℕ, Result, Ok, Err, OnOk}
use Rattle.std.specs.Prelude.{if◌then◌else◌, is_ok}

pub on_ok : {A E P Q : Type 0} (r : Result A E) → (P → Q) → OnOk r P → OnOk r Q
on_ok (Ok x) f given = f given
on_ok (Err e) f given = tt

-- what `push_str` says of its own success
pub pushed_ok : {A E : Type 0} (r : Result A E) (x a b : List ℕ) → x ≡ (if is_ok r then a else b) → OnOk r (x ≡ a)
pushed_ok (Ok v) x a b given = given
pushed_ok (Err e) x a b given = tt
