-- What is known of a text to which something was appended.
use Rattle.std.proofs.Common.{◌≡◌, ℕ, List, Result, Ok, Err, OnOk, is_ok}
use Rattle.std.specs.Prelude.{IfOk, if◌then◌else◌}

pub on_ok : {A E : Type 0} {P Q : Type 0} (r : Result A E) → (P → Q) → OnOk r P → OnOk r Q
on_ok (Ok x) f given = f given
on_ok (Err e) f given = tt

pub on_both : {A E : Type 0} {P Q R : Type 0} (r : Result A E) → (P → Q → R) → OnOk r P → OnOk r Q → OnOk r R
on_both (Ok x) f first second = f first second
on_both (Err e) f first second = tt

pub on_if_ok : {A E : Type 0} (P Q : A → Type 0) (r : Result A E) → ((x : A) → P x → Q x) → IfOk r P → IfOk r Q
on_if_ok P Q (Ok x) f given = f x given
on_if_ok P Q (Err e) f given = tt

-- what `push` and `push_str` say
pub pushed_ok : {A E : Type 0} (r : Result A E) (x a b : List ℕ) → x ≡ (if is_ok r then a else b) → OnOk r (x ≡ a)
pushed_ok (Ok v) x a b given = given
pushed_ok (Err e) x a b given = tt
