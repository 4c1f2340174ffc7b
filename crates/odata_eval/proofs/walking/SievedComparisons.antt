-- Which comparisons a rejected value refutes, and which ones a value affirms that passes.
use Rattle.std.proofs.Common.{◌≡◌, ◌∙◌, ℕ, ◌<◌, ◌+◌, ◌-◌, List, ℤ, pos, neg_ℤ, ◌<ℤ◌, ◌≤ℤ◌, ◌+ℤ◌, ◌-ℤ◌, ◌≢◌, ◌⊎◌, refl, subst, sym, ap, inl, inr, arith}
use Rattle.std.specs.Prelude.{String, string_bytes}
use Rattle.std.specs.Str.{chars}
use Rattle.std.proofs.lemmas.Int.{by_lt_z, ints}
use Rattle.edm_values.specs.SieveMeaning.{Rejects}
use Rattle.edm_values.specs.Val.{Val, text, whole}
use Rattle.edm_values.specs.declared.sieve.Sieve.{Sieve}
use Rattle.odata_functions.specs.Comparison.{AreEqual, IsGreater}
use Rattle.odata_syntax.specs.declared.binary_operator.ComparisonOperator.{ComparisonOperator}
use Rattle.odata_eval.specs.TrueWhere.{Passes}
use Rattle.odata_eval.specs.private.ValueTests.{Decides}

abbrev pub greatest : ℤ
greatest = pos 9223372036854775807

abbrev pub least : ℤ
least = neg_ℤ (pos 9223372036854775808)

pub eq_refuted : (n : ℤ) (value : Val) → Rejects (Sieve.Within n n) value → ¬ AreEqual value (whole n)
eq_refuted n value (k, is, within, (inl below)) equal = let same : k ≡ n = subst (λ (v : Val). AreEqual v (whole n)) is equal in absurd (omega (arith, ints, below, same))
eq_refuted n value (k, is, within, (inr above)) equal = let same : k ≡ n = subst (λ (v : Val). AreEqual v (whole n)) is equal in absurd (omega (arith, ints, above, same))

pub ne_refuted : (n : ℤ) (value : Val) → Rejects (Sieve.Besides n) value → ¬ (¬ AreEqual value (whole n))
ne_refuted n value is different = different (subst (λ (v : Val). AreEqual v (whole n)) (sym is) refl)

pub ge_refuted : (n : ℤ) (value : Val) → Rejects (Sieve.Within n greatest) value → ¬ (IsGreater value (whole n) ⊎ AreEqual value (whole n))
ge_refuted n value (k, is, within, (inr above)) holds = absurd (omega (arith, ints, above, within))
ge_refuted n value (k, is, within, (inl below)) (inl greater) = let more : n <ℤ k = subst (λ (v : Val). IsGreater v (whole n)) is greater in absurd (omega (arith, ints, below, more))
ge_refuted n value (k, is, within, (inl below)) (inr equal) = let same : k ≡ n = subst (λ (v : Val). AreEqual v (whole n)) is equal in absurd (omega (arith, ints, below, same))

pub le_refuted : (n : ℤ) (value : Val) → Rejects (Sieve.Within least n) value → ¬ (IsGreater (whole n) value ⊎ AreEqual value (whole n))
le_refuted n value (k, is, within, (inl below)) holds = absurd (omega (arith, ints, below, within))
le_refuted n value (k, is, within, (inr above)) (inl greater) = let more : k <ℤ n = subst (λ (v : Val). IsGreater (whole n) v) is greater in absurd (omega (arith, ints, above, more))
le_refuted n value (k, is, within, (inr above)) (inr equal) = let same : k ≡ n = subst (λ (v : Val). AreEqual v (whole n)) is equal in absurd (omega (arith, ints, above, same))

gt_refuted : (n m : ℤ) (value : Val) → n <ℤ m → m ≤ℤ (n +ℤ pos 1) → Rejects (Sieve.Within m greatest) value → ¬ IsGreater value (whole n)
gt_refuted n m value more next (k, is, within, (inl below)) greater = let above : n <ℤ k = subst (λ (v : Val). IsGreater v (whole n)) is greater in absurd (omega (arith, ints, below, next, above))
gt_refuted n m value more next (k, is, within, (inr above)) greater = absurd (omega (arith, ints, above, within))

lt_refuted : (n m : ℤ) (value : Val) → m <ℤ n → n ≤ℤ (m +ℤ pos 1) → Rejects (Sieve.Within least m) value → ¬ IsGreater (whole n) value
lt_refuted n m value less next (k, is, within, (inl below)) greater = absurd (omega (arith, ints, below, within))
lt_refuted n m value less next (k, is, within, (inr above)) greater = let below : k <ℤ n = subst (λ (v : Val). IsGreater (whole n) v) is greater in absurd (omega (arith, ints, above, next, below))

pub text_refuted : {Z : Type 0} (only : String Z) (t : List ℕ) (value : Val) → string_bytes only ≡ t → (s : List ℕ) × (value ≡ text s) × (chars s ≢ chars (string_bytes only)) → ¬ AreEqual value (text t)
text_refuted only t value copied (s, is, other) equal = other (subst (λ (v : Val). AreEqual v (text t)) is equal ∙ ap chars (sym copied))

pub other_text_refuted : {Z : Type 0} (other : String Z) (t : List ℕ) (value : Val) → string_bytes other ≡ t → (s : List ℕ) × (value ≡ text s) × (chars s ≡ chars (string_bytes other)) → ¬ (¬ AreEqual value (text t))
other_text_refuted other t value copied (s, is, same) different = different (subst (λ (v : Val). AreEqual v (text t)) (sym is) (same ∙ ap chars copied))

-- ---- and which ones a value affirms that passes

pub eq_affirmed : (n : ℤ) (value : Val) → Passes (Sieve.Within n n) value → AreEqual value (whole n)
eq_affirmed n value (k, is, low, high) = let same : k ≡ n = omega (arith, ints, low, high) in subst (λ (v : Val). AreEqual v (whole n)) (sym is) same

pub ne_affirmed : (n : ℤ) (value : Val) → Passes (Sieve.Besides n) value → ¬ AreEqual value (whole n)
ne_affirmed n value (k, is, other) equal = other (subst (λ (v : Val). AreEqual v (whole n)) is equal)

at_least : (n k : ℤ) → n ≤ℤ k → (n <ℤ k) ⊎ (k ≡ n)
at_least n k from = by_lt_z n k inl (λ most. inr (omega (arith, ints, from, most)))

pub ge_affirmed : (n high : ℤ) (value : Val) → Passes (Sieve.Within n high) value → IsGreater value (whole n) ⊎ AreEqual value (whole n)
ge_affirmed n high value (k, is, low, most) = subst (λ (v : Val). IsGreater v (whole n) ⊎ AreEqual v (whole n)) (sym is) (at_least n k low)

at_most : (n k : ℤ) → k ≤ℤ n → (k <ℤ n) ⊎ (k ≡ n)
at_most n k most = by_lt_z k n inl (λ from. inr (omega (arith, ints, from, most)))

pub le_affirmed : (low n : ℤ) (value : Val) → Passes (Sieve.Within low n) value → IsGreater (whole n) value ⊎ AreEqual value (whole n)
le_affirmed low n value (k, is, from, most) = subst (λ (v : Val). IsGreater (whole n) v ⊎ AreEqual v (whole n)) (sym is) (at_most n k most)

gt_affirmed : (n m high : ℤ) (value : Val) → n <ℤ m → Passes (Sieve.Within m high) value → IsGreater value (whole n)
gt_affirmed n m high value more (k, is, low, most) = let above : n <ℤ k = omega (arith, ints, more, low) in subst (λ (v : Val). IsGreater v (whole n)) (sym is) above

lt_affirmed : (n m low : ℤ) (value : Val) → m <ℤ n → Passes (Sieve.Within low m) value → IsGreater (whole n) value
lt_affirmed n m low value less (k, is, from, most) = let below : k <ℤ n = omega (arith, ints, less, most) in subst (λ (v : Val). IsGreater (whole n) v) (sym is) below

pub gt_decided : (n m : ℤ) → m ≡ n +ℤ pos 1 → Decides ComparisonOperator.Gt (whole n) (Sieve.Within m greatest)
gt_decided n m is =
    let more : n <ℤ m = omega (arith, ints, is) in
    let next : m ≤ℤ (n +ℤ pos 1) = omega (arith, ints, is) in
    record { refutes = λ value rejected. gt_refuted n m value more next rejected; affirms = λ value passes. gt_affirmed n m greatest value more passes }

pub lt_decided : (n m : ℤ) → m ≡ n -ℤ pos 1 → Decides ComparisonOperator.Lt (whole n) (Sieve.Within least m)
lt_decided n m is =
    let less : m <ℤ n = omega (arith, ints, is) in
    let next : n ≤ℤ (m +ℤ pos 1) = omega (arith, ints, is) in
    record { refutes = λ value rejected. lt_refuted n m value less next rejected; affirms = λ value passes. lt_affirmed n m least value less passes }

pub text_affirmed : {Z : Type 0} (only : String Z) (t : List ℕ) (value : Val) → string_bytes only ≡ t → (s : List ℕ) × (value ≡ text s) × (chars s ≡ chars (string_bytes only)) → AreEqual value (text t)
text_affirmed only t value copied (s, is, same) = subst (λ (v : Val). AreEqual v (text t)) (sym is) (same ∙ ap chars copied)

pub other_text_affirmed : {Z : Type 0} (other : String Z) (t : List ℕ) (value : Val) → string_bytes other ≡ t → (s : List ℕ) × (value ≡ text s) × (chars s ≢ chars (string_bytes other)) → ¬ AreEqual value (text t)
other_text_affirmed other t value copied (s, is, differ) equal = differ (subst (λ (v : Val). AreEqual v (text t)) is equal ∙ ap chars (sym copied))
