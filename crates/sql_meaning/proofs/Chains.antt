-- Chains of codes, whichever two are looked up first.
use Rattle.std.proofs.Common.{◌≡◌, ◌<◌, ℕ, zero, suc, refl, arith}
use Rattle.sql_tree.specs.declared.look_up.LookUp.{LookUp}
use Rattle.sql_meaning.specs.Tables.{IsAssociative, looked_up}

-- a fact of each code
below_5 : (P : ℕ → Type 0) → P 0 → P 1 → P 2 → P 3 → P 4 → (n : ℕ) → n < 5 → P n
below_5 P a b c d e zero h = a
below_5 P a b c d e (suc zero) h = b
below_5 P a b c d e (suc (suc zero)) h = c
below_5 P a b c d e (suc (suc (suc zero))) h = d
below_5 P a b c d e (suc (suc (suc (suc zero)))) h = e
below_5 P a b c d e (suc (suc (suc (suc (suc n))))) h = absurd (omega (arith, h))

abbrev Regroups : LookUp → ℕ → ℕ → ℕ → Type 0
Regroups table a b c = looked_up table (looked_up table a b) c ≡ looked_up table a (looked_up table b c)

and_from_0 : (b : ℕ) → b < 5 → (c : ℕ) → c < 5 → Regroups LookUp.And 0 b c
and_from_0 = below_5 (λ b. (c : ℕ) → c < 5 → Regroups LookUp.And 0 b c)
    (below_5 (Regroups LookUp.And 0 0) refl refl refl refl refl)
    (below_5 (Regroups LookUp.And 0 1) refl refl refl refl refl)
    (below_5 (Regroups LookUp.And 0 2) refl refl refl refl refl)
    (below_5 (Regroups LookUp.And 0 3) refl refl refl refl refl)
    (below_5 (Regroups LookUp.And 0 4) refl refl refl refl refl)

and_from_1 : (b : ℕ) → b < 5 → (c : ℕ) → c < 5 → Regroups LookUp.And 1 b c
and_from_1 = below_5 (λ b. (c : ℕ) → c < 5 → Regroups LookUp.And 1 b c)
    (below_5 (Regroups LookUp.And 1 0) refl refl refl refl refl)
    (below_5 (Regroups LookUp.And 1 1) refl refl refl refl refl)
    (below_5 (Regroups LookUp.And 1 2) refl refl refl refl refl)
    (below_5 (Regroups LookUp.And 1 3) refl refl refl refl refl)
    (below_5 (Regroups LookUp.And 1 4) refl refl refl refl refl)

and_from_2 : (b : ℕ) → b < 5 → (c : ℕ) → c < 5 → Regroups LookUp.And 2 b c
and_from_2 = below_5 (λ b. (c : ℕ) → c < 5 → Regroups LookUp.And 2 b c)
    (below_5 (Regroups LookUp.And 2 0) refl refl refl refl refl)
    (below_5 (Regroups LookUp.And 2 1) refl refl refl refl refl)
    (below_5 (Regroups LookUp.And 2 2) refl refl refl refl refl)
    (below_5 (Regroups LookUp.And 2 3) refl refl refl refl refl)
    (below_5 (Regroups LookUp.And 2 4) refl refl refl refl refl)

and_from_3 : (b : ℕ) → b < 5 → (c : ℕ) → c < 5 → Regroups LookUp.And 3 b c
and_from_3 = below_5 (λ b. (c : ℕ) → c < 5 → Regroups LookUp.And 3 b c)
    (below_5 (Regroups LookUp.And 3 0) refl refl refl refl refl)
    (below_5 (Regroups LookUp.And 3 1) refl refl refl refl refl)
    (below_5 (Regroups LookUp.And 3 2) refl refl refl refl refl)
    (below_5 (Regroups LookUp.And 3 3) refl refl refl refl refl)
    (below_5 (Regroups LookUp.And 3 4) refl refl refl refl refl)

and_from_4 : (b : ℕ) → b < 5 → (c : ℕ) → c < 5 → Regroups LookUp.And 4 b c
and_from_4 = below_5 (λ b. (c : ℕ) → c < 5 → Regroups LookUp.And 4 b c)
    (below_5 (Regroups LookUp.And 4 0) refl refl refl refl refl)
    (below_5 (Regroups LookUp.And 4 1) refl refl refl refl refl)
    (below_5 (Regroups LookUp.And 4 2) refl refl refl refl refl)
    (below_5 (Regroups LookUp.And 4 3) refl refl refl refl refl)
    (below_5 (Regroups LookUp.And 4 4) refl refl refl refl refl)

pub and_regroups : IsAssociative LookUp.And
and_regroups a b c ha hb hc =
    below_5 (λ a. (b : ℕ) → b < 5 → (c : ℕ) → c < 5 → Regroups LookUp.And a b c)
    and_from_0 and_from_1 and_from_2 and_from_3 and_from_4 a ha b hb c hc

or_from_0 : (b : ℕ) → b < 5 → (c : ℕ) → c < 5 → Regroups LookUp.Or 0 b c
or_from_0 = below_5 (λ b. (c : ℕ) → c < 5 → Regroups LookUp.Or 0 b c)
    (below_5 (Regroups LookUp.Or 0 0) refl refl refl refl refl)
    (below_5 (Regroups LookUp.Or 0 1) refl refl refl refl refl)
    (below_5 (Regroups LookUp.Or 0 2) refl refl refl refl refl)
    (below_5 (Regroups LookUp.Or 0 3) refl refl refl refl refl)
    (below_5 (Regroups LookUp.Or 0 4) refl refl refl refl refl)

or_from_1 : (b : ℕ) → b < 5 → (c : ℕ) → c < 5 → Regroups LookUp.Or 1 b c
or_from_1 = below_5 (λ b. (c : ℕ) → c < 5 → Regroups LookUp.Or 1 b c)
    (below_5 (Regroups LookUp.Or 1 0) refl refl refl refl refl)
    (below_5 (Regroups LookUp.Or 1 1) refl refl refl refl refl)
    (below_5 (Regroups LookUp.Or 1 2) refl refl refl refl refl)
    (below_5 (Regroups LookUp.Or 1 3) refl refl refl refl refl)
    (below_5 (Regroups LookUp.Or 1 4) refl refl refl refl refl)

or_from_2 : (b : ℕ) → b < 5 → (c : ℕ) → c < 5 → Regroups LookUp.Or 2 b c
or_from_2 = below_5 (λ b. (c : ℕ) → c < 5 → Regroups LookUp.Or 2 b c)
    (below_5 (Regroups LookUp.Or 2 0) refl refl refl refl refl)
    (below_5 (Regroups LookUp.Or 2 1) refl refl refl refl refl)
    (below_5 (Regroups LookUp.Or 2 2) refl refl refl refl refl)
    (below_5 (Regroups LookUp.Or 2 3) refl refl refl refl refl)
    (below_5 (Regroups LookUp.Or 2 4) refl refl refl refl refl)

or_from_3 : (b : ℕ) → b < 5 → (c : ℕ) → c < 5 → Regroups LookUp.Or 3 b c
or_from_3 = below_5 (λ b. (c : ℕ) → c < 5 → Regroups LookUp.Or 3 b c)
    (below_5 (Regroups LookUp.Or 3 0) refl refl refl refl refl)
    (below_5 (Regroups LookUp.Or 3 1) refl refl refl refl refl)
    (below_5 (Regroups LookUp.Or 3 2) refl refl refl refl refl)
    (below_5 (Regroups LookUp.Or 3 3) refl refl refl refl refl)
    (below_5 (Regroups LookUp.Or 3 4) refl refl refl refl refl)

or_from_4 : (b : ℕ) → b < 5 → (c : ℕ) → c < 5 → Regroups LookUp.Or 4 b c
or_from_4 = below_5 (λ b. (c : ℕ) → c < 5 → Regroups LookUp.Or 4 b c)
    (below_5 (Regroups LookUp.Or 4 0) refl refl refl refl refl)
    (below_5 (Regroups LookUp.Or 4 1) refl refl refl refl refl)
    (below_5 (Regroups LookUp.Or 4 2) refl refl refl refl refl)
    (below_5 (Regroups LookUp.Or 4 3) refl refl refl refl refl)
    (below_5 (Regroups LookUp.Or 4 4) refl refl refl refl refl)

pub or_regroups : IsAssociative LookUp.Or
or_regroups a b c ha hb hc =
    below_5 (λ a. (b : ℕ) → b < 5 → (c : ℕ) → c < 5 → Regroups LookUp.Or a b c)
    or_from_0 or_from_1 or_from_2 or_from_3 or_from_4 a ha b hb c hc
