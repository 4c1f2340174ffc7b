-- Numbers of a type, joined bit by bit, are of that type.
use Rattle.std.proofs.Common.{◌≡◌, ℕ, suc, ◌-◌, ◌<◌, ◌≤◌, ◌^◌, ℤ, pos, negsuc, arith, sym, subst, lit<, lit≤}
use Rattle.std.specs.Int.{w64, int_bit_or, cast_signed}
use Rattle.std.specs.Prelude.{bit_or}
use Rattle.std.specs.Int.Signed.{mag}
use Rattle.std.proofs.Math.Facts.{to_z-neg}
use Rattle.std.proofs.lemmas.Int.{ints, to_z_pos}
use Rattle.std.proofs.lemmas.Nat.{or_lt, le_or_l, le_or_r}
use Rattle.edm_values.specs.declared.primitive.PrimitiveType.{PrimitiveType}
use Rattle.edm_values.specs.declared.primitive.PrimitiveType.TheVariants as type
use Rattle.edm_values.specs.NumberTypes.{IsNumberType, IsNumberOf}

-- the number of bits that begin with as many ones as those of a negative number
negative : (h : ℕ) → 2 ^ h ≤ 2 ^ 63 → (m k : ℕ) → m < 2 ^ h → 2 ^ 64 - suc m ≤ k → k < 2 ^ 64 → mag (cast_signed w64 k) < 2 ^ h
negative h small m k below from fits =
    let same : k ≡ 2 ^ 64 - suc (2 ^ 64 - suc k) = omega arith in
    subst (λ (x : ℕ). mag (cast_signed w64 x) < 2 ^ h) (sym same)
    (subst (λ (z : ℤ). mag z < 2 ^ h) (sym (to_z-neg w64 (2 ^ 64 - suc k) (omega arith))) (omega arith))

-- two numbers of so many bits, joined
or_bits : (h : ℕ) → 2 ^ h ≤ 2 ^ 63 → (a b : ℤ) → mag a < 2 ^ h → mag b < 2 ^ h → mag (int_bit_or w64 a b) < 2 ^ h
or_bits h small (pos m) (pos n) first second =
    let below : bit_or m n < 2 ^ h = or_lt h m n first second in
    subst (λ (z : ℤ). mag z < 2 ^ h) (sym (to_z_pos w64 (bit_or m n) (omega arith))) below
or_bits h small (pos m) (negsuc n) first second =
    negative h small n (bit_or m (2 ^ 64 - suc n)) second (le_or_r m (2 ^ 64 - suc n)) (or_lt 64 m (2 ^ 64 - suc n) (omega arith) (omega arith))
or_bits h small (negsuc m) (pos n) first second =
    negative h small m (bit_or (2 ^ 64 - suc m) n) first (le_or_l (2 ^ 64 - suc m) n) (or_lt 64 (2 ^ 64 - suc m) n (omega arith) (omega arith))
or_bits h small (negsuc m) (negsuc n) first second =
    negative h small m (bit_or (2 ^ 64 - suc m) (2 ^ 64 - suc n)) first (le_or_l (2 ^ 64 - suc m) (2 ^ 64 - suc n))
    (or_lt 64 (2 ^ 64 - suc m) (2 ^ 64 - suc n) (omega arith) (omega arith))

or_bytes : (a b : ℤ) → IsNumberOf type.Byte a → IsNumberOf type.Byte b → IsNumberOf type.Byte (int_bit_or w64 a b)
or_bytes (pos m) (pos n) first second =
    let below : bit_or m n < 2 ^ 8 = or_lt 8 m n (omega (arith, ints, first)) (omega (arith, ints, second)) in
    subst (λ (z : ℤ). IsNumberOf type.Byte z) (sym (to_z_pos w64 (bit_or m n) (omega arith))) (omega (arith, ints), omega (arith, ints, below))
or_bytes (pos m) (negsuc n) first second = absurd (omega (arith, ints, second))
or_bytes (negsuc m) b first second = absurd (omega (arith, ints, first))

-- zero is of each number type
pub zero_within : (t : PrimitiveType) → IsNumberType t → IsNumberOf t (pos 0)
zero_within type.Byte is = (omega (arith, ints), omega (arith, ints))
zero_within type.SByte is = record { sfits = lit< tt }
zero_within type.Int16 is = record { sfits = lit< tt }
zero_within type.Int32 is = record { sfits = lit< tt }
zero_within type.Int64 is = record { sfits = lit< tt }
zero_within type.Bool is = absurd is
zero_within type.String is = absurd is
zero_within type.Date is = absurd is
zero_within type.DateTimeOffset is = absurd is
zero_within type.Guid is = absurd is

pub or_within : (t : PrimitiveType) (a b : ℤ) → IsNumberOf t a → IsNumberOf t b → IsNumberOf t (int_bit_or w64 a b)
or_within type.Byte a b first second = or_bytes a b first second
or_within type.SByte a b first second = record { sfits = or_bits 7 (lit≤ tt) a b first.sfits second.sfits }
or_within type.Int16 a b first second = record { sfits = or_bits 15 (lit≤ tt) a b first.sfits second.sfits }
or_within type.Int32 a b first second = record { sfits = or_bits 31 (lit≤ tt) a b first.sfits second.sfits }
or_within type.Int64 a b first second = record { sfits = or_bits 63 (lit≤ tt) a b first.sfits second.sfits }
or_within type.Bool a b first second = absurd first
or_within type.String a b first second = absurd first
or_within type.Date a b first second = absurd first
or_within type.DateTimeOffset a b first second = absurd first
or_within type.Guid a b first second = absurd first
