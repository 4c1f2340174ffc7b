-- A number of a type lies within every type to which that is promoted.
use Rattle.std.proofs.Common.{◌≡◌, ℤ, Bool, true, false, ◌||◌, Option, Some, None, IfSome, if◌then◌else◌, arith, subst}
use Rattle.std.proofs.lemmas.Int.{ints}
use Rattle.edm_values.specs.NumberTypes.{IsNumberType, IsNumberOf}
use Rattle.edm_values.specs.declared.primitive.PrimitiveType.{PrimitiveType}
use Rattle.edm_values.specs.declared.primitive.PrimitiveType.TheVariants as type
use Rattle.odata_functions.specs.Promotion.{is_int32, is_int64, wider_type, promotion, IsPromoted}

module _ (n : ℤ) where
  to_32 : IsNumberOf type.Int16 n → IsNumberOf type.Int32 n
  to_32 h = omega (arith, ints)

  to_64 : IsNumberOf type.Int32 n → IsNumberOf type.Int64 n
  to_64 h = omega (arith, ints)

  -- the type that the four tests choose
  abbrev Chosen : Bool → Bool → Type 0
  Chosen large middle = IsNumberOf (if large then type.Int64 else if middle then type.Int32 else type.Int16) n

  from_16 : (large middle : Bool) → IsNumberOf type.Int16 n → Chosen large middle
  from_16 true middle h = to_64 (to_32 h)
  from_16 false true h = to_32 h
  from_16 false false h = h

  from_32 : (large : Bool) → IsNumberOf type.Int32 n → Chosen large true
  from_32 true h = to_64 h
  from_32 false h = h

  pub left_within : (l : PrimitiveType) (r : Option PrimitiveType) → IsNumberType l → IsNumberOf l n → IsNumberOf (wider_type (Some l) r) n
  left_within type.Byte r is h = from_16 (is_int64 r) (is_int32 r) (omega (arith, ints))
  left_within type.SByte r is h = from_16 (is_int64 r) (is_int32 r) (omega (arith, ints))
  left_within type.Int16 r is h = from_16 (is_int64 r) (is_int32 r) h
  left_within type.Int32 r is h = from_32 (is_int64 r) h
  left_within type.Int64 r is h = h
  left_within type.Bool r is h = absurd is
  left_within type.String r is h = absurd is
  left_within type.Date r is h = absurd is
  left_within type.DateTimeOffset r is h = absurd is
  left_within type.Guid r is h = absurd is

  -- the same of the right type, with the left one's tests
  behind : (large middle : Bool) (r : PrimitiveType) → IsNumberType r → IsNumberOf r n
      → Chosen (large || is_int64 (Some r)) (middle || is_int32 (Some r))
  behind true middle type.Byte is h = to_64 (to_32 (omega (arith, ints)))
  behind true middle type.SByte is h = to_64 (to_32 (omega (arith, ints)))
  behind true middle type.Int16 is h = to_64 (to_32 h)
  behind true middle type.Int32 is h = to_64 h
  behind true middle type.Int64 is h = h
  behind false true type.Byte is h = to_32 (omega (arith, ints))
  behind false true type.SByte is h = to_32 (omega (arith, ints))
  behind false true type.Int16 is h = to_32 h
  behind false true type.Int32 is h = h
  behind false true type.Int64 is h = h
  behind false false type.Byte is h = omega (arith, ints)
  behind false false type.SByte is h = omega (arith, ints)
  behind false false type.Int16 is h = h
  behind false false type.Int32 is h = h
  behind false false type.Int64 is h = h
  behind large middle type.Bool is h = absurd is
  behind large middle type.String is h = absurd is
  behind large middle type.Date is h = absurd is
  behind large middle type.DateTimeOffset is h = absurd is
  behind large middle type.Guid is h = absurd is

  right_within : (l : Option PrimitiveType) (r : PrimitiveType) → IsNumberType r → IsNumberOf r n → IsNumberOf (wider_type l (Some r)) n
  right_within l r is h = behind (is_int64 l) (is_int32 l) r is h

chosen_promoted : (large middle : Bool) → IsPromoted (if large then type.Int64 else if middle then type.Int32 else type.Int16)
chosen_promoted true middle = tt
chosen_promoted false true = tt
chosen_promoted false false = tt

wider_promoted : (l r : Option PrimitiveType) → IsPromoted (wider_type l r)
wider_promoted l r = chosen_promoted (is_int64 l || is_int64 r) (is_int32 l || is_int32 r)

-- the same, where the promotion is there
pub right_promoted : (l : Option PrimitiveType) (r t : PrimitiveType) (n : ℤ) → IsNumberType r → promotion l (Some r) ≡ Some t
    → IsNumberOf r n → IsNumberOf t n
right_promoted None r t n is same h = subst (λ (o : Option PrimitiveType). IfSome o (λ k. IsNumberOf k n)) same (right_within n None r is h)
right_promoted (Some l) r t n is same h = subst (λ (o : Option PrimitiveType). IfSome o (λ k. IsNumberOf k n)) same (right_within n (Some l) r is h)

pub promotion_promoted : (l r : Option PrimitiveType) (t : PrimitiveType) → promotion l r ≡ Some t → IsPromoted t
promotion_promoted None None t same = absurd (cc same)
promotion_promoted None (Some r) t same = subst (λ (o : Option PrimitiveType). IfSome o IsPromoted) same (wider_promoted None (Some r))
promotion_promoted (Some l) r t same = subst (λ (o : Option PrimitiveType). IfSome o IsPromoted) same (wider_promoted (Some l) r)
