-- Numbers of enumerations: those of a type, and members that are read one after another.
use Rattle.std.proofs.Common.{◌≡◌, ◌∙◌, ℕ, ◌^◌, ◌<◌, ℤ, pos, negsuc, List, [], ◌∷◌, ◌++◌, map, Some, is_some, unwrap_or, Bool, true, false, ◌&&◌, nat_lt, Less, if◌then◌else◌, arith, refl, sym, ap, subst, append_assoc}
use Rattle.std.specs.Ordering.{nat_cmp}
use Rattle.std.specs.List.{AllByRecursion}
use Rattle.std.specs.List.Sorted.{IsStrictlySortedBy}
use Rattle.std.specs.Cmp.Lexicographic.{slice_cmp}
use Rattle.std.proofs.lemmas.Bool.{lt-ltb, ltb-true}
use Rattle.std.proofs.lemmas.Int.{ints}
use Rattle.serde_json.specs.Data.{Data}
use Rattle.edm_values.specs.declared.primitive.PrimitiveType.{PrimitiveType}
use Rattle.edm_values.specs.declared.primitive.PrimitiveType.TheVariants as prim
use Rattle.edm_values.specs.NumberTypes.{IsNumberOf}
use Rattle.edm_enumerations.specs.EnumerationModel.{EnumerationModel, MemberModel, number_in, with_member}
use Rattle.csdl_declarations.specs.EnumerationDeclaration.{declared_member, is_number_of, member_number}
use Rattle.csdl_declarations.specs.private.DocumentView.{AreNamesInOrder}
use Rattle.csdl_declarations.proofs.Reading.{unequal_later}

-- ---- numbers of a type

pub of_type : (t : PrimitiveType) (n : ℤ) → IsNumberOf t n → is_number_of t n ≡ true
of_type prim.Byte (pos m) is = lt-ltb m (2 ^ 8) (omega (arith, ints, is))
of_type prim.Byte (negsuc m) is = absurd (omega (arith, ints, is))
of_type prim.SByte (pos m) is = lt-ltb m (2 ^ 7) is.sfits
of_type prim.SByte (negsuc m) is = lt-ltb m (2 ^ 7) is.sfits
of_type prim.Int16 (pos m) is = lt-ltb m (2 ^ 15) is.sfits
of_type prim.Int16 (negsuc m) is = lt-ltb m (2 ^ 15) is.sfits
of_type prim.Int32 (pos m) is = lt-ltb m (2 ^ 31) is.sfits
of_type prim.Int32 (negsuc m) is = lt-ltb m (2 ^ 31) is.sfits
of_type prim.Int64 (pos m) is = lt-ltb m (2 ^ 63) is.sfits
of_type prim.Int64 (negsuc m) is = lt-ltb m (2 ^ 63) is.sfits
of_type prim.Bool n is = absurd is
of_type prim.String n is = absurd is
of_type prim.Date n is = absurd is
of_type prim.DateTimeOffset n is = absurd is
of_type prim.Guid n is = absurd is

never : {P : Type 0} (m : ℕ) → nat_lt m 0 ≡ true → P
never m below = let none : m < 0 = ltb-true m 0 below in absurd (omega arith)

pub from_type : (t : PrimitiveType) (n : ℤ) → is_number_of t n ≡ true → IsNumberOf t n
from_type prim.Byte (pos m) is = let below : m < 2 ^ 8 = ltb-true m (2 ^ 8) is in (omega (arith, ints), omega (arith, ints))
from_type prim.Byte (negsuc m) is = never m is
from_type prim.SByte (pos m) is = record { sfits = ltb-true m (2 ^ 7) is }
from_type prim.SByte (negsuc m) is = record { sfits = ltb-true m (2 ^ 7) is }
from_type prim.Int16 (pos m) is = record { sfits = ltb-true m (2 ^ 15) is }
from_type prim.Int16 (negsuc m) is = record { sfits = ltb-true m (2 ^ 15) is }
from_type prim.Int32 (pos m) is = record { sfits = ltb-true m (2 ^ 31) is }
from_type prim.Int32 (negsuc m) is = record { sfits = ltb-true m (2 ^ 31) is }
from_type prim.Int64 (pos m) is = record { sfits = ltb-true m (2 ^ 63) is }
from_type prim.Int64 (negsuc m) is = record { sfits = ltb-true m (2 ^ 63) is }
from_type prim.Bool (pos m) is = never m is
from_type prim.Bool (negsuc m) is = never m is
from_type prim.String (pos m) is = never m is
from_type prim.String (negsuc m) is = never m is
from_type prim.Date (pos m) is = never m is
from_type prim.Date (negsuc m) is = never m is
from_type prim.DateTimeOffset (pos m) is = never m is
from_type prim.DateTimeOffset (negsuc m) is = never m is
from_type prim.Guid (pos m) is = never m is
from_type prim.Guid (negsuc m) is = never m is

-- ---- members, one after another

abbrev name_of : MemberModel → List ℕ
name_of m = m.name

above_last : (first : List ℕ) (es : List MemberModel) (q : MemberModel) (qs : List MemberModel) → AllByRecursion (λ y. slice_cmp nat_cmp first y ≡ Less) (map name_of (es ++ q ∷ qs))
    → slice_cmp nat_cmp first q.name ≡ Less
above_last first [] q qs all = all.0
above_last first (e ∷ es) q qs all = above_last first es q qs all.1

-- where names rise, no earlier member has a later name
absent : (es : List MemberModel) (q : MemberModel) (qs : List MemberModel) → IsStrictlySortedBy (slice_cmp nat_cmp) (map name_of (es ++ q ∷ qs)) → is_some (number_in es q.name) ≡ false
unfolding IsStrictlySortedBy
absent [] q qs ordered = refl
absent (e ∷ es) q qs ordered = rw (unequal_later e.name q.name (above_last e.name es q qs ordered.0)) (absent es q qs ordered.1)

member_names : (t : PrimitiveType) (ms : List (List ℕ × Data)) → map name_of (map (declared_member t) ms) ≡ map (λ m. m.0) ms
member_names t [] = refl
member_names t (m ∷ ms) = ap (λ rest. m.0 ∷ rest) (member_names t ms)

-- what is read of the members, and those that are left
pub record IsReadSoFar (e : EnumerationModel) (t : PrimitiveType) (flags : Bool) (rest all : List (List ℕ × Data)) : Type 0 where
  pub type_of : e.underlying ≡ t
  pub flags_of : e.is_flags ≡ flags
  pub members_of : e.members ++ map (declared_member t) rest ≡ map (declared_member t) all

pub read_more : (e new : EnumerationModel) (t : PrimitiveType) (flags : Bool) (m : List ℕ × Data) (rest all : List (List ℕ × Data)) (name : List ℕ) (n : ℤ) → IsReadSoFar e t flags (m ∷ rest) all
    → AreNamesInOrder all → name ≡ m.0 → member_number t m ≡ Some n → new ≡ with_member e name n → IsReadSoFar new t flags rest all
read_more e new t flags m rest all name n s ordered named numbered added =
    let names : List (List ℕ) → Type 0 = λ ns. IsStrictlySortedBy (slice_cmp nat_cmp) ns in
    let rising = subst names (sym (ap (map name_of) s.members_of ∙ member_names t all)) ordered in
    let none : is_some (number_in e.members name) ≡ false = ap (λ k. is_some (number_in e.members k)) named ∙ absent e.members (declared_member t m) (map (declared_member t) rest) rising in
    let one : MemberModel = record { name = name; number = n } in
    let pushed : EnumerationModel = record e { members = e.members ++ one ∷ [] } in
    let is : new ≡ pushed = added ∙ ap (λ b. if b then e else pushed) none in
    let same : one ≡ declared_member t m = λ j. record { name = named j; number = unwrap_or (sym numbered j) (pos 0) } in
    subst (λ (k : EnumerationModel). IsReadSoFar k t flags rest all) (sym is) (record {
      type_of = s.type_of;
      flags_of = s.flags_of;
      members_of =
          append_assoc e.members (one ∷ []) (map (declared_member t) rest)
          ∙ ap (λ q. e.members ++ q ∷ map (declared_member t) rest) same
          ∙ s.members_of;
    })

-- ---- an enumeration's own shape

pub other_fails : (a b : Bool) → b ≡ false → (a && b) ≡ false
other_fails true b fails = fails
other_fails false b fails = refl
