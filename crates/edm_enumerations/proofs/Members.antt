-- Members by name, as the map of the code keeps them.
use Rattle.std.proofs.Common.{◌≡◌, ℕ, ℤ, List, [], ◌∷◌, ◌++◌, map, Option, Some, None, IfSome, nat_eq, refl, ap, String, string_bytes, cond, Bool, true, false, is_some, sym, if◌then◌else◌}
use Rattle.std.specs.declared.alloc.Global.{Global}
use Rattle.std.specs.Cmp.Lexicographic.{pointwise}
use Rattle.std.specs.List.{AllByRecursion}
use Rattle.edm_enumerations.specs.EnumerationModel.{EnumerationModel, number_in, with_member}
use Rattle.edm_enumerations.specs.private.Enumeration.{member_model}
use Rattle.std.specs.Map.{lookup}

-- the map finds what the members have
pub number_in-entries : (asked : List ℕ) (es : List (String Global × ℤ)) → number_in (map member_model es) asked ≡ lookup (λ k. pointwise nat_eq asked (string_bytes k)) es
number_in-entries asked [] = refl
number_in-entries asked (e ∷ es) = ap (cond (pointwise nat_eq asked (string_bytes e.0)) (Some e.1)) (number_in-entries asked es)

pub map-pushed : (es : List (String Global × ℤ)) (e : String Global × ℤ) → map member_model (es ++ e ∷ []) ≡ map member_model es ++ member_model e ∷ []
map-pushed [] e = refl
map-pushed (f ∷ es) e = ap (λ ms. member_model f ∷ ms) (map-pushed es e)

-- what holds of each item and of one more
pub each_pushed : {X : Type 0} (P : X → Type 0) (xs : List X) (x : X) → AllByRecursion P xs → P x → AllByRecursion P (xs ++ x ∷ [])
each_pushed P [] x all last = (last, tt)
each_pushed P (y ∷ ys) x all last = (all.0, each_pushed P ys x all.1 last)

picked : (P : ℤ → Type 0) (b : Bool) (n : ℤ) (o : Option ℤ) → P n → IfSome o P → IfSome (cond b (Some n) o) P
picked P true n o here later = here
picked P false n o here later = later

-- what holds of each entry's number holds of one that is found
pub each_found : (P : ℤ → Type 0) (test : String Global → Bool) (es : List (String Global × ℤ)) → AllByRecursion (λ e. P e.1) es → IfSome (lookup test es) P
each_found P test [] all = tt
each_found P test (e ∷ es) all = picked P (test e.0) e.1 (lookup test es) all.0 (each_found P test es all.1)

pub not_some : (o : Option ℤ) → is_some o ≡ false → o ≡ None
not_some None none = refl
not_some (Some n) none = cc

-- an enumeration with one member more
abbrev pub pushed_member : EnumerationModel → List ℕ → ℤ → EnumerationModel
pushed_member e name n = record e { members = e.members ++ record { name = name; number = n } ∷ [] }

-- a name that is there changes nothing
pub with_member-there : (e : EnumerationModel) (name : List ℕ) (n : ℤ) → is_some (number_in e.members name) ≡ true → e ≡ with_member e name n
with_member-there e name n there = ap (λ b. if b then e else (pushed_member e name n)) (sym there)

pub with_member-new : (e : EnumerationModel) (name : List ℕ) (n : ℤ) → is_some (number_in e.members name) ≡ false
    → pushed_member e name n ≡ with_member e name n
with_member-new e name n absent = ap (λ b. if b then e else (pushed_member e name n)) (sym absent)
