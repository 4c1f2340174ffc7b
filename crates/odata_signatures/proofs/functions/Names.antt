-- Each function has a name of its own.
use Rattle.std.proofs.Common.{◌≡◌, ℕ, ◌<◌, lit<, sym, ap, refl, ◌∙◌, List, [], ◌∷◌, Option, Some, None, nat_eq, if◌then◌else◌, slice_index_or, map}
use Rattle.std.specs.Char.{to_ascii_lowercase}
use Rattle.std.specs.Str.{str_to_ascii_lowercase}
use Rattle.std.specs.Cmp.Lexicographic.{pointwise}
use Rattle.odata_signatures.specs.declared.function.Function.{Function}
use Rattle.odata_signatures.specs.Functions.{IsNamed, row_of}

-- all of them, in the order of the code's list
abbrev pub functions : List Function
functions =
    Function.Contains ∷ Function.StartsWith ∷ Function.EndsWith ∷ Function.Concat ∷ Function.Length ∷ Function.IndexOf ∷ Function.Substring
    ∷ Function.Trim
    ∷ Function.ToLower
    ∷ Function.ToUpper
    ∷ Function.Year
    ∷ Function.Month
    ∷ Function.Day
    ∷ Function.Hour
    ∷ Function.Minute
    ∷ Function.Second
    ∷ Function.TotalOffsetMinutes
    ∷ Function.Date
    ∷ Function.Now
    ∷ []

by_name : List Function → List ℕ → Option Function
by_name [] text = None
by_name (f ∷ fs) text = if pointwise nat_eq (row_of f).name text then Some f else by_name fs text

own : (f : Function) → by_name functions (row_of f).name ≡ Some f
unfolding by_name
own Function.Contains = refl
own Function.StartsWith = refl
own Function.EndsWith = refl
own Function.Concat = refl
own Function.Length = refl
own Function.IndexOf = refl
own Function.Substring = refl
own Function.Trim = refl
own Function.ToLower = refl
own Function.ToUpper = refl
own Function.Year = refl
own Function.Month = refl
own Function.Day = refl
own Function.Hour = refl
own Function.Minute = refl
own Function.Second = refl
own Function.TotalOffsetMinutes = refl
own Function.Date = refl
own Function.Now = refl

same_some : (f g : Function) → Some f ≡ Some g → f ≡ g
same_some f g e = cc

pub one_function : (f g : Function) (text : List ℕ) → IsNamed f text → IsNamed g text → f ≡ g
one_function f g text of_f of_g =
    same_some f g (sym (own f) ∙ ap (by_name functions) (of_f ∙ sym of_g) ∙ own g)

-- a text that is the name of none of the list is that of no function
pub nowhere : (text : List ℕ)
    → ((k : ℕ) (other : Function) → k < 19 → ¬ IsNamed (slice_index_or functions k other) text)
    → (f : Function) → ¬ IsNamed f text
nowhere text none Function.Contains = none 0 Function.Contains (lit< tt)
nowhere text none Function.StartsWith = none 1 Function.Contains (lit< tt)
nowhere text none Function.EndsWith = none 2 Function.Contains (lit< tt)
nowhere text none Function.Concat = none 3 Function.Contains (lit< tt)
nowhere text none Function.Length = none 4 Function.Contains (lit< tt)
nowhere text none Function.IndexOf = none 5 Function.Contains (lit< tt)
nowhere text none Function.Substring = none 6 Function.Contains (lit< tt)
nowhere text none Function.Trim = none 7 Function.Contains (lit< tt)
nowhere text none Function.ToLower = none 8 Function.Contains (lit< tt)
nowhere text none Function.ToUpper = none 9 Function.Contains (lit< tt)
nowhere text none Function.Year = none 10 Function.Contains (lit< tt)
nowhere text none Function.Month = none 11 Function.Contains (lit< tt)
nowhere text none Function.Day = none 12 Function.Contains (lit< tt)
nowhere text none Function.Hour = none 13 Function.Contains (lit< tt)
nowhere text none Function.Minute = none 14 Function.Contains (lit< tt)
nowhere text none Function.Second = none 15 Function.Contains (lit< tt)
nowhere text none Function.TotalOffsetMinutes = none 16 Function.Contains (lit< tt)
nowhere text none Function.Date = none 17 Function.Contains (lit< tt)
nowhere text none Function.Now = none 18 Function.Contains (lit< tt)

-- a name is in lower case
row_lower : (f : Function) → str_to_ascii_lowercase (row_of f).name ≡ (row_of f).name
row_lower Function.Contains = refl
row_lower Function.StartsWith = refl
row_lower Function.EndsWith = refl
row_lower Function.Concat = refl
row_lower Function.Length = refl
row_lower Function.IndexOf = refl
row_lower Function.Substring = refl
row_lower Function.Trim = refl
row_lower Function.ToLower = refl
row_lower Function.ToUpper = refl
row_lower Function.Year = refl
row_lower Function.Month = refl
row_lower Function.Day = refl
row_lower Function.Hour = refl
row_lower Function.Minute = refl
row_lower Function.Second = refl
row_lower Function.TotalOffsetMinutes = refl
row_lower Function.Date = refl
row_lower Function.Now = refl

-- so it names the function in any case
pub named_lower : (f : Function) (name asked : List ℕ) → IsNamed f name → map to_ascii_lowercase name ≡ map to_ascii_lowercase asked → IsNamed f (str_to_ascii_lowercase asked)
named_lower f name asked is same = sym (row_lower f) ∙ ap (λ (bs : List ℕ). str_to_ascii_lowercase bs) is ∙ same

pub lower_named : (f : Function) (name asked : List ℕ) → IsNamed f name → IsNamed f (str_to_ascii_lowercase asked) → map to_ascii_lowercase name ≡ map to_ascii_lowercase asked
lower_named f name asked is named = ap (λ (bs : List ℕ). str_to_ascii_lowercase bs) (sym is) ∙ row_lower f ∙ named
