-- Members of the document's objects, and what they are by themselves (CSDL JSON 4.01, sections 2 to 4).
use Rattle.std.specs.Prelude.{ℕ, [], ◌∷◌, ◌||◌, ◌==◌, List, Bool, true, false, Option, Some, None, is_some, option_and_then, unwrap_or, if◌then◌else◌, map, nat_eq}
use Rattle.std.specs.Ordering.{nat_cmp}
use Rattle.std.specs.List.{list_any}
use Rattle.std.specs.List.Sorted.{IsStrictlySortedBy}
use Rattle.std.specs.Cmp.Lexicographic.{pointwise, slice_cmp}
use Rattle.serde_json.specs.Data.{Data, Members, no_members, member}
use Rattle.serde_json.specs.Find.{get, as_str, as_bool, as_object}

-- ---- names

abbrev pub begins_with_dollar : List ℕ → Bool
begins_with_dollar [] = false
begins_with_dollar (b ∷ bs) = b == 36

-- control information and annotations are read over: names that begin with `$` or hold `@`
abbrev pub is_read_over : List ℕ → Bool
is_read_over name = begins_with_dollar name || list_any (λ b. b == 64) name

-- ---- members

-- the members of an object that declare something, in their order
abbrev pub declared_among : Members → List (List ℕ × Data)
declared_among no_members = []
declared_among (member k d ms) = if is_read_over k then declared_among ms else (k, d) ∷ declared_among ms

-- of a value that is not an object, none
abbrev pub declared_of : Option Members → List (List ℕ × Data)
declared_of None = []
declared_of (Some ms) = declared_among ms

abbrev pub declared_in : Data → List (List ℕ × Data)
declared_in d = declared_of (as_object d)

-- the names of what an object declares rise in byte order
abbrev pub DeclaresInOrder : Data → Type 0
DeclaresInOrder d = IsStrictlySortedBy (slice_cmp nat_cmp) (map (λ m. m.0) (declared_in d))

abbrev pub is_object : Data → Bool
is_object d = is_some (as_object d)

-- the text that a member of an object is, if it is there and a text
abbrev pub text_at : List ℕ → Data → Option (List ℕ)
text_at name d = option_and_then as_str (get name d)

abbrev pub is_text : List ℕ → Option (List ℕ) → Bool
is_text wanted None = false
is_text wanted (Some text) = pointwise nat_eq text wanted

-- a member that is not there, or is a text
abbrev pub is_text_if_given : Option Data → Bool
is_text_if_given None = true
is_text_if_given (Some d) = is_some (as_str d)

-- a member that is not there, or is a truth value
abbrev pub is_truth_if_given : Option Data → Bool
is_truth_if_given None = true
is_truth_if_given (Some d) = is_some (as_bool d)

-- a truth value, by default false
abbrev pub is_true_at : List ℕ → Data → Bool
is_true_at name d = unwrap_or (option_and_then as_bool (get name d)) false
