-- A text of another length is another word.
use Rattle.std.specs.Char.{to_ascii_lowercase}
use Rattle.std.specs.List.{list_all}
use Rattle.std.specs.Str.{str_eq_ignore_ascii_case, str_to_ascii_lowercase}
use Rattle.std.proofs.Common.{◌≡◌, refl, ap, sym, ◌∙◌, ℕ, List, [], ◌∷◌, length, Bool, true, false, None}
use Rattle.std.proofs.lemmas.Bool.{and_parts, false_from_ne_true}
use Rattle.std.proofs.lemmas.List.{length-map}
use Rattle.std.proofs.lemmas.Slice.Eq.{bytes_eq-Decides}
use Rattle.odata_syntax.specs.declared.parser.next_operator.Next.{Next}
use Rattle.odata_syntax.specs.private.Machine.{word_next}
use Rattle.odata_syntax.proofs.machine.Operators.{first_next, next_word, operators, word_next-first}

other_length : (text word : List ℕ) → (length text ≡ length word → ⊥) → str_eq_ignore_ascii_case text word ≡ false
other_length text word other =
    false_from_ne_true _ (λ same.
    let lower = (bytes_eq-Decides (str_to_ascii_lowercase text) (str_to_ascii_lowercase word)).0 same in
    other (sym (length-map text to_ascii_lowercase) ∙ ap length lower ∙ length-map word to_ascii_lowercase))

abbrev two_or_three : List ℕ → Bool
two_or_three (a ∷ b ∷ []) = true
two_or_three (a ∷ b ∷ c ∷ []) = true
two_or_three _ = false

other_word : (text word : List ℕ) → two_or_three word ≡ true → (length text ≡ 2 → ⊥) → (length text ≡ 3 → ⊥) → str_eq_ignore_ascii_case text word ≡ false
other_word text [] short two three = absurd (cc)
other_word text (a ∷ []) short two three = absurd (cc)
other_word text (a ∷ b ∷ []) short two three = other_length text (a ∷ b ∷ []) two
other_word text (a ∷ b ∷ c ∷ []) short two three = other_length text (a ∷ b ∷ c ∷ []) three
other_word text (a ∷ b ∷ c ∷ d ∷ more) short two three = absurd (cc)

none_of_them : (text : List ℕ) (xs : List Next) → list_all (λ x. two_or_three (next_word x)) xs ≡ true → (length text ≡ 2 → ⊥) → (length text ≡ 3 → ⊥) → first_next xs text ≡ None
unfolding first_next
none_of_them text [] short two three = refl
none_of_them text (x ∷ xs) short two three =
    let parts = and_parts (two_or_three (next_word x)) (list_all (λ (y : Next). two_or_three (next_word y)) xs) short in
    rw (other_word text (next_word x) parts.0 two three) (none_of_them text xs parts.1 two three)

-- every word after an operand has two letters or three
pub next_other : (text : List ℕ) → (length text ≡ 2 → ⊥) → (length text ≡ 3 → ⊥) → word_next text ≡ None
unfolding operators next_word
next_other text two three = word_next-first text ∙ none_of_them text operators refl two three
