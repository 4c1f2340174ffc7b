-- The order of texts by their characters is that of their bytes.
use Rattle.std.proofs.Common.{◌≡◌, ◌↔◌, ℕ, Bool, true, IsTrue, ⊎_elim, List, [], ◌∷◌, ◌++◌, refl, sym, ap, subst, ◌∙◌}
use Rattle.std.proofs.Math.Utf8.{encode, encodes}
use Rattle.std.proofs.lemmas.Bool.{cases_order}
use Rattle.std.proofs.lemmas.Cmp.{nat_list_cmp_total}
use Rattle.std.proofs.lemmas.Str.{encodes-chars}
use Rattle.std.specs.Cmp.Lexicographic.{slice_cmp}
use Rattle.std.specs.Ordering.{nat_cmp, ordering_reverse, is_gt}
use Rattle.std.specs.Str.{IsUtf8, chars}
use Rattle.std.specs.declared.cmp.Ordering.{Ordering}
use Rattle.std.specs.declared.cmp.Ordering.TheVariants.{Less, Equal, Greater}
use Rattle.odata_functions.specs.Comparison.{text_cmp}
pub use Rattle.edm_values.proofs.SameTexts.{same_characters, same_test}
use Rattle.odata_functions.proofs.Encodings.{less_head, same_head, less_encoded, nothing_less}

greater_from_less : (xs ys : List ℕ) → slice_cmp nat_cmp ys xs ≡ Less → slice_cmp nat_cmp xs ys ≡ Greater
greater_from_less xs ys less = nat_list_cmp_total.antisymm xs ys ∙ ap ordering_reverse less

same_front : (front xs ys : List ℕ) → slice_cmp nat_cmp (front ++ xs) (front ++ ys) ≡ slice_cmp nat_cmp xs ys
same_front [] xs ys = refl
same_front (x ∷ front) xs ys = same_head x x (front ++ xs) (front ++ ys) refl ∙ same_front front xs ys

order_encoded : (cs ds : List ℕ) → slice_cmp nat_cmp (encodes cs) (encodes ds) ≡ slice_cmp nat_cmp cs ds
order_encoded [] [] = refl
order_encoded [] (d ∷ ds) = nothing_less d (encodes ds)
order_encoded (c ∷ cs) [] = greater_from_less (encodes (c ∷ cs)) [] (nothing_less c (encodes cs))
order_encoded (c ∷ cs) (d ∷ ds) = ⊎_elim
    (λ same. subst (λ (k : ℕ). slice_cmp nat_cmp (encode c ++ encodes cs) (encode k ++ encodes ds) ≡ slice_cmp nat_cmp (c ∷ cs) (k ∷ ds)) same
    (same_front (encode c) (encodes cs) (encodes ds) ∙ order_encoded cs ds ∙ sym (same_head c c cs ds refl)))
    (λ other. ⊎_elim
    (λ less. less_encoded c d (encodes cs) (encodes ds) less ∙ sym (less_head c d cs ds less))
    (λ more. greater_from_less (encodes (c ∷ cs)) (encodes (d ∷ ds)) (less_encoded d c (encodes ds) (encodes cs) more)
    ∙ sym (greater_from_less (c ∷ cs) (d ∷ ds) (less_head d c ds cs more)))
    other)
    (cases_order c d)

pub text_cmp-bytes : (s t : List ℕ) → IsUtf8 s → IsUtf8 t → text_cmp s t ≡ slice_cmp nat_cmp s t
text_cmp-bytes s t of_s of_t =
    sym (order_encoded (chars s) (chars t)) ∙ ap (λ (x : List ℕ). slice_cmp nat_cmp x (encodes (chars t))) (encodes-chars s of_s)
    ∙ ap (slice_cmp nat_cmp s) (encodes-chars t of_t)

pub only_greater : (o : Ordering) → is_gt o ≡ true → o ≡ Greater
only_greater Less is = cc
only_greater Equal is = cc
only_greater Greater is = refl

pub greater_test : (s t : List ℕ) (b : Bool) → IsUtf8 s → IsUtf8 t → b ≡ is_gt (slice_cmp nat_cmp s t) → IsTrue b ↔ (text_cmp s t ≡ Greater)
greater_test s t b of_s of_t reported = (
  λ is. text_cmp-bytes s t of_s of_t ∙ only_greater (slice_cmp nat_cmp s t) (sym reported ∙ is),
  λ greater. reported ∙ ap is_gt (sym (text_cmp-bytes s t of_s of_t) ∙ greater),
)
