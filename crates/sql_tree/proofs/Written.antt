-- What has been written, where writing succeeds.
use Rattle.std.proofs.Common.{◌≡◌, ◌∙◌, ℕ, List, [], ◌∷◌, ◌++◌, Result, Ok, Err, OnOk, refl, ap, append_assoc}
use Rattle.std.specs.Prelude.{if◌then◌else◌, is_ok}

-- a text, said in another way
pub pushed_as : {A E : Type 0} (r : Result A E) (before now text piece : List ℕ) → now ≡ (if is_ok r then before ++ text else before) → text ≡ piece → OnOk r (now ≡ before ++ piece)
pushed_as (Ok v) before now text piece given same = given ∙ ap (λ (xs : List ℕ). before ++ xs) same
pushed_as (Err e) before now text piece given same = tt

-- a text after another
pub joined : (before mid now start text whole : List ℕ) → now ≡ mid ++ text → mid ≡ before ++ start → start ++ text ≡ whole → now ≡ before ++ whole
joined before mid now start text whole given begun same =
    given ∙ ap (λ (xs : List ℕ). xs ++ text) begun ∙ append_assoc before start text ∙ ap (λ (xs : List ℕ). before ++ xs) same

pub pushed_more : {A E : Type 0} (r : Result A E) (before mid now start text whole : List ℕ) → now ≡ (if is_ok r then mid ++ text else mid) → mid ≡ before ++ start → start ++ text ≡ whole
    → OnOk r (now ≡ before ++ whole)
pushed_more (Ok v) before mid now start text whole given begun same = joined before mid now start text whole given begun same
pushed_more (Err e) before mid now start text whole given begun same = tt

pub written_more : {A E : Type 0} (r : Result A E) (before mid now start text whole : List ℕ) → OnOk r (now ≡ mid ++ text) → mid ≡ before ++ start → start ++ text ≡ whole
    → OnOk r (now ≡ before ++ whole)
written_more (Ok v) before mid now start text whole given begun same = joined before mid now start text whole given begun same
written_more (Err e) before mid now start text whole given begun same = tt

-- ---- several texts, one after another

abbrev pub all_from : List ℕ → List (List ℕ) → List ℕ
all_from first [] = first
all_from first (second ∷ more) = first ++ all_from second more

one_more : (first : List ℕ) (more : List (List ℕ)) (last : List ℕ) → all_from first more ++ last ≡ all_from first (more ++ last ∷ [])
one_more first [] last = refl
one_more first (second ∷ more) last = append_assoc first (all_from second more) last ∙ ap (λ (xs : List ℕ). first ++ xs) (one_more second more last)

pub then_text : (before mid now first : List ℕ) (more : List (List ℕ)) (last : List ℕ) → now ≡ mid ++ last → mid ≡ before ++ all_from first more → now ≡ before ++ all_from first (more ++ last ∷ [])
then_text before mid now first more last given begun = joined before mid now (all_from first more) last (all_from first (more ++ last ∷ [])) given begun (one_more first more last)

pub then_pushed : {A E : Type 0} (r : Result A E) (before mid now first : List ℕ) (more : List (List ℕ)) (last : List ℕ) → now ≡ (if is_ok r then mid ++ last else mid) → mid ≡ before ++ all_from first more
    → OnOk r (now ≡ before ++ all_from first (more ++ last ∷ []))
then_pushed r before mid now first more last given begun = pushed_more r before mid now (all_from first more) last (all_from first (more ++ last ∷ [])) given begun (one_more first more last)

pub then_written : {A E : Type 0} (r : Result A E) (before mid now first : List ℕ) (more : List (List ℕ)) (last : List ℕ) → OnOk r (now ≡ mid ++ last) → mid ≡ before ++ all_from first more
    → OnOk r (now ≡ before ++ all_from first (more ++ last ∷ []))
then_written r before mid now first more last given begun = written_more r before mid now (all_from first more) last (all_from first (more ++ last ∷ [])) given begun (one_more first more last)
