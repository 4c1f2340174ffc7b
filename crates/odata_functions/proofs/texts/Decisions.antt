-- Whether a text has a part, and where: every two lists of characters decide it.
use Rattle.std.proofs.Common.{◌≡◌, ◌↔◌, ◌⊎◌, inl, inr, ⊎_elim, ℕ, zero, suc, ◌<◌, ℤ, pos, negsuc, Bool, true, false, IsTrue, nat_eq, List, [], ◌∷◌, ◌++◌, length, arith, refl, sym, ap, ◌∙◌}
use Rattle.std.proofs.lemmas.Bool.{cases_order}
use Rattle.std.specs.Cmp.Lexicographic.{bytes_decides, pointwise}
use Rattle.odata_functions.specs.Texts.{HasEnd, HasPart, HasStart, IsPlaceOf, StandsBehind}
use Rattle.odata_functions.proofs.Decided.{Reported, never}

by_test : {P : Type 0} (b : Bool) → (IsTrue b ↔ P) → P ⊎ ¬ P
by_test true is = inl (is.0 refl)
by_test false is = inr (λ p. cc (is.1 p))

same_reported : {P Q : Type 0} → (P → Q) → (Q → P) → Reported P → Reported Q
same_reported to from (answer, is) = (answer, (λ yes. to (is.0 yes), λ q. is.1 (from q)))

always : {P : Type 0} → P → Reported P
always p = (true, (λ is. p, λ q. refl))

more_start : (c d : ℕ) (s t : List ℕ) → d ≡ c → HasStart s t → HasStart (d ∷ s) (c ∷ t)
more_start c d s t same (behind, e) = (behind, let f : d ∷ s ≡ c ∷ (t ++ behind) = cc in f)

less_start : (c d : ℕ) (s t : List ℕ) → HasStart (d ∷ s) (c ∷ t) → HasStart s t
less_start c d s t (behind, e) = (behind, let f : s ≡ t ++ behind = cc in f)

head_start : (c d : ℕ) (s t : List ℕ) → HasStart (d ∷ s) (c ∷ t) → d ≡ c
head_start c d s t (behind, e) = cc

apart : (c d : ℕ) → d < c → ¬ (d ≡ c)
apart c d less e = omega arith

apart' : (c d : ℕ) → c < d → ¬ (d ≡ c)
apart' c d less e = omega arith

pub start_reported : (s t : List ℕ) → Reported (HasStart s t)
start_reported s [] = always (s, refl)
start_reported [] (c ∷ t) = never (λ has. cc (has.1))
start_reported (d ∷ s) (c ∷ t) = ⊎_elim
    (λ same. same_reported (more_start c d s t same) (less_start c d s t) (start_reported s t))
    (λ other. ⊎_elim
    (λ less. never (λ has. apart c d less (head_start c d s t has)))
    (λ more. never (λ has. apart' c d more (head_start c d s t has)))
    other)
    (cases_order d c)

end_behind : (d : ℕ) (s t : List ℕ) → ¬ (d ∷ s ≡ t) → HasEnd (d ∷ s) t → HasEnd s t
end_behind d s t other ([], e) = absurd (other e)
end_behind d s t other (x ∷ before, e) = (before, let f : s ≡ before ++ t = cc in f)

end_before : (d : ℕ) (s t : List ℕ) → HasEnd s t → HasEnd (d ∷ s) t
end_before d s t (before, e) = (d ∷ before, ap (λ (l : List ℕ). d ∷ l) e)

none_end : (t before : List ℕ) → ¬ ([] ≡ t) → ¬ ([] ≡ before ++ t)
none_end t [] other e = other e
none_end t (x ∷ before) other e = cc

whole_or : (s t : List ℕ) → (s ≡ t) ⊎ ¬ (s ≡ t)
whole_or s t = by_test (pointwise nat_eq s t) (bytes_decides s t)

pub end_reported : (s t : List ℕ) → Reported (HasEnd s t)
end_reported [] t = ⊎_elim (λ same. always ([], same)) (λ other. never (λ has. none_end t has.0 other has.1)) (whole_or [] t)
end_reported (d ∷ s) t = ⊎_elim
    (λ same. always ([], same))
    (λ other. same_reported (end_before d s t) (end_behind d s t other) (end_reported s t))
    (whole_or (d ∷ s) t)

-- after nothing is at the start
at_start : (s t : List ℕ) → HasStart s t → StandsBehind s t 0
at_start s t (behind, e) = record { before = []; behind = behind; split = e; counted = refl }

none_before : (xs : List ℕ) → length xs ≡ 0 → xs ≡ []
none_before [] e = refl
none_before (x ∷ xs) e = absurd (omega arith)

start_of : (s t : List ℕ) → StandsBehind s t 0 → HasStart s t
start_of s t b = (b.behind, b.split ∙ ap (λ (x : List ℕ). x ++ (t ++ b.behind)) (none_before b.before b.counted))

one_behind : (d : ℕ) (s t : List ℕ) (n : ℕ) → StandsBehind s t n → StandsBehind (d ∷ s) t (suc n)
one_behind d s t n b = record {
  before = d ∷ b.before;
  behind = b.behind;
  split = ap (λ (l : List ℕ). d ∷ l) b.split;
  counted = ap (λ (k : ℕ). suc k) b.counted;
}

before_one : (d : ℕ) (s t before behind : List ℕ) (n : ℕ) → d ∷ s ≡ before ++ (t ++ behind) → length before ≡ suc n → StandsBehind s t n
before_one d s t [] behind n e size = absurd (omega arith)
before_one d s t (x ∷ before) behind n e size =
    record { before = before; behind = behind; split = let f : s ≡ before ++ (t ++ behind) = cc in f; counted = omega arith }

behind_one : (d : ℕ) (s t : List ℕ) (n : ℕ) → StandsBehind (d ∷ s) t (suc n) → StandsBehind s t n
behind_one d s t n b = before_one d s t b.before b.behind n b.split b.counted

-- the first index, or none
abbrev First : List ℕ → List ℕ → Type 0
First s t = ((n : ℕ) × StandsBehind s t n × ((k : ℕ) → k < n → ¬ StandsBehind s t k)) ⊎ ¬ HasPart s t

none_in_nothing : (t before behind : List ℕ) → ¬ HasStart [] t → ¬ ([] ≡ before ++ (t ++ behind))
none_in_nothing t [] behind other e = other (behind, e)
none_in_nothing t (x ∷ before) behind other e = cc

no_earlier : (d : ℕ) (s t : List ℕ) (n : ℕ) → ¬ HasStart (d ∷ s) t → ((k : ℕ) → k < n → ¬ StandsBehind s t k)
    → (k : ℕ) → k < suc n → ¬ StandsBehind (d ∷ s) t k
no_earlier d s t n other none zero less b = other (start_of (d ∷ s) t b)
no_earlier d s t n other none (suc k) less b = none k (omega arith) (behind_one d s t k b)

no_part : (d : ℕ) (s t : List ℕ) → ¬ HasStart (d ∷ s) t → ¬ HasPart s t → (n : ℕ) → ¬ StandsBehind (d ∷ s) t n
no_part d s t other none zero b = other (start_of (d ∷ s) t b)
no_part d s t other none (suc n) b = none (n, behind_one d s t n b)

of_reported : {P : Type 0} → Reported P → P ⊎ ¬ P
of_reported (true, is) = inl (is.0 refl)
of_reported (false, is) = inr (λ p. cc (is.1 p))

at_first : (s t : List ℕ) → HasStart s t → First s t
at_first s t has = inl (0, at_start s t has, λ k less b. omega arith)

further : (d : ℕ) (s t : List ℕ) → ¬ HasStart (d ∷ s) t → First s t → First (d ∷ s) t
further d s t other (inl (n, here, none)) = inl (suc n, one_behind d s t n here, no_earlier d s t n other none)
further d s t other (inr none) = inr (λ (n, b). no_part d s t other none n b)

pub first_place : (s t : List ℕ) → First s t
first_place [] t = ⊎_elim (at_first [] t) (λ other. inr (λ (n, b). none_in_nothing t b.before b.behind other b.split)) (of_reported (start_reported [] t))
first_place (d ∷ s) t = ⊎_elim (at_first (d ∷ s) t) (λ other. further d s t other (first_place s t)) (of_reported (start_reported (d ∷ s) t))

part_of_first : (s t : List ℕ) → First s t → Reported (HasPart s t)
part_of_first s t (inl (n, here, none)) = always (n, here)
part_of_first s t (inr none) = never none

pub part_reported : (s t : List ℕ) → Reported (HasPart s t)
part_reported s t = part_of_first s t (first_place s t)

place_of_first : (s t : List ℕ) → First s t → (n : ℤ) × IsPlaceOf s t n
place_of_first s t (inl (n, here, none)) = (pos n, (here, none))
place_of_first s t (inr none) = (negsuc 0, (refl, none))

pub place_there : (s t : List ℕ) → (n : ℤ) × IsPlaceOf s t n
place_there s t = place_of_first s t (first_place s t)

pub one_place : (s t : List ℕ) (n m : ℤ) → IsPlaceOf s t n → IsPlaceOf s t m → n ≡ m
one_place s t (pos n) (pos m) (a, first) (b, second) = ⊎_elim
    (λ same. ap (λ (k : ℕ). pos k) same)
    (λ other. ⊎_elim (λ less. absurd (second n less a)) (λ more. absurd (first m more b)) other)
    (cases_order n m)
one_place s t (pos n) (negsuc m) (a, first) (b, none) = absurd (none (n, a))
one_place s t (negsuc n) (pos m) (a, none) (b, second) = absurd (none (m, b))
one_place s t (negsuc n) (negsuc m) (a, none) (b, none') = ap (λ (k : ℕ). negsuc k) (a ∙ sym b)
