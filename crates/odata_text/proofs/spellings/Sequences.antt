-- The length of a piece that is made of two, from the lengths of these.
use Rattle.std.proofs.Common.{max}
use Rattle.std.proofs.lemmas.List.{drop-take}
use Rattle.odata_text.proofs.Common.{fold, fold-append, ◌≡◌, ◌⊎◌, inl, inr, ⊎_elim, ℕ, zero, suc, ◌+◌, ◌-◌, ◌<◌, ◌≤◌, Bool, true, false, not, List, [], ◌∷◌, ◌++◌, length, get_or, take, drop, arith, refl, sym, ◌∙◌, ap, subst, length-append, length-drop, add-zero, take-append-drop, list_all, cases_eq, cases_lt, false≢true, nat_tests, take_at, drop_at, take-take, get_or-take, get_or-drop, take_rest, length-take-le, IsReach, FollowedBy, AllPass-from_list_all, both_length}

-- a fold over a front is one over a shorter front, and on from there
pub fold-take : {A B : Type 0} (f : B → A → B) (a : B) (xs : List A) (i m : ℕ) → i ≤ m → fold f a (take m xs) ≡ fold f (fold f a (take i xs)) (drop i (take m xs))
fold-take {A} f a xs i m order =
    sym (ap (fold f a) (take-append-drop i (take m xs))) ∙ fold-append f a (take i (take m xs)) (drop i (take m xs)) ∙ ap (λ (front : List A). fold f (fold f a front) (drop i (take m xs))) (take-take i m xs order)

-- Lengths by one spelling.

-- what is left of a text after its first bytes
pub left_of : (text bytes : List ℕ) (n : ℕ) → bytes ≡ text → take (length bytes - n) (drop n bytes) ≡ drop n text
left_of text bytes n same = take_rest bytes n ∙ ap (drop n) same

-- a length measured by one spelling is that of an equal one
pub reach-as : (P Q : List ℕ → Type 0) (n : ℕ) (rest : List ℕ) → ((xs : List ℕ) → P xs → Q xs) → ((xs : List ℕ) → Q xs → P xs) → IsReach P n rest → IsReach Q n rest
reach-as P Q n rest to from reach = record {
  within = reach.within;
  found = λ positive. to (take n rest) (reach.found positive);
  reaches = λ m inside spelled. reach.reaches m inside (from (take m rest) spelled);
}

-- of what may be nothing
pub always-found : (P : List ℕ → Type 0) (n : ℕ) (rest : List ℕ) → P [] → IsReach P n rest → P (take n rest)
always-found P n rest empty reach = ⊎_elim (λ none. subst (λ (k : ℕ). P (take k rest)) (sym none) empty) (λ some. reach.found (omega arith)) (cases_eq n 0)

-- no more than nothing is spelled so
pub reach-nothing : (P : List ℕ → Type 0) (rest : List ℕ) → ((m : ℕ) → m ≤ length rest → P (take m rest) → m ≤ 0) → IsReach P 0 rest
reach-nothing P rest none = record { within = omega arith; found = λ positive. absurd (omega arith); reaches = none }

-- all that is spelled so is as long
pub reach-sized : (P : List ℕ → Type 0) (n : ℕ) (rest : List ℕ) → ((xs : List ℕ) → P xs → length xs ≡ n) → n ≤ length rest → P (take n rest) → IsReach P n rest
reach-sized P n rest sized inside spelled = record {
  within = inside;
  found = λ positive. spelled;
  reaches = λ m within other. let size = sized (take m rest) other in let taken = length-take-le m rest within in omega arith;
}

pub reach-unsized : (P : List ℕ → Type 0) (n : ℕ) (rest : List ℕ) → ((xs : List ℕ) → P xs → length xs ≡ n) → (n ≤ length rest → P (take n rest) → ⊥) → IsReach P 0 rest
reach-unsized P n rest sized none = reach-nothing P rest (λ m within other.
    let size = sized (take m rest) other in
    let taken = length-take-le m rest within in
    let here : m ≡ n = omega arith in
    absurd (none (omega arith) (subst (λ (k : ℕ). P (take k rest)) here other)))

-- the longer of two
pub reach-either : (P Q : List ℕ → Type 0) (rest : List ℕ) (p q n : ℕ) → IsReach P p rest → IsReach Q q rest → n ≡ max p q → IsReach (λ xs. P xs ⊎ Q xs) n rest
reach-either P Q rest p q n first second is =
    let one = first.within in
    let two = second.within in
    record {
      within = omega arith;
      found = λ positive. ⊎_elim
          (λ below. let here : q ≡ n = omega arith in inr (subst (λ (k : ℕ). Q (take k rest)) here (second.found (omega arith))))
          (λ above. let here : p ≡ n = omega arith in inl (subst (λ (k : ℕ). P (take k rest)) here (first.found (omega arith))))
          (cases_lt p q);
      reaches = λ m inside spelled. ⊎_elim
          (λ left. let most = first.reaches m inside left in omega arith)
          (λ right. let most = second.reaches m inside right in omega arith)
          spelled;
    }

-- Two pieces at the front of a text.

pub record IsPairAt (A B : List ℕ → Type 0) (rest : List ℕ) (m : ℕ) : Type 0 where
  pub first : ℕ
  pub second : ℕ
  pub size : m ≡ first + second
  pub is_first : A (take first rest)
  pub is_second : B (take second (drop first rest))

pub pair_at : (A B : List ℕ → Type 0) (rest : List ℕ) (m : ℕ) → m ≤ length rest → FollowedBy A B (take m rest) → IsPairAt A B rest m
pair_at A B rest m inside pair =
    let k = length pair.front in
    let j = length pair.back in
    let size : length (take m rest) ≡ m = length-take-le m rest inside in
    let sum : k + j ≡ m = sym (length-append pair.front pair.back) ∙ sym (ap length pair.whole) ∙ size in
    let front : take k rest ≡ pair.front = sym (take-take k m rest (omega arith)) ∙ ap (take k) pair.whole ∙ take_at pair.front pair.back k refl in
    let back : take j (drop k rest) ≡ pair.back = sym (drop-take k j rest) ∙ ap (λ (n : ℕ). drop k (take n rest)) sum ∙ ap (drop k) pair.whole ∙ drop_at pair.front pair.back k refl in
    record {
      first = k;
      second = j;
      size = sym sum;
      is_first = subst A (sym front) pair.is_front;
      is_second = subst B (sym back) pair.is_back;
    }

pub pair-found : (A B : List ℕ → Type 0) (rest : List ℕ) (a b : ℕ) → A (take a rest) → B (take b (drop a rest)) → FollowedBy A B (take (a + b) rest)
pair-found A B rest a b first second = record {
  front = take a rest;
  back = take b (drop a rest);
  whole = sym (take-append-drop a (take (a + b) rest)) ∙ ap (λ (xs : List ℕ). xs ++ drop a (take (a + b) rest)) (take-take a (a + b) rest (omega arith)) ∙ ap (λ (xs : List ℕ). take a rest ++ xs) (drop-take a b rest);
  is_front = first;
  is_back = second;
}

-- where two pieces are nothing, each of them is
pub pair-empty : (A B : List ℕ → Type 0) → FollowedBy A B [] → A [] × B []
pair-empty A B pair = parts pair.front pair.back pair.whole pair.is_front pair.is_back
  where
    parts : (front back : List ℕ) → [] ≡ front ++ back → A front → B back → A [] × B []
    parts [] [] none first second = (first, second)
    parts [] (b ∷ bs) none first second = cc
    parts (b ∷ bs) back none first second = cc

-- a first piece that a second follows is the longest there is
pub record IsExact (A B : List ℕ → Type 0) (a : ℕ) (rest : List ℕ) : Type 0 where
  pub exact : (k m : ℕ) → k + m ≤ length rest → A (take k rest) → B (take m (drop k rest)) → k ≡ a

-- all first pieces are as long
pub exact-sized : (A B : List ℕ → Type 0) (n a : ℕ) (rest : List ℕ) → ((xs : List ℕ) → A xs → length xs ≡ n) → IsReach A a rest → 0 < a → IsExact A B a rest
exact-sized A B n a rest sized reach some =
    let size = sized (take a rest) (reach.found some) in
    let taken = length-take-le a rest reach.within in
    record {
      exact = λ k m inside first second.
          let other = sized (take k rest) first in
          let other_taken = length-take-le k rest (omega arith) in
          omega arith;
    }

-- there is a first byte, and it does not pass
abbrev pub stops : (ℕ → Bool) → List ℕ → Bool
stops p [] = false
stops p (b ∷ bs) = not (p b)

-- the first byte of a second piece stands nowhere in a first
pub exact-by_byte : (A B : List ℕ → Type 0) (p : ℕ → Bool) (a : ℕ) (rest : List ℕ) → IsReach A a rest → ((xs : List ℕ) → A xs → list_all p xs ≡ true) → ((ys : List ℕ) → B ys → stops p ys ≡ true)
    → IsExact A B a rest
exact-by_byte A B p a rest reach passes starts = record {
  exact = λ k m inside first second.
      let most = reach.reaches k (omega arith) first in
      ⊎_elim
      (λ below.
      let taken = length-take-le a rest reach.within in
      let here = AllPass-from_list_all p (take a rest) (passes (take a rest) (reach.found (omega arith))) k 0 (omega arith) in
      let byte : get_or (take a rest) k 0 ≡ get_or (drop k rest) 0 0 = get_or-take a rest k 0 below ∙ sym (get_or-drop k rest 0 0 ∙ ap (λ (i : ℕ). get_or rest i 0) (add-zero k)) in
      absurd (front (drop k rest) m (starts (take m (drop k rest)) second) (sym (ap p byte) ∙ here)))
      (λ reached. omega arith)
      (cases_lt k a);
}
  where
    front : (ys : List ℕ) (j : ℕ) → stops p (take j ys) ≡ true → p (get_or ys 0 0) ≡ true → ⊥
    front ys zero stopped passed = false≢true stopped
    front [] (suc j) stopped passed = false≢true stopped
    front (y ∷ ys) (suc j) stopped passed = false≢true (sym (ap not passed) ∙ stopped)

-- two pieces, neither of them empty, of which the first ends where the longest does
pub record ArePieces (A B : List ℕ → Type 0) : Type 0 where
  pub no_first : A [] → ⊥
  pub no_second : B [] → ⊥
  pub exact : (a : ℕ) (rest : List ℕ) → IsReach A a rest → 0 < a → IsExact A B a rest

pub pieces-sized : (A B : List ℕ → Type 0) (n : ℕ) → ((xs : List ℕ) → A xs → length xs ≡ suc n) → (B [] → ⊥) → ArePieces A B
pieces-sized A B n sized no_second = record {
  no_first = λ first. let size = sized [] first in absurd (omega arith);
  no_second = no_second;
  exact = λ a rest reach some. exact-sized A B (suc n) a rest sized reach some;
}

pub pieces-by_byte : (A B : List ℕ → Type 0) (p : ℕ → Bool) → (A [] → ⊥) → ((xs : List ℕ) → A xs → list_all p xs ≡ true) → ((ys : List ℕ) → B ys → stops p ys ≡ true) → ArePieces A B
pieces-by_byte A B p no_first passes starts = record {
  no_first = no_first;
  no_second = λ second. false≢true (starts [] second);
  exact = λ a rest reach some. exact-by_byte A B p a rest reach passes starts;
}

-- Their length.

-- no first piece, or no second after it
followed-none : (A B : List ℕ → Type 0) (rest : List ℕ) → ((k j : ℕ) → k + j ≤ length rest → A (take k rest) → B (take j (drop k rest)) → ⊥) → IsReach (FollowedBy A B) 0 rest
followed-none A B rest none = reach-nothing (FollowedBy A B) rest (λ m inside pair.
    let parts = pair_at A B rest m inside pair in
    let size = parts.size in
    absurd (none parts.first parts.second (omega arith) parts.is_first parts.is_second))

-- both
pub followed-both : (A B : List ℕ → Type 0) (rest left : List ℕ) (a b : ℕ) → left ≡ drop a rest → A (take a rest) → B (take b left) → a ≤ length rest → IsExact A B a rest → IsReach B b left → IsReach (FollowedBy A B) (a + b) rest
followed-both A B rest left a b behind first second inside exact reach =
    let room = ap length behind ∙ length-drop a rest in
    let within = reach.within in
    record {
      within = omega arith;
      found = λ positive. pair-found A B rest a b first (subst (λ (xs : List ℕ). B (take b xs)) behind second);
      reaches = λ m inside pair.
          let parts = pair_at A B rest m inside pair in
          let size = parts.size in
          let here = exact.exact parts.first parts.second (omega arith) parts.is_first parts.is_second in
          let most = reach.reaches parts.second (omega arith) (subst (λ (xs : List ℕ). B (take parts.second xs)) (ap (λ (k : ℕ). drop k rest) here ∙ sym behind) parts.is_second) in
          omega arith;
    }

-- no piece is longer than 0, and none is empty
no_piece : (P : List ℕ → Type 0) (m n : ℕ) (rest : List ℕ) → (P [] → ⊥) → IsReach P n rest → n ≡ 0 → m ≤ length rest → P (take m rest) → ⊥
no_piece P m n rest nonempty reach none inside spelled =
    let most = reach.reaches m inside spelled in
    let here : m ≡ 0 = omega arith in
    nonempty (subst (λ (k : ℕ). P (take k rest)) here spelled)

pub followed-no_first : (A B : List ℕ → Type 0) (rest : List ℕ) (a : ℕ) → (A [] → ⊥) → IsReach A a rest → a ≡ 0 → IsReach (FollowedBy A B) 0 rest
followed-no_first A B rest a nonempty reach none = followed-none A B rest (λ k j inside first second. no_piece A k a rest nonempty reach none (omega arith) first)

pub followed-no_second : (A B : List ℕ → Type 0) (rest left : List ℕ) (a b : ℕ) → left ≡ drop a rest → (B [] → ⊥) → IsExact A B a rest → IsReach B b left → b ≡ 0 → IsReach (FollowedBy A B) 0 rest
followed-no_second A B rest left a b behind nonempty exact reach none =
    let room = ap length behind ∙ length-drop a rest in
    followed-none A B rest (λ k j inside first second.
    let here = exact.exact k j inside first second in
    no_piece B j b left nonempty reach none (omega arith) (subst (λ (xs : List ℕ). B (take j xs)) (ap (λ (n : ℕ). drop n rest) here ∙ sym behind) second))

-- as the code measures them: the second in what is left after the first
pub pair-reach : (A B : List ℕ → Type 0) → ArePieces A B → (rest left : List ℕ) (a b n : ℕ) → left ≡ drop a rest → IsReach A a rest → IsReach B b left → n ≡ both_length a b → IsReach (FollowedBy A B) n rest
pair-reach A B pieces rest left a b n behind first second is =
    ⊎_elim
    (λ none. let zero : 0 ≡ n = grind (arith, nat_tests) in subst (λ (k : ℕ). IsReach (FollowedBy A B) k rest) zero (followed-no_first A B rest a pieces.no_first first none))
    (λ some.
    let exact = pieces.exact a rest first (omega arith) in
    ⊎_elim
    (λ none. let zero : 0 ≡ n = grind (arith, nat_tests) in subst (λ (k : ℕ). IsReach (FollowedBy A B) k rest) zero (followed-no_second A B rest left a b behind pieces.no_second exact second none))
    (λ more.
    let both : a + b ≡ n = grind (arith, nat_tests) in
    subst (λ (k : ℕ). IsReach (FollowedBy A B) k rest) both (followed-both A B rest left a b behind (first.found (omega arith)) (second.found (omega arith)) first.within exact second))
    (cases_eq b 0))
    (cases_eq a 0)

-- Nothing, or a piece.

abbrev pub Perhaps : (List ℕ → Type 0) → List ℕ → Type 0
Perhaps P xs = (xs ≡ []) ⊎ P xs

pub perhaps-reach : (P : List ℕ → Type 0) (n : ℕ) (rest : List ℕ) → IsReach P n rest → IsReach (Perhaps P) n rest
perhaps-reach P n rest reach = record {
  within = reach.within;
  found = λ positive. inr (reach.found positive);
  reaches = λ m inside spelled. ⊎_elim
      (λ none. let size = length-take-le m rest inside in let empty = ap length none in omega arith)
      (λ some. reach.reaches m inside some)
      spelled;
}
