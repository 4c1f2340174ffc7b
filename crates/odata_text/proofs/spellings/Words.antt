-- Words, read identifier by identifier.
use Rattle.odata_text.proofs.Common.{AllOf, drop-drop, IsCharBoundary-from_rest, ◌≡◌, ◌⊎◌, inl, inr, ⊎_elim, ℕ, zero, suc, ◌+◌, ◌<◌, ◌≤◌, List, [], ◌∷◌, ◌++◌, length, get_or, take, drop, IsCharBoundary, arith, refl, sym, ◌∙◌, ap, subst, append_assoc, add-zero, length-drop, get_or-drop, length-take-le, IsIdentifier, IsReach, FollowedBy, IsByte, IsDottedWord, IsWordSpelling, dotted_parts, true}
use Rattle.odata_text.proofs.characters.Identifiers.{identifier-nonempty}
use Rattle.odata_text.proofs.characters.IdentifierBytes.{identifier-part, is_part_byte}
use Rattle.odata_text.proofs.spellings.Sequences.{exact-by_byte, pair-found, pair_at, reach-nothing, stops}

-- A word is one identifier, or one with a dot and a word after it.

abbrev pub DotAndWord : List ℕ → Type 0
DotAndWord xs = FollowedBy (IsByte 46) IsWordSpelling xs

-- of several parts
parts-pair : (xs part : List ℕ) (more : List (List ℕ)) → IsIdentifier part → AllOf IsIdentifier more → xs ≡ dotted_parts part more → 0 < length more → FollowedBy IsIdentifier DotAndWord xs
parts-pair xs part [] identifier all whole some = absurd (omega arith)
parts-pair xs part (next ∷ more) identifier all whole some = record {
  front = part;
  back = 46 ∷ dotted_parts next more;
  whole = whole;
  is_front = identifier;
  is_back = record { front = 46 ∷ []; back = dotted_parts next more; whole = refl; is_front = refl; is_back = record { part = next; more = more; identifier = all.0; identifiers = all.1; whole = refl } };
}

pub word-cases : (xs : List ℕ) → IsWordSpelling xs → IsIdentifier xs ⊎ FollowedBy IsIdentifier DotAndWord xs
word-cases xs word = parts word.part word.more word.identifier word.identifiers word.whole
  where
    parts : (part : List ℕ) (more : List (List ℕ)) → IsIdentifier part → AllOf IsIdentifier more → xs ≡ dotted_parts part more → IsIdentifier xs ⊎ FollowedBy IsIdentifier DotAndWord xs
    parts part [] identifier all whole = inl (subst IsIdentifier (sym whole) identifier)
    parts part (next ∷ more) identifier all whole = inr (parts-pair xs part (next ∷ more) identifier all whole (omega arith))

dotted_parts-push : (part : List ℕ) (more : List (List ℕ)) (next : List ℕ) → dotted_parts part more ++ 46 ∷ next ≡ dotted_parts part (more ++ next ∷ [])
dotted_parts-push part [] next = refl
dotted_parts-push part (first ∷ more) next =
    append_assoc part (46 ∷ dotted_parts first more) (46 ∷ next) ∙ ap (λ (ys : List ℕ). part ++ 46 ∷ ys) (dotted_parts-push first more next)

all-push : (more : List (List ℕ)) (next : List ℕ) → AllOf IsIdentifier more → IsIdentifier next → AllOf IsIdentifier (more ++ next ∷ [])
all-push [] next all identifier = (identifier, tt)
all-push (first ∷ more) next all identifier = (all.0, all-push more next all.1 identifier)

-- one identifier more
word-push : (xs : List ℕ) → FollowedBy IsWordSpelling (FollowedBy (IsByte 46) IsIdentifier) xs → IsWordSpelling xs
word-push xs pair =
    let word = pair.is_front in
    let next = pair.is_back in
    record {
      part = word.part;
      more = word.more ++ next.back ∷ [];
      identifier = word.identifier;
      identifiers = all-push word.more next.back word.identifiers next.is_back;
      whole = pair.whole
          ∙ ap (λ (ys : List ℕ). ys ++ pair.back) word.whole
          ∙ ap (λ (ys : List ℕ). dotted_parts word.part word.more ++ ys) (next.whole ∙ ap (λ (ys : List ℕ). ys ++ next.back) next.is_front)
          ∙ dotted_parts-push word.part word.more next.back;
    }

pub word-one : (xs : List ℕ) → IsIdentifier xs → IsWordSpelling xs
word-one xs identifier = record { part = xs; more = []; identifier = identifier; identifiers = tt; whole = refl }

-- Words at the front of a text.

dot-stops : (ys : List ℕ) → DotAndWord ys → stops is_part_byte ys ≡ true
dot-stops ys dot = ap (stops is_part_byte) (dot.whole ∙ ap (λ (zs : List ℕ). zs ++ dot.back) dot.is_front)

-- the word goes on after the first n bytes, with a dot and a word
pub record IsMore (rest : List ℕ) (n m : ℕ) : Type 0 where
  pub left : ℕ
  pub size : m ≡ n + 1 + left
  pub dot : get_or rest n 0 ≡ 46
  pub word : IsWordSpelling (take left (drop (n + 1) rest))

more-behind : (rest : List ℕ) (n j m : ℕ) → m ≡ n + j → DotAndWord (take j (drop n rest)) → IsMore rest n m
more-behind rest n j m size dot =
    let front = dot-front (drop n rest) j dot in
    record {
      left = front.0;
      size = omega (arith, front.1);
      dot = sym (get_or-drop n rest 0 0 ∙ ap (λ (i : ℕ). get_or rest i 0) (add-zero n)) ∙ front.2;
      word = subst (λ (xs : List ℕ). IsWordSpelling (take front.0 xs)) (drop-drop 1 n rest) front.3;
    }
  where
    dot-front : (ys : List ℕ) (k : ℕ) → DotAndWord (take k ys) → (i : ℕ) × (k ≡ suc i) × (get_or ys 0 0 ≡ 46) × IsWordSpelling (take i (drop 1 ys))
    dot-front ys zero dotted = let whole = dotted.whole ∙ ap (λ (zs : List ℕ). zs ++ dotted.back) dotted.is_front in cc
    dot-front [] (suc i) dotted = let whole = dotted.whole ∙ ap (λ (zs : List ℕ). zs ++ dotted.back) dotted.is_front in cc
    dot-front (y ∷ ys) (suc i) dotted =
        let whole : y ∷ take i ys ≡ 46 ∷ dotted.back = dotted.whole ∙ ap (λ (zs : List ℕ). zs ++ dotted.back) dotted.is_front in
        (i, refl, ap (λ (zs : List ℕ). get_or zs 0 0) whole, subst IsWordSpelling (sym (ap (drop 1) whole)) dotted.is_back)

-- the identifier of a word of several parts is the longest at the front
dot-behind : (rest : List ℕ) (n m : ℕ) → IsReach IsIdentifier n rest → m ≤ length rest → FollowedBy IsIdentifier DotAndWord (take m rest) → IsMore rest n m
dot-behind rest n m reach inside pair =
    let parts = pair_at IsIdentifier DotAndWord rest m inside pair in
    let size = parts.size in
    let exact = exact-by_byte IsIdentifier DotAndWord is_part_byte n rest reach identifier-part dot-stops in
    let here = exact.exact parts.first parts.second (omega arith) parts.is_first parts.is_second in
    more-behind rest n parts.second m (omega arith) (subst (λ (k : ℕ). DotAndWord (take parts.second (drop k rest))) here parts.is_second)

-- a word ends in the longest identifier at its front, or goes on after that
word-part : (rest : List ℕ) (n m : ℕ) → IsReach IsIdentifier n rest → m ≤ length rest → IsWordSpelling (take m rest) → (m ≤ n) ⊎ IsMore rest n m
word-part rest n m reach inside word =
    ⊎_elim
    (λ identifier. inl (reach.reaches m inside identifier))
    (λ pair. inr (dot-behind rest n m reach inside pair))
    (word-cases (take m rest) word)

-- no word begins where no identifier does
word-none : (rest : List ℕ) (m : ℕ) → IsReach IsIdentifier 0 rest → m ≤ length rest → IsWordSpelling (take m rest) → ⊥
word-none rest m reach inside word =
    ⊎_elim
    (λ identifier. none m inside identifier)
    (λ pair. let parts = pair_at IsIdentifier DotAndWord rest m inside pair in let size = parts.size in none parts.first (omega arith) parts.is_first)
    (word-cases (take m rest) word)
  where
    none : (k : ℕ) → k ≤ length rest → IsIdentifier (take k rest) → ⊥
    none k within identifier =
        let most = reach.reaches k within identifier in
        let some = identifier-nonempty (take k rest) identifier in
        let taken = length-take-le k rest within in
        omega arith

pub reach-no_word : (rest : List ℕ) → IsReach IsIdentifier 0 rest → IsReach IsWordSpelling 0 rest
reach-no_word rest reach = reach-nothing IsWordSpelling rest (λ m inside word. absurd (word-none rest m reach inside word))

-- n bytes are a word, and what is longer goes on after them
pub record IsWordSoFar (rest : List ℕ) (n : ℕ) : Type 0 where
  pub within : n ≤ length rest
  pub word : IsWordSpelling (take n rest)
  pub boundary : IsCharBoundary rest n
  pub reaches : (m : ℕ) → m ≤ length rest → IsWordSpelling (take m rest) → (m ≤ n) ⊎ IsMore rest n m

pub word-start : (rest : List ℕ) (n : ℕ) → IsReach IsIdentifier n rest → 0 < n → IsCharBoundary rest n → IsWordSoFar rest n
word-start rest n reach some boundary = record {
  within = reach.within;
  word = word-one (take n rest) (reach.found some);
  boundary = boundary;
  reaches = λ m inside word. word-part rest n m reach inside word;
}

-- the word does not go on
word-over : (rest : List ℕ) (n : ℕ) → IsWordSoFar rest n → ((m : ℕ) → m ≤ length rest → IsMore rest n m → ⊥) → IsReach IsWordSpelling n rest
word-over rest n so_far over = record {
  within = so_far.within;
  found = λ positive. so_far.word;
  reaches = λ m inside word. ⊎_elim (λ most. most) (λ more. absurd (over m inside more)) (so_far.reaches m inside word);
}

-- no dot stands after the word
pub word-end : (rest : List ℕ) (n : ℕ) → IsWordSoFar rest n → (n < length rest → get_or rest n 0 ≡ 46 → ⊥) → IsReach IsWordSpelling n rest
word-end rest n so_far dotless = word-over rest n so_far (λ m inside more. let size = more.size in dotless (omega arith) more.dot)

-- no identifier stands after the dot
pub word-dot : (rest : List ℕ) (n : ℕ) → IsWordSoFar rest n → IsReach IsIdentifier 0 (drop (n + 1) rest) → IsReach IsWordSpelling n rest
word-dot rest n so_far none = word-over rest n so_far (λ m inside more.
    let size = more.size in
    let room = length-drop (n + 1) rest in
    word-none (drop (n + 1) rest) more.left none (omega arith) more.word)

more-next : (rest : List ℕ) (n p m : ℕ) (more : IsMore rest n m) → IsMore (drop (n + 1) rest) p more.left → IsMore rest (n + (1 + p)) m
more-next rest n p m first more =
    let place : n + 1 + p ≡ n + (1 + p) = omega arith in
    let behind : n + 1 + (p + 1) ≡ n + (1 + p) + 1 = omega arith in
    record {
      left = more.left;
      size = omega (arith, first.size, more.size);
      dot = sym (get_or-drop (n + 1) rest p 0 ∙ ap (λ (i : ℕ). get_or rest i 0) place) ∙ more.dot;
      word = subst (λ (xs : List ℕ). IsWordSpelling (take more.left xs)) (drop-drop (p + 1) (n + 1) rest ∙ ap (λ (i : ℕ). drop i rest) behind) more.word;
    }

-- a dot and an identifier more
pub word-more : (rest : List ℕ) (n p : ℕ) → IsWordSoFar rest n → n < length rest → get_or rest n 0 ≡ 46 → IsReach IsIdentifier p (drop (n + 1) rest) → 0 < p → IsCharBoundary (drop (n + 1) rest) p
    → IsWordSoFar rest (n + (1 + p))
word-more rest n p so_far inside dot reach some boundary =
    let room = length-drop (n + 1) rest in
    let within = reach.within in
    let place : n + 1 + p ≡ n + (1 + p) = omega arith in
    let one = one-byte (drop n rest) 46 (omega (arith, length-drop n rest)) (get_or-drop n rest 0 0 ∙ ap (λ (i : ℕ). get_or rest i 0) (add-zero n) ∙ dot) in
    let next : IsIdentifier (take p (drop 1 (drop n rest))) = subst (λ (xs : List ℕ). IsIdentifier (take p xs)) (sym (drop-drop 1 n rest)) (reach.found some) in
    record {
      within = omega arith;
      word = word-push (take (n + (1 + p)) rest) (pair-found IsWordSpelling (FollowedBy (IsByte 46) IsIdentifier) rest n (1 + p) so_far.word (pair-found (IsByte 46) IsIdentifier (drop n rest) 1 p one next));
      boundary = subst (IsCharBoundary rest) place (IsCharBoundary-from_rest rest (n + 1) p (omega arith) boundary);
      reaches = λ m inside_m word. ⊎_elim (λ most. inl (omega arith))
          (λ more. let size = more.size in ⊎_elim (λ most. inl (omega arith)) (λ further. inr (more-next rest n p m more further))
          (word-part (drop (n + 1) rest) p more.left reach (omega arith) more.word))
          (so_far.reaches m inside_m word);
    }
  where
    one-byte : (xs : List ℕ) (b : ℕ) → 0 < length xs → get_or xs 0 0 ≡ b → IsByte b (take 1 xs)
    one-byte [] b positive first = absurd (omega arith)
    one-byte (x ∷ xs) b positive first = ap (λ (y : ℕ). y ∷ []) first

-- Dotted words.

pub dotted-pair : (xs : List ℕ) → IsDottedWord xs → FollowedBy IsIdentifier DotAndWord xs
dotted-pair xs dotted = parts-pair xs dotted.word.part dotted.word.more dotted.word.identifier dotted.word.identifiers dotted.word.whole dotted.dotted

pub reach-dotted : (rest : List ℕ) (n w : ℕ) → IsReach IsIdentifier n rest → IsReach IsWordSpelling w rest → n < w → IsReach IsDottedWord w rest
reach-dotted rest n w identifier word longer =
    let found = word.found (omega arith) in
    record {
      within = word.within;
      found = λ positive. record { word = found; dotted = several found.more found.whole };
      reaches = λ m inside dotted. word.reaches m inside dotted.word;
    }
  where
    several : (more : List (List ℕ)) → take w rest ≡ dotted_parts (word.found (omega arith)).part more → 0 < length more
    several [] whole = let most = identifier.reaches w word.within (subst IsIdentifier (sym whole) (word.found (omega arith)).identifier) in absurd (omega arith)
    several (next ∷ more) whole = omega arith

pub reach-undotted : (rest : List ℕ) (n w : ℕ) → IsReach IsIdentifier n rest → IsReach IsWordSpelling w rest → w ≤ n → IsReach IsDottedWord 0 rest
reach-undotted rest n w identifier word shorter = reach-nothing IsDottedWord rest (λ m inside dotted.
    let most = word.reaches m inside dotted.word in
    let size = (dot-behind rest n m identifier inside (dotted-pair (take m rest) dotted)).size in
    absurd (omega arith))
