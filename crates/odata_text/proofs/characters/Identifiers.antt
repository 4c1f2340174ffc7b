-- What the functions that measure identifiers rest on.
use Rattle.std.proofs.Math.Seq.{take-append_seam}
use Rattle.std.proofs.lemmas.List.Folds.{length-prefix_len}
use Rattle.std.proofs.lemmas.Str.{IsCharBoundary-past_char, IsUtf8-past_char, IsUtf8-take, drop_past_char, encodes-append, length-encode}
use Rattle.odata_text.proofs.Common.{AllPass-from_list_all, list_all-from_AllPass, chars_from_encodes, eq-eqb, ◌≡◌, ⊎_elim, ℕ, ◌+◌, ◌<◌, ◌≤◌, ◌==◌, Bool, true, false, List, [], ◌∷◌, ◌++◌, length, take, drop, get_or, arith, refl, sym, ◌∙◌, ap, subst, take-append-drop, IsUtf8, IsCharBoundary, chars, list_all, take_while, prefix_len, len_utf8, encode_utf8_all, both_ways, and_parts, and_from, cases_eq, cond-true, cond-false, ne_eqb, or_left, false_from_ne_true, get_or-take, length-append, length-take-le, take-length, take_while-cons, prefix_len_passes, encode, chars-nil, chars-append, chars_past_char, IsCharBoundary-start, encodes-chars, IsIdentifier, begins_identifier, continues_identifier, identifier_run, is_identifier, IsReach}

-- Lists of characters.

pub list_all-weaker : (p q : ℕ → Bool) (xs : List ℕ) → ((x : ℕ) → p x ≡ true → q x ≡ true) → list_all p xs ≡ true → list_all q xs ≡ true
list_all-weaker p q xs weaker all = list_all-from_AllPass q xs (λ k d inside. weaker (get_or xs k d) (AllPass-from_list_all p xs all k d inside))

pub all-from_identifier : (cs : List ℕ) → is_identifier cs ≡ true → list_all continues_identifier cs ≡ true
unfolding continues_identifier
all-from_identifier [] identifier = refl
all-from_identifier (c ∷ cs) identifier =
    let parts = and_parts (begins_identifier c) (list_all continues_identifier cs) identifier in
    and_from (continues_identifier c) _ (or_left _ _ parts.0) parts.1

take_while-all : (p : ℕ → Bool) (xs : List ℕ) → list_all p (take_while p xs) ≡ true
take_while-all p xs = list_all-from_AllPass p (take_while p xs) (λ k d inside.
    let size = length-prefix_len p xs in
    ap p (get_or-take (prefix_len p xs) xs k d (omega arith)) ∙ prefix_len_passes p xs k d (omega arith))

-- a front that goes on with an identifier joins the run
pub take_while-front : (p : ℕ → Bool) (xs ys : List ℕ) → list_all p xs ≡ true → take_while p (xs ++ ys) ≡ xs ++ take_while p ys
take_while-front p [] ys all = refl
take_while-front p (x ∷ xs) ys all =
    let parts = and_parts (p x) (list_all p xs) all in
    take_while-cons p x (xs ++ ys) ∙ cond-true (p x) _ _ parts.0 ∙ ap (λ (zs : List ℕ). x ∷ zs) (take_while-front p xs ys parts.1)

-- The run at the front of a text.

pub run-stops : (rest left : List ℕ) (c : ℕ) → IsUtf8 rest → rest ≡ encode c ++ left → continues_identifier c ≡ false → identifier_run rest ≡ 0
run-stops rest left c utf8 front stops =
    ap (λ (cs : List ℕ). length (encode_utf8_all cs))
    (ap (take_while continues_identifier) (chars_past_char rest left c utf8 front) ∙ take_while-cons continues_identifier c (chars left) ∙ cond-false (continues_identifier c) _ _ stops)

pub run-goes : (rest left : List ℕ) (c : ℕ) → IsUtf8 rest → rest ≡ encode c ++ left → continues_identifier c ≡ true → identifier_run rest ≡ len_utf8 c + identifier_run left
run-goes rest left c utf8 front goes =
    let run : take_while continues_identifier (chars rest) ≡ c ∷ take_while continues_identifier (chars left) =
    ap (take_while continues_identifier) (chars_past_char rest left c utf8 front) ∙ take_while-cons continues_identifier c (chars left) ∙ cond-true (continues_identifier c) _ _ goes in
    ap (λ (cs : List ℕ). length (encode_utf8_all cs)) run
    ∙ length-append (encode c) (encode_utf8_all (take_while continues_identifier (chars left)))
    ∙ ap (λ (n : ℕ). n + identifier_run left) (length-encode c)

-- n bytes have been read, all of them of the run, and left is what is after them
pub record IsRunSoFar (rest left : List ℕ) (n : ℕ) : Type 0 where
  pub behind : drop n rest ≡ left
  pub utf8 : IsUtf8 left
  pub boundary : IsCharBoundary rest n
  pub run : n + identifier_run left ≡ identifier_run rest

pub run-start : (rest left : List ℕ) → IsUtf8 rest → left ≡ rest → IsRunSoFar rest left 0
run-start rest left utf8 whole = rw whole (record { behind = refl; utf8 = utf8; boundary = IsCharBoundary-start rest utf8; run = omega arith })

pub run-end : (rest left : List ℕ) (n : ℕ) → IsRunSoFar rest left n → length left ≡ 0 → n ≡ identifier_run rest
run-end rest [] n so_far end =
    let run = so_far.run in
    let none : identifier_run [] ≡ 0 = ap (λ (cs : List ℕ). length (encode_utf8_all (take_while continues_identifier cs))) chars-nil in
    omega arith
run-end rest (b ∷ bs) n so_far end = absurd (omega arith)

pub run-more : (rest left more : List ℕ) (n c : ℕ) → IsRunSoFar rest left n → left ≡ encode c ++ more → continues_identifier c ≡ true → IsRunSoFar rest more (n + len_utf8 c)
run-more rest left more n c so_far front goes =
    let here = so_far.behind ∙ front in
    let more_run = run-goes left more c so_far.utf8 front goes in
    let run = so_far.run in
    record {
      behind = drop_past_char rest more n c here;
      utf8 = IsUtf8-past_char left more c so_far.utf8 front;
      boundary = IsCharBoundary-past_char rest more n c so_far.boundary.0 (subst IsUtf8 (sym so_far.behind) so_far.utf8) here;
      run = omega arith;
    }

-- Identifiers at the front of a text.

-- the bytes of the run are its characters
run-chars : (rest : List ℕ) → IsUtf8 rest → IsCharBoundary rest (identifier_run rest) → chars (take (identifier_run rest) rest) ≡ take_while continues_identifier (chars rest)
run-chars rest utf8 boundary =
    let run = take_while continues_identifier (chars rest) in
    let left = drop (prefix_len continues_identifier (chars rest)) (chars rest) in
    let whole : rest ≡ encode_utf8_all run ++ encode_utf8_all left =
    sym (encodes-chars rest utf8) ∙ ap encode_utf8_all (sym (take-append-drop (prefix_len continues_identifier (chars rest)) (chars rest))) ∙ encodes-append run left in
    sym (chars_from_encodes run (take (identifier_run rest) rest) (IsUtf8-take rest (identifier_run rest) utf8 boundary)
    (sym (ap (take (identifier_run rest)) whole ∙ take-append_seam (encode_utf8_all run) (encode_utf8_all left))))

-- an identifier at the front is within the run, and its first character begins one
front-within : (rest : List ℕ) (m : ℕ) → m ≤ length rest → IsIdentifier (take m rest) → m ≤ identifier_run rest
front-within rest m inside identifier =
    let front = chars (take m rest) in
    let behind = chars (drop m rest) in
    let parts : chars rest ≡ front ++ behind = ap chars (sym (take-append-drop m rest)) ∙ chars-append (take m rest) (drop m rest) identifier.utf8 in
    let run = ap (take_while continues_identifier) parts ∙ take_while-front continues_identifier front behind (all-from_identifier front identifier.characters) in
    let size = ap (λ (xs : List ℕ). length (encode_utf8_all xs)) run ∙ ap length (encodes-append front (take_while continues_identifier behind)) ∙ length-append (encode_utf8_all front) _ in
    let bytes = ap length (encodes-chars (take m rest) identifier.utf8) ∙ length-take-le m rest inside in
    omega arith

front-begins : (rest front behind : List ℕ) (c : ℕ) → rest ≡ front ++ behind → is_identifier front ≡ true → get_or rest 0 0 ≡ c → begins_identifier c ≡ true
front-begins rest [] behind c parts identifier first = absurd (both_ways _ refl identifier)
front-begins rest (d ∷ ds) behind c parts identifier first =
    ap begins_identifier (sym first ∙ ap (λ (xs : List ℕ). get_or xs 0 0) parts) ∙ (and_parts (begins_identifier d) (list_all continues_identifier ds) identifier).0

pub reach-some : (rest cs : List ℕ) (c : ℕ) → IsUtf8 rest → chars rest ≡ c ∷ cs → begins_identifier c ≡ true → IsCharBoundary rest (identifier_run rest) → IsReach IsIdentifier (identifier_run rest) rest
unfolding continues_identifier
reach-some rest cs c utf8 first begins boundary =
    let run : take_while continues_identifier (chars rest) ≡ c ∷ take_while continues_identifier cs =
    ap (take_while continues_identifier) first ∙ take_while-cons continues_identifier c cs ∙ cond-true (continues_identifier c) _ _ (or_left _ _ begins) in
    record {
      within = boundary.0;
      found = λ positive. record {
        utf8 = IsUtf8-take rest (identifier_run rest) utf8 boundary;
        characters = ap is_identifier (run-chars rest utf8 boundary ∙ run) ∙ and_from (begins_identifier c) _ begins (take_while-all continues_identifier cs);
      };
      reaches = λ m inside identifier. front-within rest m inside identifier;
    }

pub reach-none : (rest cs : List ℕ) (c : ℕ) → chars rest ≡ c ∷ cs → begins_identifier c ≡ false → IsReach IsIdentifier 0 rest
reach-none rest cs c first stops = record {
  within = omega arith;
  found = λ positive. absurd (omega arith);
  reaches = λ m inside identifier.
      let parts : chars rest ≡ chars (take m rest) ++ chars (drop m rest) = ap chars (sym (take-append-drop m rest)) ∙ chars-append (take m rest) (drop m rest) identifier.utf8 in
      absurd (both_ways _ stops (front-begins (chars rest) (chars (take m rest)) (chars (drop m rest)) c parts identifier.characters (ap (λ (xs : List ℕ). get_or xs 0 0) first)));
}

pub reach-empty : (rest : List ℕ) → length rest ≡ 0 → IsReach IsIdentifier 0 rest
reach-empty rest empty = record { within = omega arith; found = λ positive. absurd (omega arith); reaches = λ m inside identifier. omega arith }

pub identifier-nonempty : (xs : List ℕ) → IsIdentifier xs → 0 < length xs
identifier-nonempty [] identifier = absurd (both_ways _ (ap is_identifier chars-nil) identifier.characters)
identifier-nonempty (b ∷ bs) identifier = omega arith

-- a text that is an identifier is the longest at its own front
whole-reached : (text : List ℕ) (n : ℕ) → IsUtf8 text → IsReach IsIdentifier n text → is_identifier (chars text) ≡ true → (n ≡ length text) × (0 < n)
whole-reached text n utf8 reach characters =
    let identifier : IsIdentifier text = record { utf8 = utf8; characters = characters } in
    let least = reach.reaches (length text) (omega arith) (subst IsIdentifier (sym (take-length text)) identifier) in
    let most = reach.within in
    let some = identifier-nonempty text identifier in
    (omega arith, omega arith)

pub reach-reports-none : (text : List ℕ) (n : ℕ) → IsUtf8 text → IsReach IsIdentifier n text → n ≡ 0 → false ≡ is_identifier (chars text)
reach-reports-none text n utf8 reach none =
    sym (false_from_ne_true _ (λ identifier. let some = (whole-reached text n utf8 reach identifier).1 in omega arith))

pub reach-reports : (text : List ℕ) (n : ℕ) → IsUtf8 text → IsReach IsIdentifier n text → 0 < n → (n == length text) ≡ is_identifier (chars text)
reach-reports text n utf8 reach some =
    ⊎_elim
    (λ whole. eq-eqb n (length text) whole ∙ sym (subst (λ (bytes : List ℕ). is_identifier (chars bytes) ≡ true) (ap (λ (k : ℕ). take k text) whole ∙ take-length text) (reach.found some).characters))
    (λ part. ne_eqb n (length text) part ∙ sym (false_from_ne_true _ (λ identifier. part (whole-reached text n utf8 reach identifier).0)))
    (cases_eq n (length text))
