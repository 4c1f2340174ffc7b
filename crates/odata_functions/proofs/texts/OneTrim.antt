-- What is left of a text without the white space at its ends: there is one such text.
use Rattle.std.proofs.Common.{◌≡◌, ℕ, Bool, true, false, IsTrue, List, [], ◌∷◌, ◌++◌, reverse, refl, sym, ap, subst, ◌∙◌}
use Rattle.std.proofs.lemmas.List.{reverse-append, reverse-reverse}
use Rattle.std.specs.Char.{is_whitespace}
use Rattle.odata_functions.specs.Texts.{IsBlank, IsTrimmed}

-- it does not begin with white space
abbrev IsDark : List ℕ → Type 0
IsDark xs = (c : ℕ) (more : List ℕ) → xs ≡ c ∷ more → ¬ IsTrue (is_whitespace c)

pub blank_append : (xs ys : List ℕ) → IsBlank xs → IsBlank ys → IsBlank (xs ++ ys)
blank_append [] ys a b = b
blank_append (x ∷ xs) ys a b = (a.0, blank_append xs ys a.1 b)

blank_front : (xs ys : List ℕ) → IsBlank (xs ++ ys) → IsBlank xs
blank_front [] ys a = tt
blank_front (x ∷ xs) ys a = (a.0, blank_front xs ys a.1)

blank_behind : (xs ys : List ℕ) → IsBlank (xs ++ ys) → IsBlank ys
blank_behind [] ys a = a
blank_behind (x ∷ xs) ys a = blank_behind xs ys a.1

blank_reverse : (xs : List ℕ) → IsBlank xs → IsBlank (reverse xs)
blank_reverse [] a = tt
blank_reverse (x ∷ xs) a = subst IsBlank (sym (reverse-append (x ∷ []) xs)) (blank_append (reverse xs) (x ∷ []) (blank_reverse xs a.1) (a.0, tt))

-- of two splits into white space and what does not begin with it, the ends are one
same_behind : (b c r q : List ℕ) → b ++ r ≡ c ++ q → IsBlank b → IsBlank c → IsDark r → IsDark q → r ≡ q
same_behind [] [] r q e blank blank' dark dark' = e
same_behind [] (y ∷ c) r q e blank blank' dark dark' = absurd (dark y (c ++ q) e blank'.0)
same_behind (x ∷ b) [] r q e blank blank' dark dark' = absurd (dark' x (b ++ r) (sym e) blank.0)
same_behind (x ∷ b) (y ∷ c) r q e blank blank' dark dark' =
    let f : b ++ r ≡ c ++ q = cc in
    same_behind b c r q f blank.1 blank'.1 dark dark'

-- white space that does not begin with any is empty
nothing : (xs : List ℕ) → IsBlank xs → IsDark xs → xs ≡ []
nothing [] blank dark = refl
nothing (x ∷ xs) blank dark = absurd (dark x xs refl blank.0)

dark_more : (x : ℕ) (xs ys : List ℕ) → IsDark (x ∷ xs) → IsDark ((x ∷ xs) ++ ys)
dark_more x xs ys dark c more e = dark c xs (let f : x ∷ xs ≡ c ∷ xs = cc in f)

-- read from its end, it does not begin with white space either
dark_reverse : (xs : List ℕ) → ((c : ℕ) (more : List ℕ) → xs ≡ more ++ c ∷ [] → ¬ IsTrue (is_whitespace c)) → IsDark (reverse xs)
dark_reverse xs last c more e =
    last c (reverse more) (sym (reverse-reverse xs) ∙ ap reverse e ∙ reverse-append (c ∷ []) more)

turn : (r e q f : List ℕ) → r ++ e ≡ q ++ f → reverse e ++ reverse r ≡ reverse f ++ reverse q
turn r e q f same = sym (reverse-append r e) ∙ ap reverse same ∙ reverse-append q f

back : (xs ys : List ℕ) → reverse xs ≡ reverse ys → xs ≡ ys
back xs ys e = sym (reverse-reverse xs) ∙ ap reverse e ∙ reverse-reverse ys

-- where one is empty, all is white space, and the other is empty too
other_nothing : (s q : List ℕ) → IsTrimmed s [] → IsTrimmed s q → [] ≡ q
other_nothing s q a b =
    let all : IsBlank s = subst IsBlank (sym a.split) (blank_append a.before a.behind a.blank_before a.blank_behind) in
    let parts : IsBlank (b.before ++ (q ++ b.behind)) = subst IsBlank b.split all in
    let part = blank_front q b.behind (blank_behind b.before (q ++ b.behind) parts) in
    sym (nothing q part b.first)

pub one_trimmed : (s r q : List ℕ) → IsTrimmed s r → IsTrimmed s q → r ≡ q
one_trimmed s [] q a b = other_nothing s q a b
one_trimmed s r [] a b = sym (other_nothing s r b a)
one_trimmed s (x ∷ r) (y ∷ q) a b =
    let behind : (x ∷ r) ++ a.behind ≡ (y ∷ q) ++ b.behind =
    same_behind a.before b.before ((x ∷ r) ++ a.behind) ((y ∷ q) ++ b.behind) (sym a.split ∙ b.split) a.blank_before b.blank_before
    (dark_more x r a.behind a.first) (dark_more y q b.behind b.first) in
    back (x ∷ r) (y ∷ q)
    (same_behind (reverse a.behind) (reverse b.behind) (reverse (x ∷ r)) (reverse (y ∷ q)) (turn (x ∷ r) a.behind (y ∷ q) b.behind behind)
    (blank_reverse a.behind a.blank_behind) (blank_reverse b.behind b.blank_behind) (dark_reverse (x ∷ r) a.last) (dark_reverse (y ∷ q) b.last))

-- the white space at the front, and what follows it
abbrev Front : List ℕ → Type 0
Front s = (b : List ℕ) × (r : List ℕ) × (s ≡ b ++ r) × IsBlank b × IsDark r

-- a test of the first character
by_first : (x : ℕ) (xs : List ℕ) (white : Bool) → is_whitespace x ≡ white → Front xs → Front (x ∷ xs)
by_first x xs true is (b, r, split, blank, dark) = (x ∷ b, r, ap (λ (l : List ℕ). x ∷ l) split, (is, blank), dark)
by_first x xs false is front =
    ([], x ∷ xs, refl, tt, λ c more e white. let same : is_whitespace x ≡ is_whitespace c = cc in let wrong : false ≡ true = sym is ∙ same ∙ white in cc)

front_there : (s : List ℕ) → Front s
front_there [] = ([], [], refl, tt, λ c more e. cc)
front_there (x ∷ xs) = by_first x xs (is_whitespace x) refl (front_there xs)

of_fronts : (s : List ℕ) → (f : Front s) → Front (reverse f.1) → (r : List ℕ) × IsTrimmed s r
of_fronts s (b, r, split, blank, dark) (e, q, split', blank', dark') =
    let of_r : r ≡ reverse q ++ reverse e = sym (reverse-reverse r) ∙ ap reverse split' ∙ reverse-append e q in (
      reverse q,
      record {
        before = b;
        behind = reverse e;
        split = split ∙ ap (λ (x : List ℕ). b ++ x) of_r;
        blank_before = blank;
        blank_behind = blank_reverse e blank';
        first = λ c more same. dark c (more ++ reverse e) (of_r ∙ ap (λ (x : List ℕ). x ++ reverse e) same);
        last = λ c more same. dark' c (reverse more) (sym (reverse-reverse q) ∙ ap reverse same ∙ reverse-append more (c ∷ []));
      },
    )

pub trimmed_there : (s : List ℕ) → (r : List ℕ) × IsTrimmed s r
trimmed_there s = let f = front_there s in of_fronts s f (front_there (reverse f.1))
