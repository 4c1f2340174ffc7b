-- What follows from where the machine ends: bytes have one form, and which piece is the longest.
use Rattle.std.proofs.lemmas.Bool.{and_cases}
use Rattle.std.proofs.lemmas.List.{drop_more}
use Rattle.odata_text.proofs.Common.{agree_below, agree_below_at, not-false, fold_stays, ◌≡◌, ◌⊎◌, inl, inr, ⊎_elim, ℕ, ◌+◌, ◌<◌, ◌≤◌, not, true, List, [], ◌∷◌, length, get_or, take, drop, Some, None, arith, refl, sym, ◌∙◌, ap, subst, fold, Bool, false, ◌&&◌, both_ways, and_parts, cases_lt, nat_tests, fold_more, class_of, MayFollow, is_separator, may_follow, IsFormed, Spells, IsLongest, Space, Form, Token, Closed, Over, TokenKind, Word, Dollar, Int, Date, Moment, Guid, Str, EnumLit, Minus}
use Rattle.odata_text.proofs.spellings.Sequences.{fold-take}
use Rattle.odata_text.proofs.machine.States.{State, Start, Stuck, Whole, Text, Sign, SignedDigits, Digits, TwoHyphens, Hexes, AheadColon, Name, Dotted, Dollared, Bare, Named, Qualified, APlain, ALetter, is_dead, enter, form_at, run, step}
use Rattle.odata_text.proofs.machine.Runs.{reads}

pub same_form : (xs : List ℕ) (f g : Form) → IsFormed f xs → IsFormed g xs → f ≡ g
same_form xs f g first second =
    let one = reads f xs first in
    let two = reads g xs second in
    cc

pub formed-some : (form : Form) (xs : List ℕ) → IsFormed form xs → 0 < length xs
formed-some form [] formed = let none : None ≡ Some form = reads form [] formed in cc
formed-some form (b ∷ bs) formed = omega arith

-- what is dead stays so
dead-ends : (q : State) (xs : List ℕ) → is_dead q ≡ true → form_at (fold step q xs) ≡ None
dead-ends Stuck xs dead = ap form_at (fold_stays step Stuck (λ b. refl) xs)
dead-ends (Text lead Over) xs dead = ap form_at (fold_stays step (Text lead Over) (λ b. refl) xs)
dead-ends _ xs dead = cc

not_dead : (form : Form) (q : State) (xs back : List ℕ) → is_dead q ≡ true → run xs ≡ fold step q back → IsFormed form xs → ⊥
not_dead form q xs back dead ends formed =
    let none : None ≡ Some form = sym (ap form_at ends ∙ dead-ends q back dead) ∙ reads form xs formed in
    cc

pub space-from_class : (b : ℕ) → class_of b ≡ Space → (b ≡ 32) ⊎ (b ≡ 9)
unfolding class_of
space-from_class b e = grind (arith, nat_tests)

-- no piece begins with white space
pub solid-start : (form : Form) (xs : List ℕ) → IsFormed form xs → class_of (get_or xs 0 0) ≡ Space → ⊥
solid-start form [] formed space = let none : None ≡ Some form = reads form [] formed in cc
solid-start form (b ∷ bs) formed space =
    ⊎_elim
    (λ blank. not_dead form Stuck (b ∷ bs) bs refl (ap (λ (c : ℕ). fold step (step Start c) bs) blank) formed)
    (λ tab. not_dead form Stuck (b ∷ bs) bs refl (ap (λ (c : ℕ). fold step (step Start c) bs) tab) formed)
    (space-from_class b space)

-- a piece is the longest where the byte after it is a dead end
pub longest-dead : (form : Form) (rest : List ℕ) (n : ℕ) → n ≤ length rest → IsFormed form (take n rest) → (n < length rest → is_dead (step (run (take n rest)) (get_or rest n 0)) ≡ true) → IsLongest form n rest
longest-dead form rest n inside formed dead = record { within = inside; spelled = formed; longest = longest }
  where
    longest : (other : Form) (m : ℕ) → m ≤ length rest → IsFormed other (take m rest) → m ≤ n
    longest other m within spelled =
        ⊎_elim
        (λ more.
        let here : n < length rest = omega arith in
        let ends : run (take m rest) ≡ fold step (step (run (take n rest)) (get_or rest n 0)) (drop (n + 1) (take m rest)) =
        fold-take step Start rest (n + 1) m (omega arith) ∙ ap (λ (s : State). fold step s (drop (n + 1) (take m rest))) (fold_more step Start rest n 0 here) in
        absurd (not_dead other (step (run (take n rest)) (get_or rest n 0)) (take m rest) (drop (n + 1) (take m rest)) (dead here) ends spelled))
        (λ most. most)
        (cases_lt n m)

-- What may follow a token is a dead end.

pub separator-ascii : (b : ℕ) → is_separator b ≡ true → b < 128
separator-ascii b separator = grind (arith, nat_tests)

-- a byte that may follow the kind, and with which the piece goes on
abbrev goes_on : State → TokenKind → ℕ → Bool
goes_on q kind b = may_follow kind b && not (is_dead (step q b))

-- the kind is the one of the state, and no byte of ASCII goes on
none-goes_on : (q : State) (kind other : TokenKind) (b : ℕ) → agree_below (goes_on q kind) (λ c. false) 128 ≡ true → ((c : ℕ) → may_follow kind c ≡ true → is_separator c ≡ true)
    → Some (Token kind) ≡ Some (Token other) → may_follow other b ≡ true → is_dead (step q b) ≡ true
none-goes_on q kind other b none separates ends follows =
    let same : other ≡ kind = cc in
    let here : may_follow kind b ≡ true = subst (λ (k : TokenKind). may_follow k b ≡ true) same follows in
    ⊎_elim
    (λ off. absurd (both_ways _ off here))
    (λ dead. not-false (is_dead (step q b)) dead)
    (and_cases (may_follow kind b) _ (agree_below_at (goes_on q kind) (λ c. false) 128 b none (separator-ascii b (separates b here))))

dead-behind : (q : State) (kind : TokenKind) (b : ℕ) → form_at q ≡ Some (Token kind) → may_follow kind b ≡ true → is_dead (step q b) ≡ true
dead-behind (Whole other) kind b ends follows = refl
dead-behind (Text Bare Closed) kind b ends follows = none-goes_on (Text Bare Closed) Str kind b refl (λ c e. e) ends follows
dead-behind (Text Qualified Closed) kind b ends follows = none-goes_on (Text Qualified Closed) EnumLit kind b refl (λ c e. e) ends follows
dead-behind Sign kind b ends follows = none-goes_on Sign Minus kind b refl (λ c e. e) ends follows
dead-behind SignedDigits kind b ends follows = none-goes_on SignedDigits Int kind b refl (λ c e. (and_parts (is_separator c) _ e).0) ends follows
dead-behind Digits kind b ends follows = none-goes_on Digits Int kind b refl (λ c e. (and_parts (is_separator c) _ e).0) ends follows
dead-behind TwoHyphens kind b ends follows = none-goes_on TwoHyphens Date kind b refl (λ c e. e) ends follows
dead-behind Hexes kind b ends follows = none-goes_on Hexes Guid kind b refl (λ c e. e) ends follows
dead-behind AheadColon kind b ends follows = none-goes_on AheadColon Moment kind b refl (λ c e. e) ends follows
dead-behind Name kind b ends follows = none-goes_on Name Word kind b refl (λ c e. e) ends follows
dead-behind Dotted kind b ends follows = none-goes_on Dotted Word kind b refl (λ c e. e) ends follows
dead-behind Dollared kind b ends follows = none-goes_on Dollared Dollar kind b refl (λ c e. e) ends follows
dead-behind (Text Named Closed) kind b ends follows = cc
dead-behind _ kind b ends follows = cc

-- a token before what may follow it is the longest piece at its offset
pub longest-before : (kind : TokenKind) (rest : List ℕ) (n : ℕ) → n ≤ length rest → Spells kind (take n rest) → MayFollow kind (drop n rest) → IsLongest (Token kind) n rest
longest-before kind rest n inside spelled follows =
    longest-dead (Token kind) rest n inside spelled (λ more.
    dead-behind (run (take n rest)) kind (get_or rest n 0) (reads (Token kind) (take n rest) spelled) (subst (MayFollow kind) (drop_more rest n 0 more) follows))

-- Only a word can end in a byte past ASCII.

pub past-word : (q : State) (kind : TokenKind) → form_at (enter q (ALetter APlain)) ≡ Some (Token kind) → (kind ≡ Word) ⊎ (kind ≡ Dollar)
past-word Start kind ends = inl cc
past-word Name kind ends = inl cc
past-word Dotted kind ends = inl cc
past-word Dollared kind ends = inr cc
past-word (Text lead Closed) kind ends = cc
past-word _ kind ends = cc
