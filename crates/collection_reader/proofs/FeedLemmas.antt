-- Line feeds and carriage returns stand outside the strings of an item.
use Rattle.std.proofs.Common.{◌≡◌, ℕ, ◌==◌, ◌||◌, Bool, true, false, cond, List, [], ◌∷◌, Option, None, Some, refl, sym, ap, ◌∙◌, subst, eqb-true, ⊎_elim}
use Rattle.std.proofs.lemmas.Bool.{cond_both}
use Rattle.std.specs.Prelude.{nat_le}
use Rattle.collection_reader.specs.Pages.{is_unbroken_escaped, is_feed, is_unbroken, is_unbroken_within}
use Rattle.collection_reader.specs.declared.kind.Kind.{Kind}
use Rattle.collection_reader.specs.declared.nest.Mode.{Mode}
use Rattle.collection_reader.specs.declared.nest.Nest.{Nest}
use Rattle.collection_reader.specs.private.Kinds.{kind_of}
use Rattle.collection_reader.specs.private.Nesting.{after_kind}
use Rattle.collection_reader.proofs.KindFacts.{either}

-- no feed stands in a string, from a place in that mode on
abbrev pub feeds : Mode → List ℕ → Bool
feeds Mode.Outside text = is_unbroken text
feeds Mode.Text text = is_unbroken_within text
feeds Mode.Escape text = is_unbroken_escaped text

pub feeds_nil : (mode : Mode) → feeds mode [] ≡ true
feeds_nil Mode.Outside = refl
feeds_nil Mode.Text = refl
feeds_nil Mode.Escape = refl

abbrev is_quote : Kind → Bool
is_quote Kind.Quote = true
is_quote _ = false

abbrev is_backslash : Kind → Bool
is_backslash Kind.Backslash = true
is_backslash _ = false

abbrev feeds_line : Kind → Bool
feeds_line Kind.Feed = true
feeds_line _ = false

-- what the kind says of the byte
abbrev pub IsOfKind : ℕ → Kind → Type 0
IsOfKind b kind = ((b == 34) ≡ is_quote kind) × ((b == 92) ≡ is_backslash kind) × (is_feed b ≡ feeds_line kind)

is_byte : (b k : ℕ) (kind : Kind) → (b == k) ≡ true → IsOfKind k kind → IsOfKind b kind
is_byte b k kind is of = let e = eqb-true b k is in subst (λ (x : ℕ). IsOfKind x kind) (sym e) of

pub of_kind : (b : ℕ) → IsOfKind b (kind_of b)
unfolding kind_of
of_kind b =
    cond_both (b == 34) _ _ (IsOfKind b) (λ e. is_byte b 34 Kind.Quote e (refl, refl, refl)) (λ q.
    cond_both (b == 92) _ _ (IsOfKind b) (λ e. is_byte b 92 Kind.Backslash e (refl, refl, refl)) (λ s.
    cond_both (b == 123) _ _ (IsOfKind b) (λ e. is_byte b 123 Kind.Brace e (refl, refl, refl)) (λ _.
    cond_both (b == 91) _ _ (IsOfKind b) (λ e. is_byte b 91 Kind.Bracket e (refl, refl, refl)) (λ _.
    cond_both (b == 125) _ _ (IsOfKind b) (λ e. is_byte b 125 Kind.BraceEnd e (refl, refl, refl)) (λ _.
    cond_both (b == 93) _ _ (IsOfKind b) (λ e. is_byte b 93 Kind.BracketEnd e (refl, refl, refl)) (λ _.
    cond_both (b == 44) _ _ (IsOfKind b) (λ e. is_byte b 44 Kind.Comma e (refl, refl, refl)) (λ _.
    cond_both (b == 58) _ _ (IsOfKind b) (λ e. is_byte b 58 Kind.Colon e (refl, refl, refl)) (λ _.
    cond_both (b == 32 || b == 9) _ _ (IsOfKind b)
    (λ e. ⊎_elim (λ f. is_byte b 32 Kind.Blank f (refl, refl, refl)) (λ f. is_byte b 9 Kind.Blank f (refl, refl, refl)) (either (b == 32) (b == 9) e)) (λ _.
    cond_both (b == 10 || b == 13) _ _ (IsOfKind b) (λ e. (q, s, e)) (λ e. (q, s, e)))))))))))

-- the mode after a byte of a kind
abbrev next_mode : Mode → Kind → Mode
next_mode Mode.Outside Kind.Quote = Mode.Text
next_mode Mode.Outside _ = Mode.Outside
next_mode Mode.Text Kind.Quote = Mode.Outside
next_mode Mode.Text Kind.Backslash = Mode.Escape
next_mode Mode.Text _ = Mode.Text
next_mode Mode.Escape _ = Mode.Text

-- the byte may stand in that mode
abbrev may_stand : Mode → Kind → Bool
may_stand Mode.Text Kind.Feed = false
may_stand Mode.Escape Kind.Feed = false
may_stand _ _ = true

-- where bytes end with one more, if they may
abbrev pub IsNext : Mode → Kind → Option Nest → Type 0
IsNext mode kind None = Unit {0}
IsNext mode kind (Some nest) = (nest.mode ≡ next_mode mode kind) × (may_stand mode kind ≡ true)

next_if : (b : Bool) (mode : Mode) (kind : Kind) (nest : Nest) → IsNext mode kind (Some nest) → IsNext mode kind (cond b None (Some nest))
next_if true mode kind nest is = tt
next_if false mode kind nest is = is

next_outside : (most depth : ℕ) (kind : Kind) → IsNext Mode.Outside kind (after_kind most (record { depth = depth; mode = Mode.Outside }) kind)
next_outside most depth Kind.Quote = (refl, refl)
next_outside most depth Kind.Backslash = (refl, refl)
next_outside most depth Kind.Brace = next_if (nat_le most depth) Mode.Outside Kind.Brace _ (refl, refl)
next_outside most depth Kind.Bracket = next_if (nat_le most depth) Mode.Outside Kind.Bracket _ (refl, refl)
next_outside most depth Kind.BraceEnd = next_if (depth == 0) Mode.Outside Kind.BraceEnd _ (refl, refl)
next_outside most depth Kind.BracketEnd = next_if (depth == 0) Mode.Outside Kind.BracketEnd _ (refl, refl)
next_outside most depth Kind.Comma = (refl, refl)
next_outside most depth Kind.Colon = (refl, refl)
next_outside most depth Kind.Blank = (refl, refl)
next_outside most depth Kind.Feed = (refl, refl)
next_outside most depth Kind.Other = (refl, refl)

next_text : (most depth : ℕ) (kind : Kind) → IsNext Mode.Text kind (after_kind most (record { depth = depth; mode = Mode.Text }) kind)
next_text most depth Kind.Quote = (refl, refl)
next_text most depth Kind.Backslash = (refl, refl)
next_text most depth Kind.Brace = (refl, refl)
next_text most depth Kind.Bracket = (refl, refl)
next_text most depth Kind.BraceEnd = (refl, refl)
next_text most depth Kind.BracketEnd = (refl, refl)
next_text most depth Kind.Comma = (refl, refl)
next_text most depth Kind.Colon = (refl, refl)
next_text most depth Kind.Blank = (refl, refl)
next_text most depth Kind.Feed = tt
next_text most depth Kind.Other = (refl, refl)

next_escape : (most depth : ℕ) (kind : Kind) → IsNext Mode.Escape kind (after_kind most (record { depth = depth; mode = Mode.Escape }) kind)
next_escape most depth Kind.Quote = (refl, refl)
next_escape most depth Kind.Backslash = (refl, refl)
next_escape most depth Kind.Brace = (refl, refl)
next_escape most depth Kind.Bracket = (refl, refl)
next_escape most depth Kind.BraceEnd = (refl, refl)
next_escape most depth Kind.BracketEnd = (refl, refl)
next_escape most depth Kind.Comma = (refl, refl)
next_escape most depth Kind.Colon = (refl, refl)
next_escape most depth Kind.Blank = (refl, refl)
next_escape most depth Kind.Feed = tt
next_escape most depth Kind.Other = (refl, refl)

next_in : (most depth : ℕ) (mode : Mode) (kind : Kind) → IsNext mode kind (after_kind most (record { depth = depth; mode = mode }) kind)
next_in most depth Mode.Outside kind = next_outside most depth kind
next_in most depth Mode.Text kind = next_text most depth kind
next_in most depth Mode.Escape kind = next_escape most depth kind

pub is_next : (most : ℕ) (nest : Nest) (kind : Kind) → IsNext nest.mode kind (after_kind most nest kind)
is_next most nest kind = next_in most nest.depth nest.mode kind

-- a byte before others of which that holds
outside_step : (kind : Kind) (tail : List ℕ) → feeds (next_mode Mode.Outside kind) tail ≡ true → cond (is_quote kind) (is_unbroken_within tail) (is_unbroken tail) ≡ true
outside_step Kind.Quote tail fed = fed
outside_step Kind.Backslash tail fed = fed
outside_step Kind.Brace tail fed = fed
outside_step Kind.Bracket tail fed = fed
outside_step Kind.BraceEnd tail fed = fed
outside_step Kind.BracketEnd tail fed = fed
outside_step Kind.Comma tail fed = fed
outside_step Kind.Colon tail fed = fed
outside_step Kind.Blank tail fed = fed
outside_step Kind.Feed tail fed = fed
outside_step Kind.Other tail fed = fed

text_step : (kind : Kind) (tail : List ℕ) → may_stand Mode.Text kind ≡ true → feeds (next_mode Mode.Text kind) tail ≡ true
    → cond (is_quote kind) (is_unbroken tail) (cond (is_backslash kind) (is_unbroken_escaped tail) (cond (feeds_line kind) false (is_unbroken_within tail))) ≡ true
text_step Kind.Quote tail may fed = fed
text_step Kind.Backslash tail may fed = fed
text_step Kind.Brace tail may fed = fed
text_step Kind.Bracket tail may fed = fed
text_step Kind.BraceEnd tail may fed = fed
text_step Kind.BracketEnd tail may fed = fed
text_step Kind.Comma tail may fed = fed
text_step Kind.Colon tail may fed = fed
text_step Kind.Blank tail may fed = fed
text_step Kind.Feed tail may fed = may
text_step Kind.Other tail may fed = fed

escape_step : (kind : Kind) (tail : List ℕ) → may_stand Mode.Escape kind ≡ true → is_unbroken_within tail ≡ true → cond (feeds_line kind) false (is_unbroken_within tail) ≡ true
escape_step Kind.Quote tail may fed = fed
escape_step Kind.Backslash tail may fed = fed
escape_step Kind.Brace tail may fed = fed
escape_step Kind.Bracket tail may fed = fed
escape_step Kind.BraceEnd tail may fed = fed
escape_step Kind.BracketEnd tail may fed = fed
escape_step Kind.Comma tail may fed = fed
escape_step Kind.Colon tail may fed = fed
escape_step Kind.Blank tail may fed = fed
escape_step Kind.Feed tail may fed = may
escape_step Kind.Other tail may fed = fed

step_in : (mode : Mode) (kind : Kind) (b : ℕ) (tail : List ℕ) → IsOfKind b kind → may_stand mode kind ≡ true → feeds (next_mode mode kind) tail ≡ true
    → feeds mode (b ∷ tail) ≡ true
step_in Mode.Outside kind b tail of may fed =
    ap (λ (q : Bool). cond q (is_unbroken_within tail) (is_unbroken tail)) of.0 ∙ outside_step kind tail fed
step_in Mode.Text kind b tail of may fed =
    ap (λ (q : Bool). cond q (is_unbroken tail) (cond (b == 92) (is_unbroken_escaped tail) (cond (is_feed b) false (is_unbroken_within tail)))) of.0
    ∙ ap (λ (s : Bool). cond (is_quote kind) (is_unbroken tail) (cond s (is_unbroken_escaped tail) (cond (is_feed b) false (is_unbroken_within tail)))) of.1
    ∙ ap (λ (f : Bool). cond (is_quote kind) (is_unbroken tail) (cond (is_backslash kind) (is_unbroken_escaped tail) (cond f false (is_unbroken_within tail)))) of.2
    ∙ text_step kind tail may fed
step_in Mode.Escape kind b tail of may fed =
    ap (λ (f : Bool). cond f false (is_unbroken_within tail)) of.2 ∙ escape_step kind tail may fed

pub feeds_step : (mode : Mode) (kind : Kind) (next : Nest) (b : ℕ) (tail : List ℕ) → IsOfKind b kind → IsNext mode kind (Some next) → feeds next.mode tail ≡ true
    → feeds mode (b ∷ tail) ≡ true
feeds_step mode kind next b tail of is fed =
    step_in mode kind b tail of is.1 (ap (λ (m : Mode). feeds m tail) (sym is.0) ∙ fed)
