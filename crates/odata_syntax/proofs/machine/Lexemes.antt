-- What a token says, and how the machine reads it.
use Rattle.std.proofs.Common.{◌≡◌, refl, ap, subst, ◌∙◌, ℕ, List, Bool, true, false, cond, ◌||◌, Some, IsTrue, ◌⊎◌, inl, inr}
use Rattle.std.specs.Prelude.{codes}
use Rattle.std.specs.List.{list_any}
use Rattle.std.specs.Str.{str_to_ascii_lowercase}
use Rattle.std.proofs.lemmas.Slice.Eq.{bytes_eq-Decides}
use Rattle.std.proofs.lemmas.Option.{same_Some, cond_some}
use Rattle.odata_syntax.specs.declared.binary_operator.BinaryOperator.{BinaryOperator}
use Rattle.odata_syntax.specs.declared.node.LiteralKind.{LiteralKind}
use Rattle.odata_syntax.specs.declared.node.Quantifier.{Quantifier}
use Rattle.odata_text.specs.declared.token.TokenKind.{TokenKind}
use Rattle.odata_syntax.specs.declared.parser.operand.Start.{Start}
use Rattle.odata_syntax.specs.declared.parser.next_operator.Next.{Next}
use Rattle.odata_syntax.specs.declared.parser.path.Segment.{Segment}
use Rattle.odata_text.specs.TokenModel.{TokenModel}
use Rattle.odata_syntax.specs.Lexeme.{IsA, IsLiteral, IsName, IsOperator, IsQuantifier, SpellsDollar, SpellsLiteral, SpellsWord, operator_word, quantifier_word, reserved_words, same_word}
use Rattle.odata_syntax.specs.private.Machine.{word_start, dollar_start, start_of_kind, word_next, next_of_kind, word_segment, dollar_segment, segment_of_kind}
use Rattle.odata_syntax.proofs.machine.Operators.{next_word, operator_next, operators, word_next_says, word_passes}

-- a text that is a word has its letters
lower_of_word : (text word : List ℕ) → same_word text word ≡ true → str_to_ascii_lowercase text ≡ str_to_ascii_lowercase word
lower_of_word text word h = (bytes_eq-Decides (str_to_ascii_lowercase text) (str_to_ascii_lowercase word)).0 h

-- and is read as it
start_of_word : (text word : List ℕ) → same_word text word ≡ true → word_start text ≡ word_start word
unfolding word_start
start_of_word text word h = let same = lower_of_word text word h in rw same refl

next_of_word : (text word : List ℕ) → same_word text word ≡ true → word_next text ≡ word_next word
unfolding word_next
next_of_word text word h = let same = lower_of_word text word h in rw same refl

segment_of_word : (text word : List ℕ) → same_word text word ≡ true → word_segment text ≡ word_segment word
unfolding word_segment
segment_of_word text word h = let same = lower_of_word text word h in rw same refl

-- What the grammar names, the machine finds: where an operand is expected.

none_of : {A : Type 0} (x y z w : A) (a b c d : Bool) → ¬ IsTrue (a || (b || (c || (d || false)))) → cond (a || b) x (cond c y (cond d z w)) ≡ w
none_of x y z w true b c d h = absurd (h refl)
none_of x y z w false true c d h = absurd (h refl)
none_of x y z w false false true d h = absurd (h refl)
none_of x y z w false false false true h = absurd (h refl)
none_of x y z w false false false false h = refl

name_word_found : (text : List ℕ) → ¬ IsTrue (list_any (same_word text) reserved_words) → word_start text ≡ Start.Name
unfolding word_start
name_word_found text h = none_of (Start.Lit LiteralKind.Bool) (Start.Lit LiteralKind.Null) Start.Not Start.Name (same_word text (codes "true")) (same_word text (codes "false")) (same_word text (codes "null")) (same_word text (codes "not")) h

true_start : word_start (codes "true") ≡ Start.Lit LiteralKind.Bool
unfolding word_start
true_start = refl

false_start : word_start (codes "false") ≡ Start.Lit LiteralKind.Bool
unfolding word_start
false_start = refl

null_start : word_start (codes "null") ≡ Start.Lit LiteralKind.Null
unfolding word_start
null_start = refl

not_start : word_start (codes "not") ≡ Start.Not
unfolding word_start
not_start = refl

word_found : {p : TokenModel} (word : List ℕ) (s : Start) → SpellsWord word p → word_start word ≡ s → start_of_kind p.kind p.text ≡ Some s
word_found {p} word s w e = rw w.of_kind (ap (λ k. Some k) (start_of_word p.text word w.spelled ∙ e))

boolean_found : (p : TokenModel) → SpellsWord (codes "true") p ⊎ SpellsWord (codes "false") p → start_of_kind p.kind p.text ≡ Some (Start.Lit LiteralKind.Bool)
boolean_found p (inl w) = word_found (codes "true") (Start.Lit LiteralKind.Bool) w true_start
boolean_found p (inr w) = word_found (codes "false") (Start.Lit LiteralKind.Bool) w false_start

spelled_found : (kind : LiteralKind) (p : TokenModel) → SpellsLiteral kind p → start_of_kind p.kind p.text ≡ Some (Start.Lit kind)
spelled_found LiteralKind.Null p h = word_found (codes "null") (Start.Lit LiteralKind.Null) h null_start
spelled_found LiteralKind.Bool p h = boolean_found p h
spelled_found LiteralKind.Int p h = rw h.of_kind refl
spelled_found LiteralKind.Date p h = rw h.of_kind refl
spelled_found LiteralKind.Moment p h = rw h.of_kind refl
spelled_found LiteralKind.Guid p h = rw h.of_kind refl
spelled_found LiteralKind.Str p h = rw h.of_kind refl
spelled_found LiteralKind.EnumLit p h = rw h.of_kind refl

pub literal_found : {kind : LiteralKind} {p : TokenModel} → IsLiteral kind p → start_of_kind p.kind p.text ≡ Some (Start.Lit kind)
literal_found {kind} {p} l = spelled_found kind p l.spelled

pub name_found : {p : TokenModel} → IsName p → start_of_kind p.kind p.text ≡ Some Start.Name
name_found {p} n = rw n.of_kind (ap (λ k. Some k) (name_word_found p.text n.free))

pub it_found : {p : TokenModel} → SpellsDollar (codes "$it") p → start_of_kind p.kind p.text ≡ Some Start.It
unfolding dollar_start
it_found {p} d = rw d.of_kind (rw d.spelled refl)

pub not_found : {p : TokenModel} → SpellsWord (codes "not") p → start_of_kind p.kind p.text ≡ Some Start.Not
not_found {p} w = word_found (codes "not") Start.Not w not_start

pub minus_found : {p : TokenModel} → IsA TokenKind.Minus p → start_of_kind p.kind p.text ≡ Some Start.Minus
minus_found {p} a = rw a.of_kind refl

pub open_found : {p : TokenModel} → IsA TokenKind.Open p → start_of_kind p.kind p.text ≡ Some Start.Open
open_found {p} a = rw a.of_kind refl

pub close_found : {p : TokenModel} → IsA TokenKind.Close p → start_of_kind p.kind p.text ≡ Some Start.Close
close_found {p} a = rw a.of_kind refl

-- after an operand

has_next : word_next (codes "has") ≡ Some Next.Has
unfolding word_next
has_next = refl

in_next : word_next (codes "in") ≡ Some Next.In
unfolding word_next
in_next = refl

next_found : {p : TokenModel} (word : List ℕ) (next : Next) → SpellsWord word p → word_next word ≡ Some next → next_of_kind p.kind p.text ≡ Some next
next_found {p} word next w e = rw w.of_kind (next_of_word p.text word w.spelled ∙ e)

pub operator_found : {operator : BinaryOperator} {p : TokenModel} → IsOperator operator p → next_of_kind p.kind p.text ≡ Some (Next.Operator operator)
operator_found {operator} {p} o = next_found (operator_word operator) (Next.Operator operator) o.word (operator_next operator)

pub has_found : {p : TokenModel} → SpellsWord (codes "has") p → next_of_kind p.kind p.text ≡ Some Next.Has
has_found {p} w = next_found (codes "has") Next.Has w has_next

pub in_found : {p : TokenModel} → SpellsWord (codes "in") p → next_of_kind p.kind p.text ≡ Some Next.In
in_found {p} w = next_found (codes "in") Next.In w in_next

pub end_found : {p : TokenModel} → IsA TokenKind.Close p → next_of_kind p.kind p.text ≡ Some Next.Close
end_found {p} a = rw a.of_kind refl

pub comma_found : {p : TokenModel} → IsA TokenKind.Comma p → next_of_kind p.kind p.text ≡ Some Next.Comma
comma_found {p} a = rw a.of_kind refl

-- after a `/`

quantifier_segment : (quantifier : Quantifier) → word_segment (quantifier_word quantifier) ≡ Segment.Lambda quantifier
unfolding word_segment
quantifier_segment Quantifier.Any = refl
quantifier_segment Quantifier.All = refl

pub quantifier_found : {quantifier : Quantifier} {p : TokenModel} → IsQuantifier quantifier p → segment_of_kind p.kind p.text ≡ Some (Segment.Lambda quantifier)
quantifier_found {quantifier} {p} q = rw q.word.of_kind (ap (λ k. Some k) (segment_of_word p.text (quantifier_word quantifier) q.word.spelled ∙ quantifier_segment quantifier))

pub count_found : {p : TokenModel} → SpellsDollar (codes "$count") p → segment_of_kind p.kind p.text ≡ Some Segment.Count
unfolding dollar_segment
count_found {p} d = rw d.of_kind (rw d.spelled refl)

pub word_segment_found : {p : TokenModel} → IsA TokenKind.Word p → segment_of_kind p.kind p.text ≡ Some (word_segment p.text)
word_segment_found {p} a = rw a.of_kind refl

-- What the machine finds, the grammar names: where an operand is expected.

WordSays : Bool → Bool → Bool → Bool → Start → Type 0
WordSays a b c d (Start.Lit LiteralKind.Bool) = (a ≡ true) ⊎ (b ≡ true)
WordSays a b c d (Start.Lit LiteralKind.Null) = c ≡ true
WordSays a b c d (Start.Lit _) = ⊥
WordSays a b c d Start.Not = d ≡ true
WordSays a b c d Start.Name = ¬ IsTrue (a || (b || (c || (d || false))))
WordSays a b c d _ = ⊥

word_says : (a b c d : Bool) → WordSays a b c d (cond (a || b) (Start.Lit LiteralKind.Bool) (cond c (Start.Lit LiteralKind.Null) (cond d Start.Not Start.Name)))
unfolding WordSays
word_says true b c d = inl refl
word_says false true c d = inr refl
word_says false false true d = refl
word_says false false false true = refl
word_says false false false false = λ (h : false ≡ true). cc

-- the kind and the word
LiteralSays : TokenKind → List ℕ → LiteralKind → Type 0
LiteralSays kind text LiteralKind.Null = (kind ≡ TokenKind.Word) × (same_word text (codes "null") ≡ true)
LiteralSays kind text LiteralKind.Bool = (kind ≡ TokenKind.Word) × ((same_word text (codes "true") ≡ true) ⊎ (same_word text (codes "false") ≡ true))
LiteralSays kind text LiteralKind.Int = kind ≡ TokenKind.Int
LiteralSays kind text LiteralKind.Date = kind ≡ TokenKind.Date
LiteralSays kind text LiteralKind.Moment = kind ≡ TokenKind.Moment
LiteralSays kind text LiteralKind.Guid = kind ≡ TokenKind.Guid
LiteralSays kind text LiteralKind.Str = kind ≡ TokenKind.Str
LiteralSays kind text LiteralKind.EnumLit = kind ≡ TokenKind.EnumLit

StartSays : TokenKind → List ℕ → Start → Type 0
StartSays kind text (Start.Lit literal) = LiteralSays kind text literal
StartSays kind text Start.It = (kind ≡ TokenKind.Dollar) × (same_word text (codes "$it") ≡ true)
StartSays kind text Start.Name = (kind ≡ TokenKind.Word) × (¬ IsTrue (list_any (same_word text) reserved_words))
StartSays kind text Start.Minus = kind ≡ TokenKind.Minus
StartSays kind text Start.Not = (kind ≡ TokenKind.Word) × (same_word text (codes "not") ≡ true)
StartSays kind text Start.Open = kind ≡ TokenKind.Open
StartSays kind text Start.Close = kind ≡ TokenKind.Close

word_start_says : (text : List ℕ) (s : Start) → WordSays (same_word text (codes "true")) (same_word text (codes "false")) (same_word text (codes "null")) (same_word text (codes "not")) s → StartSays TokenKind.Word text s
unfolding WordSays LiteralSays StartSays
word_start_says text (Start.Lit LiteralKind.Bool) h = (refl, h)
word_start_says text (Start.Lit LiteralKind.Null) h = (refl, h)
word_start_says text (Start.Lit _) h = absurd h
word_start_says text Start.Not h = (refl, h)
word_start_says text Start.Name h = (refl, h)
word_start_says text _ h = absurd h

word_start_found : (text : List ℕ) → StartSays TokenKind.Word text (word_start text)
unfolding word_start
word_start_found text = word_start_says text (word_start text) (word_says (same_word text (codes "true")) (same_word text (codes "false")) (same_word text (codes "null")) (same_word text (codes "not")))

start_says : (kind : TokenKind) (text : List ℕ) (s : Start) → start_of_kind kind text ≡ Some s → StartSays kind text s
unfolding LiteralSays StartSays dollar_start
start_says TokenKind.Word text s e = subst (λ (k : Start). StartSays TokenKind.Word text k) (same_Some (word_start text) s e) (word_start_found text)
start_says TokenKind.Dollar text s e =
    let parts = cond_some (same_word text (codes "$it")) Start.It s e in
    subst (λ (k : Start). StartSays TokenKind.Dollar text k) parts.1 (refl, parts.0)
start_says TokenKind.Int text s e = subst (λ (k : Start). StartSays TokenKind.Int text k) (same_Some (Start.Lit LiteralKind.Int) s e) refl
start_says TokenKind.Date text s e = subst (λ (k : Start). StartSays TokenKind.Date text k) (same_Some (Start.Lit LiteralKind.Date) s e) refl
start_says TokenKind.Moment text s e = subst (λ (k : Start). StartSays TokenKind.Moment text k) (same_Some (Start.Lit LiteralKind.Moment) s e) refl
start_says TokenKind.Guid text s e = subst (λ (k : Start). StartSays TokenKind.Guid text k) (same_Some (Start.Lit LiteralKind.Guid) s e) refl
start_says TokenKind.Str text s e = subst (λ (k : Start). StartSays TokenKind.Str text k) (same_Some (Start.Lit LiteralKind.Str) s e) refl
start_says TokenKind.EnumLit text s e = subst (λ (k : Start). StartSays TokenKind.EnumLit text k) (same_Some (Start.Lit LiteralKind.EnumLit) s e) refl
start_says TokenKind.Open text s e = subst (λ (k : Start). StartSays TokenKind.Open text k) (same_Some Start.Open s e) refl
start_says TokenKind.Close text s e = subst (λ (k : Start). StartSays TokenKind.Close text k) (same_Some Start.Close s e) refl
start_says TokenKind.Minus text s e = subst (λ (k : Start). StartSays TokenKind.Minus text k) (same_Some Start.Minus s e) refl
start_says TokenKind.Comma text s e = absurd (cc)
start_says TokenKind.Slash text s e = absurd (cc)
start_says TokenKind.Colon text s e = absurd (cc)

boolean_word : (p : TokenModel) → p.kind ≡ TokenKind.Word → (same_word p.text (codes "true") ≡ true) ⊎ (same_word p.text (codes "false") ≡ true) → SpellsWord (codes "true") p ⊎ SpellsWord (codes "false") p
boolean_word p k (inl h) = inl (record { of_kind = k; spelled = h })
boolean_word p k (inr h) = inr (record { of_kind = k; spelled = h })

literal_says : (p : TokenModel) (kind : LiteralKind) → LiteralSays p.kind p.text kind → SpellsLiteral kind p
unfolding LiteralSays
literal_says p LiteralKind.Null h = record { of_kind = h.0; spelled = h.1 }
literal_says p LiteralKind.Bool h = boolean_word p h.0 h.1
literal_says p LiteralKind.Int h = record { of_kind = h }
literal_says p LiteralKind.Date h = record { of_kind = h }
literal_says p LiteralKind.Moment h = record { of_kind = h }
literal_says p LiteralKind.Guid h = record { of_kind = h }
literal_says p LiteralKind.Str h = record { of_kind = h }
literal_says p LiteralKind.EnumLit h = record { of_kind = h }

pub literal_spelled : (p : TokenModel) (kind : LiteralKind) → start_of_kind p.kind p.text ≡ Some (Start.Lit kind) → IsLiteral kind p
unfolding StartSays
literal_spelled p kind e = record { spelled = literal_says p kind (start_says p.kind p.text (Start.Lit kind) e) }

pub it_spelled : (p : TokenModel) → start_of_kind p.kind p.text ≡ Some Start.It → SpellsDollar (codes "$it") p
unfolding StartSays
it_spelled p e = let h = start_says p.kind p.text Start.It e in record { of_kind = h.0; spelled = h.1 }

pub name_spelled : (p : TokenModel) → start_of_kind p.kind p.text ≡ Some Start.Name → IsName p
unfolding StartSays
name_spelled p e = let h = start_says p.kind p.text Start.Name e in record { of_kind = h.0; free = h.1 }

pub not_spelled : (p : TokenModel) → start_of_kind p.kind p.text ≡ Some Start.Not → SpellsWord (codes "not") p
unfolding StartSays
not_spelled p e = let h = start_says p.kind p.text Start.Not e in record { of_kind = h.0; spelled = h.1 }

pub minus_spelled : (p : TokenModel) → start_of_kind p.kind p.text ≡ Some Start.Minus → IsA TokenKind.Minus p
unfolding StartSays
minus_spelled p e = record { of_kind = start_says p.kind p.text Start.Minus e }

pub open_spelled : (p : TokenModel) → start_of_kind p.kind p.text ≡ Some Start.Open → IsA TokenKind.Open p
unfolding StartSays
open_spelled p e = record { of_kind = start_says p.kind p.text Start.Open e }

pub close_spelled : (p : TokenModel) → start_of_kind p.kind p.text ≡ Some Start.Close → IsA TokenKind.Close p
unfolding StartSays
close_spelled p e = record { of_kind = start_says p.kind p.text Start.Close e }

-- after an operand

NextSays : TokenKind → List ℕ → Next → Type 0
NextSays kind text (Next.Operator operator) = (kind ≡ TokenKind.Word) × (same_word text (operator_word operator) ≡ true)
NextSays kind text Next.Has = (kind ≡ TokenKind.Word) × (same_word text (codes "has") ≡ true)
NextSays kind text Next.In = (kind ≡ TokenKind.Word) × (same_word text (codes "in") ≡ true)
NextSays kind text Next.Close = kind ≡ TokenKind.Close
NextSays kind text Next.Comma = kind ≡ TokenKind.Comma

-- no word says what a mark says
abbrev is_word_next : Next → Bool
is_word_next Next.Close = false
is_word_next Next.Comma = false
is_word_next _ = true

word_next_spelled : (text : List ℕ) (next : Next) → is_word_next next ≡ true → same_word text (next_word next) ≡ true → NextSays TokenKind.Word text next
unfolding NextSays next_word
word_next_spelled text (Next.Operator operator) w h = (refl, h)
word_next_spelled text Next.Has w h = (refl, h)
word_next_spelled text Next.In w h = (refl, h)
word_next_spelled text Next.Close w h = absurd (cc)
word_next_spelled text Next.Comma w h = absurd (cc)

next_says : (kind : TokenKind) (text : List ℕ) (next : Next) → next_of_kind kind text ≡ Some next → NextSays kind text next
unfolding NextSays operators
next_says TokenKind.Word text next e = word_next_spelled text next (word_passes is_word_next refl text next e) (word_next_says text next e)
next_says TokenKind.Close text next e = subst (λ (k : Next). NextSays TokenKind.Close text k) (same_Some Next.Close next e) refl
next_says TokenKind.Comma text next e = subst (λ (k : Next). NextSays TokenKind.Comma text k) (same_Some Next.Comma next e) refl
next_says _ text next e = absurd (cc)

pub operator_spelled : (p : TokenModel) (operator : BinaryOperator) → next_of_kind p.kind p.text ≡ Some (Next.Operator operator) → IsOperator operator p
unfolding NextSays
operator_spelled p operator e =
    let h = next_says p.kind p.text (Next.Operator operator) e in
    record { word = record { of_kind = h.0; spelled = h.1 } }

pub has_spelled : (p : TokenModel) → next_of_kind p.kind p.text ≡ Some Next.Has → SpellsWord (codes "has") p
unfolding NextSays
has_spelled p e = let h = next_says p.kind p.text Next.Has e in record { of_kind = h.0; spelled = h.1 }

pub in_spelled : (p : TokenModel) → next_of_kind p.kind p.text ≡ Some Next.In → SpellsWord (codes "in") p
unfolding NextSays
in_spelled p e = let h = next_says p.kind p.text Next.In e in record { of_kind = h.0; spelled = h.1 }

pub end_spelled : (p : TokenModel) → next_of_kind p.kind p.text ≡ Some Next.Close → IsA TokenKind.Close p
unfolding NextSays
end_spelled p e = record { of_kind = next_says p.kind p.text Next.Close e }

pub comma_spelled : (p : TokenModel) → next_of_kind p.kind p.text ≡ Some Next.Comma → IsA TokenKind.Comma p
unfolding NextSays
comma_spelled p e = record { of_kind = next_says p.kind p.text Next.Comma e }

-- after a `/`

SegmentSays : TokenKind → List ℕ → Segment → Type 0
SegmentSays kind text Segment.Count = (kind ≡ TokenKind.Dollar) × (same_word text (codes "$count") ≡ true)
SegmentSays kind text (Segment.Lambda quantifier) = (kind ≡ TokenKind.Word) × (same_word text (quantifier_word quantifier) ≡ true)
SegmentSays kind text Segment.Name = kind ≡ TokenKind.Word

WordSegmentSays : Bool → Bool → Segment → Type 0
WordSegmentSays a b Segment.Count = ⊥
WordSegmentSays a b (Segment.Lambda Quantifier.Any) = a ≡ true
WordSegmentSays a b (Segment.Lambda Quantifier.All) = b ≡ true
WordSegmentSays a b Segment.Name = Unit {0}

word_segment_says : (a b : Bool) → WordSegmentSays a b (cond a (Segment.Lambda Quantifier.Any) (cond b (Segment.Lambda Quantifier.All) Segment.Name))
unfolding WordSegmentSays
word_segment_says true b = refl
word_segment_says false true = refl
word_segment_says false false = tt

word_segment_spelled : (text : List ℕ) (s : Segment) → WordSegmentSays (same_word text (codes "any")) (same_word text (codes "all")) s → SegmentSays TokenKind.Word text s
unfolding WordSegmentSays SegmentSays
word_segment_spelled text Segment.Count h = absurd h
word_segment_spelled text (Segment.Lambda Quantifier.Any) h = (refl, h)
word_segment_spelled text (Segment.Lambda Quantifier.All) h = (refl, h)
word_segment_spelled text Segment.Name h = refl

word_segment_any : (text : List ℕ) → SegmentSays TokenKind.Word text (word_segment text)
unfolding word_segment
word_segment_any text = word_segment_spelled text (word_segment text) (word_segment_says (same_word text (codes "any")) (same_word text (codes "all")))

segment_says : (kind : TokenKind) (text : List ℕ) (s : Segment) → segment_of_kind kind text ≡ Some s → SegmentSays kind text s
unfolding SegmentSays dollar_segment
segment_says TokenKind.Word text s e = subst (λ (k : Segment). SegmentSays TokenKind.Word text k) (same_Some (word_segment text) s e) (word_segment_any text)
segment_says TokenKind.Dollar text s e =
    let parts = cond_some (same_word text (codes "$count")) Segment.Count s e in
    subst (λ (k : Segment). SegmentSays TokenKind.Dollar text k) parts.1 (refl, parts.0)
segment_says _ text s e = absurd (cc)

pub count_spelled : (p : TokenModel) → segment_of_kind p.kind p.text ≡ Some Segment.Count → SpellsDollar (codes "$count") p
unfolding SegmentSays
count_spelled p e = let h = segment_says p.kind p.text Segment.Count e in record { of_kind = h.0; spelled = h.1 }

pub quantifier_spelled : (p : TokenModel) (quantifier : Quantifier) → segment_of_kind p.kind p.text ≡ Some (Segment.Lambda quantifier) → IsQuantifier quantifier p
unfolding SegmentSays
quantifier_spelled p quantifier e =
    let h = segment_says p.kind p.text (Segment.Lambda quantifier) e in
    record { word = record { of_kind = h.0; spelled = h.1 } }

pub member_spelled : (p : TokenModel) → segment_of_kind p.kind p.text ≡ Some Segment.Name → IsA TokenKind.Word p
unfolding SegmentSays
member_spelled p e = record { of_kind = segment_says p.kind p.text Segment.Name e }
