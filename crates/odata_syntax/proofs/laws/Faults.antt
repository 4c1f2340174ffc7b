-- Tokens have at most one fault, and then no tree.
use Rattle.std.proofs.Common.{◌≡◌, refl, ap, subst, sym, ◌∙◌, ℕ, List, [], ◌∷◌, ◌++◌, ◌⊎◌, inl, inr, append_assoc}
use Rattle.std.proofs.lemmas.List.{append-nil}
use Rattle.odata_text.specs.declared.span.Span.{Span}
use Rattle.odata_syntax.specs.declared.syntax_fault.SyntaxFault.{SyntaxFault}
use Rattle.odata_text.specs.TokenModel.{TokenModel}
use Rattle.odata_syntax.specs.Tree.{Tree}
use Rattle.odata_syntax.specs.Front.{IsFront, IsWideFront}
use Rattle.odata_syntax.specs.Parse.{IsParse, HasNoParse, IsSpanOf, IsFirstWrong, IsFirstDeep, IsUnended, IsSyntaxFault}

-- the beginnings of a front are fronts
front-part : (xs ys : List TokenModel) → IsFront (xs ++ ys) → IsFront xs
front-part xs ys f = record { more = ys ++ f.more; tree = f.tree; derived = rw append_assoc at f.derived; shallow = rw append_assoc at f.shallow }

-- a front is wide
wide_front : (xs : List TokenModel) → IsFront xs → IsWideFront xs
wide_front xs f = record { more = f.more; tree = f.tree; derived = f.derived }

-- tokens of an expression are a front
parse_front : (ts : List TokenModel) (tree : Tree) → IsParse ts tree → IsFront ts
parse_front ts tree p = record { more = []; tree = tree; derived = rw (append-nil ts) p.derived; shallow = rw (append-nil ts) p.shallow }

-- the first token with which the tokens so far are no front
record IsFirst (ts : List TokenModel) (span : Span) : Type 0 where
  before : List TokenModel
  token : TokenModel
  behind : List TokenModel
  split : ts ≡ before ++ (token ∷ behind)
  front : IsFront before
  beyond : ¬ IsFront (before ++ (token ∷ []))
  spanned : IsSpanOf token span

abbrev wrong_first : (ts : List TokenModel) (span : Span) → IsFirstWrong ts span → IsFirst ts span
wrong_first ts span w = record { before = w.before; token = w.token; behind = w.behind; split = w.split; front = w.front; beyond = λ f. w.wrong (wide_front (w.before ++ (w.token ∷ [])) f); spanned = w.spanned }

abbrev deep_first : (ts : List TokenModel) (span : Span) → IsFirstDeep ts span → IsFirst ts span
deep_first ts span d = record { before = d.before; token = d.token; behind = d.behind; split = d.split; front = d.front; beyond = d.deep; spanned = d.spanned }

-- a token at which a list is split twice is the same, or one stands before the other
meets : (xs us : List TokenModel) (y v : TokenModel) (ys vs : List TokenModel) → xs ++ (y ∷ ys) ≡ us ++ (v ∷ vs) → ((xs ≡ us) × (y ≡ v)) ⊎ (((mid : List TokenModel) × (us ≡ xs ++ (y ∷ mid))) ⊎ ((mid : List TokenModel) × (xs ≡ us ++ (v ∷ mid))))
meets [] [] y v ys vs e = inl (refl, cc)
meets [] (u ∷ us) y v ys vs e = inr (inl (us, cc))
meets (x ∷ xs) [] y v ys vs e = inr (inr (xs, cc))
meets (x ∷ xs) (u ∷ us) y v ys vs e =
    let head : x ≡ u = cc in
    let tail : xs ++ (y ∷ ys) ≡ us ++ (v ∷ vs) = cc in
    elim (meets xs us y v ys vs tail) [
      | inl same ↦ inl (cc, same.1)
      | inr rest ↦ elim rest [
        | inl (mid, h) ↦ inr (inl (mid, cc))
        | inr (mid, h) ↦ inr (inr (mid, cc))
      ]
    ]

-- no front goes past the first such token
past_first : (before : List TokenModel) (token : TokenModel) (mid longer : List TokenModel) → longer ≡ before ++ (token ∷ mid) → ¬ IsFront (before ++ (token ∷ [])) → ¬ IsFront longer
past_first before token mid longer e beyond front =
    let P : List TokenModel → Type 0 = λ k. IsFront k in
    let whole : IsFront ((before ++ (token ∷ [])) ++ mid) = rw append_assoc (subst P e front) in
    beyond (front-part (before ++ (token ∷ [])) mid whole)

same_span : (a b : Span) → a.start ≡ b.start → a.stop ≡ b.stop → a ≡ b
same_span a b s t =
    let made : ℕ → ℕ → Span = λ n m. record { start = n; stop = m } in
    ap (λ n. made n a.stop) s ∙ ap (λ n. made b.start n) t

-- the same token is the first
record SameToken (x y : List TokenModel) (p q : TokenModel) : Type 0 where
  befores : x ≡ y
  tokens : p ≡ q

first_same : (ts : List TokenModel) (span other : Span) (f : IsFirst ts span) (g : IsFirst ts other) → SameToken f.before g.before f.token g.token
first_same ts span other f g =
    elim (meets f.before g.before f.token g.token f.behind g.behind (sym f.split ∙ g.split)) [
      | inl same ↦ record { befores = same.0; tokens = same.1 }
      | inr rest ↦ elim rest [
        | inl (mid, h) ↦ absurd (past_first f.before f.token mid g.before h f.beyond g.front)
        | inr (mid, h) ↦ absurd (past_first g.before g.token mid f.before h g.beyond f.front)
      ]
    ]

span_of_token : (p q : TokenModel) (a b : Span) → p ≡ q → IsSpanOf p a → IsSpanOf q b → a ≡ b
span_of_token p q a b e h k = same_span a b (h.start_is ∙ ap (λ (t : TokenModel). t.start) e ∙ sym k.start_is) (h.stop_is ∙ ap (λ (t : TokenModel). t.stop) e ∙ sym k.stop_is)

first_span : (ts : List TokenModel) (span other : Span) → IsFirst ts span → IsFirst ts other → span ≡ other
first_span ts span other f g = span_of_token f.token g.token span other (first_same ts span other f g).tokens f.spanned g.spanned

-- such a token, or none
first_unended : (ts : List TokenModel) (len : ℕ) (span other : Span) → IsFirst ts span → IsUnended ts len other → ⊥
first_unended ts len span other f u = past_first f.before f.token f.behind ts f.split f.beyond u.front

-- wide or not
wrong_deep : (ts : List TokenModel) (span other : Span) → IsFirstWrong ts span → IsFirstDeep ts other → ⊥
wrong_deep ts span other w d =
    let same = first_same ts span other (wrong_first ts span w) (deep_first ts other d) in
    let e : d.before ++ (d.token ∷ []) ≡ w.before ++ (w.token ∷ []) = cc in
    let P : List TokenModel → Type 0 = λ k. IsWideFront k in
    w.wrong (subst P e d.wide)

unexpected_span : (ts : List TokenModel) (len : ℕ) (span other : Span) → IsFirstWrong ts span ⊎ IsUnended ts len span → IsFirstWrong ts other ⊎ IsUnended ts len other → span ≡ other
unexpected_span ts len span other (inl w) (inl v) = first_span ts span other (wrong_first ts span w) (wrong_first ts other v)
unexpected_span ts len span other (inl w) (inr u) = absurd (first_unended ts len span other (wrong_first ts span w) u)
unexpected_span ts len span other (inr u) (inl w) = absurd (first_unended ts len other span (wrong_first ts other w) u)
unexpected_span ts len span other (inr u) (inr v) = same_span span other (u.starts ∙ sym v.starts) (u.stops ∙ sym v.stops)

unexpected_deep : (ts : List TokenModel) (len : ℕ) (span other : Span) → IsFirstWrong ts span ⊎ IsUnended ts len span → IsFirstDeep ts other → ⊥
unexpected_deep ts len span other (inl w) d = wrong_deep ts span other w d
unexpected_deep ts len span other (inr u) d = first_unended ts len other span (deep_first ts other d) u

pub one_fault_lem : (ts : List TokenModel) (len : ℕ) (fault other : SyntaxFault) → IsSyntaxFault ts len fault → IsSyntaxFault ts len other → fault ≡ other
one_fault_lem ts len (SyntaxFault.Unexpected span) (SyntaxFault.Unexpected other) f g = ap (λ s. SyntaxFault.Unexpected s) (unexpected_span ts len span other f g)
one_fault_lem ts len (SyntaxFault.Unexpected span) (SyntaxFault.TooDeep other) f g = absurd (unexpected_deep ts len span other f g)
one_fault_lem ts len (SyntaxFault.TooDeep span) (SyntaxFault.Unexpected other) f g = absurd (unexpected_deep ts len other span g f)
one_fault_lem ts len (SyntaxFault.TooDeep span) (SyntaxFault.TooDeep other) f g = ap (λ s. SyntaxFault.TooDeep s) (first_span ts span other (deep_first ts span f) (deep_first ts other g))
one_fault_lem ts len SyntaxFault.Memory other f g = absurd f
one_fault_lem ts len fault SyntaxFault.Memory f g = absurd g

-- a whole expression goes past no such token
first_none : (ts : List TokenModel) (span : Span) → IsFirst ts span → HasNoParse ts
first_none ts span f tree parse = past_first f.before f.token f.behind ts f.split f.beyond (parse_front ts tree parse)

pub fault_none : (ts : List TokenModel) (len : ℕ) (fault : SyntaxFault) → IsSyntaxFault ts len fault → HasNoParse ts
fault_none ts len (SyntaxFault.Unexpected span) (inl w) = first_none ts span (wrong_first ts span w)
fault_none ts len (SyntaxFault.Unexpected span) (inr u) = u.none
fault_none ts len (SyntaxFault.TooDeep span) d = first_none ts span (deep_first ts span d)
fault_none ts len SyntaxFault.Memory f = absurd f
