-- A blank line is the text of no JSON value.
use Rattle.std.proofs.Common.{◌≡◌, ◌⊎◌, inl, inr, ℕ, ◌==◌, ◌||◌, Bool, true, false, List, [], ◌∷◌, Option, None, refl, ap, ◌∙◌}
use Rattle.std.specs.Prelude.{option_and_then}
use Rattle.std.proofs.lemmas.Bool.{eqb-true}
use Rattle.std.proofs.lemmas.List.Elements.{All-head, All-tail}
use Rattle.json.specs.Json.{if_last, value}
use Rattle.json.specs.Lex.{Class, Lexeme, between, class, fresh, lex, lex_byte, punctuate, space}
use Rattle.json.specs.Token.{Token}
use Rattle.json.proofs.Grammar.{value_is}
use Rattle.serde_json.specs.Data.{Data}
use Rattle.serde_json.specs.Read.{max_depth, of_json, read}
use Rattle.csdl_schema.specs.JsonText.{IsJsonOf}
use Rattle.line_filter.specs.Lines.{IsBlank, is_space}

or_true : (a b : Bool) → (a || b) ≡ true → (a ≡ true) ⊎ (b ≡ true)
or_true true b is = inl refl
or_true false b is = inr is

space_class : (x : ℕ) → is_space x ≡ true → class x ≡ space
space_class x is = elim (or_true (x == 32 || x == 9) (x == 13) is) [
  | inl other ↦ elim (or_true (x == 32) (x == 9) other) [
    | inl blank ↦ ap class (eqb-true x 32 blank)
    | inr tab ↦ ap class (eqb-true x 9 tab)
  ]
  | inr return ↦ ap class (eqb-true x 13 return)
]

lex_blank : (line : List ℕ) → IsBlank line → lex between line ≡ []
unfolding lex
lex_blank [] blank = refl
lex_blank (x ∷ line) blank =
    ap (λ (c : Class). lex_byte between c x line (λ next. lex next line)) (space_class x (All-head (λ b. is_space b ≡ true) x line blank))
    ∙ lex_blank line (All-tail (λ b. is_space b ≡ true) x line blank)

abbrev read_tokens : List Token → Option Data
read_tokens ts = option_and_then of_json (option_and_then (λ p. if_last p.0 p.1) (value max_depth ts))

none_read : read_tokens (punctuate fresh []) ≡ None
unfolding punctuate
none_read = ap (λ r. option_and_then of_json (option_and_then (λ p. if_last p.0 p.1) r)) (value_is max_depth [])

pub json_not_blank : (line : List ℕ) (json : Data) → IsJsonOf line json → ¬ IsBlank line
json_not_blank line json (utf8, is) blank =
    let none : read line ≡ None = ap (λ (ls : List Lexeme). read_tokens (punctuate fresh ls)) (lex_blank line blank) ∙ none_read in
    absurd cc
