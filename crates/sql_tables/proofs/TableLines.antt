-- Lines about a table: where the first one ends, which column one names, and what those that are left say of columns.
use Rattle.std.proofs.Common.{◌≡◌, ◌≢◌, inl, inr, ℕ, suc, ◌<◌, ◌+◌, List, [], ◌∷◌, ◌++◌, length, get_or, arith, refl, sym, ap, subst, ◌∙◌}
use Rattle.std.proofs.Common.{Bool, false, ◌↔◌, Bor, MatchOption, Option, None, Some, IsTrue, take}
use Rattle.std.proofs.Math.Seq.{take-length}
use Rattle.std.proofs.lemmas.Bool.Decides.{eqb_tells}
use Rattle.std.proofs.lemmas.List.{append_cancel_left, drop_all}
use Rattle.std.specs.List.{position_or_len}
use Rattle.csdl_schema.specs.SchemaModel.{PropertyModel}
use Rattle.sql_tables.specs.Columns.{AreKnown, IsAbout, IsColumnOf, IsKnown}
use Rattle.sql_tables.specs.Lines.{after_line, first_line, is_feed, lines_of}

-- no line feed stands in it
abbrev pub HasNoFeed : List ℕ → Type 0
HasNoFeed text = (i : ℕ) → i < length text → get_or text i 0 ≢ 10

later : (c : ℕ) (cs : List ℕ) → HasNoFeed (c ∷ cs) → HasNoFeed cs
later c cs none i below = none (suc i) (omega arith)

-- a text without a line feed is one line
pub lines-alone : (text : List ℕ) → HasNoFeed text → lines_of text ≡ text ∷ []
lines-alone [] none = refl
lines-alone (c ∷ cs) none =
    elim (eqb_tells c 10) [
      | inl same ↦ absurd (none 0 (omega arith) same.1)
      | inr other ↦ rw (other.0, lines-alone cs (later c cs none)) refl
    ]

pub first-alone : (text : List ℕ) → position_or_len is_feed text ≡ length text → first_line text ≡ text
first-alone text is = ap (λ (k : ℕ). take k text) is ∙ take-length text

pub after-alone : (text : List ℕ) → position_or_len is_feed text ≡ length text → after_line text ≡ []
after-alone text is = drop_all (position_or_len is_feed text + 1) text (omega (arith, is))

-- the first line ends at the first line feed
pub lines-first : (line after : List ℕ) → HasNoFeed line → lines_of (line ++ 10 ∷ after) ≡ line ∷ lines_of after
lines-first [] after none = refl
lines-first (c ∷ cs) after none =
    elim (eqb_tells c 10) [
      | inl same ↦ absurd (none 0 (omega arith) same.1)
      | inr other ↦ rw (other.0, lines-first cs after (later c cs none)) refl
    ]

-- ---- the column that a line names

-- a line that begins with the property's name is about it where `=` follows
pub named_after : (property line rest : List ℕ) (found : Option (Bor (List ℕ))) → line ≡ property ++ rest → MatchOption found ((after : List ℕ) → rest ≢ 61 ∷ after) (λ x. rest ≡ 61 ∷ x.now)
    → MatchOption found ((other : List ℕ) → ¬ IsAbout property line other) (λ column. IsAbout property line column.now)
named_after property line rest None cut none = λ other is. none other (append_cancel_left property rest (61 ∷ other) (sym cut ∙ is))
named_after property line rest (Some column) cut is = cut ∙ ap (λ (xs : List ℕ). property ++ xs) is

-- ---- the lines that are left

-- what these say of a property's column, all lines do
abbrev pub LeftSay : List ℕ → List ℕ → List ℕ → Type 0
LeftSay property text rest = (column : List ℕ) → IsColumnOf property (lines_of rest) column → IsColumnOf property (lines_of text) column

pub left_all : (property text : List ℕ) → LeftSay property text text
left_all property text column is = is

module _ (property text rest line after : List ℕ) (cut : lines_of rest ≡ line ∷ lines_of after) (say : LeftSay property text rest) where
  -- a line that is about another property is passed
  pub left_on : ((other : List ℕ) → ¬ IsAbout property line other) → LeftSay property text after
  left_on none column is = say column (subst (λ (ls : List (List ℕ)). IsColumnOf property ls column) (sym cut) (inr (none, is)))

  -- one about this property has its column
  pub left_here : (column : List ℕ) → IsAbout property line column → IsColumnOf property (lines_of text) column
  left_here column is = say column (subst (λ (ls : List (List ℕ)). IsColumnOf property ls column) (sym cut) (inl is))

module _ (property text rest : List ℕ) (cut : lines_of rest ≡ rest ∷ []) (say : LeftSay property text rest) where
  pub last_here : (column : List ℕ) → IsAbout property rest column → IsColumnOf property (lines_of text) column
  last_here column is = say column (subst (λ (ls : List (List ℕ)). IsColumnOf property ls column) (sym cut) (inl is))

  pub last_none : ((other : List ℕ) → ¬ IsAbout property rest other) → IsColumnOf property (lines_of text) property
  last_none none = say property (subst (λ (ls : List (List ℕ)). IsColumnOf property ls property) (sym cut) (inr (none, refl)))

-- all lines are known where those that are left are, and only there
pub record LeftKnown (properties : List PropertyModel) (text rest : List ℕ) : Type 0 where
  pub to : AreKnown properties (lines_of rest) → AreKnown properties (lines_of text)
  pub from : AreKnown properties (lines_of text) → AreKnown properties (lines_of rest)

pub known_all : (properties : List PropertyModel) (text : List ℕ) → LeftKnown properties text text
known_all properties text = record { to = λ k. k; from = λ k. k }

module _ (properties : List PropertyModel) (text rest line after : List ℕ) (cut : lines_of rest ≡ line ∷ lines_of after) (left : LeftKnown properties text rest) where
  parts : AreKnown properties (lines_of text) → IsKnown properties line × AreKnown properties (lines_of after)
  parts known = subst (AreKnown properties) cut (left.from known)

  pub known_on : IsKnown properties line → LeftKnown properties text after
  known_on is = record { to = λ more. left.to (subst (AreKnown properties) (sym cut) (is, more)); from = λ known. (parts known).1 }

  pub known_not : ¬ IsKnown properties line → ¬ AreKnown properties (lines_of text)
  known_not none known = none (parts known).0

  pub known_end : (known : Bool) → IsTrue known ↔ IsKnown properties line → known ≡ false → IsTrue false ↔ AreKnown properties (lines_of text)
  known_end known is unknown = (
    λ (holds : IsTrue false). absurd (cc),
    λ (all : AreKnown properties (lines_of text)). let holds = is.1 (parts all).0 in absurd (cc),
  )

pub known_last : (properties : List PropertyModel) (text rest : List ℕ) → lines_of rest ≡ rest ∷ [] → LeftKnown properties text rest → (known : Bool) → IsTrue known ↔ IsKnown properties rest
    → IsTrue known ↔ AreKnown properties (lines_of text)
known_last properties text rest cut left known is = (
  λ (holds : IsTrue known). left.to (subst (AreKnown properties) (sym cut) (is.0 holds, tt)),
  λ (all : AreKnown properties (lines_of text)). is.1 (subst (AreKnown properties) cut (left.from all)).0,
)
