-- An enumeration literal and its canonical spelling name one enumeration and one number.
use Rattle.std.proofs.Common.{◌≡◌, ◌≢◌, inl, inr, ℕ, ℤ, ◌==◌, ◌||◌, ◌&&◌, Bool, true, false, Option, Some, None, List, [], ◌∷◌, ◌++◌, refl, sym, ◌∙◌, ap, subst}
use Rattle.std.specs.List.{AllByRecursion}
use Rattle.std.proofs.lemmas.Bool.{cases_Bool, cond-false, cond-true, ne_eqb}
use Rattle.edm_values.specs.StringLiteral.{quote}
use Rattle.edm_enumerations.specs.EnumerationModel.{EnumerationModel}
use Rattle.odata_text.specs.LiteralSpelling.{enumeration_spelling, is_piece_end, trimmed_pieces}
use Rattle.csdl_schema.specs.EnumerationText.{IsValueIn}
use Rattle.csdl_schema.specs.SchemaModel.{Slots}
use Rattle.odata_signatures.specs.LiteralValue.{EnumerationLiteral, IsNameAndText}
use Rattle.odata_signatures.proofs.tree_types.OneValue.{same_front}
use Rattle.odata_signatures.proofs.printed.Pieces.{same_numbers, trimmed, trimmed_quoted}

-- ---- from the literal to its spelling

-- up to the first quote nothing is left out
spelled_past : (asked ys : List ℕ) → AllByRecursion (λ b. b ≢ quote) asked → enumeration_spelling (asked ++ quote ∷ ys) ≡ asked ++ quote ∷ trimmed_pieces true ys
spelled_past [] ys none = refl
spelled_past (b ∷ asked) ys none =
    let plain : (b == 39) ≡ false = ne_eqb b 39 none.0 in
    ap (λ (xs : List ℕ). b ∷ xs)
    (cond-false (b == 39) (trimmed_pieces true (asked ++ quote ∷ ys)) (enumeration_spelling (asked ++ quote ∷ ys)) plain ∙ spelled_past asked ys none.1)

cut_to : (text asked inner : List ℕ) → IsNameAndText text asked inner → IsNameAndText (enumeration_spelling text) asked (trimmed true inner)
cut_to text asked inner split = record {
  spelled = ap enumeration_spelling split.spelled ∙ spelled_past asked (inner ++ quote ∷ []) split.unquoted
      ∙ ap (λ (ys : List ℕ). asked ++ quote ∷ ys) (trimmed_quoted true inner);
  unquoted = split.unquoted;
}

-- ---- and back

-- of a text whose spelling has a first quote, what stands after that
record IsBehindQuote (text asked ys : List ℕ) : Type 0 where
  rest : List ℕ
  whole : text ≡ asked ++ quote ∷ rest
  left : trimmed_pieces true rest ≡ ys

same_head : (a b : ℕ) (xs ys : List ℕ) → a ∷ xs ≡ b ∷ ys → a ≡ b
same_head a b xs ys same = cc

same_tail : (a b : ℕ) (xs ys : List ℕ) → a ∷ xs ≡ b ∷ ys → xs ≡ ys
same_tail a b xs ys same = cc

never : (asked : List ℕ) (ys : List ℕ) → [] ≡ asked ++ quote ∷ ys → ⊥
never [] ys same = cc
never (b ∷ asked) ys same = cc

behind_quote : (text asked ys : List ℕ) → AllByRecursion (λ b. b ≢ quote) asked → enumeration_spelling text ≡ asked ++ quote ∷ ys → IsBehindQuote text asked ys
behind_quote [] asked ys none same = absurd (never asked ys same)
behind_quote (b ∷ bs) [] ys none same =
    let e : b ≡ 39 = same_head b quote _ ys same in
    let holds : (b == 39) ≡ true = rw e refl in
    record {
      rest = bs;
      whole = ap (λ (c : ℕ). c ∷ bs) e;
      left = sym (cond-true (b == 39) (trimmed_pieces true bs) (enumeration_spelling bs) holds) ∙ same_tail b quote _ ys same;
    }
behind_quote (b ∷ bs) (c ∷ asked) ys none same =
    let e : b ≡ c = same_head b c _ (asked ++ quote ∷ ys) same in
    let plain : (b == 39) ≡ false = ne_eqb b 39 (λ q. none.0 (sym e ∙ q)) in
    let more = behind_quote bs asked ys none.1 (sym (cond-false (b == 39) (trimmed_pieces true bs) (enumeration_spelling bs) plain) ∙ same_tail b c _ (asked ++ quote ∷ ys) same) in
    record {
      rest = more.rest;
      whole = ap (λ (x : ℕ). x ∷ bs) e ∙ ap (λ (xs : List ℕ). c ∷ xs) more.whole;
      left = more.left;
    }

abbrev drops : Bool → ℕ → List ℕ → Bool
drops before b bs = (b == 32) && (before || is_piece_end bs)

dropped : (before : Bool) (b : ℕ) (bs : List ℕ) → drops before b bs ≡ true → trimmed_pieces before (b ∷ bs) ≡ trimmed_pieces before bs
dropped before b bs holds = cond-true (drops before b bs) (trimmed_pieces before bs) (b ∷ trimmed_pieces (b == 44) bs) holds

kept : (before : Bool) (b : ℕ) (bs : List ℕ) → drops before b bs ≡ false → trimmed_pieces before (b ∷ bs) ≡ b ∷ trimmed_pieces (b == 44) bs
kept before b bs fails = cond-false (drops before b bs) (trimmed_pieces before bs) (b ∷ trimmed_pieces (b == 44) bs) fails

no_end : (b : ℕ) → drops false b [] ≡ true → ⊥
no_end b holds = elim (cases_Bool (b == 32)) [
  | inl space ↦ (let e : false ≡ true = rw space at holds in cc)
  | inr plain ↦ (let e : false ≡ true = rw plain at holds in cc)
]

-- what leaves nothing after a byte that stays is nothing
nothing_left : (bs : List ℕ) → trimmed_pieces false bs ≡ [] → bs ≡ []
nothing_left [] same = refl
nothing_left (b ∷ bs) same = elim (cases_Bool (drops false b bs)) [
  | inl holds ↦
      let none : bs ≡ [] = nothing_left bs (sym (dropped false b bs holds) ∙ same) in
      let P : List ℕ → Type 0 = λ (xs : List ℕ). drops false b xs ≡ true in
      absurd (no_end b (subst P none holds))
  | inr fails ↦ (let e : b ∷ trimmed_pieces (b == 44) bs ≡ [] = sym (kept false b bs fails) ∙ same in cc)
]

-- a text that ends with a quote
record EndsQuoted (xs : List ℕ) : Type 0 where
  inner : List ℕ
  is : xs ≡ inner ++ quote ∷ []

-- after a byte that stays
stays : (b : ℕ) (bs ls : List ℕ) → ((t : Bool) (left : List ℕ) → trimmed_pieces t bs ≡ left ++ quote ∷ [] → EndsQuoted bs)
    → b ∷ trimmed_pieces (b == 44) bs ≡ ls ++ quote ∷ [] → EndsQuoted (b ∷ bs)
stays b bs [] more here =
    let e : b ≡ 39 = same_head b quote _ [] here in
    let no_comma : (b == 44) ≡ false = rw e refl in
    let P : Bool → Type 0 = λ (t : Bool). trimmed_pieces t bs ≡ [] in
    let none : bs ≡ [] = nothing_left bs (subst P no_comma (same_tail b quote _ [] here)) in
    record { inner = []; is = ap (λ (c : ℕ). c ∷ bs) e ∙ ap (λ (ys : List ℕ). quote ∷ ys) none }
stays b bs (l ∷ ls) more here =
    let ends = more (b == 44) ls (same_tail b l _ (ls ++ quote ∷ []) here) in
    record { inner = b ∷ ends.inner; is = ap (λ (ys : List ℕ). b ∷ ys) ends.is }

ends_quoted : (before : Bool) (xs left : List ℕ) → trimmed_pieces before xs ≡ left ++ quote ∷ [] → EndsQuoted xs
ends_quoted before [] left same = absurd (never left [] same)
ends_quoted before (b ∷ bs) left same = elim (cases_Bool (drops before b bs)) [
  | inl holds ↦
      let more = ends_quoted before bs left (sym (dropped before b bs holds) ∙ same) in
      record { inner = b ∷ more.inner; is = ap (λ (ys : List ℕ). b ∷ ys) more.is }
  | inr fails ↦ stays b bs left (λ t ls rest. ends_quoted t bs ls rest) (sym (kept before b bs fails) ∙ same)
]

-- the parts of a literal, from those of its spelling
record IsCutBack (text asked left : List ℕ) : Type 0 where
  inner : List ℕ
  split : IsNameAndText text asked inner
  same : trimmed true inner ≡ left

cut_back : (text asked left : List ℕ) → IsNameAndText (enumeration_spelling text) asked left → IsCutBack text asked left
cut_back text asked left split =
    let behind = behind_quote text asked (left ++ quote ∷ []) split.unquoted split.spelled in
    let ends = ends_quoted true behind.rest left behind.left in
    record {
      inner = ends.inner;
      split = record { spelled = behind.whole ∙ ap (λ (ys : List ℕ). asked ++ quote ∷ ys) ends.is; unquoted = split.unquoted };
      same = same_front (trimmed true ends.inner) left quote (sym (trimmed_quoted true ends.inner) ∙ sym (ap (trimmed_pieces true) ends.is) ∙ behind.left);
    }

-- ---- the literals

value_to : (e : Option EnumerationModel) (inner : List ℕ) (n : ℤ) → IsValueIn e inner n → IsValueIn e (trimmed true inner) n
value_to None inner n is = is
value_to (Some e) inner n is = let same = same_numbers e inner in same.to n is

value_back : (e : Option EnumerationModel) (inner : List ℕ) (n : ℤ) → IsValueIn e (trimmed true inner) n → IsValueIn e inner n
value_back None inner n is = is
value_back (Some e) inner n is = let same = same_numbers e inner in same.from n is

pub enumeration_to : (slots : Slots) (text qualified : List ℕ) (n : ℤ) → EnumerationLiteral slots text qualified n → EnumerationLiteral slots (enumeration_spelling text) qualified n
enumeration_to slots text qualified n literal = record {
  asked = literal.asked;
  inner = trimmed true literal.inner;
  split = cut_to text literal.asked literal.inner literal.split;
  names = record {
    named = literal.names.named;
    value = value_to (slots.enumerations qualified) literal.inner n literal.names.value;
    within = literal.names.within;
  };
}

pub enumeration_from : (slots : Slots) (text qualified : List ℕ) (n : ℤ) → EnumerationLiteral slots (enumeration_spelling text) qualified n → EnumerationLiteral slots text qualified n
enumeration_from slots text qualified n literal =
    let cut = cut_back text literal.asked literal.inner literal.split in
    let P : List ℕ → Type 0 = λ (t : List ℕ). IsValueIn (slots.enumerations qualified) t n in
    record {
      asked = literal.asked;
      inner = cut.inner;
      split = cut.split;
      names = record {
        named = literal.names.named;
        value = value_back (slots.enumerations qualified) cut.inner n (subst P (sym cut.same) literal.names.value);
        within = literal.names.within;
      };
    }
