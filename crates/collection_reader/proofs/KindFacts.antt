-- What a byte of a kind is.
use Rattle.std.proofs.Common.{◌≡◌, ℕ, ◌==◌, ◌||◌, Bool, true, false, refl, sym, subst, eqb-true, ◌⊎◌, inl, inr, ⊎_elim}
use Rattle.std.proofs.lemmas.Bool.{cond_both, cond-true, cond-false}
use Rattle.collection_items.specs.ItemLines.{in_line}
use Rattle.collection_reader.specs.Pages.{is_blank}
use Rattle.collection_reader.specs.declared.kind.Kind.{Kind}
use Rattle.collection_reader.specs.private.Kinds.{kind_of}

-- the byte, or what it is in a line
abbrev pub Facts : ℕ → Kind → Type 0
Facts b Kind.Comma = b ≡ 44
Facts b Kind.BracketEnd = b ≡ 93
Facts b Kind.Bracket = b ≡ 91
Facts b Kind.Blank = is_blank b ≡ true
Facts b Kind.Feed = (is_blank b ≡ true) × (in_line b ≡ 32)
Facts b _ = (in_line b ≡ b) × (is_blank b ≡ false)

-- what the byte is in a line
abbrev pub InLine : ℕ → Kind → Type 0
InLine b Kind.Feed = in_line b ≡ 32
InLine b _ = in_line b ≡ b

same_in_line : (b k : ℕ) → (b == k) ≡ true → in_line k ≡ k → in_line b ≡ b
same_in_line b k is same = let e = eqb-true b k is in subst (λ (x : ℕ). in_line x ≡ x) (sym e) same

-- the same of a byte that may begin an item
may_begin : (b k : ℕ) → (b == k) ≡ true → in_line k ≡ k → is_blank k ≡ false → (in_line b ≡ b) × (is_blank b ≡ false)
may_begin b k is same solid = let e = eqb-true b k is in subst (λ (x : ℕ). (in_line x ≡ x) × (is_blank x ≡ false)) (sym e) (same, solid)

none_of_four : (x y z w : Bool) → (x || y) ≡ false → (z || w) ≡ false → (x || y || z || w) ≡ false
none_of_four true y z w first last = absurd (cc)
none_of_four false true z w first last = absurd (cc)
none_of_four false false true w first last = absurd (cc)
none_of_four false false false w first last = last

blank_byte : (b k : ℕ) → (b == k) ≡ true → is_blank k ≡ true → is_blank b ≡ true
blank_byte b k is blank = let e = eqb-true b k is in subst (λ (x : ℕ). is_blank x ≡ true) (sym e) blank

pub either : (x y : Bool) → (x || y) ≡ true → (x ≡ true) ⊎ (y ≡ true)
either true y is = inl refl
either false y is = inr is

two_blanks : (b : ℕ) → (b == 32 || b == 9) ≡ true → is_blank b ≡ true
two_blanks b is = ⊎_elim (λ e. blank_byte b 32 e refl) (λ e. blank_byte b 9 e refl) (either (b == 32) (b == 9) is)

two_feeds : (b : ℕ) → (b == 10 || b == 13) ≡ true → is_blank b ≡ true
two_feeds b is = ⊎_elim (λ e. blank_byte b 10 e refl) (λ e. blank_byte b 13 e refl) (either (b == 10) (b == 13) is)

pub facts_of : (b : ℕ) → Facts b (kind_of b)
unfolding kind_of
facts_of b =
    cond_both (b == 34) _ _ (Facts b) (λ e. may_begin b 34 e refl refl) (λ _.
    cond_both (b == 92) _ _ (Facts b) (λ e. may_begin b 92 e refl refl) (λ _.
    cond_both (b == 123) _ _ (Facts b) (λ e. may_begin b 123 e refl refl) (λ _.
    cond_both (b == 91) _ _ (Facts b) (λ e. eqb-true b 91 e) (λ _.
    cond_both (b == 125) _ _ (Facts b) (λ e. may_begin b 125 e refl refl) (λ _.
    cond_both (b == 93) _ _ (Facts b) (λ e. eqb-true b 93 e) (λ _.
    cond_both (b == 44) _ _ (Facts b) (λ e. eqb-true b 44 e) (λ _.
    cond_both (b == 58) _ _ (Facts b) (λ e. may_begin b 58 e refl refl) (λ _.
    cond_both (b == 32 || b == 9) _ _ (Facts b) (λ e. two_blanks b e) (λ o.
    cond_both (b == 10 || b == 13) _ _ (Facts b)
    (λ e. (two_feeds b e, cond-true (b == 10 || b == 13) 32 b e))
    (λ e. (cond-false (b == 10 || b == 13) 32 b e, none_of_four (b == 32) (b == 9) (b == 10) (b == 13) o e)))))))))))

two_blanks_in_line : (b : ℕ) → (b == 32 || b == 9) ≡ true → in_line b ≡ b
two_blanks_in_line b is = ⊎_elim (λ e. same_in_line b 32 e refl) (λ e. same_in_line b 9 e refl) (either (b == 32) (b == 9) is)

pub in_line_of : (b : ℕ) → InLine b (kind_of b)
unfolding kind_of
in_line_of b =
    cond_both (b == 34) _ _ (InLine b) (λ e. same_in_line b 34 e refl) (λ _.
    cond_both (b == 92) _ _ (InLine b) (λ e. same_in_line b 92 e refl) (λ _.
    cond_both (b == 123) _ _ (InLine b) (λ e. same_in_line b 123 e refl) (λ _.
    cond_both (b == 91) _ _ (InLine b) (λ e. same_in_line b 91 e refl) (λ _.
    cond_both (b == 125) _ _ (InLine b) (λ e. same_in_line b 125 e refl) (λ _.
    cond_both (b == 93) _ _ (InLine b) (λ e. same_in_line b 93 e refl) (λ _.
    cond_both (b == 44) _ _ (InLine b) (λ e. same_in_line b 44 e refl) (λ _.
    cond_both (b == 58) _ _ (InLine b) (λ e. same_in_line b 58 e refl) (λ _.
    cond_both (b == 32 || b == 9) _ _ (InLine b) (λ e. two_blanks_in_line b e) (λ _.
    cond_both (b == 10 || b == 13) _ _ (InLine b)
    (λ e. cond-true (b == 10 || b == 13) 32 b e)
    (λ e. cond-false (b == 10 || b == 13) 32 b e))))))))))
