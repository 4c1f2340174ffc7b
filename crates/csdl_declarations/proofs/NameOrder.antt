-- Types in the order of their whole names.
use Rattle.std.proofs.Common.{◌≡◌, ℕ, List, [], ◌∷◌, Option, Some, None, refl, sym, ap, subst, ◌∙◌, map, Bool, true, false, cond, nat_eq, Ordering, Less, Equal, Greater}
use Rattle.std.specs.Ordering.{nat_cmp, ordering_reverse, match_ordering}
use Rattle.std.specs.List.Sorted.{IsStrictlySortedBy}
use Rattle.std.specs.Cmp.Lexicographic.{pointwise, slice_cmp}
use Rattle.std.proofs.lemmas.Cmp.{nat_list_cmp_total, tied_itself}
use Rattle.std.proofs.lemmas.Map.Lookups.{exact_bytes}
use Rattle.std.proofs.lemmas.Slice.Eq.{bytes_eq-Decides}
use Rattle.csdl_declarations.specs.Declarations.{TypeDeclaration, AreByName, full_name, first_named, put_type, in_name_order}
use Rattle.csdl_declarations.proofs.Reading.{AllAbove, unequal_later, equal_itself}

abbrev compared : TypeDeclaration → TypeDeclaration → Ordering
compared t u = slice_cmp nat_cmp (full_name t) (full_name u)

abbrev AreRising : List TypeDeclaration → Type 0
AreRising ts = IsStrictlySortedBy (slice_cmp nat_cmp) (map full_name ts)

turned : (t u : TypeDeclaration) → compared t u ≡ Greater → compared u t ≡ Less
turned t u above = nat_list_cmp_total.antisymm (full_name u) (full_name t) ∙ ap ordering_reverse above

-- ---- names rise

put_above : (n : List ℕ) (t : TypeDeclaration) (us : List TypeDeclaration) → slice_cmp nat_cmp n (full_name t) ≡ Less → AllAbove n (map full_name us)
    → AllAbove n (map full_name (put_type t us))
put_above n t [] below all = (below, tt)
put_above n t (u ∷ us) below all = by (compared t u) (put_above n t us below all.1)
  where
    by : (o : Ordering) → AllAbove n (map full_name (put_type t us)) → AllAbove n (map full_name (match_ordering o (t ∷ u ∷ us) (t ∷ us) (u ∷ put_type t us)))
    by Less later = (below, all)
    by Equal later = (below, all.1)
    by Greater later = (all.0, later)

-- what is above a name is above a lower one
higher : (m n : List ℕ) (names : List (List ℕ)) → slice_cmp nat_cmp m n ≡ Less → AllAbove n names → AllAbove m names
higher m n [] below all = tt
higher m n (x ∷ names) below all = (nat_list_cmp_total.trans m n x below all.0, higher m n names below all.1)

put_rising : (t : TypeDeclaration) (us : List TypeDeclaration) → AreRising us → AreRising (put_type t us)
unfolding IsStrictlySortedBy
put_rising t [] rising = (tt, tt)
put_rising t (u ∷ us) rising = by (compared t u) refl (put_rising t us rising.1)
  where
    by : (o : Ordering) → compared t u ≡ o → AreRising (put_type t us) → AreRising (match_ordering o (t ∷ u ∷ us) (t ∷ us) (u ∷ put_type t us))
    by Less is later = ((is, higher (full_name t) (full_name u) (map full_name us) is rising.0), rising)
    by Equal is later = (subst (λ n. AllAbove n (map full_name us)) (sym (exact_bytes (full_name t) (full_name u) is)) rising.0, rising.1)
    by Greater is later = (put_above (full_name u) t us (turned t u is) rising.0, later)

-- ---- the first of a name

abbrev before : TypeDeclaration → List ℕ → Option TypeDeclaration → Option TypeDeclaration
before t asked rest = cond (pointwise nat_eq (full_name t) asked) (Some t) rest

-- of two types of one name the second is not found
hidden : (t u : TypeDeclaration) (asked : List ℕ) (rest : Option TypeDeclaration) → full_name t ≡ full_name u → before t asked rest ≡ before t asked (before u asked rest)
hidden t u asked rest same = by (pointwise nat_eq (full_name t) asked) (pointwise nat_eq (full_name u) asked) (ap (λ n. pointwise nat_eq n asked) same)
  where
    by : (a b : Bool) → a ≡ b → cond a (Some t) rest ≡ cond a (Some t) (cond b (Some u) rest)
    by true b same = refl
    by false b same = ap (λ v. cond v (Some u) rest) same

-- two types of different names may be swapped
swapped : (t u : TypeDeclaration) (asked : List ℕ) (rest : Option TypeDeclaration) → (full_name t ≡ full_name u → ⊥) → before u asked (before t asked rest) ≡ before t asked (before u asked rest)
swapped t u asked rest apart = by (pointwise nat_eq (full_name t) asked) (pointwise nat_eq (full_name u) asked) refl refl
  where
    by : (a b : Bool) → pointwise nat_eq (full_name t) asked ≡ a → pointwise nat_eq (full_name u) asked ≡ b
        → cond b (Some u) (cond a (Some t) rest) ≡ cond a (Some t) (cond b (Some u) rest)
    by true true x y = absurd (apart ((bytes_eq-Decides (full_name t) asked).0 x ∙ sym ((bytes_eq-Decides (full_name u) asked).0 y)))
    by true false x y = refl
    by false true x y = refl
    by false false x y = refl

put_first : (t : TypeDeclaration) (us : List TypeDeclaration) (asked : List ℕ) → first_named (put_type t us) asked ≡ before t asked (first_named us asked)
put_first t [] asked = refl
put_first t (u ∷ us) asked = by (compared t u) refl (put_first t us asked)
  where
    apart : compared t u ≡ Greater → full_name t ≡ full_name u → ⊥
    apart above same =
        let tie : compared t u ≡ Equal = ap (λ n. slice_cmp nat_cmp (full_name t) n) (sym same) ∙ tied_itself nat_list_cmp_total (full_name t) in
        let clash : Greater ≡ Equal = sym above ∙ tie in
        cc

    by : (o : Ordering) → compared t u ≡ o → first_named (put_type t us) asked ≡ before t asked (first_named us asked)
        → first_named (match_ordering o (t ∷ u ∷ us) (t ∷ us) (u ∷ put_type t us)) asked ≡ before t asked (before u asked (first_named us asked))
    by Less is later = refl
    by Equal is later = hidden t u asked (first_named us asked) (exact_bytes (full_name t) (full_name u) is)
    by Greater is later = ap (before u asked) later ∙ swapped t u asked (first_named us asked) (apart is)

pub by_name : (ts : List TypeDeclaration) → AreByName ts (in_name_order ts)
unfolding IsStrictlySortedBy
by_name [] = record { rising = tt; first = λ asked. refl }
by_name (t ∷ ts) =
    let rest = by_name ts in
    record {
      rising = put_rising t (in_name_order ts) rest.rising;
      first = λ asked. put_first t (in_name_order ts) asked ∙ ap (before t asked) (rest.first asked);
    }

-- ---- one list

-- above a name there is no type of it
none_above : (n : List ℕ) (ts : List TypeDeclaration) → AllAbove n (map full_name ts) → first_named ts n ≡ None
none_above n [] all = refl
none_above n (t ∷ ts) all = rw (unequal_later n (full_name t) all.0) (none_above n ts all.1)

at_front : (t : TypeDeclaration) (ts : List TypeDeclaration) → first_named (t ∷ ts) (full_name t) ≡ Some t
at_front t ts = rw (equal_itself (full_name t))

-- where two lists agree on each name, the names of neither begin below those of the other
not_below : (t u : TypeDeclaration) (ts us : List TypeDeclaration) → AreRising (u ∷ us)
    → first_named (t ∷ ts) (full_name t) ≡ first_named (u ∷ us) (full_name t) → compared t u ≡ Less → ⊥
unfolding IsStrictlySortedBy
not_below t u ts us rising same below =
    let clash : Some t ≡ None = sym (at_front t ts) ∙ same ∙ none_above (full_name t) (u ∷ us) (below, higher (full_name t) (full_name u) (map full_name us) below rising.0) in
    cc

abbrev Agree : List TypeDeclaration → List TypeDeclaration → Type 0
Agree ts us = (asked : List ℕ) → first_named ts asked ≡ first_named us asked

behind : (t : TypeDeclaration) (ts us : List TypeDeclaration) → AllAbove (full_name t) (map full_name ts) → AllAbove (full_name t) (map full_name us)
    → Agree (t ∷ ts) (t ∷ us) → Agree ts us
behind t ts us above above' same asked = by (pointwise nat_eq (full_name t) asked) refl (same asked)
  where
    by : (b : Bool) → pointwise nat_eq (full_name t) asked ≡ b → cond b (Some t) (first_named ts asked) ≡ cond b (Some t) (first_named us asked) → first_named ts asked ≡ first_named us asked
    by true is here =
        let name = (bytes_eq-Decides (full_name t) asked).0 is in
        subst (λ n. first_named ts n ≡ first_named us n) name (none_above (full_name t) ts above ∙ sym (none_above (full_name t) us above'))
    by false is here = here

one_list : (ts us : List TypeDeclaration) → AreRising ts → AreRising us → Agree ts us → ts ≡ us
unfolding IsStrictlySortedBy
one_list [] [] rising rising' same = refl
one_list [] (u ∷ us) rising rising' same =
    let clash : None ≡ Some u = same (full_name u) ∙ at_front u us in
    cc
one_list (t ∷ ts) [] rising rising' same =
    let clash : Some t ≡ None = sym (at_front t ts) ∙ same (full_name t) in
    cc
one_list (t ∷ ts) (u ∷ us) rising rising' same = by (compared t u) refl (one_list ts us rising.1 rising'.1)
  where
    by : (o : Ordering) → compared t u ≡ o → (Agree ts us → ts ≡ us) → t ∷ ts ≡ u ∷ us
    by Less is rest = absurd (not_below t u ts us rising' (same (full_name t)) is)
    by Greater is rest = absurd (not_below u t us ts rising (sym (same (full_name u))) (turned t u is))
    by Equal is rest =
        let names : full_name t ≡ full_name u = exact_bytes (full_name t) (full_name u) is in
        let found : Some t ≡ Some u = sym (at_front t ts) ∙ same (full_name t) ∙ ap (first_named (u ∷ us)) names ∙ at_front u us in
        let heads : t ≡ u = cc in
        let above : AllAbove (full_name t) (map full_name us) = subst (λ n. AllAbove n (map full_name us)) (sym names) rising'.0 in
        let agree : Agree (t ∷ ts) (t ∷ us) = subst (λ v. Agree (t ∷ ts) (v ∷ us)) (sym heads) same in
        ap (λ v. v ∷ ts) heads ∙ ap (λ vs. u ∷ vs) (rest (behind t ts us rising.0 above agree))

pub one_by_name : (types a b : List TypeDeclaration) → AreByName types a → AreByName types b → a ≡ b
one_by_name types a b here there = one_list a b here.rising there.rising (λ asked. here.first asked ∙ sym (there.first asked))
