-- Each text that is not seen stands once among those that are put after the seen ones, and no other does.
use Rattle.std.proofs.Common.{◌≡◌, ◌≢◌, ◌↔◌, append_assoc, refl, sym, ap, ◌∙◌, subst, ℕ, List, [], ◌∷◌, ◌++◌, ◌||◌, ◌&&◌, Bool, not, true, false, cond, map, nat_eq, arith}
use Rattle.std.specs.Cmp.Lexicographic.{pointwise}
use Rattle.std.specs.List.{Contains, IsDistinct, list_any}
use Rattle.std.proofs.lemmas.Bool.{false≢true}
use Rattle.std.proofs.lemmas.Cmp.{nat_list_eq_equiv}
use Rattle.std.proofs.lemmas.List.{append-nil}
use Rattle.std.proofs.lemmas.List.Folds.{list_any-append}
use Rattle.std.proofs.lemmas.Map.Keys.{IsDistinct-from_apart, IsDistinct-push, IsDistinct-tail}
use Rattle.std.proofs.lemmas.Map.Views.{Contains-from_any, list_any-from_Contains}
use Rattle.std.proofs.lemmas.Slice.Eq.{bytes_eq-Decides}
use Rattle.odata_syntax.specs.Tree.{Tree}
use Rattle.odata_checked_filter.specs.PropertyPaths.{node_paths, path_text, property_paths, unseen}

same : (a b : List ℕ) → pointwise nat_eq a b ≡ true → a ≡ b
same a b is = (bytes_eq-Decides a b).0 is

-- ---- which texts stand there

seen_already : (one more seen : Bool) → (one ≡ true → seen ≡ true) → (more && not seen) ≡ ((one || more) && not seen)
seen_already true true true is = refl
seen_already true false true is = refl
seen_already true more false is = absurd (false≢true (is refl))
seen_already false more seen is = refl

seen_now : (one more seen : Bool) → (one ≡ true → seen ≡ false) → (one || (more && not (seen || (one || false)))) ≡ ((one || more) && not seen)
seen_now true more false is = refl
seen_now true more true is = absurd (false≢true (sym (is refl)))
seen_now false true true is = refl
seen_now false true false is = refl
seen_now false false seen is = refl

unseen_texts : (text : List ℕ) (seen texts : List (List ℕ))
    → list_any (pointwise nat_eq text) (unseen seen texts) ≡ (list_any (pointwise nat_eq text) texts && not (list_any (pointwise nat_eq text) seen))
unseen_texts text seen [] = refl
unseen_texts text seen (first ∷ texts) = by (list_any (pointwise nat_eq first) seen) refl (unseen_texts text seen texts) (unseen_texts text (seen ++ first ∷ []) texts)
  where
    is_first : Bool
    is_first = pointwise nat_eq text first

    is_later : Bool
    is_later = list_any (pointwise nat_eq text) texts

    is_seen : Bool
    is_seen = list_any (pointwise nat_eq text) seen

    as_first : (b : Bool) → list_any (pointwise nat_eq first) seen ≡ b → is_first ≡ true → is_seen ≡ b
    as_first b reported is = ap (λ (t : List ℕ). list_any (pointwise nat_eq t) seen) (same text first is) ∙ reported

    by : (b : Bool) → list_any (pointwise nat_eq first) seen ≡ b
        → list_any (pointwise nat_eq text) (unseen seen texts) ≡ (is_later && not is_seen)
        → list_any (pointwise nat_eq text) (unseen (seen ++ first ∷ []) texts) ≡ (is_later && not (list_any (pointwise nat_eq text) (seen ++ first ∷ [])))
        → list_any (pointwise nat_eq text) (cond b (unseen seen texts) (first ∷ unseen (seen ++ first ∷ []) texts)) ≡ ((is_first || is_later) && not is_seen)
    by true reported there put = there ∙ seen_already is_first is_later is_seen (as_first true reported)
    by false reported there put =
        ap (λ (b : Bool). is_first || b) (put ∙ ap (λ (b : Bool). is_later && not b) (list_any-append (pointwise nat_eq text) seen (first ∷ [])))
        ∙ seen_now is_first is_later is_seen (as_first false reported)

-- ---- each once

distinct_texts : (seen texts : List (List ℕ)) → IsDistinct (pointwise nat_eq) seen → IsDistinct (pointwise nat_eq) (seen ++ unseen seen texts)
distinct_texts seen [] are = subst (IsDistinct (pointwise nat_eq)) (sym (append-nil seen)) are
distinct_texts seen (text ∷ texts) are =
    by (list_any (pointwise nat_eq text) seen) refl (distinct_texts seen texts are) (distinct_texts (seen ++ text ∷ []) texts)
  where
    by : (b : Bool) → list_any (pointwise nat_eq text) seen ≡ b
        → IsDistinct (pointwise nat_eq) (seen ++ unseen seen texts)
        → (IsDistinct (pointwise nat_eq) (seen ++ text ∷ []) → IsDistinct (pointwise nat_eq) ((seen ++ text ∷ []) ++ unseen (seen ++ text ∷ []) texts))
        → IsDistinct (pointwise nat_eq) (seen ++ cond b (unseen seen texts) (text ∷ unseen (seen ++ text ∷ []) texts))
    by true reported there put = there
    by false reported there put =
        subst (IsDistinct (pointwise nat_eq)) (append_assoc seen (text ∷ []) (unseen (seen ++ text ∷ []) texts)) (put (IsDistinct-push nat_list_eq_equiv seen text are reported))

pub paths_once : (tree : Tree) → IsDistinct (pointwise nat_eq) (property_paths tree)
paths_once tree =
    let texts = map path_text (node_paths [] [] tree) in
    IsDistinct-tail (pointwise nat_eq) [] (unseen ([] ∷ []) texts)
    (distinct_texts ([] ∷ []) texts (IsDistinct-from_apart (pointwise nat_eq) ([] ∷ []) (λ i j d before within. absurd (omega (arith, before, within)))))

-- ---- of the nodes

and_both : (a b : Bool) → (a && b) ≡ true → (a ≡ true) × (b ≡ true)
and_both true b is = (refl, is)
and_both false b is = absurd (false≢true is)

not_empty : (text : List ℕ) → not (list_any (pointwise nat_eq text) ([] ∷ [])) ≡ true → text ≢ []
not_empty text is none = absurd (false≢true (sym (ap (λ (t : List ℕ). not (list_any (pointwise nat_eq t) ([] ∷ []))) none) ∙ is))

some_text : (text : List ℕ) → text ≢ [] → not (list_any (pointwise nat_eq text) ([] ∷ [])) ≡ true
some_text [] some = absurd (some refl)
some_text (code ∷ codes) some = refl

pub paths_of_nodes : (tree : Tree) (text : List ℕ) → Contains (property_paths tree) text ↔ ((text ≢ []) × Contains (map path_text (node_paths [] [] tree)) text)
paths_of_nodes tree text =
    let texts = map path_text (node_paths [] [] tree) in
    let whole = unseen_texts text ([] ∷ []) texts in (
      λ stands.
          let both = and_both (list_any (pointwise nat_eq text) texts) (not (list_any (pointwise nat_eq text) ([] ∷ [])))
          (sym whole ∙ list_any-from_Contains nat_list_eq_equiv text (property_paths tree) stands) in
          (not_empty text both.1, Contains-from_any same text texts both.0),
      λ there.
          Contains-from_any same text (property_paths tree)
          (whole
          ∙ ap (λ (b : Bool). b && not (list_any (pointwise nat_eq text) ([] ∷ []))) (list_any-from_Contains nat_list_eq_equiv text texts there.1)
          ∙ some_text text there.0),
    )
