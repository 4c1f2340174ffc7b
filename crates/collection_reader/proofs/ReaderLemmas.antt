-- What a reader of items has left, by one read of the reader beneath.
use Rattle.std.proofs.Common.{◌≡◌, ◌⊎◌, ℕ, List, [], ◌++◌, Option, None, Some, sym, ap, ◌∙◌, subst}
use Rattle.std.specs.Io.KnownBytes.{Consumes, IsAtEnd, Keeps}
use Rattle.std.specs.Prelude.{IsSomeAnd, option_map}
use Rattle.std.proofs.lemmas.List.{append-nil}
use Rattle.collection_reader.specs.Pages.{AreItemLinesOf, BreaksOff}
use Rattle.collection_reader.specs.private.ItemText.{Scanned, steps, text_left, unread}
use Rattle.collection_reader.proofs.PageLaws.{pages_told}
use Rattle.collection_reader.proofs.StepLemmas.{text_left-append}

-- bytes were read, and what is put for them was given
pub given : (old new : Option (List ℕ)) (s t : Scanned) (bytes put : List ℕ) → Consumes old new bytes → t ≡ (steps s bytes).scanned → put ≡ (steps s bytes).put
    → Consumes (option_map (text_left s) old) (option_map (text_left t) new) put
given None new s t bytes put consumes is is_put = tt
given (Some all) None s t bytes put consumes is is_put = absurd consumes
given (Some all) (Some rest) s t bytes put consumes is is_put =
    ap (text_left s) consumes ∙ text_left-append s bytes rest ∙ ap (λ (p : List ℕ). p ++ text_left (steps s bytes).scanned rest) (sym is_put)
    ∙ ap (λ (x : Scanned). put ++ text_left x rest) (sym is)

-- nothing was given
pub kept : (old new : Option (List ℕ)) → Consumes old new [] → Keeps old new
kept None new consumes = tt
kept (Some all) None consumes = absurd consumes
kept (Some all) (Some rest) consumes = sym consumes

-- what is kept beneath is kept
pub kept_beneath : (old new : Option (List ℕ)) (s t : Scanned) → Keeps old new → t ≡ s → Keeps (option_map (text_left s) old) (option_map (text_left t) new)
kept_beneath None new s t keeps is = tt
kept_beneath (Some all) None s t keeps is = absurd keeps
kept_beneath (Some all) (Some rest) s t keeps is = ap (text_left t) keeps ∙ ap (λ (x : Scanned). text_left x all) is

pub kept_then : (first second third : Option (List ℕ)) → Keeps first second → Keeps second third → Keeps first third
kept_then None second third a b = tt
kept_then (Some xs) None third a b = absurd a
kept_then (Some xs) (Some ys) None a b = absurd b
kept_then (Some xs) (Some ys) (Some zs) a b = b ∙ a

pub given_then : (first second third : Option (List ℕ)) (put : List ℕ) → Keeps first second → Consumes second third put → Consumes first third put
given_then None second third put a b = tt
given_then (Some xs) None third put a b = absurd a
given_then (Some xs) (Some ys) None put a b = absurd b
given_then (Some xs) (Some ys) (Some zs) put a b = sym a ∙ b

-- at the end of what is beneath
pub at_end : (old new : Option (List ℕ)) (s t : Scanned) (put : List ℕ) → Consumes old new [] → IsAtEnd new → put ≡ text_left s [] → text_left t [] ≡ []
    → Consumes (option_map (text_left s) old) (option_map (text_left t) new) put × IsAtEnd (option_map (text_left t) new)
at_end None None s t put consumes end is_put over = (tt, tt)
at_end None (Some rest) s t put consumes end is_put over = (tt, ap (text_left t) end ∙ over)
at_end (Some all) None s t put consumes end is_put over = absurd consumes
at_end (Some all) (Some rest) s t put consumes end is_put over =
    let gone : text_left t rest ≡ [] = ap (text_left t) end ∙ over in (
      ap (text_left s) (consumes ∙ end) ∙ sym is_put ∙ sym (append_none put _ gone),
      gone,
    )
  where
    append_none : (xs ys : List ℕ) → ys ≡ [] → xs ++ ys ≡ xs
    append_none xs ys is = ap (λ (t : List ℕ). xs ++ t) is ∙ append-nil xs

-- a reader of which nothing was read
pub begun : (remaining : Option (List ℕ)) (s : Scanned) (document : List ℕ) → s ≡ unread → remaining ≡ Some document
    → IsSomeAnd (option_map (text_left s) remaining) (λ text. AreItemLinesOf document text ⊎ BreaksOff document text)
begun remaining s document is known =
    subst (λ (o : Option (List ℕ)). IsSomeAnd (option_map (text_left s) o) (λ text. AreItemLinesOf document text ⊎ BreaksOff document text)) (sym known)
    (subst (λ (x : Scanned). AreItemLinesOf document (text_left x document) ⊎ BreaksOff document (text_left x document)) (sym is) (pages_told document))
