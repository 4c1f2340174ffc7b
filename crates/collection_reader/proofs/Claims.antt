-- What the lines that a scan gives are, from where it stands to the end of the document.
use Rattle.std.proofs.Common.{◌≡◌, ◌⊎◌, inl, inr, ℕ, List, [], ◌∷◌, ◌++◌, true, refl, sym, ap, ◌∙◌}
use Rattle.std.proofs.lemmas.List.Elements.{All-cons, All-nil}
use Rattle.std.specs.Prelude.{map}
use Rattle.collection_items.specs.ItemLines.{in_line}
use Rattle.collection_reader.specs.Pages.{AreAfter, AreBetween, EndsWithin, IsBlank, is_blank, lines_of}
use Rattle.collection_reader.specs.declared.item_scan.Phase.{Phase}
use Rattle.collection_reader.specs.declared.nest.Mode.{Mode}
use Rattle.collection_reader.specs.declared.nest.Nest.{Nest}
use Rattle.collection_reader.specs.private.EnvelopeTest.{is_envelope}
use Rattle.collection_reader.specs.private.ItemScan.{is_between}
use Rattle.collection_reader.specs.private.ItemText.{Scanned, text_left}
use Rattle.collection_reader.proofs.FeedLemmas.{feeds}

-- the front ends with the bracket that opens the array
abbrev pub EndsOpen : List ℕ → Type 0
EndsOpen front = (start : List ℕ) × (front ≡ start ++ 91 ∷ [])

-- what stands around the items is a collection, and the back begins with the bracket that closes the array
pub record Encloses (front back : List ℕ) : Type 0 where
  pub closes : (rest : List ℕ) × (back ≡ 93 ∷ rest)
  pub envelope : is_envelope front back ≡ true

-- what comes after the lines of the items: nothing, or the beginning of one more and a byte that no text has
abbrev pub IsEnd : (front back end : List ℕ) → Type 0
IsEnd front back end = (Encloses front back × (end ≡ [])) ⊎ EndsWithin back end

-- the byte comes at once
abbrev pub AtOnce : List ℕ → Type 0
AtOnce text = (after : List ℕ) × (text ≡ 255 ∷ after)

-- a front of which these bytes are the first ones and the document's others follow
pub record FrontClaim (front bytes text : List ℕ) : Type 0 where
  pub whole_front : List ℕ
  pub between : List ℕ
  pub back : List ℕ
  pub texts : List (List ℕ)
  pub end : List ℕ
  pub whole : front ++ bytes ≡ whole_front ++ (between ++ back)
  pub opens : EndsOpen whole_front
  pub ends : IsEnd whole_front back end
  pub are_between : AreBetween texts between
  pub are_lines : text ≡ lines_of texts ++ end

-- items follow, if any
pub record OpenedClaim (front bytes text : List ℕ) : Type 0 where
  pub between : List ℕ
  pub back : List ℕ
  pub texts : List (List ℕ)
  pub end : List ℕ
  pub whole : bytes ≡ between ++ back
  pub ends : IsEnd front back end
  pub are_between : AreBetween texts between
  pub are_lines : text ≡ lines_of texts ++ end

-- an item follows
pub record CommaClaim (front bytes text : List ℕ) : Type 0 where
  pub between : List ℕ
  pub back : List ℕ
  pub first : List ℕ
  pub texts : List (List ℕ)
  pub end : List ℕ
  pub whole : bytes ≡ between ++ back
  pub ends : IsEnd front back end
  pub are_between : AreBetween (first ∷ texts) between
  pub are_lines : text ≡ lines_of (first ∷ texts) ++ end

-- the rest of an item follows, from a place in that mode on
pub record ItemClaim (mode : Mode) (front bytes text : List ℕ) : Type 0 where
  pub tail : List ℕ
  pub after : List ℕ
  pub back : List ℕ
  pub texts : List (List ℕ)
  pub end : List ℕ
  pub whole : bytes ≡ tail ++ (after ++ back)
  pub ends : IsEnd front back end
  pub fed : feeds mode tail ≡ true
  pub are_after : AreAfter texts after
  pub are_lines : text ≡ map in_line tail ++ 10 ∷ (lines_of texts ++ end)

-- it breaks off
pub record ItemBroken (bytes text : List ℕ) : Type 0 where
  pub tail : List ℕ
  pub rest : List ℕ
  pub after : List ℕ
  pub whole : bytes ≡ tail ++ rest
  pub is_broken : text ≡ map in_line tail ++ 255 ∷ after

-- what stands after an item follows
pub record EndedClaim (front bytes text : List ℕ) : Type 0 where
  pub after : List ℕ
  pub back : List ℕ
  pub texts : List (List ℕ)
  pub end : List ℕ
  pub whole : bytes ≡ after ++ back
  pub ends : IsEnd front back end
  pub are_after : AreAfter texts after
  pub are_lines : text ≡ 10 ∷ (lines_of texts ++ end)

-- the rest of what stands after the items follows
pub record BackClaim (front back bytes text : List ℕ) : Type 0 where
  pub envelope : is_envelope front (back ++ bytes) ≡ true
  pub none : text ≡ []

-- what is told of the lines at a phase, where the bytes before end in that mode
abbrev pub Told : Phase → Mode → (front back bytes text : List ℕ) → Type 0
Told Phase.Front mode front back bytes text = FrontClaim front bytes text ⊎ AtOnce text
Told Phase.Opened mode front back bytes text = OpenedClaim front bytes text
Told Phase.Comma mode front back bytes text = CommaClaim front bytes text ⊎ EndsWithin bytes text
Told Phase.Item mode front back bytes text = ItemClaim mode front bytes text ⊎ ItemBroken bytes text
Told Phase.Ended mode front back bytes text = EndedClaim front bytes text ⊎ AtOnce text
Told Phase.Back mode front back bytes text = BackClaim front back bytes text ⊎ AtOnce text
Told Phase.Over mode front back bytes text = ⊥

-- what holds of where a scan stands
abbrev pub Settled : Phase → Nest → (front back : List ℕ) → Type 0
Settled Phase.Front nest front back = back ≡ []
Settled Phase.Opened nest front back = (back ≡ []) × EndsOpen front × (is_between nest ≡ true)
Settled Phase.Comma nest front back = (back ≡ []) × EndsOpen front × (is_between nest ≡ true)
Settled Phase.Item nest front back = (back ≡ []) × EndsOpen front
Settled Phase.Ended nest front back = (back ≡ []) × EndsOpen front × (is_between nest ≡ true)
Settled Phase.Back nest front back = Unit {0}
Settled Phase.Over nest front back = ⊥

-- the same of the bytes that are left, for any scan that is settled
abbrev pub IsTold : List ℕ → Type 0
IsTold bytes = (s : Scanned) → Settled s.scan.phase s.scan.nest s.front s.back → Told s.scan.phase s.scan.nest.mode s.front s.back bytes (text_left s bytes)

-- the byte that no text has, at once
pub at_once : (text : List ℕ) → AtOnce (255 ∷ text)
at_once text = (text, refl)

pub ends_at_once : (more text : List ℕ) → AtOnce text → EndsWithin more text
ends_at_once more text (after, is) = record { skipped = []; begun = []; rest = more; after = after; stands = refl; ends = is }

-- one more byte before the beginning of an item
pub ends_later : (b : ℕ) (more text : List ℕ) → EndsWithin more text → EndsWithin (b ∷ more) text
ends_later b more text e = record {
  skipped = b ∷ e.skipped;
  begun = e.begun;
  rest = e.rest;
  after = e.after;
  stands = ap (λ (t : List ℕ). b ∷ t) e.stands;
  ends = e.ends;
}

-- an item that breaks off, from its first byte on
pub ends_begun : (b put : ℕ) (bytes text : List ℕ) → put ≡ in_line b → ItemBroken bytes text → EndsWithin (b ∷ bytes) (put ∷ text)
ends_begun b put bytes text is broken = record {
  skipped = [];
  begun = b ∷ broken.tail;
  rest = broken.rest;
  after = broken.after;
  stands = ap (λ (t : List ℕ). b ∷ t) broken.whole;
  ends = ap (λ (t : List ℕ). put ∷ t) broken.is_broken ∙ ap (λ (p : ℕ). p ∷ (map in_line broken.tail ++ 255 ∷ broken.after)) is;
}

pub blank_none : IsBlank []
blank_none = All-nil (λ (x : ℕ). is_blank x ≡ true)

pub blank_more : (b : ℕ) (text : List ℕ) → is_blank b ≡ true → IsBlank text → IsBlank (b ∷ text)
blank_more b text is blanks = All-cons (λ (x : ℕ). is_blank x ≡ true) b text is blanks
