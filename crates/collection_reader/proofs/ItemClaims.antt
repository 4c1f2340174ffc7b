-- Claims between the brackets of the array, by one more byte.
use Rattle.std.proofs.Common.{◌≡◌, ◌≢◌, ◌⊎◌, inl, inr, ℕ, List, [], ◌∷◌, ◌++◌, Bool, true, false, Option, None, Some, refl, sym, ap, ◌∙◌, subst}
use Rattle.std.proofs.lemmas.Bool.{cond_both, true≢false}
use Rattle.std.proofs.lemmas.List.{append_assoc}
use Rattle.std.specs.Prelude.{map}
use Rattle.collection_items.specs.ItemLines.{in_line}
use Rattle.collection_reader.specs.Pages.{AreAfter, AreBetween, EndsWithin, is_blank, line_of, lines_of, is_unbroken}
use Rattle.collection_reader.specs.declared.item_scan.Phase.{Phase}
use Rattle.collection_reader.specs.declared.item_scan.Scan.{Scan}
use Rattle.collection_reader.specs.declared.item_scan.Step.{Step}
use Rattle.collection_reader.specs.declared.kind.Kind.{Kind}
use Rattle.collection_reader.specs.declared.nest.Mode.{Mode}
use Rattle.collection_reader.specs.declared.nest.Nest.{Nest}
use Rattle.collection_reader.specs.private.ItemScan.{after_blank, at_bracket, at_comma, at_other, at_phase, between_step, go_on, go_on_to, is_at, is_between, item_step_of, refused, within_step}
use Rattle.collection_reader.specs.private.ItemText.{Scanned, after_item, text_left}
use Rattle.collection_reader.specs.private.Nesting.{after_kind}
use Rattle.collection_reader.proofs.Claims.{AtOnce, BackClaim, CommaClaim, Encloses, EndedClaim, EndsOpen, IsEnd, IsTold, ItemBroken, ItemClaim, OpenedClaim, Settled, Told, at_once, blank_more, blank_none, ends_at_once, ends_begun, ends_later}
use Rattle.collection_reader.proofs.FeedLemmas.{IsNext, IsOfKind, feeds, feeds_nil, feeds_step, is_next}
use Rattle.collection_reader.proofs.KindFacts.{Facts, InLine}

-- a phase between the brackets of the array
abbrev pub IsOfItems : Phase → Type 0
IsOfItems Phase.Front = ⊥
IsOfItems Phase.Back = ⊥
IsOfItems Phase.Over = ⊥
IsOfItems _ = Unit {0}

-- one in which an item goes on
abbrev GoesOn : Phase → Type 0
GoesOn Phase.Item = Unit {0}
GoesOn _ = ⊥

may_go_on : (phase : Phase) (nest : Nest) (front : List ℕ) → IsOfItems phase → Settled phase nest front [] → is_between nest ≡ false → GoesOn phase
may_go_on Phase.Item nest front of settled away = tt
may_go_on Phase.Opened nest front of settled away = absurd (true≢false (sym settled.2 ∙ away))
may_go_on Phase.Comma nest front of settled away = absurd (true≢false (sym settled.2 ∙ away))
may_go_on Phase.Ended nest front of settled away = absurd (true≢false (sym settled.2 ∙ away))
may_go_on Phase.Front nest front of settled away = absurd of
may_go_on Phase.Back nest front of settled away = absurd of
may_go_on Phase.Over nest front of settled away = absurd of

-- where bytes end outside an item's brackets, braces and texts they end outside of texts
outside_between : (nest : Nest) → is_between nest ≡ true → nest.mode ≡ Mode.Outside
outside_between nest here = by_mode nest.mode here
  where
    by_mode : (mode : Mode) → is_at 0 nest.depth mode ≡ true → mode ≡ Mode.Outside
    by_mode Mode.Outside is = refl
    by_mode Mode.Text is = absurd (true≢false (sym is))
    by_mode Mode.Escape is = absurd (true≢false (sym is))

module _ (nest : Nest) (name : ℕ) (is_named : Bool) (front : List ℕ) (opens : EndsOpen front) (b : ℕ) (bytes : List ℕ) (told : IsTold bytes) where
  abbrev scan_at : Phase → Scan
  scan_at phase = record { phase = phase; nest = nest; name = name; is_named = is_named }

  -- what is told after a step from a phase
  abbrev After : Phase → Step → Type 0
  After phase step =
      let moved = after_item (record { scan = scan_at phase; front = front; back = [] }) b step in
      Told phase nest.mode front [] (b ∷ bytes) (moved.put ++ text_left moved.scanned bytes)

  refused_opened : (text : List ℕ) → OpenedClaim front (b ∷ bytes) (255 ∷ text)
  refused_opened text = record {
    between = [];
    back = b ∷ bytes;
    texts = [];
    end = 255 ∷ text;
    whole = refl;
    ends = inr (ends_at_once (b ∷ bytes) (255 ∷ text) (at_once text));
    are_between = blank_none;
    are_lines = refl;
  }

  refused_item : (text : List ℕ) → ItemBroken (b ∷ bytes) (255 ∷ text)
  refused_item text = record { tail = []; rest = b ∷ bytes; after = text; whole = refl; is_broken = refl }

  is_refused : (phase : Phase) → IsOfItems phase → After phase (refused (scan_at phase))
  is_refused Phase.Opened of = refused_opened _
  is_refused Phase.Comma of = inr (ends_at_once (b ∷ bytes) _ (at_once _))
  is_refused Phase.Item of = inr (refused_item _)
  is_refused Phase.Ended of = inr (at_once _)
  is_refused Phase.Front of = absurd of
  is_refused Phase.Back of = absurd of
  is_refused Phase.Over of = absurd of

  -- the line of an item, and those of others
  item_lines : (put : ℕ) (tail lines end : List ℕ) → put ≡ in_line b
      → put ∷ (map in_line tail ++ 10 ∷ (lines ++ end)) ≡ (line_of (b ∷ tail) ++ lines) ++ end
  item_lines put tail lines end is =
      ap (λ (p : ℕ). p ∷ (map in_line tail ++ 10 ∷ (lines ++ end))) is
      ∙ ap (λ (t : List ℕ). in_line b ∷ t) (sym (append_assoc (map in_line tail) (10 ∷ []) (lines ++ end)))
      ∙ sym (append_assoc (line_of (b ∷ tail)) lines end)

  opened_byte : (put : ℕ) → put ≡ in_line b → is_blank b ≡ false → (mode : Mode) (text : List ℕ) → (claim : ItemClaim mode front bytes text) → is_unbroken (b ∷ claim.tail) ≡ true
      → OpenedClaim front (b ∷ bytes) (put ∷ text)
  opened_byte put is solid mode text claim fed = record {
    between = b ∷ (claim.tail ++ claim.after);
    back = claim.back;
    texts = (b ∷ claim.tail) ∷ claim.texts;
    end = claim.end;
    whole = ap (λ (t : List ℕ). b ∷ t) (claim.whole ∙ sym (append_assoc claim.tail claim.after claim.back));
    ends = claim.ends;
    are_between = ([], claim.after, blank_none, (solid, fed), refl, claim.are_after);
    are_lines = ap (λ (t : List ℕ). put ∷ t) claim.are_lines ∙ item_lines put claim.tail (lines_of claim.texts) claim.end is;
  }

  opened_broken : (put : ℕ) → put ≡ in_line b → (text : List ℕ) → ItemBroken bytes text → OpenedClaim front (b ∷ bytes) (put ∷ text)
  opened_broken put is text broken = record {
    between = [];
    back = b ∷ bytes;
    texts = [];
    end = put ∷ text;
    whole = refl;
    ends = inr (ends_begun b put bytes text is broken);
    are_between = blank_none;
    are_lines = refl;
  }

  -- an item that begins there has no feed in its strings
  begins_fed : (kind : Kind) → IsOfKind b kind → is_between nest ≡ true → (next : Nest) → IsNext nest.mode kind (Some next) → (tail : List ℕ) → feeds next.mode tail ≡ true
      → is_unbroken (b ∷ tail) ≡ true
  begins_fed kind of here next is tail fed =
      subst (λ (m : Mode). feeds m (b ∷ tail) ≡ true) (outside_between nest here) (feeds_step nest.mode kind next b tail of is fed)

  opened_item : (put : ℕ) → put ≡ in_line b → is_blank b ≡ false → (kind : Kind) → IsOfKind b kind → is_between nest ≡ true → (next : Nest) → IsNext nest.mode kind (Some next)
      → (text : List ℕ) → ItemClaim next.mode front bytes text ⊎ ItemBroken bytes text → OpenedClaim front (b ∷ bytes) (put ∷ text)
  opened_item put is solid kind of here next goes text (inl claim) =
      opened_byte put is solid next.mode text claim (begins_fed kind of here next goes claim.tail claim.fed)
  opened_item put is solid kind of here next goes text (inr broken) = opened_broken put is text broken

  comma_byte : (put : ℕ) → put ≡ in_line b → is_blank b ≡ false → (mode : Mode) (text : List ℕ) → (claim : ItemClaim mode front bytes text) → is_unbroken (b ∷ claim.tail) ≡ true
      → CommaClaim front (b ∷ bytes) (put ∷ text)
  unfolding opened_byte
  comma_byte put is solid mode text claim fed =
      let opened = opened_byte put is solid mode text claim fed in
      record {
        between = opened.between;
        back = opened.back;
        first = b ∷ claim.tail;
        texts = claim.texts;
        end = opened.end;
        whole = opened.whole;
        ends = opened.ends;
        are_between = opened.are_between;
        are_lines = opened.are_lines;
      }

  comma_item : (put : ℕ) → put ≡ in_line b → is_blank b ≡ false → (kind : Kind) → IsOfKind b kind → is_between nest ≡ true → (next : Nest) → IsNext nest.mode kind (Some next)
      → (text : List ℕ) → ItemClaim next.mode front bytes text ⊎ ItemBroken bytes text → CommaClaim front (b ∷ bytes) (put ∷ text) ⊎ EndsWithin (b ∷ bytes) (put ∷ text)
  comma_item put is solid kind of here next goes text (inl claim) =
      inl (comma_byte put is solid next.mode text claim (begins_fed kind of here next goes claim.tail claim.fed))
  comma_item put is solid kind of here next goes text (inr broken) = inr (ends_begun b put bytes text is broken)

  item_byte : (put : ℕ) → put ≡ in_line b → (kind : Kind) → IsOfKind b kind → (next : Nest) → IsNext nest.mode kind (Some next)
      → (text : List ℕ) → ItemClaim next.mode front bytes text ⊎ ItemBroken bytes text → ItemClaim nest.mode front (b ∷ bytes) (put ∷ text) ⊎ ItemBroken (b ∷ bytes) (put ∷ text)
  item_byte put is kind of next goes text (inl claim) = inl (record {
    tail = b ∷ claim.tail;
    after = claim.after;
    back = claim.back;
    texts = claim.texts;
    end = claim.end;
    whole = ap (λ (t : List ℕ). b ∷ t) claim.whole;
    ends = claim.ends;
    fed = feeds_step nest.mode kind next b claim.tail of goes claim.fed;
    are_after = claim.are_after;
    are_lines = ap (λ (t : List ℕ). put ∷ t) claim.are_lines ∙ ap (λ (p : ℕ). p ∷ (map in_line claim.tail ++ 10 ∷ (lines_of claim.texts ++ claim.end))) is;
  })
  item_byte put is kind of next goes text (inr broken) = inr (record {
    tail = b ∷ broken.tail;
    rest = broken.rest;
    after = broken.after;
    whole = ap (λ (t : List ℕ). b ∷ t) broken.whole;
    is_broken = ap (λ (t : List ℕ). put ∷ t) broken.is_broken ∙ ap (λ (p : ℕ). p ∷ (map in_line broken.tail ++ 255 ∷ broken.after)) is;
  })

  abbrev scanned_at : Phase → Nest → Scanned
  scanned_at phase next = record { scan = record { phase = phase; nest = next; name = name; is_named = is_named }; front = front; back = [] }

  -- an item begins
  begins_opened : (put : ℕ) → put ≡ in_line b → is_blank b ≡ false → (kind : Kind) → IsOfKind b kind → is_between nest ≡ true → (next : Option Nest) → IsNext nest.mode kind next
      → After Phase.Opened (go_on_to (scan_at Phase.Opened) put next)
  begins_opened put is solid kind of here None goes = is_refused Phase.Opened tt
  begins_opened put is solid kind of here (Some next) goes = opened_item put is solid kind of here next goes _ (told (scanned_at Phase.Item next) (refl, opens))

  begins_next : (put : ℕ) → put ≡ in_line b → is_blank b ≡ false → (kind : Kind) → IsOfKind b kind → is_between nest ≡ true → (next : Option Nest) → IsNext nest.mode kind next
      → After Phase.Comma (go_on_to (scan_at Phase.Comma) put next)
  begins_next put is solid kind of here None goes = is_refused Phase.Comma tt
  begins_next put is solid kind of here (Some next) goes = comma_item put is solid kind of here next goes _ (told (scanned_at Phase.Item next) (refl, opens))

  -- an item goes on
  goes_on : (put : ℕ) → put ≡ in_line b → (kind : Kind) → IsOfKind b kind → (phase : Phase) → GoesOn phase → (next : Option Nest) → IsNext nest.mode kind next
      → After phase (go_on_to (scan_at phase) put next)
  goes_on put is kind of Phase.Item may None goes = is_refused Phase.Item tt
  goes_on put is kind of Phase.Item may (Some next) goes = item_byte put is kind of next goes _ (told (scanned_at Phase.Item next) (refl, opens))
  goes_on put is kind of Phase.Opened may next goes = absurd may
  goes_on put is kind of Phase.Comma may next goes = absurd may
  goes_on put is kind of Phase.Ended may next goes = absurd may
  goes_on put is kind of Phase.Front may next goes = absurd may
  goes_on put is kind of Phase.Back may next goes = absurd may
  goes_on put is kind of Phase.Over may next goes = absurd may

  more_between : is_blank b ≡ true → (texts : List (List ℕ)) (between : List ℕ) → AreBetween texts between → AreBetween texts (b ∷ between)
  more_between blank [] between are = blank_more b between blank are
  more_between blank (text ∷ texts) between (before, later, blanks, begins, is, are) =
      (b ∷ before, later, blank_more b before blank blanks, begins, ap (λ (t : List ℕ). b ∷ t) is, are)

  more_after : is_blank b ≡ true → (texts : List (List ℕ)) (after : List ℕ) → AreAfter texts after → AreAfter texts (b ∷ after)
  more_after blank [] after are = blank_more b after blank are
  more_after blank (text ∷ texts) after (blanks, before, later, are_blank, before_blank, begins, is, are) =
      (b ∷ blanks, before, later, blank_more b blanks blank are_blank, before_blank, begins, ap (λ (t : List ℕ). b ∷ t) is, are)

  opened_blank : is_blank b ≡ true → (text : List ℕ) → OpenedClaim front bytes text → OpenedClaim front (b ∷ bytes) text
  opened_blank blank text claim = record {
    between = b ∷ claim.between;
    back = claim.back;
    texts = claim.texts;
    end = claim.end;
    whole = ap (λ (t : List ℕ). b ∷ t) claim.whole;
    ends = claim.ends;
    are_between = more_between blank claim.texts claim.between claim.are_between;
    are_lines = claim.are_lines;
  }

  comma_blank : is_blank b ≡ true → (text : List ℕ) → CommaClaim front bytes text ⊎ EndsWithin bytes text → CommaClaim front (b ∷ bytes) text ⊎ EndsWithin (b ∷ bytes) text
  comma_blank blank text (inl claim) = inl (record {
    between = b ∷ claim.between;
    back = claim.back;
    first = claim.first;
    texts = claim.texts;
    end = claim.end;
    whole = ap (λ (t : List ℕ). b ∷ t) claim.whole;
    ends = claim.ends;
    are_between = more_between blank (claim.first ∷ claim.texts) claim.between claim.are_between;
    are_lines = claim.are_lines;
  })
  comma_blank blank text (inr breaks) = inr (ends_later b bytes text breaks)

  ended_blank : is_blank b ≡ true → (text : List ℕ) → EndedClaim front bytes text ⊎ AtOnce text → EndedClaim front (b ∷ bytes) text ⊎ AtOnce text
  ended_blank blank text (inl claim) = inl (record {
    after = b ∷ claim.after;
    back = claim.back;
    texts = claim.texts;
    end = claim.end;
    whole = ap (λ (t : List ℕ). b ∷ t) claim.whole;
    ends = claim.ends;
    are_after = more_after blank claim.texts claim.after claim.are_after;
    are_lines = claim.are_lines;
  })
  ended_blank blank text (inr at) = inr at

  -- an item of which nothing more comes
  item_ended : (all text : List ℕ) → EndedClaim front all text ⊎ AtOnce text → ItemClaim nest.mode front all text ⊎ ItemBroken all text
  item_ended all text (inl claim) = inl (record {
    tail = [];
    after = claim.after;
    back = claim.back;
    texts = claim.texts;
    end = claim.end;
    whole = claim.whole;
    ends = claim.ends;
    fed = feeds_nil nest.mode;
    are_after = claim.are_after;
    are_lines = claim.are_lines;
  })
  item_ended all text (inr (after, is)) = inr (record { tail = []; rest = all; after = after; whole = refl; is_broken = is })

  -- a blank
  at_blank : is_blank b ≡ true → is_between nest ≡ true → (phase : Phase) → IsOfItems phase
      → After phase (record { scan = at_phase (scan_at phase) (after_blank phase); put = None })
  at_blank blank here Phase.Opened is = opened_blank blank _ (told (scanned_at Phase.Opened nest) (refl, opens, here))
  at_blank blank here Phase.Comma is = comma_blank blank _ (told (scanned_at Phase.Comma nest) (refl, opens, here))
  at_blank blank here Phase.Item is = item_ended (b ∷ bytes) _ (ended_blank blank _ (told (scanned_at Phase.Ended nest) (refl, opens, here)))
  at_blank blank here Phase.Ended is = ended_blank blank _ (told (scanned_at Phase.Ended nest) (refl, opens, here))
  at_blank blank here Phase.Front is = absurd is
  at_blank blank here Phase.Back is = absurd is
  at_blank blank here Phase.Over is = absurd is

  comma_after : b ≡ 44 → (text : List ℕ) → CommaClaim front bytes text ⊎ EndsWithin bytes text → EndedClaim front (b ∷ bytes) (10 ∷ text) ⊎ AtOnce (10 ∷ text)
  comma_after is text (inl claim) =
      let (before, later, blank, begins, whole, are) = claim.are_between in
      inl (record {
        after = b ∷ claim.between;
        back = claim.back;
        texts = claim.first ∷ claim.texts;
        end = claim.end;
        whole = ap (λ (t : List ℕ). b ∷ t) claim.whole;
        ends = claim.ends;
        are_after = ([], before, later, blank_none, blank, begins, ap (λ (t : List ℕ). b ∷ t) whole ∙ ap (λ (c : ℕ). c ∷ (before ++ (claim.first ++ later))) is, are);
        are_lines = ap (λ (t : List ℕ). 10 ∷ t) claim.are_lines;
      })
  comma_after is text (inr breaks) = inl (record {
    after = [];
    back = b ∷ bytes;
    texts = [];
    end = text;
    whole = refl;
    ends = inr (ends_later b bytes text breaks);
    are_after = blank_none;
    are_lines = refl;
  })

  -- a comma
  comma_told : b ≡ 44 → is_between nest ≡ true → (phase : Phase) → IsOfItems phase → After phase (at_comma phase (scan_at phase))
  comma_told is here Phase.Item of = item_ended (b ∷ bytes) _ (comma_after is _ (told (scanned_at Phase.Comma nest) (refl, opens, here)))
  comma_told is here Phase.Ended of = comma_after is _ (told (scanned_at Phase.Comma nest) (refl, opens, here))
  comma_told is here Phase.Opened of = is_refused Phase.Opened tt
  comma_told is here Phase.Comma of = is_refused Phase.Comma tt
  comma_told is here Phase.Front of = absurd of
  comma_told is here Phase.Back of = absurd of
  comma_told is here Phase.Over of = absurd of

  abbrev closed_at : Scanned
  closed_at = record { scan = record { phase = Phase.Back; nest = record { depth = 1; mode = Mode.Outside }; name = name; is_named = false }; front = front; back = b ∷ [] }

  enclosed : b ≡ 93 → (text : List ℕ) → BackClaim front (b ∷ []) bytes text → Encloses front (b ∷ bytes)
  enclosed is text claim = record { closes = (bytes, ap (λ (c : ℕ). c ∷ bytes) is); envelope = claim.envelope }

  after_bracket : b ≡ 93 → (text : List ℕ) → BackClaim front (b ∷ []) bytes text ⊎ AtOnce text → IsEnd front (b ∷ bytes) text
  after_bracket is text (inl claim) = inl (enclosed is text claim, claim.none)
  after_bracket is text (inr at) = inr (ends_at_once (b ∷ bytes) text at)

  opened_end : b ≡ 93 → (text : List ℕ) → BackClaim front (b ∷ []) bytes text ⊎ AtOnce text → OpenedClaim front (b ∷ bytes) text
  opened_end is text claim = record {
    between = [];
    back = b ∷ bytes;
    texts = [];
    end = text;
    whole = refl;
    ends = after_bracket is text claim;
    are_between = blank_none;
    are_lines = refl;
  }

  ended_end : b ≡ 93 → (text : List ℕ) → BackClaim front (b ∷ []) bytes text ⊎ AtOnce text → EndedClaim front (b ∷ bytes) (10 ∷ text) ⊎ AtOnce (10 ∷ text)
  ended_end is text claim = inl (record {
    after = [];
    back = b ∷ bytes;
    texts = [];
    end = text;
    whole = refl;
    ends = after_bracket is text claim;
    are_after = blank_none;
    are_lines = refl;
  })

  -- the bracket that closes the array
  bracket_told : b ≡ 93 → (phase : Phase) → IsOfItems phase → After phase (at_bracket phase (scan_at phase))
  bracket_told is Phase.Opened of = opened_end is _ (told closed_at tt)
  bracket_told is Phase.Item of = item_ended (b ∷ bytes) _ (ended_end is _ (told closed_at tt))
  bracket_told is Phase.Ended of = ended_end is _ (told closed_at tt)
  bracket_told is Phase.Comma of = is_refused Phase.Comma tt
  bracket_told is Phase.Front of = absurd of
  bracket_told is Phase.Back of = absurd of
  bracket_told is Phase.Over of = absurd of

  -- another byte
  other_told : (kind : Kind) → IsOfKind b kind → is_between nest ≡ true → (in_line b ≡ b) × (is_blank b ≡ false) → (phase : Phase) → IsOfItems phase
      → After phase (at_other phase (scan_at phase) kind b)
  other_told kind of here is Phase.Opened may = begins_opened b (sym is.0) is.1 kind of here (after_kind 125 nest kind) (is_next 125 nest kind)
  other_told kind of here is Phase.Comma may = begins_next b (sym is.0) is.1 kind of here (after_kind 125 nest kind) (is_next 125 nest kind)
  other_told kind of here is Phase.Item may = goes_on b (sym is.0) kind of Phase.Item tt (after_kind 125 nest kind) (is_next 125 nest kind)
  other_told kind of here is Phase.Ended may = is_refused Phase.Ended tt
  other_told kind of here is Phase.Front may = absurd may
  other_told kind of here is Phase.Back may = absurd may
  other_told kind of here is Phase.Over may = absurd may

  bracket_begins : b ≡ 91 → (in_line b ≡ b) × (is_blank b ≡ false)
  bracket_begins is = subst (λ (x : ℕ). (in_line x ≡ x) × (is_blank x ≡ false)) (sym is) (refl, refl)

  between_told : (kind : Kind) → Facts b kind → IsOfKind b kind → is_between nest ≡ true → (phase : Phase) → IsOfItems phase
      → After phase (between_step (scan_at phase) b kind)
  between_told Kind.Blank facts byte here phase of = at_blank facts here phase of
  between_told Kind.Feed facts byte here phase of = at_blank facts.0 here phase of
  between_told Kind.Comma facts byte here phase of = comma_told facts here phase of
  between_told Kind.BracketEnd facts byte here phase of = bracket_told facts phase of
  between_told Kind.Quote facts byte here phase of = other_told Kind.Quote byte here facts phase of
  between_told Kind.Backslash facts byte here phase of = other_told Kind.Backslash byte here facts phase of
  between_told Kind.Brace facts byte here phase of = other_told Kind.Brace byte here facts phase of
  between_told Kind.Bracket facts byte here phase of = other_told Kind.Bracket byte here (bracket_begins facts) phase of
  between_told Kind.BraceEnd facts byte here phase of = other_told Kind.BraceEnd byte here facts phase of
  between_told Kind.Colon facts byte here phase of = other_told Kind.Colon byte here facts phase of
  between_told Kind.Other facts byte here phase of = other_told Kind.Other byte here facts phase of

  -- within an item
  within_byte : (kind : Kind) (put : ℕ) → in_line b ≡ put → IsOfKind b kind → (phase : Phase) → GoesOn phase → After phase (go_on (scan_at phase) kind put)
  within_byte kind put is of phase may = goes_on put (sym is) kind of phase may (after_kind 125 nest kind) (is_next 125 nest kind)

  within_told : (kind : Kind) → InLine b kind → IsOfKind b kind → (phase : Phase) → GoesOn phase → After phase (within_step (scan_at phase) b kind)
  within_told Kind.Feed is of phase may = within_byte Kind.Feed 32 is of phase may
  within_told Kind.Blank is of phase may = within_byte Kind.Blank b is of phase may
  within_told Kind.Comma is of phase may = within_byte Kind.Comma b is of phase may
  within_told Kind.BracketEnd is of phase may = within_byte Kind.BracketEnd b is of phase may
  within_told Kind.Quote is of phase may = within_byte Kind.Quote b is of phase may
  within_told Kind.Backslash is of phase may = within_byte Kind.Backslash b is of phase may
  within_told Kind.Brace is of phase may = within_byte Kind.Brace b is of phase may
  within_told Kind.Bracket is of phase may = within_byte Kind.Bracket b is of phase may
  within_told Kind.BraceEnd is of phase may = within_byte Kind.BraceEnd b is of phase may
  within_told Kind.Colon is of phase may = within_byte Kind.Colon b is of phase may
  within_told Kind.Other is of phase may = within_byte Kind.Other b is of phase may

  -- a byte between the brackets of the array
  pub item_told : (kind : Kind) → Facts b kind → InLine b kind → IsOfKind b kind → (phase : Phase) → IsOfItems phase → Settled phase nest front []
      → After phase (item_step_of (scan_at phase) b kind)
  item_told kind facts is byte phase of settled =
      cond_both (is_between nest) (between_step (scan_at phase) b kind) (within_step (scan_at phase) b kind) (After phase)
      (λ here. between_told kind facts byte here phase of)
      (λ away. within_told kind is byte phase (may_go_on phase nest front of settled away))
