-- The lines that a scan gives of a document are those of its items, or end with a byte that no text has.
use Rattle.std.proofs.Common.{length, ◌≡◌, ◌⊎◌, inl, inr, ⊎_elim, ℕ, List, [], ◌∷◌, ◌++◌, Bool, true, false, cond, Option, None, Some, refl, sym, ap, ◌∙◌, subst}
use Rattle.std.proofs.lemmas.Bool.{cond_both, cases_Bool, cond-false, cond-true, and_parts}
use Rattle.std.proofs.lemmas.List.{append-nil, append_assoc}
use Rattle.std.proofs.lemmas.Str.{IsUtf8-from_is_utf8}
use Rattle.std.specs.Prelude.{codes, option_and_then}
use Rattle.std.specs.Str.{is_utf8}
use Rattle.serde_json.specs.Data.{Data, Items, Members, array, boolean, item, no_items, null, number, object, string}
use Rattle.serde_json.specs.Find.{as_array, get_member}
use Rattle.serde_json.specs.Read.{read}
use Rattle.serde_json.specs.View.{items_of}
use Rattle.json.proofs.Found.{Some_inj}
use Rattle.collection_items.specs.JudgedItems.{array_of}
use Rattle.collection_reader.specs.Pages.{AreItemLinesOf, BreaksOff, IsArrayOf, IsCutAt, lines_of, null_text}
use Rattle.collection_reader.specs.declared.item_scan.Phase.{Phase}
use Rattle.collection_reader.specs.declared.item_scan.Scan.{Scan}
use Rattle.collection_reader.specs.declared.item_scan.Step.{Step}
use Rattle.collection_reader.specs.declared.kind.Kind.{Kind}
use Rattle.collection_reader.specs.declared.nest.Nest.{Nest}
use Rattle.collection_reader.specs.private.EnvelopeTest.{array_in, is_empty, is_envelope, is_only_null}
use Rattle.collection_reader.specs.private.ItemScan.{front_step_of, go_past, is_bracket, is_own, item_step_of, name_after, named_after, opened, own_step}
use Rattle.collection_reader.specs.private.ItemText.{Scanned, after_back, after_front, after_item, ends_well, step, text_left, unread}
use Rattle.collection_reader.specs.private.Kinds.{kind_of}
use Rattle.collection_reader.specs.private.Nesting.{after_kind}
use Rattle.collection_reader.proofs.Claims.{AtOnce, BackClaim, Encloses, EndsOpen, FrontClaim, IsEnd, IsTold, OpenedClaim, Settled, Told, at_once, blank_none, ends_at_once}
use Rattle.collection_reader.proofs.ItemClaims.{IsOfItems, item_told}
use Rattle.collection_reader.proofs.FeedLemmas.{of_kind}
use Rattle.collection_reader.proofs.KindFacts.{Facts, facts_of, in_line_of}
use Rattle.collection_reader.proofs.StepLemmas.{text_left-byte, text_left-nil}

module _ (s : Scan) (front : List ℕ) (b : ℕ) (bytes : List ℕ) (told : IsTold bytes) where
  -- what is told after a step before the items
  abbrev AfterFront : Step → Type 0
  AfterFront step =
      let moved = after_front (record { scan = s; front = front; back = [] }) b step in
      Told Phase.Front s.nest.mode front [] (b ∷ bytes) (moved.put ++ text_left moved.scanned bytes)

  front_byte : (text : List ℕ) → FrontClaim (front ++ b ∷ []) bytes text ⊎ AtOnce text → FrontClaim front (b ∷ bytes) text ⊎ AtOnce text
  front_byte text (inl claim) = inl (record {
    whole_front = claim.whole_front;
    between = claim.between;
    back = claim.back;
    texts = claim.texts;
    end = claim.end;
    whole = sym (append_assoc front (b ∷ []) bytes) ∙ claim.whole;
    opens = claim.opens;
    ends = claim.ends;
    are_between = claim.are_between;
    are_lines = claim.are_lines;
  })
  front_byte text (inr at) = inr at

  front_opened : EndsOpen (front ++ b ∷ []) → (text : List ℕ) → OpenedClaim (front ++ b ∷ []) bytes text → FrontClaim front (b ∷ bytes) text
  front_opened opens text claim = record {
    whole_front = front ++ b ∷ [];
    between = claim.between;
    back = claim.back;
    texts = claim.texts;
    end = claim.end;
    whole = sym (append_assoc front (b ∷ []) bytes) ∙ ap (λ (t : List ℕ). (front ++ b ∷ []) ++ t) claim.whole;
    opens = opens;
    ends = claim.ends;
    are_between = claim.are_between;
    are_lines = claim.are_lines;
  }

  past_front : (t : Scan) → t.phase ≡ Phase.Front → (next : Option Nest) → AfterFront (go_past t next)
  past_front t is None = inr (at_once _)
  past_front t is (Some nest) =
      let at : Scanned = record { scan = record { phase = t.phase; nest = nest; name = t.name; is_named = t.is_named }; front = front ++ b ∷ []; back = [] } in
      let here : Told Phase.Front nest.mode (front ++ b ∷ []) [] bytes (text_left at bytes) =
      subst (λ (p : Phase). Settled p nest (front ++ b ∷ []) [] → Told p nest.mode (front ++ b ∷ []) [] bytes (text_left at bytes)) is (told at) refl in
      front_byte _ here

  opens_here : (kind : Kind) → Facts b kind → is_bracket kind ≡ true → b ≡ 91
  opens_here Kind.Bracket facts is = facts
  opens_here Kind.Quote facts is = absurd (cc)
  opens_here Kind.Backslash facts is = absurd (cc)
  opens_here Kind.Brace facts is = absurd (cc)
  opens_here Kind.BraceEnd facts is = absurd (cc)
  opens_here Kind.BracketEnd facts is = absurd (cc)
  opens_here Kind.Comma facts is = absurd (cc)
  opens_here Kind.Colon facts is = absurd (cc)
  opens_here Kind.Blank facts is = absurd (cc)
  opens_here Kind.Feed facts is = absurd (cc)
  opens_here Kind.Other facts is = absurd (cc)

  bracket_if : (named : Bool) (kind : Kind) → cond named (is_bracket kind) false ≡ true → is_bracket kind ≡ true
  bracket_if true kind is = is
  bracket_if false kind is = absurd (cc)

  opened_told : b ≡ 91 → AfterFront (record { scan = opened s; put = None })
  opened_told is =
      let opens : EndsOpen (front ++ b ∷ []) = (front, ap (λ (c : ℕ). front ++ c ∷ []) is) in
      inl (front_opened opens _ (told (record { scan = opened s; front = front ++ b ∷ []; back = [] }) (refl, opens, refl)))

  pub front_told : (kind : Kind) → Facts b kind → s.phase ≡ Phase.Front → AfterFront (front_step_of s front kind)
  front_told kind facts is =
      cond_both (is_own s.nest) (own_step s front kind) (go_past s (after_kind 127 s.nest kind)) AfterFront
      (λ own. cond_both (cond s.is_named (is_bracket kind) false) _ _ AfterFront
      (λ yes. opened_told (opens_here kind facts (bracket_if s.is_named kind yes)))
      (λ no. past_front (record { phase = s.phase; nest = s.nest; name = name_after s (length front) kind; is_named = named_after s front kind }) is (after_kind 127 s.nest kind)))
      (λ other. past_front s is (after_kind 127 s.nest kind))

back_byte : (front back bytes : List ℕ) (b : ℕ) (text : List ℕ) → BackClaim front (back ++ b ∷ []) bytes text ⊎ AtOnce text
    → BackClaim front back (b ∷ bytes) text ⊎ AtOnce text
back_byte front back bytes b text (inl claim) = inl (record {
  envelope = ap (is_envelope front) (sym (append_assoc back (b ∷ []) bytes)) ∙ claim.envelope;
  none = claim.none;
})
back_byte front back bytes b text (inr at) = inr at

back_told : (s : Scanned) (b : ℕ) (bytes : List ℕ) → IsTold bytes → s.scan.phase ≡ Phase.Back → (next : Option Nest)
    → (let moved = after_back s b (go_past s.scan next) in Told Phase.Back s.scan.nest.mode s.front s.back (b ∷ bytes) (moved.put ++ text_left moved.scanned bytes))
back_told s b bytes told is None = inr (at_once _)
back_told s b bytes told is (Some nest) =
    let at : Scanned = record { scan = record { phase = s.scan.phase; nest = nest; name = s.scan.name; is_named = s.scan.is_named }; front = s.front; back = s.back ++ b ∷ [] } in
    let here : Told Phase.Back nest.mode s.front (s.back ++ b ∷ []) bytes (text_left at bytes) =
    subst (λ (p : Phase). Settled p nest s.front (s.back ++ b ∷ []) → Told p nest.mode s.front (s.back ++ b ∷ []) bytes (text_left at bytes)) is (told at) tt in
    back_byte s.front s.back bytes b _ here

-- at the end of the document
end_opened : (front : List ℕ) → OpenedClaim front [] (255 ∷ [])
end_opened front = record {
  between = [];
  back = [];
  texts = [];
  end = 255 ∷ [];
  whole = refl;
  ends = inr (ends_at_once [] (255 ∷ []) (at_once []));
  are_between = blank_none;
  are_lines = refl;
}

end_told : (phase : Phase) (nest : Nest) (front back : List ℕ) → Settled phase nest front back → Told phase nest.mode front back [] (cond (ends_well phase front back) [] (255 ∷ []))
end_told Phase.Front nest front back settled = inr (at_once [])
end_told Phase.Opened nest front back settled = end_opened front
end_told Phase.Comma nest front back settled = inr (ends_at_once [] (255 ∷ []) (at_once []))
end_told Phase.Item nest front back settled = inr (record { tail = []; rest = []; after = []; whole = refl; is_broken = refl })
end_told Phase.Ended nest front back settled = inr (at_once [])
end_told Phase.Back nest front back settled =
    cond_both (is_envelope front back) [] (255 ∷ []) (λ (t : List ℕ). Told Phase.Back nest.mode front back [] t)
    (λ is. inl (record { envelope = ap (is_envelope front) (append-nil back) ∙ is; none = refl }))
    (λ no. inr (at_once []))
end_told Phase.Over nest front back settled = absurd settled

-- a scan at these
abbrev scanned_so : Phase → Nest → ℕ → Bool → (front back : List ℕ) → Scanned
scanned_so phase nest name is_named front back =
    record { scan = record { phase = phase; nest = nest; name = name; is_named = is_named }; front = front; back = back }

-- what is told after one more byte
abbrev ByByte : Phase → Scanned → ℕ → List ℕ → Type 0
ByByte phase s b bytes = Told phase s.scan.nest.mode s.front s.back (b ∷ bytes) ((step s b).put ++ text_left (step s b).scanned bytes)

item_byte_told : (b : ℕ) (bytes : List ℕ) → IsTold bytes → (phase : Phase) (nest : Nest) (name : ℕ) (is_named : Bool) (front : List ℕ)
    → EndsOpen front → IsOfItems phase → Settled phase nest front []
    → (let s = scanned_so phase nest name is_named front [] in
    Told phase nest.mode front [] (b ∷ bytes) ((after_item s b (item_step_of s.scan b (kind_of b))).put ++ text_left (after_item s b (item_step_of s.scan b (kind_of b))).scanned bytes))
item_byte_told b bytes told phase nest name is_named front opens of settled =
    item_told nest name is_named front opens b bytes told (kind_of b) (facts_of b) (in_line_of b) (of_kind b) phase of settled

byte_told : (b : ℕ) (bytes : List ℕ) → IsTold bytes → (phase : Phase) (nest : Nest) (name : ℕ) (is_named : Bool) (front back : List ℕ)
    → Settled phase nest front back → ByByte phase (scanned_so phase nest name is_named front back) b bytes
unfolding step
byte_told b bytes told Phase.Front nest name is_named front back settled =
    subst (λ (bk : List ℕ). ByByte Phase.Front (scanned_so Phase.Front nest name is_named front bk) b bytes) (sym settled)
    (front_told (record { phase = Phase.Front; nest = nest; name = name; is_named = is_named }) front b bytes told (kind_of b) (facts_of b) refl)
byte_told b bytes told Phase.Back nest name is_named front back settled =
    back_told (scanned_so Phase.Back nest name is_named front back) b bytes told refl (after_kind 127 nest (kind_of b))
byte_told b bytes told Phase.Over nest name is_named front back settled = absurd settled
byte_told b bytes told Phase.Opened nest name is_named front back settled =
    subst (λ (bk : List ℕ). ByByte Phase.Opened (scanned_so Phase.Opened nest name is_named front bk) b bytes) (sym settled.0)
    (item_byte_told b bytes told Phase.Opened nest name is_named front settled.1 tt (refl, settled.1, settled.2))
byte_told b bytes told Phase.Comma nest name is_named front back settled =
    subst (λ (bk : List ℕ). ByByte Phase.Comma (scanned_so Phase.Comma nest name is_named front bk) b bytes) (sym settled.0)
    (item_byte_told b bytes told Phase.Comma nest name is_named front settled.1 tt (refl, settled.1, settled.2))
byte_told b bytes told Phase.Item nest name is_named front back settled =
    subst (λ (bk : List ℕ). ByByte Phase.Item (scanned_so Phase.Item nest name is_named front bk) b bytes) (sym settled.0)
    (item_byte_told b bytes told Phase.Item nest name is_named front settled.1 tt (refl, settled.1))
byte_told b bytes told Phase.Ended nest name is_named front back settled =
    subst (λ (bk : List ℕ). ByByte Phase.Ended (scanned_so Phase.Ended nest name is_named front bk) b bytes) (sym settled.0)
    (item_byte_told b bytes told Phase.Ended nest name is_named front settled.1 tt (refl, settled.1, settled.2))

all_told : (bytes : List ℕ) → IsTold bytes
all_told [] s settled =
    subst (λ (t : List ℕ). Told s.scan.phase s.scan.nest.mode s.front s.back [] t) (sym (text_left-nil s)) (end_told s.scan.phase s.scan.nest s.front s.back settled)
all_told (b ∷ bytes) s settled =
    subst (λ (t : List ℕ). Told s.scan.phase s.scan.nest.mode s.front s.back (b ∷ bytes) t) (sym (text_left-byte s b bytes))
    (byte_told b bytes (all_told bytes) s.scan.phase s.scan.nest s.scan.name s.scan.is_named s.front s.back settled)

-- what a tree that is an object with such an array has
no_array_here : {A : Type 0} → (found : Items) → None ≡ Some found → A
no_array_here found is = absurd (cc)

array_member : (found : Members) (items : Items) → option_and_then as_array (get_member (codes "value") found) ≡ Some items
    → get_member (codes "value") found ≡ Some (array items)
array_member found items is = of_option (get_member (codes "value") found) is
  where
    of_data : (d : Data) → as_array d ≡ Some items → d ≡ array items
    of_data null is = absurd (cc)
    of_data (boolean b) is = absurd (cc)
    of_data (number n) is = absurd (cc)
    of_data (string t) is = absurd (cc)
    of_data (array js) is = ap array (Some_inj _ _ is)
    of_data (object ms) is = absurd (cc)

    of_option : (o : Option Data) → option_and_then as_array o ≡ Some items → o ≡ Some (array items)
    of_option None is = absurd (cc)
    of_option (Some d) is = ap Some (of_data d is)

object_of : (o : Option Data) (items : Items) → option_and_then array_of o ≡ Some items
    → (found : Members) × (o ≡ Some (object found)) × (get_member (codes "value") found ≡ Some (array items))
object_of None items is = absurd (cc)
object_of (Some null) items is = absurd (cc)
object_of (Some (boolean b)) items is = absurd (cc)
object_of (Some (number n)) items is = absurd (cc)
object_of (Some (string t)) items is = absurd (cc)
object_of (Some (array js)) items is = absurd (cc)
object_of (Some (object ms)) items is = (ms, refl, array_member ms items is)

array_of_text : (text : List ℕ) (items : List Data) → array_in text ≡ Some (items_of items) → IsArrayOf text items
unfolding array_in
array_of_text text items is =
    ⊎_elim
    (λ yes.
    let here = object_of (read text) (items_of items) (sym (cond-true (is_utf8 text) (option_and_then array_of (read text)) None yes) ∙ is) in
    (IsUtf8-from_is_utf8 text yes, (here.0, here.1, here.2)))
    (λ no. no_array_here (items_of items) (sym (cond-false (is_utf8 text) (option_and_then array_of (read text)) None no) ∙ is))
    (cases_Bool (is_utf8 text))

empty_items : (o : Option Items) → is_empty o ≡ true → o ≡ Some (items_of [])
empty_items None is = absurd (cc)
empty_items (Some no_items) is = refl
empty_items (Some (item d ds)) is = absurd (cc)

null_items : (o : Option Items) → is_only_null o ≡ true → o ≡ Some (items_of (null ∷ []))
null_items None is = absurd (cc)
null_items (Some no_items) is = absurd (cc)
null_items (Some (item null no_items)) is = refl
null_items (Some (item (boolean b) no_items)) is = absurd (cc)
null_items (Some (item (number n) no_items)) is = absurd (cc)
null_items (Some (item (string t) no_items)) is = absurd (cc)
null_items (Some (item (array js) no_items)) is = absurd (cc)
null_items (Some (item (object ms) no_items)) is = absurd (cc)
null_items (Some (item d (item e ds))) is = absurd (cc)

cut_at : (document front between back : List ℕ) → document ≡ front ++ (between ++ back) → EndsOpen front → Encloses front back → IsCutAt document front between back
cut_at document front between back whole opens encloses =
    let parts = and_parts (is_empty (array_in (front ++ back))) (is_only_null (array_in (front ++ (null_text ++ back)))) encloses.envelope in
    record {
      whole = whole;
      opens = opens;
      closes = encloses.closes;
      without = array_of_text (front ++ back) [] (empty_items _ parts.0);
      with_null = array_of_text (front ++ (null_text ++ back)) (null ∷ []) (null_items _ parts.1);
    }

pages_claimed : (document text : List ℕ) (claim : FrontClaim [] document text) → IsEnd claim.whole_front claim.back claim.end
    → AreItemLinesOf document text ⊎ BreaksOff document text
pages_claimed document text claim (inl (encloses, none)) = inl (record {
  texts = claim.texts;
  are_texts = record {
    front = claim.whole_front;
    between = claim.between;
    back = claim.back;
    cut = cut_at document claim.whole_front claim.between claim.back claim.whole claim.opens encloses;
    are_between = claim.are_between;
  };
  are_lines = claim.are_lines ∙ ap (λ (t : List ℕ). lines_of claim.texts ++ t) none ∙ append-nil (lines_of claim.texts);
})
pages_claimed document text claim (inr breaks) = inr (record {
  front = claim.whole_front;
  between = claim.between;
  more = claim.back;
  texts = claim.texts;
  end = claim.end;
  whole = claim.whole;
  opens = inl claim.opens;
  are_between = claim.are_between;
  breaks = breaks;
  are_lines = claim.are_lines;
})

broken_at_once : (document text : List ℕ) → AtOnce text → BreaksOff document text
broken_at_once document text at = record {
  front = [];
  between = [];
  more = document;
  texts = [];
  end = text;
  whole = refl;
  opens = inr refl;
  are_between = blank_none;
  breaks = ends_at_once document text at;
  are_lines = refl;
}

-- the lines that a scan gives of a document are those of its items, or break off
pub pages_told : (document : List ℕ) → AreItemLinesOf document (text_left unread document) ⊎ BreaksOff document (text_left unread document)
pages_told document =
    ⊎_elim (λ claim. pages_claimed document _ claim claim.ends) (λ at. inr (broken_at_once document _ at)) (all_told document unread refl)
