-- What a reader gives that ends with a line.
use Rattle.std.proofs.Common.{◌≡◌, ℕ, zero, suc, ◌+◌, ◌-◌, ◌==◌, ◌<◌, ◌≤◌, Bool, true, false, cond, List, [], ◌∷◌, ◌++◌, length, take, drop, Option, None, Some, IfOk, IfSome, Result, Ok, Err, option_map, pos, min, refl, sym, ap, ◌∙◌, subst, arith, append-nil, length-take-le, ⊎_elim}
use Rattle.std.proofs.lemmas.Bool.{cases_Bool, cases_lt, cond-false, cond-true, ne_eqb}
use Rattle.std.proofs.lemmas.List.{get_or-take, take-take}
use Rattle.std.proofs.KnownBytes.{prepend_known-nil}
use Rattle.std.specs.Io.Buffered.{reader_buffer, reader_capacity, reader_inner, reader_remaining}
use Rattle.std.specs.Io.BufRead.{DropsThrough, drop_through}
use Rattle.std.specs.Io.KnownBytes.{Consumes, IsAtEnd, Keeps, prepend_known}
use Rattle.std.specs.Io.Seek.{IsSeekTarget}
use Rattle.std.specs.declared.io.buffered.BufReader.{BufReader}
use Rattle.std.specs.declared.io.traits.SeekFrom.{SeekFrom}
use Rattle.memchr.specs.Find.{Nowhere, Passes, is_byte}
use Rattle.line_filter.specs.Parts.{HasLines, IsSoughtOver, lines_of_part, lines_within, part_end}
use Rattle.line_filter.proofs.PartLaws.Text.{lines_of_text}
use Rattle.line_filter.specs.declared.through_line.ThroughLine.{ThroughLine}
use Rattle.line_filter.specs.private.PartText.{left_through, text_within, through_line}

-- no LF stands from an offset up to another
abbrev NoFeed : List ℕ → ℕ → ℕ → Type 0
NoFeed bytes from to = Nowhere (Passes (is_byte 10) bytes) from to

later_none : (b : ℕ) (bs : List ℕ) (from to : ℕ) → NoFeed (b ∷ bs) (suc from) (suc to) → NoFeed bs from to
later_none b bs from to none k low high is = none (suc k) (omega arith) (omega arith) is

from_first : (b : ℕ) (bs : List ℕ) (to : ℕ) → NoFeed (b ∷ bs) 0 (suc to) → NoFeed bs 0 to
from_first b bs to none k low high is = none (suc k) (omega arith) (omega arith) is

not_feed : (b : ℕ) (bs : List ℕ) (to : ℕ) → NoFeed (b ∷ bs) 0 (suc to) → (b == 10) ≡ false
not_feed b bs to none = ⊎_elim (λ is. absurd (none 0 (omega arith) (omega arith) is)) (λ no. no) (cases_Bool (b == 10))

-- a piece of so many bytes or fewer
through_past : (piece rest : List ℕ) (before : ℕ) → length piece ≤ before → through_line (piece ++ rest) before ≡ piece ++ through_line rest (before - length piece)
through_past [] rest before long = let same : before ≡ before - 0 = omega arith in ap (through_line rest) same
through_past (b ∷ piece) rest zero long = absurd (omega arith)
through_past (b ∷ piece) rest (suc before) long =
    let less : before - length piece ≡ suc before - suc (length piece) = omega arith in
    ap (λ (x : List ℕ). b ∷ x) (through_past piece rest before (omega arith) ∙ ap (λ (n : ℕ). piece ++ through_line rest n) less)

-- a piece of more, of which no LF ends the text
through_clear : (piece rest : List ℕ) (before : ℕ) → before ≤ length piece → NoFeed piece before (length piece) → through_line (piece ++ rest) before ≡ piece ++ through_line rest 0
through_clear [] rest zero few none = refl
through_clear [] rest (suc before) few none = absurd (omega arith)
through_clear (b ∷ piece) rest zero few none =
    let no = not_feed b piece (length piece) none in
    cond-false (b == 10) (b ∷ []) (b ∷ through_line (piece ++ rest) zero) no
    ∙ ap (λ (x : List ℕ). b ∷ x) (through_clear piece rest zero (omega arith) (from_first b piece (length piece) none))
through_clear (b ∷ piece) rest (suc before) few none =
    ap (λ (x : List ℕ). b ∷ x) (through_clear piece rest before (omega arith) (later_none b piece before (length piece) none))

-- a piece of which an LF ends it
pub through_end : (piece rest : List ℕ) (before feed : ℕ) → feed < length piece → before ≤ feed → NoFeed piece before feed → Passes (is_byte 10) piece feed
    → through_line (piece ++ rest) before ≡ take (suc feed) piece
through_end [] rest before feed within low none is = absurd (omega arith)
through_end (b ∷ piece) rest zero zero within low none is = cond-true (b == 10) (b ∷ []) (b ∷ through_line (piece ++ rest) zero) is
through_end (b ∷ piece) rest zero (suc feed) within low none is =
    let no = not_feed b piece feed none in
    let further = from_first b piece feed none in
    cond-false (b == 10) (b ∷ []) (b ∷ through_line (piece ++ rest) zero) no
    ∙ ap (λ (x : List ℕ). b ∷ x) (through_end piece rest zero feed (omega arith) (omega arith) further is)
through_end (b ∷ piece) rest (suc before) zero within low none is = absurd (omega arith)
through_end (b ∷ piece) rest (suc before) (suc feed) within low none is =
    ap (λ (x : List ℕ). b ∷ x) (through_end piece rest before feed (omega arith) (omega arith) (later_none b piece before feed none) is)

-- a search in a buffer is one in what was read into it
in_piece : (buffer : List ℕ) (count from to : ℕ) → to ≤ count → NoFeed buffer from to → NoFeed (take count buffer) from to
in_piece buffer count from to within none k low high is =
    none k low high (ap (is_byte 10) (sym (get_or-take count buffer k 0 (omega arith))) ∙ is)

-- what is left goes on by a piece
pub goes_through : (old new : Option (List ℕ)) (buffer : List ℕ) (before count : ℕ) → count ≤ length buffer → Consumes old new (take count buffer)
    → NoFeed buffer (min before count) count
    → Consumes (option_map (λ bytes. through_line bytes before) old) (option_map (λ bytes. through_line bytes (before - min before count)) new) (take count buffer)
goes_through None new buffer before count fits consumes none = tt
goes_through (Some xs) None buffer before count fits consumes none = absurd consumes
goes_through (Some xs) (Some rest) buffer before count fits consumes none =
    let piece = take count buffer in
    let long : length piece ≡ count = length-take-le count buffer fits in
    let whole : through_line xs before ≡ through_line (piece ++ rest) before = ap (λ (x : List ℕ). through_line x before) consumes in
    let inside : before < count → through_line xs before ≡ piece ++ through_line rest (before - min before count) =
    λ early.
    let first : min before count ≡ before = omega arith in
    let left : 0 ≡ before - min before count = omega arith in
    let clear : NoFeed piece before (length piece) =
    subst (λ (n : ℕ). NoFeed piece before n) (sym long) (in_piece buffer count before count (omega arith) (subst (λ (n : ℕ). NoFeed buffer n count) first none)) in
    whole ∙ through_clear piece rest before (omega arith) clear ∙ ap (λ (n : ℕ). piece ++ through_line rest n) left in
    let past : count ≤ before → through_line xs before ≡ piece ++ through_line rest (before - min before count) =
    λ late.
    let left : before - length piece ≡ before - min before count = omega arith in
    whole ∙ through_past piece rest before (omega arith) ∙ ap (λ (n : ℕ). piece ++ through_line rest n) left in
    ⊎_elim inside past (cases_lt before count)

-- what is left ends in a piece
pub ends_through : (old new : Option (List ℕ)) (buffer : List ℕ) (before count feed : ℕ) → count ≤ length buffer → Consumes old new (take count buffer)
    → min before count ≤ feed → feed < count → NoFeed buffer (min before count) feed → Passes (is_byte 10) buffer feed
    → Consumes (option_map (λ bytes. through_line bytes before) old) (Some []) (take (feed + 1) buffer)
ends_through None new buffer before count feed fits consumes low high none is = tt
ends_through (Some xs) None buffer before count feed fits consumes low high none is = absurd consumes
ends_through (Some xs) (Some rest) buffer before count feed fits consumes low high none is =
    let piece = take count buffer in
    let long : length piece ≡ count = length-take-le count buffer fits in
    let early : min before count ≡ before = omega arith in
    let clear : NoFeed piece before feed = in_piece buffer count before feed (omega arith) (subst (λ (n : ℕ). NoFeed buffer n feed) early none) in
    let here : Passes (is_byte 10) piece feed = ap (is_byte 10) (get_or-take count buffer feed 0 high) ∙ is in
    let next : suc feed ≡ feed + 1 = omega arith in
    ap (λ (x : List ℕ). through_line x before) consumes ∙ through_end piece rest before feed (omega arith) (omega arith) clear here
    ∙ ap (λ (n : ℕ). take n piece) next ∙ take-take (feed + 1) count buffer (omega arith) ∙ sym (append-nil (take (feed + 1) buffer))

-- what is left of one that has not ended
module _ (old new : Option (List ℕ)) (buffer : List ℕ) (before count first : ℕ) (over : Bool) (open_yet : over ≡ false) (is_first : first ≡ min before count) (fits : count ≤ length buffer)
    (consumes : Consumes old new (take count buffer)) where
  abbrev left_of_old : Option (List ℕ)
  left_of_old = option_map (λ bytes. through_line bytes before) old

  -- it ends in the piece
  pub read_ends : (feed : ℕ) → first ≤ feed → feed < count → NoFeed buffer first feed → Passes (is_byte 10) buffer feed
      → Consumes (cond over (Some []) (option_map (λ bytes. through_line bytes before) old)) (Some []) (take (feed + 1) buffer)
  read_ends feed low high none is =
      subst (λ (b : Bool). Consumes (cond b (Some []) left_of_old) (Some []) (take (feed + 1) buffer)) (sym open_yet)
      (ends_through old new buffer before count feed fits consumes (omega (arith, is_first, low)) high (subst (λ (n : ℕ). NoFeed buffer n feed) is_first none) is)

  -- it goes on by the piece
  pub read_on : NoFeed buffer first count
      → Consumes (cond over (Some []) (option_map (λ bytes. through_line bytes before) old)) (cond over (Some []) (option_map (λ bytes. through_line bytes (before - first)) new)) (take count buffer)
  read_on none =
      subst (λ (b : Bool). Consumes (cond b (Some []) left_of_old) (cond b (Some []) (option_map (λ bytes. through_line bytes (before - first)) new)) (take count buffer)) (sym open_yet)
      (subst (λ (n : ℕ). Consumes left_of_old (option_map (λ bytes. through_line bytes (before - n)) new) (take count buffer)) (sym is_first)
      (goes_through old new buffer before count fits consumes (subst (λ (n : ℕ). NoFeed buffer n count) is_first none)))

-- at its end nothing is left
pub end_through : (known : Option (List ℕ)) (before : ℕ) (over : Bool) → IsAtEnd known → IsAtEnd (cond over (Some []) (option_map (λ bytes. through_line bytes before) known))
end_through known before true end = refl
end_through None before false end = tt
end_through (Some xs) before false end = ap (λ (x : List ℕ). through_line x before) end

-- ---- readers that were sought

kept_of_some : (new : Option (List ℕ)) (all : List ℕ) → Keeps (Some all) new → new ≡ Some all
kept_of_some None all kept = absurd kept
kept_of_some (Some xs) all kept = ap Some kept

kept_known : (old new : Option (List ℕ)) (all : List ℕ) → old ≡ Some all → Keeps old new → new ≡ Some all
kept_known old new all is kept = kept_of_some new all (subst (λ (o : Option (List ℕ)). Keeps o new) is kept)

module _ {R : Type 0} (remaining : R → Option (List ℕ)) (position : R → Option ℕ) (bytes : R → Option (List ℕ)) (old new : R) (all : List ℕ) (n : ℕ)
    (sought : IsSoughtOver remaining position bytes old all) (kept : Keeps (bytes old) (bytes new)) where
  -- its end is where its bytes end
  pub sought_end : IfSome (position old) (λ p. IsSeekTarget p (bytes old) (SeekFrom.End (pos 0)) n × (position new ≡ Some n)) → (n ≡ length all) × IsSoughtOver remaining position bytes new all
  sought_end moves =
      let known : IsSeekTarget sought.offset (bytes old) (SeekFrom.End (pos 0)) n × (position new ≡ Some n) =
      subst (λ (o : Option ℕ). IfSome o (λ p. IsSeekTarget p (bytes old) (SeekFrom.End (pos 0)) n × (position new ≡ Some n))) sought.stands moves in
      let target : n ≡ length all + 0 = subst (λ (b : Option (List ℕ)). IsSeekTarget sought.offset b (SeekFrom.End (pos 0)) n) sought.has known.0 in (
        omega (arith, target),
        record { offset = n; stands = known.1; has = kept_known (bytes old) (bytes new) all sought.has kept; reads = sought.reads },
      )

  -- from where it was sought it reads what follows
  pub sought_start : (start : ℕ) → IfSome (position old) (λ p. IsSeekTarget p (bytes old) (SeekFrom.Start start) n × (position new ≡ Some n)) → remaining new ≡ Some (drop start all)
  sought_start start moves =
      let known : (n ≡ start) × (position new ≡ Some n) =
      subst (λ (o : Option ℕ). IfSome o (λ p. IsSeekTarget p (bytes old) (SeekFrom.Start start) n × (position new ≡ Some n))) sought.stands moves in
      sought.reads new start all (known.1 ∙ ap Some known.0) (kept_known (bytes old) (bytes new) all sought.has kept)

-- a reader with a buffer that holds nothing yet
fresh_reader : {T A : Type 0} (remaining : T → Option (List ℕ)) (r : BufReader T A) (inner : T) → reader_inner r ≡ inner → reader_buffer r ≡ [] → reader_capacity r ≡ 8192
    → reader_remaining remaining r ≡ remaining inner
fresh_reader remaining r inner is empty capacity =
    let some : (reader_capacity r == 0) ≡ false = ne_eqb (reader_capacity r) 0 (λ none. omega (arith, none, capacity)) in
    cond-false (reader_capacity r == 0) None (prepend_known (reader_buffer r) (remaining r.inner)) some
    ∙ ap (λ (x : List ℕ). prepend_known x (remaining r.inner)) empty ∙ prepend_known-nil (remaining r.inner) ∙ ap remaining is

-- the text from the first byte on
first_text : (to : ℕ) (known : Option (List ℕ)) (all : List ℕ) → known ≡ Some (drop 0 all)
    → cond (to == 0) (Some []) (option_map (λ bytes. through_line bytes (to - (0 + 1))) known) ≡ Some (text_within 0 to all)
first_text zero known all is = refl
first_text (suc last) known all is =
    let some : (suc last == 0) ≡ false = ne_eqb (suc last) 0 (λ none. omega (arith, none)) in
    let less : suc last - (0 + 1) ≡ last = omega arith in
    cond-false (suc last == 0) (Some []) (option_map (λ bytes. through_line bytes (suc last - (0 + 1))) known) some
    ∙ ap (option_map (λ bytes. through_line bytes (suc last - (0 + 1)))) is ∙ ap (λ (n : ℕ). Some (through_line all n)) less

-- the text from a later byte on, with the line before it
later_text : (start to : ℕ) (known : Option (List ℕ)) (all : List ℕ) → suc start ≤ to → known ≡ Some (drop start all)
    → cond (to == 0) (Some []) (option_map (λ bytes. through_line bytes (to - (start + 1))) known) ≡ Some (through_line (drop start all) (to - suc start))
later_text start to known all order is =
    let some : (to == 0) ≡ false = ne_eqb to 0 (λ none. omega (arith, none, order)) in
    let same : to - (start + 1) ≡ to - suc start = omega arith in
    cond-false (to == 0) (Some []) (option_map (λ bytes. through_line bytes (to - (start + 1))) known) some
    ∙ ap (option_map (λ bytes. through_line bytes (to - (start + 1)))) is ∙ ap (λ (n : ℕ). Some (through_line (drop start all) n)) same

module _ {R A : Type 0} (remaining : R → Option (List ℕ)) (reader : R) (r : BufReader (ThroughLine R) A) (start left_before from to : ℕ) (all : List ℕ)
    (inner : reader_inner r ≡ record { reader = reader; before = left_before; is_over = (to == 0) }) (empty : reader_buffer r ≡ []) (capacity : reader_capacity r ≡ 8192)
    (first : start ≡ from - 1) (order : from ≤ to) (before : left_before ≡ to - (start + 1)) (known : remaining reader ≡ Some (drop start all)) where
  left : reader_remaining (left_through remaining) r ≡ cond (to == 0) (Some []) (option_map (λ bytes. through_line bytes (to - (start + 1))) (remaining reader))
  left =
      fresh_reader (left_through remaining) r (record { reader = reader; before = left_before; is_over = (to == 0) }) inner empty capacity
      ∙ ap (λ (n : ℕ). cond (to == 0) (Some []) (option_map (λ bytes. through_line bytes n) (remaining reader))) before

  -- a part from the first byte on
  pub first_part : from ≡ 0 → reader_remaining (left_through remaining) r ≡ Some (text_within from to all)
  first_part none =
      let zero_start : start ≡ 0 = omega (arith, first, none) in
      left
      ∙ ap (λ (k : ℕ). cond (to == 0) (Some []) (option_map (λ bytes. through_line bytes (to - (k + 1))) (remaining reader))) zero_start
      ∙ first_text to (remaining reader) all (subst (λ (k : ℕ). remaining reader ≡ Some (drop k all)) zero_start known)
      ∙ ap (λ (k : ℕ). Some (text_within k to all)) (sym none)

  -- a part from a later byte on, past the line that has the byte before it
  pub later_part : (new : Option (List ℕ)) → 0 < from → DropsThrough (reader_remaining (left_through remaining) r) new 10 → new ≡ Some (text_within from to all)
  later_part new some drops =
      let is : from ≡ suc start = omega (arith, first, some) in
      let text = left ∙ later_text start to (remaining reader) all (omega (arith, is, order)) known in
      let dropped : new ≡ Some (drop_through 10 (through_line (drop start all) (to - suc start))) = subst (λ (k : Option (List ℕ)). DropsThrough k new 10) text drops in
      dropped ∙ ap (λ (k : ℕ). Some (text_within k to all)) (sym is)

-- the lines of the part of a text that a reader gives
pub part_given : {E : Type 0} (number count size from to : ℕ) (bytes : List ℕ) → size ≡ length bytes → from ≡ part_end size count (number - 1) → to ≡ part_end size count number → from ≤ to
    → (given : Result (Option (List ℕ)) E) → IfOk given (λ lines. lines ≡ Some (text_within from to bytes)) → IfOk given (λ lines. HasLines lines (lines_of_part number count bytes))
part_given number count size from to bytes long begins ends order (Err e) is = tt
part_given number count size from to bytes long begins ends order (Ok lines) is =
    let text = lines_of_text from to bytes order in
    let whole : lines_within from to bytes ≡ lines_of_part number count bytes =
    ap (λ (k : ℕ). lines_within k to bytes) (begins ∙ ap (λ (k : ℕ). part_end k count (number - 1)) long)
    ∙ ap (λ (k : ℕ). lines_within (part_end (length bytes) count (number - 1)) k bytes) (ends ∙ ap (λ (k : ℕ). part_end k count number) long) in
    subst (λ (known : Option (List ℕ)). HasLines known (lines_of_part number count bytes)) (sym is) (text ∙ whole)
