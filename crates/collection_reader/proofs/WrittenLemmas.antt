-- Bytes of a document over which lines are written.
use Rattle.std.proofs.Common.{◌≡◌, ℕ, ◌+◌, ◌-◌, ◌<◌, ◌≤◌, List, [], ◌∷◌, ◌++◌, length, take, drop, set, get_or, Some, refl, sym, ap, ◌∙◌, subst, arith}
use Rattle.std.proofs.lemmas.List.{append-nil, append_assoc, drop-drop, drop-set, drop-set-add, drop-set-lt, drop-take, get_or-drop, length-set, take-set, take-set-le, take-take, take_more}
use Rattle.std.proofs.Math.Seq.{take-add}
use Rattle.std.specs.Prelude.{slice_range}
use Rattle.collection_reader.specs.private.ItemText.{Moved, Scanned, bytes_of, step, steps}
use Rattle.collection_reader.specs.private.Written.{IsWritten}
use Rattle.collection_reader.proofs.StepLemmas.{steps-append, steps-push}

pub begins : (s : Scanned) (first : List ℕ) → IsWritten s first first s 0 0 0
unfolding steps
begins s first = record { order = (omega arith, omega arith, omega arith); long = refl; rest = refl; is = refl; put = refl }

pub range-more : (xs : List ℕ) (a b n : ℕ) → a ≤ b → slice_range xs a (b + n) ≡ slice_range xs a b ++ slice_range xs b (b + n)
range-more xs a b n order =
    let parts : b + n - a ≡ (b - a) + n = omega arith in
    let here : a + (b - a) ≡ b = omega arith in
    let few : b + n - b ≡ n = omega arith in
    ap (λ (k : ℕ). take k (drop a xs)) parts ∙ take-add (b - a) n (drop a xs)
    ∙ ap (λ (t : List ℕ). slice_range xs a b ++ take n t) (drop-drop (b - a) a xs ∙ ap (λ (k : ℕ). drop k xs) here)
    ∙ ap (λ (k : ℕ). slice_range xs a b ++ take k (drop b xs)) (sym few)

take-range : (xs : List ℕ) (b n : ℕ) → take (b + n) xs ≡ take b xs ++ slice_range xs b (b + n)
take-range xs b n =
    let few : b + n - b ≡ n = omega arith in
    take-add b n xs ∙ ap (λ (k : ℕ). take b xs ++ take k (drop b xs)) (sym few)

range_before : (xs : List ℕ) (a b y : ℕ) → a ≤ b → slice_range (set xs b y) a b ≡ slice_range xs a b
range_before xs a b y order =
    let here : b ≡ a + (b - a) = omega arith in
    ap (λ (k : ℕ). take (b - a) (drop a (set xs k y))) here ∙ ap (take (b - a)) (drop-set-add a xs (b - a) y) ∙ take-set (drop a xs) (b - a) y

-- what is not moved
pub not_moved : (xs : List ℕ) (to from end : ℕ) → to ≡ from → from ≤ end → take end xs ≡ take to xs ++ slice_range xs from end
not_moved xs to from end same order =
    let there : from + (end - from) ≡ end = omega (arith, order) in
    ap (λ (k : ℕ). take k xs) (sym there) ∙ take-range xs from (end - from)
    ∙ ap (λ (k : ℕ). take from xs ++ slice_range xs from k) there ∙ ap (λ (k : ℕ). take k xs ++ slice_range xs from end) (sym same)

-- a range within some first bytes
pub range-take : (xs : List ℕ) (count a b : ℕ) → a ≤ b → b ≤ count → slice_range (take count xs) a b ≡ slice_range xs a b
range-take xs count a b order within =
    let parts : count ≡ a + (count - a) = omega arith in
    ap (λ (c : ℕ). take (b - a) (drop a (take c xs))) parts ∙ ap (take (b - a)) (drop-take a (count - a) xs)
    ∙ take-take (b - a) (count - a) (drop a xs) (omega arith)

-- bytes that are put as they are
past : (s : Scanned) (first bytes : List ℕ) (now next : Scanned) (to kept from n : ℕ) → IsWritten s first bytes now to kept from → from + n ≤ length first
    → steps now (slice_range bytes from (from + n)) ≡ record { scanned = next; put = slice_range bytes from (from + n) }
    → IsWritten s first bytes next to kept (from + n)
past s first bytes now next to kept from n w within passes =
    let piece = slice_range bytes from (from + n) in
    let same : slice_range bytes from (from + n) ≡ slice_range first from (from + n) = ap (take (from + n - from)) w.rest in
    let taken : take (from + n) first ≡ take from first ++ piece = take-range first from n ∙ ap (λ (t : List ℕ). take from first ++ t) (sym same) in
    let before = steps s (take from first) in
    let here : steps before.scanned piece ≡ record { scanned = next; put = piece } = subst (λ (x : Scanned). steps x piece ≡ record { scanned = next; put = piece }) w.is passes in
    let moved : steps s (take (from + n) first) ≡ record { scanned = next; put = before.put ++ piece } =
    ap (steps s) taken ∙ steps-append s (take from first) piece
    ∙ ap (λ (m : Moved). record { scanned = m.scanned; put = before.put ++ m.put }) here in
    record {
      order = (w.order.0, omega (arith, w.order.1), within);
      long = w.long;
      rest = sym (drop-drop n from bytes) ∙ ap (drop n) w.rest ∙ drop-drop n from first;
      is = ap (λ (m : Moved). m.scanned) (sym moved);
      put = ap (λ (t : List ℕ). take to bytes ++ t) (range-more bytes kept from n w.order.1)
          ∙ sym (append_assoc (take to bytes) (slice_range bytes kept from) piece)
          ∙ ap (λ (t : List ℕ). t ++ piece) w.put ∙ ap (λ (m : Moved). m.put) (sym moved);
    }

-- the same of bytes among the first ones
pub passed_to : (s : Scanned) (first bytes : List ℕ) (now next : Scanned) (to kept from count end : ℕ) → IsWritten s first bytes now to kept from
    → count ≤ length first → from ≤ end → end ≤ count
    → steps now (slice_range (take count bytes) from end) ≡ record { scanned = next; put = slice_range (take count bytes) from end }
    → IsWritten s first bytes next to kept end
passed_to s first bytes now next to kept from count end w long low high passes =
    let there : from + (end - from) ≡ end = omega (arith, low) in
    let range = range-take bytes count from end low high in
    let here : steps now (slice_range bytes from (from + (end - from))) ≡ record { scanned = next; put = slice_range bytes from (from + (end - from)) } =
    subst (λ (k : ℕ). steps now (slice_range bytes from k) ≡ record { scanned = next; put = slice_range bytes from k }) (sym there)
    (subst (λ (t : List ℕ). steps now t ≡ record { scanned = next; put = t }) range passes) in
    subst (λ (k : ℕ). IsWritten s first bytes next to kept k) there (past s first bytes now next to kept from (end - from) w (omega (arith, there, long, high)) here)

-- the scan with one more byte
one_more : (s : Scanned) (first bytes : List ℕ) (now : Scanned) (to kept from : ℕ) → IsWritten s first bytes now to kept from → from < length first
    → steps s (take (from + 1) first)
    ≡ record { scanned = (step now (get_or bytes from 0)).scanned; put = (steps s (take from first)).put ++ (step now (get_or bytes from 0)).put }
one_more s first bytes now to kept from w within =
    let byte : get_or first from 0 ≡ get_or bytes from 0 =
    let at : from + 0 ≡ from = omega arith in
    ap (λ (k : ℕ). get_or first k 0) (sym at) ∙ sym (get_or-drop from first 0 0) ∙ ap (λ (t : List ℕ). get_or t 0 0) (sym w.rest) ∙ get_or-drop from bytes 0 0
    ∙ ap (λ (k : ℕ). get_or bytes k 0) at in
    ap (steps s) (take_more first from 0 within) ∙ steps-push s (take from first) (get_or first from 0)
    ∙ ap (λ (x : ℕ). record { scanned = (step (steps s (take from first)).scanned x).scanned; put = (steps s (take from first)).put ++ (step (steps s (take from first)).scanned x).put }) byte
    ∙ ap (λ (x : Scanned). record { scanned = (step x (get_or bytes from 0)).scanned; put = (steps s (take from first)).put ++ (step x (get_or bytes from 0)).put }) (sym w.is)

-- a byte for which one is put
put_at : (s : Scanned) (first bytes : List ℕ) (now next : Scanned) (to kept from put : ℕ) → IsWritten s first bytes now to kept from → from < length first
    → next ≡ (step now (get_or bytes from 0)).scanned → bytes_of (Some put) ≡ (step now (get_or bytes from 0)).put
    → IsWritten s first (set bytes from put) next to kept (from + 1)
put_at s first bytes now next to kept from put w within is is_put =
    let moved = one_more s first bytes now to kept from w within in
    let here : from < length bytes = omega (arith, w.long) in
    let range : slice_range (set bytes from put) kept (from + 1) ≡ slice_range bytes kept from ++ put ∷ [] =
    let one : from + 1 - from ≡ 1 = omega arith in
    range-more (set bytes from put) kept from 1 w.order.1
    ∙ ap (λ (t : List ℕ). t ++ slice_range (set bytes from put) from (from + 1)) (range_before bytes kept from put w.order.1)
    ∙ ap (λ (t : List ℕ). slice_range bytes kept from ++ t)
    (ap (λ (k : ℕ). take k (drop from (set bytes from put))) one ∙ ap (take 1) (drop-set bytes from put here)) in
    record {
      order = (w.order.0, omega (arith, w.order.1), omega (arith, within));
      long = length-set bytes from put ∙ w.long;
      rest = drop-set-lt (from + 1) bytes from put (omega arith) ∙ sym (drop-drop 1 from bytes) ∙ ap (drop 1) w.rest ∙ drop-drop 1 from first;
      is = is ∙ ap (λ (m : Moved). m.scanned) (sym moved);
      put = ap (λ (t : List ℕ). t ++ slice_range (set bytes from put) kept (from + 1)) (take-set-le to bytes from put (omega (arith, w.order.0, w.order.1)))
          ∙ ap (λ (t : List ℕ). take to bytes ++ t) range ∙ sym (append_assoc (take to bytes) (slice_range bytes kept from) (put ∷ []))
          ∙ ap (λ (t : List ℕ). t ++ put ∷ []) w.put ∙ ap (λ (t : List ℕ). (steps s (take from first)).put ++ t) is_put
          ∙ ap (λ (m : Moved). m.put) (sym moved);
    }

-- a byte for which none is put, where those before it are moved to the front
dropped_at : (s : Scanned) (first bytes after : List ℕ) (now next : Scanned) (to kept from end : ℕ) → IsWritten s first bytes now to kept from → from < length first
    → next ≡ (step now (get_or bytes from 0)).scanned → [] ≡ (step now (get_or bytes from 0)).put
    → end ≡ to + (from - kept) → length after ≡ length bytes → take end after ≡ take to bytes ++ slice_range bytes kept from → drop from after ≡ drop from bytes
    → IsWritten s first after next end (from + 1) (from + 1)
dropped_at s first bytes after now next to kept from end w within is is_put ends long moved_back rest =
    let moved = one_more s first bytes now to kept from w within in
    let none : from + 1 - (from + 1) ≡ 0 = omega arith in
    record {
      order = (omega (arith, ends, w.order.0, w.order.1), omega arith, omega (arith, within));
      long = long ∙ w.long;
      rest = sym (drop-drop 1 from after) ∙ ap (drop 1) (rest ∙ w.rest) ∙ drop-drop 1 from first;
      is = is ∙ ap (λ (m : Moved). m.scanned) (sym moved);
      put = ap (λ (k : ℕ). take end after ++ take k (drop (from + 1) after)) none ∙ append-nil (take end after)
          ∙ moved_back ∙ w.put ∙ sym (append-nil (steps s (take from first)).put)
          ∙ ap (λ (t : List ℕ). (steps s (take from first)).put ++ t) is_put ∙ ap (λ (m : Moved). m.put) (sym moved);
    }

-- the same by the byte that was read there
pub one_put : (s : Scanned) (first bytes : List ℕ) (now next : Scanned) (to kept from byte put : ℕ) → IsWritten s first bytes now to kept from → from < length bytes
    → byte ≡ get_or bytes from 0 → next ≡ (step now byte).scanned → bytes_of (Some put) ≡ (step now byte).put
    → IsWritten s first (set bytes from put) next to kept (from + 1)
one_put s first bytes now next to kept from byte put w within read is is_put =
    put_at s first bytes now next to kept from put w (omega (arith, w.long, within)) (is ∙ ap (λ (x : ℕ). (step now x).scanned) read) (is_put ∙ ap (λ (x : ℕ). (step now x).put) read)

pub one_dropped : (s : Scanned) (first bytes after : List ℕ) (now next : Scanned) (to kept from byte end : ℕ) → IsWritten s first bytes now to kept from → from < length bytes
    → byte ≡ get_or bytes from 0 → next ≡ (step now byte).scanned → [] ≡ (step now byte).put
    → end ≡ to + (from - kept) → length after ≡ length bytes → take end after ≡ take to bytes ++ slice_range bytes kept from → drop from after ≡ drop from bytes
    → IsWritten s first after next end (from + 1) (from + 1)
one_dropped s first bytes after now next to kept from byte end w within read is is_put =
    dropped_at s first bytes after now next to kept from end w (omega (arith, w.long, within)) (is ∙ ap (λ (x : ℕ). (step now x).scanned) read) (is_put ∙ ap (λ (x : ℕ). (step now x).put) read)

-- the rest is moved to the front
pub ended : (s : Scanned) (first bytes after : List ℕ) (now : Scanned) (to kept count end : ℕ) → IsWritten s first bytes now to kept count
    → take end after ≡ take to bytes ++ slice_range bytes kept count → take end after ≡ (steps s (take count first)).put
ended s first bytes after now to kept count end w moved = moved ∙ w.put
