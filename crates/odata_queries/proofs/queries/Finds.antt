-- What the definition of what is found in a query says of itself.
use Rattle.odata_queries.proofs.Common.{◌≡◌, inl, inr, ◌⊎◌, ℕ, ◌+◌, ◌<◌, ◌≤◌, true, List, [], length, take, get_or, Option, Some, None, arith, refl, sym, ◌∙◌, ap, subst, count_by, both_ways, cases_order, get_or-take, length-take-le, take-take, take-length, IsDecodable, is_filter, name_of, option_start, options_of, value_of}
use Rattle.odata_queries.specs.Find.{AreClear, FoundModel, HasFound, IsChoiceFault, IsClear, IsFindFault, IsFoundAt, IsFoundIn, IsPieceFault, IsTextFault, found_in}
use Rattle.odata_queries.specs.declared.find_fault.FindFault.{FindFault}
use Rattle.odata_queries.specs.declared.find_fault.FindFault.TheVariants.{BadEscape, NotUtf8, Repeated, Disguised}
use Rattle.odata_queries.proofs.queries.Queries.{count-none_before, count-some, none-before, same-within}

-- Names and values.

unsound : (part : List ℕ) (number start : ℕ) (fault : FindFault) → IsDecodable part → IsTextFault part number start fault → ⊥
unsound part number start (BadEscape place) sound fault = both_ways _ (sound.escapes fault.within) fault.bad
unsound part number start (NotUtf8 option) sound fault = let none = fault.1 in none.not_utf8 sound.utf8
unsound part number start _ sound fault = fault

text-fault-same : (part : List ℕ) (number start : ℕ) (f g : FindFault) → IsTextFault part number start f → IsTextFault part number start g → f ≡ g
text-fault-same part number start (BadEscape place) (BadEscape other) f g =
    ap BadEscape (same-within part start place other f g (cases_order f.within g.within))
text-fault-same part number start (BadEscape place) (NotUtf8 option) f g = let none = g.1 in absurd (both_ways _ (none.escapes f.within) f.bad)
text-fault-same part number start (BadEscape place) _ f g = absurd g
text-fault-same part number start (NotUtf8 option) (BadEscape place) f g = let none = f.1 in absurd (both_ways _ (none.escapes g.within) g.bad)
text-fault-same part number start (NotUtf8 option) (NotUtf8 other) f g = ap NotUtf8 (f.0 ∙ sym g.0)
text-fault-same part number start (NotUtf8 option) _ f g = absurd g
text-fault-same part number start _ g f h = absurd f

-- Pieces.

choice-fault-same : (piece : List ℕ) (number filters : ℕ) (f g : FindFault) → IsChoiceFault piece number filters f → IsChoiceFault piece number filters g → f ≡ g
choice-fault-same piece number filters (Repeated option) (Repeated other) f g = ap Repeated (f.0 ∙ sym g.0)
choice-fault-same piece number filters (Repeated option) (Disguised other) f g = let some = f.2 in let none = g.2 f.1 in absurd (omega arith)
choice-fault-same piece number filters (Repeated option) _ f g = absurd g
choice-fault-same piece number filters (Disguised option) (Repeated other) f g = let some = g.2 in let none = f.2 g.1 in absurd (omega arith)
choice-fault-same piece number filters (Disguised option) (Disguised other) f g = ap Disguised (f.0 ∙ sym g.0)
choice-fault-same piece number filters (Disguised option) _ f g = absurd g
choice-fault-same piece number filters _ g f h = absurd f

piece-fault-same : (piece : List ℕ) (number start filters : ℕ) (f g : FindFault) → IsPieceFault piece number start filters f → IsPieceFault piece number start filters g → f ≡ g
piece-fault-same piece number start filters f g (inl a) (inl b) = text-fault-same (name_of piece) number start f g a b
piece-fault-same piece number start filters f g (inl a) (inr (inl b)) = absurd (unsound (name_of piece) number start f b.0 a)
piece-fault-same piece number start filters f g (inl a) (inr (inr b)) = absurd (unsound (name_of piece) number start f b.0 a)
piece-fault-same piece number start filters f g (inr (inl a)) (inl b) = absurd (unsound (name_of piece) number start g a.0 b)
piece-fault-same piece number start filters f g (inr (inl a)) (inr (inl b)) = text-fault-same (value_of piece) number (start + length (name_of piece) + 1) f g a.2 b.2
piece-fault-same piece number start filters f g (inr (inl a)) (inr (inr b)) = absurd (unsound (value_of piece) number (start + length (name_of piece) + 1) f (b.1 a.1) a.2)
piece-fault-same piece number start filters f g (inr (inr a)) (inl b) = absurd (unsound (name_of piece) number start g a.0 b)
piece-fault-same piece number start filters f g (inr (inr a)) (inr (inl b)) = absurd (unsound (value_of piece) number (start + length (name_of piece) + 1) g (a.1 b.1) b.2)
piece-fault-same piece number start filters f g (inr (inr a)) (inr (inr b)) = choice-fault-same piece number filters f g a.2 b.2

-- a clear piece has no fault, unless it is a second filter
choice-fault-clear : (piece : List ℕ) (number filters : ℕ) (fault : FindFault) → IsClear piece → IsChoiceFault piece number filters fault → (is_filter piece ≡ true) × (0 < filters)
choice-fault-clear piece number filters (Repeated other) clear fault = (fault.1, fault.2)
choice-fault-clear piece number filters (Disguised other) clear fault = absurd (both_ways _ clear.undisguised fault.1)
choice-fault-clear piece number filters _ clear fault = absurd fault

piece-fault-clear : (piece : List ℕ) (number start filters : ℕ) (fault : FindFault) → IsClear piece → IsPieceFault piece number start filters fault → (is_filter piece ≡ true) × (0 < filters)
piece-fault-clear piece number start filters fault clear (inl a) = absurd (unsound (name_of piece) number start fault clear.name a)
piece-fault-clear piece number start filters fault clear (inr (inl a)) = absurd (unsound (value_of piece) number (start + length (name_of piece) + 1) fault (clear.value a.1) a.2)
piece-fault-clear piece number start filters fault clear (inr (inr a)) = choice-fault-clear piece number filters fault clear a.2

-- no piece within a clear beginning has a fault
clear-faultless : (pieces : List (List ℕ)) (n m start : ℕ) (fault : FindFault) → n < m → m ≤ length pieces → AreClear (take m pieces) → IsPieceFault (get_or pieces n []) n start (count_by is_filter (take n pieces)) fault → ⊥
clear-faultless pieces n m start fault order inside clear faulty =
    let part = take m pieces in
    let size = length-take-le m pieces inside in
    let same : get_or part n [] ≡ get_or pieces n [] = get_or-take m pieces n [] order in
    let one = subst IsClear same (clear.clear n [] (omega arith)) in
    let second = piece-fault-clear (get_or pieces n []) n start (count_by is_filter (take n pieces)) fault one faulty in
    let none = count-none_before is_filter part n [] clear.single (omega arith) (ap is_filter same ∙ second.0) in
    let front : count_by is_filter (take n part) ≡ count_by is_filter (take n pieces) = ap (count_by is_filter) (take-take n m pieces (omega arith)) in
    let some = second.1 in
    omega arith

pub no_find_fault : (query : List ℕ) (found : Option FoundModel) → IsFoundIn query found → (fault : FindFault) → IsFindFault query fault → ⊥
no_find_fault query found asked fault faulty =
    let pieces = options_of query in
    clear-faultless pieces faulty.number (length pieces) (option_start pieces faulty.number) fault faulty.within (omega arith) (subst AreClear (sym (take-length pieces)) asked.clear) faulty.at

same-number : (query : List ℕ) (f g : FindFault) → (a : IsFindFault query f) → (b : IsFindFault query g) → (a.number ≡ b.number) ⊎ ((a.number < b.number) ⊎ (b.number < a.number)) → f ≡ g
same-number query f g a b (inl same) =
    let pieces = options_of query in
    let fault = subst (λ (n : ℕ). IsPieceFault (get_or pieces n []) n (option_start pieces n) (count_by is_filter (take n pieces)) f) same a.at in
    piece-fault-same (get_or pieces b.number []) b.number (option_start pieces b.number) (count_by is_filter (take b.number pieces)) f g fault b.at
same-number query f g a b (inr (inl earlier)) =
    let pieces = options_of query in
    let within : b.number < length pieces = b.within in
    absurd (clear-faultless pieces a.number b.number (option_start pieces a.number) f earlier (omega arith) b.before a.at)
same-number query f g a b (inr (inr later)) =
    let pieces = options_of query in
    let within : a.number < length pieces = a.within in
    absurd (clear-faultless pieces b.number a.number (option_start pieces b.number) g later (omega arith) a.before b.at)

pub one_find_fault : (query : List ℕ) (f g : FindFault) → IsFindFault query f → IsFindFault query g → f ≡ g
one_find_fault query f g a b = same-number query f g a b (cases_order a.number b.number)

-- The filter that is found.

pub found-counted : (pieces : List (List ℕ)) (found : FoundModel) (number : ℕ) → IsFoundAt pieces found number → 0 < count_by is_filter pieces
found-counted pieces found number at = count-some is_filter pieces number [] at.within at.filter

same-found : (pieces : List (List ℕ)) (one other : FoundModel) (i j : ℕ) → count_by is_filter pieces ≤ 1 → IsFoundAt pieces one i → IsFoundAt pieces other j → (i ≡ j) ⊎ ((i < j) ⊎ (j < i)) → one ≡ other
same-found pieces one other i j few a b (inl same) =
    a.gives ∙ ap (λ (k : ℕ). found_in (get_or pieces k []) (option_start pieces k)) same ∙ sym b.gives
same-found pieces one other i j few a b (inr (inl earlier)) = absurd (none-before is_filter pieces i j [] few earlier b.within a.filter b.filter)
same-found pieces one other i j few a b (inr (inr later)) = absurd (none-before is_filter pieces j i [] few later a.within b.filter a.filter)

same-has : (pieces : List (List ℕ)) (f g : Option FoundModel) → count_by is_filter pieces ≤ 1 → HasFound pieces f → HasFound pieces g → f ≡ g
same-has pieces None None few a b = refl
same-has pieces None (Some found) few a (j, at) = let some = found-counted pieces found j at in let none : count_by is_filter pieces ≡ 0 = a in absurd (omega arith)
same-has pieces (Some found) None few (i, at) b = let some = found-counted pieces found i at in let none : count_by is_filter pieces ≡ 0 = b in absurd (omega arith)
same-has pieces (Some found) (Some other) few (i, a) (j, b) = ap Some (same-found pieces found other i j few a b (cases_order i j))

pub one_found : (query : List ℕ) (f g : Option FoundModel) → IsFoundIn query f → IsFoundIn query g → f ≡ g
one_found query f g a b = same-has (options_of query) f g a.clear.single a.has b.has
