-- What the definition of a query's filter and faults says of itself.
use Rattle.std.proofs.lemmas.List.Sums.{get_or-le-sum_by}
use Rattle.odata_queries.proofs.Common.{◌≡◌, inl, inr, ◌⊎◌, ℕ, ◌+◌, ◌<◌, ◌≤◌, Bool, true, cond, List, [], length, take, get_or, Option, Some, None, arith, refl, sym, ◌∙◌, ap, subst, count_by, both_ways, cases_order, cond-true, get_or-take, length-take-le, get_or_default, take-take, sum_by_more_le, take-length, percent_decode, AreFaultless, HasFilter, IsFilterOf, IsOptionFault, IsQueryFault, IsReadable, IsDecodable, is_filter, is_filter_name, name_of, option_start, options_of, value_of, QueryFault, Repeated, OtherOption}
use Rattle.odata_queries.specs.Query.{IsFirstBadEscape, IsNameFault, IsNoText, IsPartFault, decoded_name, is_refused_name}
use Rattle.odata_queries.specs.declared.query_fault.QueryFault.TheVariants.{BadEscape, NotUtf8}

-- Lists.

-- one that passes is count-some
pub count-some : {X : Type 0} (p : X → Bool) (xs : List X) (i : ℕ) (d : X) → i < length xs → p (get_or xs i d) ≡ true → 0 < count_by p xs
count-some p xs i d inside passes =
    let least : cond {A = ℕ} (p (get_or xs i d)) 1 0 ≤ count_by p xs = get_or-le-sum_by (λ x. cond (p x) 1 0) xs i d inside in
    let one : cond {A = ℕ} (p (get_or xs i d)) 1 0 ≡ 1 = cond-true (p (get_or xs i d)) 1 0 passes in
    omega arith

-- where at most one passes, none passes before one that does
pub count-none_before : {X : Type 0} (p : X → Bool) (xs : List X) (j : ℕ) (d : X) → count_by p xs ≤ 1 → j < length xs → p (get_or xs j d) ≡ true → count_by p (take j xs) ≡ 0
count-none_before p xs j d few inside passes =
    let sum : count_by p (take j xs) + cond {A = ℕ} (p (get_or xs j d)) 1 0 ≤ count_by p xs = sum_by_more_le (λ x. cond (p x) 1 0) xs j d inside in
    let one : cond {A = ℕ} (p (get_or xs j d)) 1 0 ≡ 1 = cond-true (p (get_or xs j d)) 1 0 passes in
    omega arith

pub none-before : {X : Type 0} (p : X → Bool) (xs : List X) (i j : ℕ) (d : X) → count_by p xs ≤ 1 → i < j → j < length xs → p (get_or xs i d) ≡ true → p (get_or xs j d) ≡ true → ⊥
none-before p xs i j d few order inside passes_i passes_j =
    let size = length-take-le j xs (omega arith) in
    let first = count-some p (take j xs) i d (omega arith) (ap p (get_or-take j xs i d order) ∙ passes_i) in
    let none = count-none_before p xs j d few inside passes_j in
    omega arith

-- Names and values.

unsound : (part : List ℕ) (number start : ℕ) (fault : QueryFault) → IsDecodable part → IsPartFault part number start fault → ⊥
unsound part number start (BadEscape place) sound fault = both_ways _ (sound.escapes fault.within) fault.bad
unsound part number start (NotUtf8 option) sound fault = let none = fault.1 in none.not_utf8 sound.utf8
unsound part number start _ sound fault = fault

pub same-within : (part : List ℕ) (start place other : ℕ) → (f : IsFirstBadEscape part start place) → (g : IsFirstBadEscape part start other) → (f.within ≡ g.within) ⊎ ((f.within < g.within) ⊎ (g.within < f.within)) → place ≡ other
same-within part start place other f g (inl same) = f.global ∙ ap (λ (k : ℕ). start + k) same ∙ sym g.global
same-within part start place other f g (inr (inl earlier)) = absurd (both_ways _ (g.first f.within earlier) f.bad)
same-within part start place other f g (inr (inr later)) = absurd (both_ways _ (f.first g.within later) g.bad)

escaped-text : (part : List ℕ) (start place : ℕ) → IsFirstBadEscape part start place → IsNoText part → ⊥
escaped-text part start place bad none = both_ways _ (none.escapes bad.within) bad.bad

part-fault-same : (part : List ℕ) (number start : ℕ) (f g : QueryFault) → IsPartFault part number start f → IsPartFault part number start g → f ≡ g
part-fault-same part number start (BadEscape place) (BadEscape other) f g =
    ap BadEscape (same-within part start place other f g (cases_order f.within g.within))
part-fault-same part number start (BadEscape place) (NotUtf8 option) f g = absurd (escaped-text part start place f g.1)
part-fault-same part number start (BadEscape place) _ f g = absurd g
part-fault-same part number start (NotUtf8 option) (BadEscape place) f g = absurd (escaped-text part start place g f.1)
part-fault-same part number start (NotUtf8 option) (NotUtf8 other) f g = ap NotUtf8 (f.0 ∙ sym g.0)
part-fault-same part number start (NotUtf8 option) _ f g = absurd g
part-fault-same part number start _ g f h = absurd f

-- the filter's name is no other option's
filter-not_other : (name : List ℕ) → is_filter_name name ≡ true → is_refused_name name ≡ true → ⊥
filter-not_other name filter other =
    both_ways (is_refused_name name) (rw filter refl) other

name-fault-same : (name : List ℕ) (number filters : ℕ) (f g : QueryFault) → IsNameFault name number filters f → IsNameFault name number filters g → f ≡ g
name-fault-same name number filters (Repeated option) (Repeated other) f g = ap Repeated (f.0 ∙ sym g.0)
name-fault-same name number filters (Repeated option) (OtherOption other) f g = absurd (filter-not_other name f.1 g.1)
name-fault-same name number filters (Repeated option) _ f g = absurd g
name-fault-same name number filters (OtherOption option) (Repeated other) f g = absurd (filter-not_other name g.1 f.1)
name-fault-same name number filters (OtherOption option) (OtherOption other) f g = ap OtherOption (f.0 ∙ sym g.0)
name-fault-same name number filters (OtherOption option) _ f g = absurd g
name-fault-same name number filters _ g f h = absurd f

option-fault-same : (option : List ℕ) (number start filters : ℕ) (f g : QueryFault) → IsOptionFault option number start filters f → IsOptionFault option number start filters g → f ≡ g
option-fault-same option number start filters f g (inl a) (inl b) = part-fault-same (name_of option) number start f g a b
option-fault-same option number start filters f g (inl a) (inr (inl b)) = absurd (unsound (name_of option) number start f b.0 a)
option-fault-same option number start filters f g (inl a) (inr (inr b)) = absurd (unsound (name_of option) number start f b.0 a)
option-fault-same option number start filters f g (inr (inl a)) (inl b) = absurd (unsound (name_of option) number start g a.0 b)
option-fault-same option number start filters f g (inr (inl a)) (inr (inl b)) = part-fault-same (value_of option) number (start + length (name_of option) + 1) f g a.1 b.1
option-fault-same option number start filters f g (inr (inl a)) (inr (inr b)) = absurd (unsound (value_of option) number (start + length (name_of option) + 1) f b.1 a.1)
option-fault-same option number start filters f g (inr (inr a)) (inl b) = absurd (unsound (name_of option) number start g a.0 b)
option-fault-same option number start filters f g (inr (inr a)) (inr (inl b)) = absurd (unsound (value_of option) number (start + length (name_of option) + 1) g a.1 b.1)
option-fault-same option number start filters f g (inr (inr a)) (inr (inr b)) = name-fault-same (decoded_name option) number filters f g a.2 b.2

-- a readable option has no fault, unless it is a second filter
name-fault-read : (option : List ℕ) (number filters : ℕ) (fault : QueryFault) → IsReadable option → IsNameFault (decoded_name option) number filters fault → (is_filter option ≡ true) × (0 < filters)
name-fault-read option number filters (Repeated other) read fault = (fault.1, fault.2)
name-fault-read option number filters (OtherOption other) read fault = absurd (both_ways _ read.known fault.1)
name-fault-read option number filters _ read fault = absurd fault

option-fault-read : (option : List ℕ) (number start filters : ℕ) (fault : QueryFault) → IsReadable option → IsOptionFault option number start filters fault → (is_filter option ≡ true) × (0 < filters)
option-fault-read option number start filters fault read (inl a) = absurd (unsound (name_of option) number start fault read.name a)
option-fault-read option number start filters fault read (inr (inl a)) = absurd (unsound (value_of option) number (start + length (name_of option) + 1) fault read.value a.1)
option-fault-read option number start filters fault read (inr (inr a)) = name-fault-read option number filters fault read a.2

-- Options.

-- no option within a faultless beginning has a fault
faultless-read : (options : List (List ℕ)) (n m start : ℕ) (fault : QueryFault) → n < m → m ≤ length options → AreFaultless (take m options) → IsOptionFault (get_or options n []) n start (count_by is_filter (take n options)) fault → ⊥
faultless-read options n m start fault order inside faultless faulty =
    let part = take m options in
    let size = length-take-le m options inside in
    let same : get_or part n [] ≡ get_or options n [] = get_or-take m options n [] order in
    let read = subst IsReadable same (faultless.readable n [] (omega arith)) in
    let second = option-fault-read (get_or options n []) n start (count_by is_filter (take n options)) fault read faulty in
    let none = count-none_before is_filter part n [] faultless.single (omega arith) (ap is_filter same ∙ second.0) in
    let front : count_by is_filter (take n part) ≡ count_by is_filter (take n options) = ap (count_by is_filter) (take-take n m options (omega arith)) in
    let some = second.1 in
    omega arith

pub no_fault : (query : List ℕ) (filter : Option (List ℕ)) → IsFilterOf query filter → (fault : QueryFault) → IsQueryFault query fault → ⊥
no_fault query filter asked fault faulty =
    let options = options_of query in
    faultless-read options faulty.number (length options) (option_start options faulty.number) fault faulty.within (omega arith) (subst AreFaultless (sym (take-length options)) asked.faultless) faulty.at

same-number : (query : List ℕ) (f g : QueryFault) → (a : IsQueryFault query f) → (b : IsQueryFault query g) → (a.number ≡ b.number) ⊎ ((a.number < b.number) ⊎ (b.number < a.number)) → f ≡ g
same-number query f g a b (inl same) =
    let options = options_of query in
    let fault = subst (λ (n : ℕ). IsOptionFault (get_or options n []) n (option_start options n) (count_by is_filter (take n options)) f) same a.at in
    option-fault-same (get_or options b.number []) b.number (option_start options b.number) (count_by is_filter (take b.number options)) f g fault b.at
same-number query f g a b (inr (inl earlier)) =
    let options = options_of query in
    let within : b.number < length options = b.within in
    absurd (faultless-read options a.number b.number (option_start options a.number) f earlier (omega arith) b.before a.at)
same-number query f g a b (inr (inr later)) =
    let options = options_of query in
    let within : a.number < length options = a.within in
    absurd (faultless-read options b.number a.number (option_start options b.number) g later (omega arith) a.before b.at)

pub one_fault : (query : List ℕ) (f g : QueryFault) → IsQueryFault query f → IsQueryFault query g → f ≡ g
one_fault query f g a b = same-number query f g a b (cases_order a.number b.number)

-- The filter.

-- the text of an option that is the filter
abbrev IsTextOf : List ℕ → List ℕ → Type 0
IsTextOf text option = (is_filter option ≡ true) × (percent_decode (value_of option) ≡ text)

pub filter-counted : (options : List (List ℕ)) (text : List ℕ) → HasFilter options (Some text) → 0 < count_by is_filter options
filter-counted options text (k, option, inside, is, says) = count-some is_filter options k option inside (ap is_filter is ∙ says.0)

same-text : (options : List (List ℕ)) (i j : ℕ) (a b : List ℕ) (one other : List ℕ) → count_by is_filter options ≤ 1 → i < length options → j < length options → get_or options i a ≡ a → get_or options j b ≡ b → IsTextOf one a → IsTextOf other b → (i ≡ j) ⊎ ((i < j) ⊎ (j < i)) → one ≡ other
same-text options i j a b one other few inside_i inside_j is_a is_b says_a says_b (inl same) =
    let option : a ≡ b = sym is_a ∙ get_or_default options i a b inside_i ∙ ap (λ (k : ℕ). get_or options k b) same ∙ is_b in
    sym says_a.1 ∙ ap (λ (o : List ℕ). percent_decode (value_of o)) option ∙ says_b.1
same-text options i j a b one other few inside_i inside_j is_a is_b says_a says_b (inr (inl earlier)) =
    absurd (none-before is_filter options i j a few earlier inside_j (ap is_filter is_a ∙ says_a.0) (ap is_filter (get_or_default options j a b inside_j ∙ is_b) ∙ says_b.0))
same-text options i j a b one other few inside_i inside_j is_a is_b says_a says_b (inr (inr later)) =
    absurd (none-before is_filter options j i a few later inside_i (ap is_filter (get_or_default options j a b inside_j ∙ is_b) ∙ says_b.0) (ap is_filter is_a ∙ says_a.0))

same-filter : (options : List (List ℕ)) (f g : Option (List ℕ)) → count_by is_filter options ≤ 1 → HasFilter options f → HasFilter options g → f ≡ g
same-filter options None None few a b = refl
same-filter options None (Some text) few a b = let some = filter-counted options text b in let none : count_by is_filter options ≡ 0 = a in absurd (omega arith)
same-filter options (Some text) None few a b = let some = filter-counted options text a in let none : count_by is_filter options ≡ 0 = b in absurd (omega arith)
same-filter options (Some text) (Some other) few (i, a, inside_i, is_a, says_a) (j, b, inside_j, is_b, says_b) =
    ap Some (same-text options i j a b text other few inside_i inside_j is_a is_b says_a says_b (cases_order i j))

pub one_filter : (query : List ℕ) (f g : Option (List ℕ)) → IsFilterOf query f → IsFilterOf query g → f ≡ g
one_filter query f g a b = same-filter (options_of query) f g a.faultless.single a.has b.has
