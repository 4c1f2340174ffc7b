-- What the functions that read a query's options rest on.
use Rattle.std.specs.Iterator.{Yields}
use Rattle.std.proofs.lemmas.Iterator.{YieldsList}
use Rattle.std.proofs.lemmas.Iterator.Consumers.{YieldsList-so_far, YieldsList-turn}
use Rattle.std.proofs.lemmas.List.{get_or_append_left, get_or_past}
use Rattle.std.proofs.lemmas.List.Elements.{All-push}
use Rattle.std.proofs.lemmas.List.Quantifiers.{Any-push}
use Rattle.std.proofs.lemmas.List.Splits.{join_with_byte-slice_split, length-slice_split}
use Rattle.std.proofs.lemmas.List.Sums.{sum_by-cons, sum_by_push}
use Rattle.std.specs.List.{join_with_byte, position_or_len, sum_by}
use Rattle.odata_queries.proofs.Common.{length_push, prefix_len-le-length, sum_by_more_le, count_by, both_ways, and_left, cases_lt, get_or_default, length-drop, length-take-le, percent_decode, ◌≡◌, inr, ⊎_elim, ℕ, ◌+◌, ◌<◌, ◌≤◌, ◌==◌, Bool, true, false, not, cond, map, List, [], ◌∷◌, ◌++◌, length, length-append, take, get_or, Option, Some, None, arith, refl, sym, ◌∙◌, ap, subst, AreFaultless, HasFilter, IsFilterOf, IsOptionFault, IsQueryFault, IsReadable, is_bad_escape, is_filter, name_of, option_start, options_of, value_of, QueryFault, Repeated}
use Rattle.odata_queries.specs.private.QueryParts.{AreTwoFilters, IsFirstBad, KeepsFilter, GivesFilter}
use Rattle.odata_queries.proofs.queries.Queries.{filter-counted}

-- Escapes.

pub outside-good : (part : List ℕ) (place : ℕ) → length part ≤ place → is_bad_escape part place ≡ false
outside-good part place outside = and_left _ _ (ap (λ (b : ℕ). b == 37) (get_or_past part place 0 outside))

pub good-all : (part : List ℕ) → ((place : ℕ) → place < length part → is_bad_escape part place ≡ false) → (place : ℕ) → is_bad_escape part place ≡ false
good-all part good place = ⊎_elim (λ inside. good place inside) (λ outside. outside-good part place outside) (cases_lt place (length part))

pub bad-inside : (part : List ℕ) (place : ℕ) → IsFirstBad part place → place < length part
bad-inside part place bad = ⊎_elim (λ inside. inside) (λ outside. absurd (both_ways _ (outside-good part place outside) bad.bad)) (cases_lt place (length part))

-- Names and values.

pub name-room : (option : List ℕ) → length (name_of option) + length (value_of option) ≤ length option
unfolding name_of value_of
name-room option =
    let place = position_or_len (λ b. b == 61) option in
    let within = prefix_len-le-length (λ b. not (b == 61)) option in
    omega (arith, length-take-le place option within, length-drop (place + 1) option)

-- The sizes of options.

abbrev size : List (List ℕ) → ℕ
size = sum_by (λ option. length option + 1)

joined-size : (part : List ℕ) (parts : List (List ℕ)) → size (part ∷ parts) ≡ length (join_with_byte 38 (part ∷ parts)) + 1
joined-size part [] = omega arith
joined-size part (next ∷ parts) =
    let more = joined-size next parts in
    let first = sum_by-cons (λ (option : List ℕ). length option + 1) part (next ∷ parts) in
    let whole = length-append part (38 ∷ join_with_byte 38 (next ∷ parts)) in
    omega arith

split-size : (bytes : List ℕ) → size (options_of bytes) ≡ length bytes + 1
split-size bytes = whole (options_of bytes) (length-slice_split (λ b. b == 38) bytes) (join_with_byte-slice_split 38 bytes)
  where
    whole : (parts : List (List ℕ)) → length parts ≡ count_by (λ b. b == 38) bytes + 1 → join_with_byte 38 parts ≡ bytes → size parts ≡ length bytes + 1
    whole [] some joined = absurd (omega arith)
    whole (part ∷ parts) some joined = joined-size part parts ∙ ap (λ (xs : List ℕ). length xs + 1) joined

-- Options.

-- these options have been read, and the next begins at start
pub record IsReadSoFar (read : List (List ℕ)) (start : ℕ) (filter : Option (List ℕ)) : Type 0 where
  pub faultless : AreFaultless read
  pub has : HasFilter read filter
  pub begins : start ≡ size read

pub read-none : IsReadSoFar [] 0 None
read-none = record { faultless = record { readable = λ k d below. absurd (omega arith); single = omega arith }; has = refl; begins = refl }

-- the option that is read after these
pub record IsNext (query : List ℕ) (read : List (List ℕ)) (number : ℕ) (option : List ℕ) : Type 0 where
  pub within : number < length (options_of query)
  pub before : take number (options_of query) ≡ read
  pub at : get_or (options_of query) number [] ≡ option

-- what an iterator over the options gives after xs
pub next-given : {S A : Type 0} {steps : S → Option A → S → Type 0} {s : S} (query : List ℕ) (number : ℕ) (xs : List A) (v : A → List ℕ) (t : S) → Yields steps s xs t → number ≡ length xs → (r : Option A) (u : S) (x : A) → r ≡ Some x → steps t r u → YieldsList steps v s (options_of query) → IsNext query (map v xs) number (v x)
next-given query number xs v t given same r u x is step road =
    let turn = YieldsList-turn road xs t given r u x is step in
    rw same (record {
      within = turn.0;
      before = sym (YieldsList-so_far road xs t given);
      at = get_or_default (options_of query) (length xs) [] (v x) turn.0 ∙ sym turn.1;
    })

-- the option that is read next ends within the query
pub next-room : (query option : List ℕ) (read : List (List ℕ)) (number start : ℕ) → start ≡ size read → IsNext query read number option → start + length option ≤ length query
next-room query option read number start begins next =
    let within = sum_by_more_le (λ (o : List ℕ). length o + 1) (options_of query) number [] next.within in
    let all = split-size query in
    let front : size (take number (options_of query)) ≡ size read = ap size next.before in
    let this : length (get_or (options_of query) number []) ≡ length option = ap length next.at in
    omega arith

pub read-room : (query option : List ℕ) (read : List (List ℕ)) (number start : ℕ) (filter : Option (List ℕ)) → IsReadSoFar read start filter → IsNext query read number option → start + length option ≤ length query
read-room query option read number start filter so_far next = next-room query option read number start so_far.begins next

-- one option more, which is the filter or is passed over
pub read-kept : (option : List ℕ) (read : List (List ℕ)) (start : ℕ) (filter found kept : Option (List ℕ)) → IsReadSoFar read start filter → IsReadable option → GivesFilter option found → KeepsFilter filter found kept
    → IsReadSoFar (read ++ option ∷ []) (start + (length option + 1)) kept
read-kept option read start filter found kept so_far readable says joins =
    let both = one filter found kept so_far.has says joins in
    let sizes = sum_by_push (λ (o : List ℕ). length o + 1) read option in
    let begins = so_far.begins in
    record {
      faultless = record { readable = All-push IsReadable read option so_far.faultless.readable readable; single = both.0 };
      has = both.1;
      begins = omega arith;
    }
  where
    push : (t : Bool) → is_filter option ≡ t → count_by is_filter (read ++ option ∷ []) ≡ count_by is_filter read + cond {A = ℕ} t 1 0
    push t is = sum_by_push (λ (o : List ℕ). cond {A = ℕ} (is_filter o) 1 0) read option ∙ ap (λ (b : Bool). count_by is_filter read + cond {A = ℕ} b 1 0) is

    one : (f g k : Option (List ℕ)) → HasFilter read f → GivesFilter option g → KeepsFilter f g k → (count_by is_filter (read ++ option ∷ []) ≤ 1) × HasFilter (read ++ option ∷ []) k
    one None None k none other keeps = let count = push false other in rw keeps (omega arith, omega arith)
    one None (Some text) k none is keeps =
        let count = push true is.0 in
        rw keeps (omega arith, Any-push (λ (o : List ℕ). (is_filter o ≡ true) × (percent_decode (value_of o) ≡ text)) read option (is.0, sym is.1))
    one (Some text) None k (i, o, inside, is, its) other keeps =
        let count = push false other in
        let few = so_far.faultless.single in
        let longer = length_push read option in
        rw keeps (omega arith, (i, o, omega arith, get_or_append_left read (option ∷ []) o i inside ∙ is, its))
    one (Some text) (Some other) k has is keeps = absurd keeps

pub read-fault : (query option : List ℕ) (read : List (List ℕ)) (number start : ℕ) (filter : Option (List ℕ)) (fault : QueryFault) → IsReadSoFar read start filter → IsNext query read number option → IsOptionFault option number start (count_by is_filter read) fault → IsQueryFault query fault
read-fault query option read number start filter fault so_far next faulty =
    let options = options_of query in
    record {
      number = number;
      within = next.within;
      before = subst AreFaultless (sym next.before) so_far.faultless;
      at = subst (λ (o : List ℕ). IsOptionFault o number (option_start options number) (count_by is_filter (take number options)) fault) (sym next.at)
          (subst (λ (xs : List (List ℕ)). IsOptionFault option number (size xs) (count_by is_filter xs) fault) (sym next.before)
          (subst (λ (s : ℕ). IsOptionFault option number s (count_by is_filter read) fault) so_far.begins faulty));
    }

pub read-two : (query option : List ℕ) (read : List (List ℕ)) (number start : ℕ) (filter found : Option (List ℕ)) → IsReadSoFar read start filter → IsNext query read number option → IsReadable option → GivesFilter option found → AreTwoFilters filter found → IsQueryFault query (Repeated number)
read-two query option read number start (Some text) (Some other) so_far next readable says two =
    read-fault query option read number start (Some text) (Repeated number) so_far next (inr (inr (readable.name, readable.value, (refl, says.0, filter-counted read text so_far.has))))
read-two query option read number start (Some text) None so_far next readable says two = absurd two
read-two query option read number start None found so_far next readable says two = absurd two

pub read-all : (query : List ℕ) (read : List (List ℕ)) (start : ℕ) (filter : Option (List ℕ)) → IsReadSoFar read start filter → read ≡ options_of query → IsFilterOf query filter
read-all query read start filter so_far whole = record { faultless = subst AreFaultless whole so_far.faultless; has = subst (λ (parts : List (List ℕ)). HasFilter parts filter) whole so_far.has }
