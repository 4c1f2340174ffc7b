-- What the functions that find a query's filter rest on.
use Rattle.std.specs.List.{sum_by}
use Rattle.std.proofs.Common.{option_map}
use Rattle.std.proofs.lemmas.List.{get_or_append_left, get_or_push, take-append-le}
use Rattle.std.proofs.lemmas.List.Elements.{All-push}
use Rattle.std.proofs.lemmas.List.Sums.{sum_by_push}
use Rattle.odata_queries.proofs.Common.{length_push, count_by, get_or_default, ◌≡◌, ℕ, ◌+◌, ◌-◌, ◌<◌, ◌≤◌, Bool, true, false, cond, List, [], ◌∷◌, ◌++◌, length, take, get_or, Option, Some, None, All, arith, refl, sym, ◌∙◌, ap, subst, take-length, HasFilter, IsFilterOf, is_filter, option_start, options_of, percent_decode, value_of}
use Rattle.odata_queries.specs.Disguise.{is_disguised}
use Rattle.odata_queries.specs.Find.{AreClear, FoundModel, HasFound, IsClear, IsFindFault, IsFoundAt, IsFoundIn, IsPieceFault, found_in}
use Rattle.odata_queries.specs.declared.find_fault.FindFault.{FindFault}
use Rattle.odata_queries.specs.private.Find.{IsFilterAmong, KeepsFound, found_of}
use Rattle.odata_queries.proofs.queries.Finds.{found-counted}
use Rattle.odata_queries.proofs.queries.QueryLoops.{IsNext, next-room}

abbrev size : List (List ℕ) → ℕ
size = sum_by (λ piece. length piece + 1)

-- these pieces have been read, and the next begins at start
pub record IsFoundSoFar (read : List (List ℕ)) (start : ℕ) (found : Option FoundModel) : Type 0 where
  pub clear : AreClear read
  pub has : HasFound read found
  pub begins : start ≡ size read

pub found-none : IsFoundSoFar [] 0 None
found-none = record { clear = record { clear = λ k d below. absurd (omega arith); single = omega arith }; has = refl; begins = refl }

-- whether a filter was found says how many there are
pub found-among : (read : List (List ℕ)) (found : Option FoundModel) → HasFound read found → IsFilterAmong found (count_by is_filter read)
found-among read None none = none
found-among read (Some found) (number, at) = found-counted read found number at

-- what is found in these pieces is found in more
found-still : (read : List (List ℕ)) (piece : List ℕ) (found : FoundModel) (number : ℕ) → IsFoundAt read found number → IsFoundAt (read ++ piece ∷ []) found number
found-still read piece found number at =
    let longer = length_push read piece in
    let within : number < length read = at.within in
    let same : get_or (read ++ piece ∷ []) number [] ≡ get_or read number [] = get_or_append_left read (piece ∷ []) [] number within in
    let front : take number (read ++ piece ∷ []) ≡ take number read = take-append-le number read (piece ∷ []) (omega arith) in
    record {
      within = omega arith;
      filter = ap is_filter same ∙ at.filter;
      gives = at.gives ∙ ap (λ (p : List ℕ). found_in p (option_start read number)) (sym same) ∙ ap (λ (xs : List (List ℕ)). found_in (get_or (read ++ piece ∷ []) number []) (size xs)) (sym front);
    }

-- the last piece is where it is found
found-last : (read : List (List ℕ)) (piece : List ℕ) (start : ℕ) → start ≡ size read → is_filter piece ≡ true → IsFoundAt (read ++ piece ∷ []) (found_in piece start) (length read)
found-last read piece start begins is =
    let longer = length_push read piece in
    let same : get_or (read ++ piece ∷ []) (length read) [] ≡ piece = get_or_push read piece [] (length read) refl in
    let front : take (length read) (read ++ piece ∷ []) ≡ read = take-append-le (length read) read (piece ∷ []) (omega arith) ∙ take-length read in
    record {
      within = omega arith;
      filter = ap is_filter same ∙ is;
      gives = ap (λ (s : ℕ). found_in piece s) begins ∙ ap (λ (p : List ℕ). found_in p (size read)) (sym same) ∙ ap (λ (xs : List (List ℕ)). found_in (get_or (read ++ piece ∷ []) (length read) []) (size xs)) (sym front);
    }

pub found-room : (query piece : List ℕ) (read : List (List ℕ)) (number start : ℕ) (filter : Option FoundModel) → IsFoundSoFar read start filter → IsNext query read number piece → start + length piece ≤ length query
found-room query piece read number start filter so_far next =
    next-room query piece read number start so_far.begins next

-- one piece more, which is the filter or is passed over
pub found-kept : (piece : List ℕ) (read : List (List ℕ)) (start : ℕ) (filter kept : Option FoundModel) → IsFoundSoFar read start filter → IsClear piece → KeepsFound filter (found_of piece start) kept
    → IsFoundSoFar (read ++ piece ∷ []) (start + (length piece + 1)) kept
found-kept piece read start filter kept so_far clear keeps =
    let both = one (is_filter piece) filter kept refl so_far.has keeps in
    let sizes = sum_by_push (λ (p : List ℕ). length p + 1) read piece in
    let begins = so_far.begins in
    record {
      clear = record { clear = All-push IsClear read piece so_far.clear.clear clear; single = both.0 };
      has = both.1;
      begins = omega arith;
    }
  where
    push : (t : Bool) → is_filter piece ≡ t → count_by is_filter (read ++ piece ∷ []) ≡ count_by is_filter read + cond {A = ℕ} t 1 0
    push t is = sum_by_push (λ (p : List ℕ). cond {A = ℕ} (is_filter p) 1 0) read piece ∙ ap (λ (b : Bool). count_by is_filter read + cond {A = ℕ} b 1 0) is

    one : (t : Bool) (f k : Option FoundModel) → is_filter piece ≡ t → HasFound read f → KeepsFound f (cond t (Some (found_in piece start)) None) k → (count_by is_filter (read ++ piece ∷ []) ≤ 1) × HasFound (read ++ piece ∷ []) k
    one false None k is none keeps = let count = push false is in rw keeps (omega arith, omega arith)
    one true None k is none keeps =
        let count = push true is in
        rw keeps (omega arith, (length read, found-last read piece start so_far.begins is))
    one false (Some found) k is (number, at) keeps =
        let count = push false is in
        let few = so_far.clear.single in
        rw keeps (omega arith, (number, found-still read piece found number at))
    one true (Some found) k is has keeps = absurd keeps

pub found-fault : (query piece : List ℕ) (read : List (List ℕ)) (number start : ℕ) (filter : Option FoundModel) (fault : FindFault) → IsFoundSoFar read start filter → IsNext query read number piece → IsPieceFault piece number start (count_by is_filter read) fault → IsFindFault query fault
found-fault query piece read number start filter fault so_far next faulty =
    let pieces = options_of query in
    record {
      number = number;
      within = next.within;
      before = subst AreClear (sym next.before) so_far.clear;
      at = subst (λ (p : List ℕ). IsPieceFault p number (option_start pieces number) (count_by is_filter (take number pieces)) fault) (sym next.at)
          (subst (λ (xs : List (List ℕ)). IsPieceFault piece number (size xs) (count_by is_filter xs) fault) (sym next.before)
          (subst (λ (s : ℕ). IsPieceFault piece number s (count_by is_filter read) fault) so_far.begins faulty));
    }

pub found-all : (query : List ℕ) (read : List (List ℕ)) (start : ℕ) (filter : Option FoundModel) → IsFoundSoFar read start filter → read ≡ options_of query → IsFoundIn query filter
found-all query read start filter so_far whole = record { clear = subst AreClear whole so_far.clear; has = subst (λ (pieces : List (List ℕ)). HasFound pieces filter) whole so_far.has }

-- Queries that a filter has to itself.

-- what is the filter and what it says is found there
found-alone : (pieces : List (List ℕ)) (filter : Option (List ℕ)) → HasFilter pieces filter → (found : Option FoundModel) × HasFound pieces found × (option_map (λ f. f.text) found ≡ filter)
unfolding found_in
found-alone pieces None none = (None, none, refl)
found-alone pieces (Some text) (k, option, inside, is, says) =
    let same : get_or pieces k [] ≡ option = get_or_default pieces k [] option inside ∙ is in (
      Some (found_in (get_or pieces k []) (option_start pieces k)),
      (k, record { within = inside; filter = ap is_filter same ∙ says.0; gives = refl }),
      ap Some (ap (λ (o : List ℕ). percent_decode (value_of o)) same ∙ says.1),
    )

pub same_as_alone : (query : List ℕ) (filter : Option (List ℕ)) → IsFilterOf query filter → All (λ piece. is_disguised piece ≡ false) (options_of query) → (found : Option FoundModel) × IsFoundIn query found × (option_map (λ f. f.text) found ≡ filter)
same_as_alone query filter alone open_faced =
    let pieces = options_of query in
    let there = found-alone pieces filter alone.has in
    let faultless = alone.faultless in (
      there.0,
      record {
        clear = record {
          clear = λ k d below. let read = faultless.readable k d below in record { name = read.name; value = λ is. read.value; undisguised = open_faced k d below };
          single = faultless.single;
        };
        has = there.1;
      },
      there.2,
    )
