-- What is within a JSON value nests less deep.
use Rattle.std.proofs.Common.{◌≡◌, ℕ, zero, suc, ◌<◌, ◌≤◌, ◌+◌, ◌*◌, List, [], ◌∷◌, Option, Some, None, Ordering, Less, Equal, Greater, nat_cmp, subst, arith}
use Rattle.std.specs.Ordering.{match_ordering}
use Rattle.std.specs.Cmp.Lexicographic.{slice_cmp}
use Rattle.std.specs.Prelude.{max}
use Rattle.serde_json.specs.Data.{Data, null, boolean, number, string, array, object, Members, no_members, member, depth, items_depth, members_depth}
use Rattle.serde_json.specs.Find.{get, get_member}

member_within : (name : List ℕ) (ms : Members) (d : Data) → get_member name ms ≡ Some d → depth d ≤ members_depth ms
member_within name no_members d found = absurd (cc)
member_within name (member l e ms) d found = by (slice_cmp nat_cmp name l) found (λ further. member_within name ms d further)
  where
    by : (o : Ordering) → match_ordering o (get_member name ms) (Some e) (get_member name ms) ≡ Some d → (get_member name ms ≡ Some d → depth d ≤ members_depth ms)
        → depth d ≤ max (depth e) (members_depth ms)
    by Less at further = let within = further at in omega arith
    by Equal at further = let same : e ≡ d = cc in subst (λ (f : Data). depth f ≤ max (depth e) (members_depth ms)) same (omega arith)
    by Greater at further = let within = further at in omega arith

pub get_within : (name : List ℕ) (json d : Data) → get name json ≡ Some d → depth d < depth json
get_within name (object ms) d found = let within = member_within name ms d found in omega arith
get_within name null d found = absurd (cc)
get_within name (boolean b) d found = absurd (cc)
get_within name (number n) d found = absurd (cc)
get_within name (string s) d found = absurd (cc)
get_within name (array ds) d found = absurd (cc)

-- how deep the JSON nests counts first, and at one depth the rank of the call: each call is of a lower rank there, or of a value that nests
-- less deep
abbrev pub measure_of : ℕ → ℕ → ℕ
measure_of deep rank = 4 * deep + rank

-- what was found, or items
abbrev pub rank_found : ℕ
rank_found = 4

-- a single value, or an array
abbrev pub rank_single : ℕ
rank_single = 3

-- a value that is not null
abbrev pub rank_value : ℕ
rank_value = 2

-- the slots of an object
abbrev pub rank_slots : ℕ
rank_slots = 1

-- what is left for a walk over what was found
abbrev pub found_measure : Option Data → ℕ
found_measure None = 0
found_measure (Some d) = measure_of (depth d) rank_found

pub found_less : (name : List ℕ) (json : Data) (found : Option Data) → found ≡ get name json → found_measure found < measure_of (depth json) rank_slots
found_less name json None is = omega arith
found_less name json (Some d) is = let within : depth d < depth json = get_within name json d (let turned = is in cc) in omega arith
