-- The members that an object's map gives are those that the object has.
use Rattle.std.proofs.Common.{◌≡◌, ℕ, suc, List, [], ◌∷◌, Option, Some, None, option_map, IfSome, Bor, String, Global, BTreeMap, string_bytes, string_cmp, sym, ap, ◌∙◌, subst, arith}
use Rattle.std.specs.BTreeMap as tree
use Rattle.std.specs.List.{All, AllByRecursion}
use Rattle.std.specs.Map.Iter.{TakesFirst, deref_pair}
use Rattle.serde_json.specs.Data.{Data, Members, null, boolean, number, string, array, object}
use Rattle.serde_json.specs.Find.{as_object, get, get_member}
use Rattle.serde_json.specs.View.{view, members_view}
use Rattle.serde_json.specs.declared.value.Value.{Value}
use Rattle.serde_json.proofs.Views.{Entry, view-lookup}
use Rattle.edm_entities.specs.private.MemberWalk.{IsMember}

all_by : (P : Entry → Type 0) (es : List Entry) → All P es → AllByRecursion P es
all_by P [] each = tt
all_by P (e ∷ es) each = (each 0 e (omega arith), all_by P es (λ k d within. each (suc k) d (omega (arith, within))))

got_of : (json : Data) (ms : Members) (name : List ℕ) → as_object json ≡ Some ms → get name json ≡ get_member name ms
got_of null ms name is = absurd (cc)
got_of (boolean b) ms name is = absurd (cc)
got_of (number n) ms name is = absurd (cc)
got_of (string s) ms name is = absurd (cc)
got_of (array ds) ms name is = absurd (cc)
got_of (object held) ms name is = let same : held ≡ ms = cc in ap (get_member name) same

member_of : (json : Data) (m : BTreeMap (String Global) Value) (e : Entry) → as_object json ≡ Some (members_view m.entries) → tree.get string_cmp m e.0 ≡ Some e.1 → IsMember json e
member_of json m e is found =
    got_of json (members_view m.entries) (string_bytes e.0) is ∙ sym (view-lookup (string_bytes e.0) m.entries) ∙ ap (option_map view) found

members_by : (json : Data) (m : BTreeMap (String Global) Value) (es : List Entry) → as_object json ≡ Some (members_view m.entries)
    → AllByRecursion (λ e. tree.get string_cmp m e.0 ≡ Some e.1) es → AllByRecursion (IsMember json) es
members_by json m [] is each = tt
members_by json m (e ∷ es) is each = (member_of json m e is each.0, members_by json m es is each.1)

-- each entry of an object's map is a member
pub members_all : (json : Data) (m : BTreeMap (String Global) Value) → as_object json ≡ Some (members_view m.entries) → All (λ e. tree.get string_cmp m e.0 ≡ Some e.1) m.entries
    → AllByRecursion (IsMember json) m.entries
members_all json m is each = members_by json m m.entries is (all_by (λ e. tree.get string_cmp m e.0 ≡ Some e.1) m.entries each)

-- the first of some members, and those after it
pub first_member : (json : Data) (es : List Entry) (r : Option (Bor (String Global) × Bor Value)) (rest : List Entry) → AllByRecursion (IsMember json) es → TakesFirst deref_pair es r rest
    → IfSome r (λ m. IsMember json (m.0.now, m.1.now)) × AllByRecursion (IsMember json) rest
first_member json es None rest each none = (tt, subst (AllByRecursion (IsMember json)) (sym none.1) tt)
first_member json es (Some m) rest each first =
    let split = subst (AllByRecursion (IsMember json)) first each in
    (split.0, split.1)
