-- What `serde_json` reads of a value on a tape, by its kind: each number has a value, and it nests no deeper than that.
use Rattle.std.proofs.lemmas.Bool.{false≢true, ltb-true}
use Rattle.std.proofs.Common.{◌≡◌, ◌<◌, ◌≤◌, ◌-◌, ◌∙◌, ℕ, suc, List, Option, Some, None, Bool, false, true, ltb, is_some, max, option_and_then, option_map, refl, sym, ap, subst, arith}
use Rattle.std.specs.Prelude.{◌↔◌, IsSome, IsTrue}
use Rattle.json.specs.Find as find
use Rattle.json.specs.Json as json
use Rattle.json.specs.Tree.{depth, items_depth, members_depth}
use Rattle.serde_json.specs.Data.{Data, Items, Members, array, item, no_members, number, object, put}
use Rattle.serde_json.specs.Read.{number_of, of_items, of_json, of_members}
use Rattle.serde_json.specs.View.{number_view}
use Rattle.serde_json.specs.declared.number.Number.{Number}
use Rattle.edm_entities.specs.private.TapeNodes.{AreMembersReadWithin, AreReadWithin, IsReadWithin}
use Rattle.edm_entities.proofs.TapeLemmas.MemberTokens.{read_after}

is_mapped : {A B : Type 0} (f : A → B) (o : Option A) → IsSome o ↔ IsSome (option_map f o)
is_mapped f None = (λ some. some, λ some. some)
is_mapped f (Some a) = (λ _. refl, λ _. refl)

-- a number is read where it has a value
pub number_read : (deep : ℕ) (found : json.Json) (s : List ℕ) (o : Option Number) → Some s ≡ find.as_number found → option_map number_view o ≡ number_of s → IsTrue (is_some o) ↔ IsReadWithin deep found
number_read deep (json.number t) s o is at = by o at
  where
    same : s ≡ t
    same = cc

    by : (o : Option Number) → option_map number_view o ≡ number_of s → IsTrue (is_some o) ↔ IsReadWithin deep (json.number t)
    by None at = (λ some. absurd (false≢true some), λ read. absurd (false≢true (subst (λ (d : Option Data). IsSome d) (sym (ap (option_map number) at)) (subst (λ (x : List ℕ). IsSome (option_map number (number_of x))) (sym same) read.1))))
    by (Some n) at = (λ _. (omega arith, subst (λ (x : List ℕ). IsSome (option_map number (number_of x))) same (subst (λ (d : Option Data). IsSome d) (ap (option_map number) at) refl)), λ _. refl)
number_read deep json.null s o is at = absurd (cc)
number_read deep (json.boolean b) s o is at = absurd (cc)
number_read deep (json.string t) s o is at = absurd (cc)
number_read deep (json.array js) s o is at = absurd (cc)
number_read deep (json.object ms) s o is at = absurd (cc)

-- an array is read where its items are, one level less deep
pub array_read : (deep : ℕ) (js : json.Items) → 0 < deep → AreReadWithin (deep - 1) js ↔ IsReadWithin deep (json.array js)
array_read deep js some = (
  λ read. (omega (arith, read.0, some), (is_mapped array (of_items js)).0 read.1),
  λ read. (omega (arith, read.0, some), (is_mapped array (of_items js)).1 read.1),
)

pub array_unread : (deep : ℕ) (js : json.Items) → ¬ (0 < deep) → ¬ (IsReadWithin deep (json.array js))
array_unread deep js none read = none (omega (arith, read.0))

pub object_unread : (deep : ℕ) (ms : json.Members) → ¬ (0 < deep) → ¬ (IsReadWithin deep (json.object ms))
object_unread deep ms none read = none (omega (arith, read.0))

-- items are read where the first is, and those after it
pub item_read : (deep : ℕ) (j : json.Json) (js : json.Items) → IsReadWithin deep j → AreReadWithin deep (json.item j js) ↔ AreReadWithin deep js
item_read deep j js first = by (of_json j) first.1
  where
    by : (o : Option Data) → IsSome o → ((max (depth j) (items_depth js) ≤ deep) × IsSome (option_and_then (λ d. option_map (item d) (of_items js)) o)) ↔ AreReadWithin deep js
    by None some = absurd (false≢true some)
    by (Some d) some = (
      λ read. (omega (arith, read.0), (is_mapped (item d) (of_items js)).1 read.1),
      λ read. (omega (arith, read.0, first.0), (is_mapped (item d) (of_items js)).0 read.1),
    )

pub item_unread : (deep : ℕ) (j : json.Json) (js : json.Items) → ¬ (IsReadWithin deep j) → ¬ (AreReadWithin deep (json.item j js))
item_unread deep j js other read = other (omega (arith, read.0), first (of_json j) read.1)
  where
    first : (o : Option Data) → IsSome (option_and_then (λ d. option_map (item d) (of_items js)) o) → IsSome o
    first None some = some
    first (Some d) some = refl

-- an object is read where its members are, one level less deep, whatever was found before them
pub object_read : (deep : ℕ) (ms : json.Members) → 0 < deep → AreMembersReadWithin (deep - 1) ms ↔ IsReadWithin deep (json.object ms)
object_read deep ms some = (
  λ read. (omega (arith, read.0, some), (is_mapped object (of_members ms no_members)).0 (read.1 no_members)),
  λ read. (omega (arith, read.0, some), λ found. read_after ms no_members found ((is_mapped object (of_members ms no_members)).1 read.1)),
)

-- members are read where the first one's value is, and those after it
pub member_read : (deep : ℕ) (k : List ℕ) (j : json.Json) (ms : json.Members) → IsReadWithin deep j → AreMembersReadWithin deep (json.member k j ms) ↔ AreMembersReadWithin deep ms
member_read deep k j ms first = by (of_json j) first.1
  where
    by : (o : Option Data) → IsSome o → ((max (depth j) (members_depth ms) ≤ deep) × ((found : Members) → IsSome (option_and_then (λ d. of_members ms (put k d found)) o))) ↔ AreMembersReadWithin deep ms
    by None some = absurd (false≢true some)
    by (Some d) some = (
      λ read. (omega (arith, read.0), λ found. read_after ms (put k d found) found (read.1 found)),
      λ read. (omega (arith, read.0, first.0), λ found. read.1 (put k d found)),
    )

pub member_unread : (deep : ℕ) (k : List ℕ) (j : json.Json) (ms : json.Members) → ¬ (IsReadWithin deep j) → ¬ (AreMembersReadWithin deep (json.member k j ms))
member_unread deep k j ms other read = other (omega (arith, read.0), first (of_json j) (read.1 no_members))
  where
    first : (o : Option Data) → IsSome (option_and_then (λ d. of_members ms (put k d no_members)) o) → IsSome o
    first None some = some
    first (Some d) some = refl

-- what has no number and no parts is read
pub scalar_read : (deep : ℕ) (found : json.Json) → None ≡ find.as_number found → None ≡ find.as_array found → None ≡ find.as_object found → IsReadWithin deep found
scalar_read deep json.null n a o = (omega arith, refl)
scalar_read deep (json.boolean b) n a o = (omega arith, refl)
scalar_read deep (json.number s) n a o = absurd (cc)
scalar_read deep (json.string s) n a o = (omega arith, refl)
scalar_read deep (json.array js) n a o = absurd (cc)
scalar_read deep (json.object ms) n a o = absurd (cc)

-- ---- answers, of what is read or is not

pub all_read : {P : Type 0} → P → IsTrue true ↔ P
all_read is = (λ _. is, λ _. refl)

pub not_all_read : {P : Type 0} → ¬ P → IsTrue false ↔ P
not_all_read {P} none = (λ no. absurd {A = P} (false≢true no), λ read. absurd (none read))

pub too_deep : (deep : ℕ) (value : json.Json) → ¬ (IsReadWithin deep value) → deep ≤ 0 → IsTrue (ltb 0 deep) ↔ IsReadWithin deep value
too_deep deep value none flat = (λ some. absurd (omega (arith, ltb-true 0 deep some, flat)), λ read. absurd (none read))

pub array_as : (deep : ℕ) (value : json.Json) (js : json.Items) (b : Bool) → value ≡ json.array js → 0 < deep → IsTrue b ↔ AreReadWithin (deep - 1) js → IsTrue b ↔ IsReadWithin deep value
array_as deep value js b is some inner =
    let turn = array_read deep js some in
    subst (λ (v : json.Json). IsTrue b ↔ IsReadWithin deep v) (sym is) (λ yes. turn.0 (inner.0 yes), λ read. inner.1 (turn.1 read))

pub object_as : (deep : ℕ) (value : json.Json) (ms : json.Members) (b : Bool) → value ≡ json.object ms → 0 < deep → IsTrue b ↔ AreMembersReadWithin (deep - 1) ms → IsTrue b ↔ IsReadWithin deep value
object_as deep value ms b is some inner =
    let turn = object_read deep ms some in
    subst (λ (v : json.Json). IsTrue b ↔ IsReadWithin deep v) (sym is) (λ yes. turn.0 (inner.0 yes), λ read. inner.1 (turn.1 read))

-- ---- items, one after another

module _ (deep : ℕ) (values rest : json.Items) (so_far : AreReadWithin deep values ↔ AreReadWithin deep rest) where
  pub last_read : rest ≡ json.no_items → AreReadWithin deep values
  last_read is = so_far.1 (subst (λ (js : json.Items). AreReadWithin deep js) (sym is) (omega arith, refl))

  pub next_unread : (j : json.Json) (more : json.Items) → rest ≡ json.item j more → ¬ (IsReadWithin deep j) → ¬ (AreReadWithin deep values)
  next_unread j more is other read = item_unread deep j more other (subst (λ (js : json.Items). AreReadWithin deep js) is (so_far.0 read))

  pub next_read : (j : json.Json) (more : json.Items) → rest ≡ json.item j more → IsReadWithin deep j → AreReadWithin deep values ↔ AreReadWithin deep more
  next_read j more is first =
      let turn = item_read deep j more first in (
        λ read. turn.0 (subst (λ (js : json.Items). AreReadWithin deep js) is (so_far.0 read)),
        λ read. so_far.1 (subst (λ (js : json.Items). AreReadWithin deep js) (sym is) (turn.1 read)),
      )

-- ---- members, one after another

module _ (deep : ℕ) (members rest : json.Members) (so_far : AreMembersReadWithin deep members ↔ AreMembersReadWithin deep rest) where
  pub last_member_read : rest ≡ json.no_members → AreMembersReadWithin deep members
  last_member_read is = so_far.1 (subst (λ (ms : json.Members). AreMembersReadWithin deep ms) (sym is) (omega arith, λ _. refl))

  pub next_member_unread : (k : List ℕ) (j : json.Json) (more : json.Members) → rest ≡ json.member k j more → ¬ (IsReadWithin deep j) → ¬ (AreMembersReadWithin deep members)
  next_member_unread k j more is other read = member_unread deep k j more other (subst (λ (ms : json.Members). AreMembersReadWithin deep ms) is (so_far.0 read))

  pub next_member_read : (k : List ℕ) (j : json.Json) (more : json.Members) → rest ≡ json.member k j more → IsReadWithin deep j → AreMembersReadWithin deep members ↔ AreMembersReadWithin deep more
  next_member_read k j more is first =
      let turn = member_read deep k j more first in (
        λ read. turn.0 (subst (λ (ms : json.Members). AreMembersReadWithin deep ms) is (so_far.0 read)),
        λ read. so_far.1 (subst (λ (ms : json.Members). AreMembersReadWithin deep ms) (sym is) (turn.1 read)),
      )
