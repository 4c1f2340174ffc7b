-- For private clauses: JSON values on a tape, by the tokens of its nodes, as `serde_json` reads them.
use Rattle.std.specs.Prelude.{◌≡◌, ◌≤◌, ℕ, List, Option, Some, None, IfSome, IsSome, length, option_map, slice_get, unwrap_or}
use Rattle.json.specs.Token.{Token}
use Rattle.json.specs.Find.{BeginsWith}
use Rattle.json.specs.Json as json
use Rattle.json.specs.Tree as tree
use Rattle.serde_json.specs.Data.{Data, Items, Members, no_items, no_members, null, put}
use Rattle.serde_json.specs.Find.{get}
use Rattle.serde_json.specs.Read.{converted, of_items, of_json, of_members}
use Rattle.csdl_schema.specs.SchemaModel.{PropertyModel}

-- ---- values

-- the value that tokens begin with, and the tokens after it
abbrev pub read_on : List Token → Option (Data × List Token)
read_on tokens = converted of_json (json.value json.max_depth tokens)

-- they begin with one
abbrev pub IsReadOn : List Token → Type 0
IsReadOn tokens = IsSome (read_on tokens)

-- that value; null where there is none
abbrev pub data_on : List Token → Data
data_on tokens = unwrap_or (option_map (λ read. read.0) (read_on tokens)) null

-- ---- items and members, up to the closing bracket

abbrev pub items_read : List Token → Option (Items × List Token)
items_read tokens = converted of_items (json.items (json.value json.max_depth) (length tokens) tokens)

abbrev pub AreItemsOn : List Token → Type 0
AreItemsOn tokens = IsSome (items_read tokens)

abbrev pub items_on : List Token → Items
items_on tokens = unwrap_or (option_map (λ read. read.0) (items_read tokens)) no_items

-- after those members that were found before
abbrev pub members_read : Members → List Token → Option (Members × List Token)
members_read found tokens =
    converted (λ members. of_members members found) (json.members (json.value json.max_depth) (length tokens) tokens)

abbrev pub AreMembersOn : List Token → Type 0
AreMembersOn tokens = IsSome (members_read no_members tokens)

abbrev pub members_on : Members → List Token → Members
members_on found tokens = unwrap_or (option_map (λ read. read.0) (members_read found tokens)) found

-- the next member is that one, or there is none
abbrev pub IsNextMember : Members → List Token → Option (List ℕ × Data) → List Token → Type 0
IsNextMember found old None new = members_on found old ≡ found
IsNextMember found old (Some next) new = members_on found old ≡ members_on (put next.0 next.1 found) new

-- so it is whatever was found before
abbrev pub IsNextOf : List Token → Option (List ℕ × Data) → List Token → Type 0
IsNextOf old next new = (found : Members) → IsNextMember found old next new

-- at each slot from one on stands the object's member of the slot's name
abbrev pub HasNodes : List PropertyModel → Data → ℕ → List (Option (List Token)) → Type 0
HasNodes properties whole from nodes =
    (length nodes ≡ length properties)
    × ((slot : ℕ) → from ≤ slot → IfSome (slice_get properties slot)
    (λ property. option_map (option_map data_on) (slice_get nodes slot) ≡ Some (get property.name whole)))

-- ---- what is read at all

-- it nests no deeper than that, and each number in it has a value
abbrev pub IsReadWithin : ℕ → json.Json → Type 0
IsReadWithin depth value = (tree.depth value ≤ depth) × IsSome (of_json value)

abbrev pub AreReadWithin : ℕ → json.Items → Type 0
AreReadWithin depth values = (tree.items_depth values ≤ depth) × IsSome (of_items values)

abbrev pub AreMembersReadWithin : ℕ → json.Members → Type 0
AreMembersReadWithin depth members =
    (tree.members_depth members ≤ depth) × ((found : Members) → IsSome (of_members members found))
