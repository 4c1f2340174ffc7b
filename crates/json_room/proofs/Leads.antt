-- An object's members and an array's items, one after another.
use Rattle.std.proofs.Common.{◌≡◌, ℕ, ◌-◌, ◌<◌, List, length, Option, Some, None, option_map, refl, ap, ◌∙◌, arith}
use Rattle.json.specs.Token.{Token}
use Rattle.json.specs.Json as json
use Rattle.json.specs.Json.{value, items, members, parse_map, after_end_array, read_key}
use Rattle.json.proofs.Grammar.{read_key-shorter, items_end, items_more, members_end, members_more}
use Rattle.serde_json.specs.Data.{Data, Items, no_items, item, Members, no_members, put}
use Rattle.serde_json.specs.Read.{of_json, of_items, of_members, converted}
use Rattle.json_room.specs.ValueTokens.{Reads}
use Rattle.json_room.specs.private.ItemTokens.{ReadsItems, ReadsMembers, MembersLead, ItemsLead, append_items}
use Rattle.json_room.proofs.Tokens.{grammar_read, read_shorter}

-- ---- members

pub members_start : (depth : ℕ) (tokens : List Token) (P : Members → Type 0) → P no_members → MembersLead depth tokens tokens P
members_start depth tokens P holds = record { found = no_members; turns = length tokens; enough = omega arith; leads = refl; holds = holds }

-- a member goes into what was found
member_put : (name : List ℕ) (j : json.Json) (d : Data) (found : Members) (o : Option (json.Members × List Token)) → of_json j ≡ Some d
    → converted (λ ms. of_members ms found) (parse_map (json.member name j) o) ≡ converted (λ ms. of_members ms (put name d found)) o
member_put name j d found None is = refl
member_put name j d found (Some p) is = rw is

pub member_more : (depth : ℕ) (first tokens behind_name rest : List Token) (name : List ℕ) (P : Members → Type 0) (Q : Data → Type 0) (R : Members → Type 0)
    → read_key tokens ≡ Some (Some name, behind_name) → ((found : Members) (d : Data) → P found → Q d → R (put name d found))
    → Reads depth behind_name rest Q → MembersLead depth first tokens P → MembersLead depth first rest R
member_more depth first tokens behind_name rest name P Q R named by reads lead =
    let j = grammar_read of_json (value depth behind_name) reads.json rest reads.is_read in
    let less : length rest < length behind_name = read_shorter depth behind_name rest Q reads in
    let lesser : length behind_name < length tokens = read_key-shorter tokens (Some name) behind_name named in
    let some : 0 < lead.turns = omega (arith, lead.enough) in
    record {
      found = put name reads.json lead.found;
      turns = lead.turns - 1;
      enough = omega (arith, lead.enough);
      leads = lead.leads ∙ ap (converted (λ ms. of_members ms lead.found)) (members_more (value depth) lead.turns name tokens behind_name rest j.0 some named j.1)
          ∙ member_put name j.0 reads.json lead.found (members (value depth) (lead.turns - 1) rest) j.2;
      holds = by lead.found reads.json lead.holds reads.holds;
    }

pub members_over : (depth : ℕ) (first tokens rest : List Token) (P Q : Members → Type 0) → read_key tokens ≡ Some (None, rest) → ((found : Members) → P found → Q found)
    → MembersLead depth first tokens P → ReadsMembers depth first rest Q
members_over depth first tokens rest P Q closed by lead =
    record {
      found = lead.found;
      is_read = lead.leads ∙ ap (converted (λ ms. of_members ms lead.found)) (members_end (value depth) lead.turns tokens rest lead.enough closed);
      holds = by lead.found lead.holds;
    }

-- ---- items

items_before : (o : Option (Items × List Token)) → o ≡ parse_map (append_items no_items) o
items_before None = refl
items_before (Some p) = refl

pub items_start : (depth : ℕ) (tokens : List Token) (P : Items → Type 0) → P no_items → ItemsLead depth tokens tokens P
items_start depth tokens P holds =
    record { found = no_items; turns = length tokens; enough = omega arith; leads = items_before (converted of_items (items (value depth) (length tokens) tokens)); holds = holds }

pub append_none : (found : Items) → append_items found no_items ≡ found
append_none no_items = refl
append_none (item d found) = ap (item d) (append_none found)

append_one : (found : Items) (d : Data) (more : Items) → append_items found (item d more) ≡ append_items (append_items found (item d no_items)) more
append_one no_items d more = refl
append_one (item e found) d more = ap (item e) (append_one found d more)

one_more : (found : Items) (d : Data) (o : Option (Items × List Token)) → parse_map (append_items found) (parse_map (item d) o) ≡ parse_map (append_items (append_items found (item d no_items))) o
one_more found d None = refl
one_more found d (Some p) = ap (λ (jsons : Items). Some (jsons, p.1)) (append_one found d p.0)

item_in_front : (j : json.Json) (d : Data) (o : Option (json.Items × List Token)) → of_json j ≡ Some d → converted of_items (parse_map (json.item j) o) ≡ parse_map (item d) (converted of_items o)
item_in_front j d None is = refl
item_in_front j d (Some p) is = rw is (by (of_items p.0))
  where
    by : (x : Option Items) → option_map {U = Items × List Token} (λ b. (b, p.1)) (option_map (item d) x) ≡ parse_map (item d) (option_map (λ a. (a, p.1)) x)
    by None = refl
    by (Some jsons) = refl

pub item_more : (depth : ℕ) (first tokens rest : List Token) (P : Items → Type 0) (Q : Data → Type 0) (R : Items → Type 0)
    → after_end_array tokens ≡ None → ((found : Items) (d : Data) → P found → Q d → R (append_items found (item d no_items)))
    → Reads depth tokens rest Q → ItemsLead depth first tokens P → ItemsLead depth first rest R
item_more depth first tokens rest P Q R going by reads lead =
    let j = grammar_read of_json (value depth tokens) reads.json rest reads.is_read in
    let less : length rest < length tokens = read_shorter depth tokens rest Q reads in
    let some : 0 < lead.turns = omega (arith, lead.enough) in
    let turn = ap (converted of_items) (items_more (value depth) lead.turns tokens rest j.0 some going j.1) ∙ item_in_front j.0 reads.json (items (value depth) (lead.turns - 1) rest) j.2 in
    record {
      found = append_items lead.found (item reads.json no_items);
      turns = lead.turns - 1;
      enough = omega (arith, lead.enough);
      leads = lead.leads ∙ ap (parse_map (append_items lead.found)) turn ∙ one_more lead.found reads.json (converted of_items (items (value depth) (lead.turns - 1) rest));
      holds = by lead.found reads.json lead.holds reads.holds;
    }

pub items_over : (depth : ℕ) (first tokens rest : List Token) (P : Items → Type 0) → after_end_array tokens ≡ Some rest → ItemsLead depth first tokens P → ReadsItems depth first rest P
items_over depth first tokens rest P closed lead =
    record {
      jsons = lead.found;
      is_read = lead.leads ∙ ap (λ (o : Option (json.Items × List Token)). parse_map (append_items lead.found) (converted of_items o)) (items_end (value depth) lead.turns tokens rest lead.enough closed)
          ∙ ap (λ (jsons : Items). Some (jsons, rest)) (append_none lead.found);
      holds = lead.holds;
    }
