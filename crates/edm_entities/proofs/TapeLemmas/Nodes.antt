-- What the clauses of an element on a tape say of each value that it begins with, said of the one that is read.
use Rattle.std.proofs.Common.{◌≡◌, ◌≤◌, ◌∙◌, ℕ, List, Option, Some, None, Bool, Bor, MatchOption, is_some, option_map, refl, sym, ap, subst, arith}
use Rattle.json.specs.Token.{Token}
use Rattle.json.specs.Find.{BeginsWith, InItems, InMembers}
use Rattle.json.specs.Find as find
use Rattle.json.specs.Json as json
use Rattle.json.specs.Tree.{depth, items_depth, members_depth}
use Rattle.json.proofs.Nesting.{value-depth}
use Rattle.json.proofs.Found.{Some_inj}
use Rattle.serde_json.specs.Data.{Data, array, boolean, no_members, null, number, object, string}
use Rattle.serde_json.specs.Find.{as_array, as_bool, as_null, as_object, as_str}
use Rattle.serde_json.specs.Read.{of_items, of_json, of_members}
use Rattle.edm_entities.specs.private.TapeNodes.{AreItemsOn, AreMembersOn, IsReadOn, data_on, items_on, members_on}
use Rattle.edm_entities.proofs.TapeLemmas.Items.{items_as}
use Rattle.edm_entities.proofs.TapeLemmas.MemberTokens.{members_as}
use Rattle.edm_entities.proofs.TapeLemmas.Values.{NumberOf, array_of_kind, bool_of, mapped, null_of, number_of_kind, object_of_kind, str_of, value_on}

module _ (tokens : List Token) (read : IsReadOn tokens) where
  begins : BeginsWith tokens (value_on tokens read).found
  begins = (json.max_depth, (value_on tokens read).rest, (value_on tokens read).is_found)

  pub null_is : (result : Bool) → ((j : json.Json) → BeginsWith tokens j → result ≡ find.is_null j) → result ≡ is_some (as_null (data_on tokens))
  null_is result clause = let on = value_on tokens read in clause on.found begins ∙ null_of on.found (data_on tokens) on.is_data

  pub str_is : (result : Option (List ℕ)) → ((j : json.Json) → BeginsWith tokens j → result ≡ find.as_str j) → result ≡ as_str (data_on tokens)
  str_is result clause = let on = value_on tokens read in clause on.found begins ∙ str_of on.found (data_on tokens) on.is_data

  pub bool_is : (result : Option Bool) → ((j : json.Json) → BeginsWith tokens j → result ≡ find.as_bool j) → result ≡ as_bool (data_on tokens)
  bool_is result clause = let on = value_on tokens read in clause on.found begins ∙ bool_of on.found (data_on tokens) on.is_data

  pub number_is : (result : Option (List ℕ)) → ((j : json.Json) → BeginsWith tokens j → result ≡ find.as_number j) → NumberOf result (data_on tokens)
  number_is result clause =
      let on = value_on tokens read in
      subst (λ (o : Option (List ℕ)). NumberOf o (data_on tokens)) (sym (clause on.found begins)) (number_of_kind on.found (data_on tokens) on.is_data)

  pub items_are : (result : Option (List Token)) → ((j : json.Json) → BeginsWith tokens j → MatchOption result (find.as_array j ≡ None) (λ rest. (js : json.Items) × (j ≡ json.array js) × InItems rest js))
      → MatchOption result (as_array (data_on tokens) ≡ None) (λ rest. AreItemsOn rest × (as_array (data_on tokens) ≡ Some (items_on rest)))
  items_are None clause = let on = value_on tokens read in array_of_kind on.found (data_on tokens) on.is_data (clause on.found begins)
  items_are (Some rest) clause =
      let on = value_on tokens read in
      let is = clause on.found begins in
      let held = mapped array (of_items is.0) (data_on tokens) (sym (ap of_json is.1) ∙ on.is_data) in
      let deep = value-depth json.max_depth tokens on.rest on.found on.is_found in
      let there = items_as rest is.0 held.0 is.2 (omega (arith, deep, ap depth is.1)) held.1 in
      (there.0, ap as_array (sym held.2) ∙ ap Some (sym there.1))

  pub members_are : (result : Option (List Token)) → ((j : json.Json) → BeginsWith tokens j → MatchOption result (find.as_object j ≡ None) (λ rest. (ms : json.Members) × (j ≡ json.object ms) × InMembers rest ms))
      → MatchOption result (as_object (data_on tokens) ≡ None) (λ rest. AreMembersOn rest × (as_object (data_on tokens) ≡ Some (members_on no_members rest)))
  members_are None clause = let on = value_on tokens read in object_of_kind on.found (data_on tokens) on.is_data (clause on.found begins)
  members_are (Some rest) clause =
      let on = value_on tokens read in
      let is = clause on.found begins in
      let held = mapped object (of_members is.0 no_members) (data_on tokens) (sym (ap of_json is.1) ∙ on.is_data) in
      let deep = value-depth json.max_depth tokens on.rest on.found on.is_found in
      let there = members_as rest is.0 no_members held.0 is.2 (omega (arith, deep, ap depth is.1)) held.1 in
      (there.0, ap as_object (sym held.2) ∙ ap Some (sym there.1))

-- ---- scalars

pub string_data : (d : Data) (s : List ℕ) → Some s ≡ as_str d → d ≡ string s
string_data null s is = absurd (cc)
string_data (boolean b) s is = absurd (cc)
string_data (number n) s is = absurd (cc)
string_data (string t) s is = ap string (Some_inj _ _ (sym is))
string_data (array ds) s is = absurd (cc)
string_data (object ms) s is = absurd (cc)

pub boolean_data : (d : Data) (b : Bool) → Some b ≡ as_bool d → d ≡ boolean b
boolean_data null b is = absurd (cc)
boolean_data (boolean c) b is = ap boolean (Some_inj _ _ (sym is))
boolean_data (number n) b is = absurd (cc)
boolean_data (string t) b is = absurd (cc)
boolean_data (array ds) b is = absurd (cc)
boolean_data (object ms) b is = absurd (cc)
