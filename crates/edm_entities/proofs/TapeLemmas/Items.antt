-- The items of an array on a tape, and those that are left once one was taken.
use Rattle.std.proofs.lemmas.Bool.{false≢true}
use Rattle.std.proofs.Common.{◌≡◌, ◌<◌, ◌≤◌, ◌∙◌, ℕ, zero, suc, List, [], ◌∷◌, length, max, Option, Some, None, MatchOption, option_and_then, option_map, refl, sym, ap, subst, arith}
use Rattle.std.specs.Prelude.{IsSome}
use Rattle.json.specs.Token.{Token}
use Rattle.json.specs.Find.{BeginsWith, InItems, NextItem}
use Rattle.json.specs.Find as find
use Rattle.json.specs.Json as json
use Rattle.json.specs.Tree.{depth, items_depth}
use Rattle.json.proofs.Found.{Some_inj, not_found}
use Rattle.serde_json.specs.Data.{Data, Items, array, item, no_items}
use Rattle.serde_json.specs.Find.{as_array}
use Rattle.serde_json.specs.Read.{converted, of_items, of_json}
use Rattle.edm_entities.specs.private.JsonNodes.{IsNextItem}
use Rattle.edm_entities.specs.private.TapeNodes.{AreItemsOn, IsReadOn, data_on, items_on, items_read}
use Rattle.edm_entities.proofs.TapeLemmas.Shallow.{items_at, items_within}
use Rattle.edm_entities.proofs.TapeLemmas.Values.{mapped, read_as, value_on}

-- items stand on the tape, which are those data
pub record AreValuesOn (tokens : List Token) (jsons : Items) : Type 0 where
  pub found : json.Items
  pub rest : List Token
  pub are_found : json.items (json.value json.max_depth) (length tokens) tokens ≡ Some (found, rest)
  pub are_data : of_items found ≡ Some jsons

items_found : (tokens : List Token) (o : Option (json.Items × List Token)) → json.items (json.value json.max_depth) (length tokens) tokens ≡ o → IsSome (converted of_items o) → AreValuesOn tokens (items_on tokens)
items_found tokens None at some = absurd (false≢true some)
items_found tokens (Some p) at some = data_found (of_items p.0) refl some
  where
    data_found : (o : Option Items) → of_items p.0 ≡ o → IsSome (converted of_items (Some p)) → AreValuesOn tokens (items_on tokens)
    data_found None is some = absurd (false≢true (subst (λ (o : Option (Items × List Token)). IsSome o) (ap (option_map (λ d. (d, p.1))) is) some))
    data_found (Some d) is some =
        let read : items_read tokens ≡ Some (d, p.1) = ap (converted of_items) at ∙ ap (option_map (λ e. (e, p.1))) is in
        let same : items_on tokens ≡ d = rw read refl in
        record { found = p.0; rest = p.1; are_found = at; are_data = is ∙ ap Some (sym same) }

pub values_on : (tokens : List Token) → AreItemsOn tokens → AreValuesOn tokens (items_on tokens)
values_on tokens some = items_found tokens (json.items (json.value json.max_depth) (length tokens) tokens) refl some

-- items that tokens begin with, in whatever depth and turns they are read, are those on the tape
pub items_as : (tokens : List Token) (found : json.Items) (jsons : Items) → InItems tokens found → items_depth found ≤ json.max_depth → of_items found ≡ Some jsons
    → AreItemsOn tokens × (items_on tokens ≡ jsons)
items_as tokens found jsons begins within is =
    let read : items_read tokens ≡ Some (jsons, begins.2) =
    ap (converted of_items) (items_at begins.0 begins.1 json.max_depth tokens begins.2 found begins.3 within) ∙ ap (option_map (λ e. (e, begins.2))) is in
    (rw read refl, rw read refl)

-- ---- an item more

first_of : (found : json.Json) (more : json.Items) (jsons : Items) → of_items (json.item found more) ≡ Some jsons
    → (d : Data) × (ds : Items) × (of_json found ≡ Some d) × (of_items more ≡ Some ds) × (jsons ≡ item d ds)
first_of found more jsons is = by (of_json found) refl is
  where
    by : (o : Option Data) → of_json found ≡ o → option_and_then (λ d. option_map (item d) (of_items more)) o ≡ Some jsons → (d : Data) × (ds : Items) × (of_json found ≡ Some d) × (of_items more ≡ Some ds) × (jsons ≡ item d ds)
    by None at is = not_found jsons is
    by (Some d) at is = let rest = mapped (item d) (of_items more) jsons is in (d, rest.0, at, rest.1, sym rest.2)

pub next_item : (old new : List Token) (taken : Option (List Token)) → AreItemsOn old → NextItem old taken new
    → MatchOption taken (items_on old ≡ no_items) (λ tokens. IsReadOn tokens × AreItemsOn new × (items_on old ≡ item (data_on tokens) (items_on new)))
next_item old new None some next =
    let here = values_on old some in
    let none = next here.found (json.max_depth, length old, here.rest, here.are_found) in
    sym (Some_inj _ _ (sym (ap of_items none) ∙ here.are_data))
next_item old new (Some tokens) some next =
    let here = values_on old some in
    let one = next here.found (json.max_depth, length old, here.rest, here.are_found) in
    let split = first_of one.0 one.1 (items_on old) (sym (ap of_items one.2) ∙ here.are_data) in
    let deep : items_depth here.found ≤ json.max_depth = items_within json.max_depth (length old) old here.rest here.found here.are_found in
    let value = read_as tokens one.0 split.0 one.3 (omega (arith, deep, ap items_depth one.2)) split.2 in
    let rest = items_as new one.1 split.1 one.4 (omega (arith, deep, ap items_depth one.2)) split.3 in
    (value.0, rest.0, split.4 ∙ ap (λ (d : Data). item d split.1) (sym value.1) ∙ ap (item (data_on tokens)) (sym rest.1))

pub none_next : (old new : List Token) → items_on old ≡ no_items → new ≡ old → IsNextItem (items_on old) None (items_on new)
none_next old new none same = subst (λ (ds : Items). IsNextItem ds None (items_on new)) (sym none) (refl, ap items_on same ∙ none)

pub one_next : (old new tokens : List Token) → items_on old ≡ item (data_on tokens) (items_on new) → IsNextItem (items_on old) (Some (data_on tokens)) (items_on new)
one_next old new tokens is = subst (λ (ds : Items). IsNextItem ds (Some (data_on tokens)) (items_on new)) (sym is) (refl, refl)
