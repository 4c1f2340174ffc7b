-- A value is read alike at each depth that is enough for it, and items and members with any number of turns that is.
use Rattle.std.proofs.Common.{◌≡◌, ◌<◌, ◌≤◌, ◌∙◌, ℕ, zero, suc, List, [], ◌∷◌, length, max, Option, Some, None, option_and_then, refl, sym, ap, subst, arith}
use Rattle.json.specs.Token.{Token}
use Rattle.json.specs.Json.{Json, Items, Members, Parse, after_end_array, array, item, items, items_step, member, members, members_step, no_items, no_members, object, parse_map, read_key, value, value_with}
use Rattle.json.specs.Tree.{depth, items_depth, members_depth}
use Rattle.json.proofs.Found.{Some_inj, not_found}
use Rattle.json.proofs.Nesting.{value-depth}
use Rattle.json.proofs.Grammar.{Takes, after_end_array-shorter, left, read_key-shorter, skip_value-shorter, value_is}

-- ---- what is read of a first value and of more

split : {B : Type 0} (f : Json → B → B) (more : Parse B) (o : Option (Json × List Token)) (b : B) (rest : List Token) → option_and_then (λ q. parse_map (f q.0) (more q.1)) o ≡ Some (b, rest)
    → (x : Json × List Token) × (o ≡ Some x) × (c : B) × (b ≡ f x.0 c) × (more x.1 ≡ Some (c, rest))
split f more None b rest is = not_found (b, rest) is
split {B} f more (Some x) b rest is = by (more x.1) refl is
  where
    by : (m : Option (B × List Token)) → more x.1 ≡ m → parse_map (f x.0) m ≡ Some (b, rest) → (y : Json × List Token) × (Some x ≡ Some y) × (c : B) × (b ≡ f y.0 c) × (more y.1 ≡ Some (c, rest))
    by None at is = not_found (b, rest) is
    by (Some y) at is = let both = Some_inj _ _ is in (x, refl, y.0, sym (ap (λ z. z.0) both), at ∙ ap (λ z. Some (y.0, z)) (ap (λ z. z.1) both))

joined : {B : Type 0} (f : Json → B → B) (more : Parse B) (o : Option (Json × List Token)) (x : Json × List Token) (c : B) (rest : List Token) → o ≡ Some x → more x.1 ≡ Some (c, rest)
    → option_and_then (λ q. parse_map (f q.0) (more q.1)) o ≡ Some (f x.0 c, rest)
joined f more o x c rest first after = ap (option_and_then (λ q. parse_map (f q.0) (more q.1))) first ∙ ap (parse_map (f x.0)) after

-- ---- by depth

-- what one reads that nests no deeper than that the other reads too
abbrev IsRead : ℕ → Parse Json → Parse Json → Type 0
IsRead deep p q = (ts rest : List Token) (j : Json) → p ts ≡ Some (j, rest) → depth j ≤ deep → q ts ≡ Some (j, rest)

module _ (deep : ℕ) (p q : Parse Json) (same : IsRead deep p q) where
  items_turn : (n : ℕ) → ((ts rest : List Token) (js : Items) → items p n ts ≡ Some (js, rest) → items_depth js ≤ deep → items q n ts ≡ Some (js, rest))
      → (ts rest : List Token) (js : Items) (o : Option (List Token)) → items_step p (items p n) ts o ≡ Some (js, rest) → items_depth js ≤ deep → items_step q (items q n) ts o ≡ Some (js, rest)
  items_turn n again ts rest js (Some x) is within = is
  items_turn n again ts rest js None is within =
      let s = split item (items p n) (p ts) js rest is in
      let first : depth s.0.0 ≤ deep = omega (arith, within, ap items_depth s.3) in
      let more : items_depth s.2 ≤ deep = omega (arith, within, ap items_depth s.3) in
      joined item (items q n) (q ts) s.0 s.2 rest (same ts s.0.1 s.0.0 s.1 first) (again s.0.1 rest s.2 s.4 more) ∙ ap (λ (xs : Items). Some (xs, rest)) (sym s.3)

  items_same : (n : ℕ) (ts rest : List Token) (js : Items) → items p n ts ≡ Some (js, rest) → items_depth js ≤ deep → items q n ts ≡ Some (js, rest)
  unfolding items
  items_same zero ts rest js is within = not_found (js, rest) is
  items_same (suc n) ts rest js is within = items_turn n (items_same n) ts rest js (after_end_array ts) is within

  members_turn : (n : ℕ) → ((ts rest : List Token) (ms : Members) → members p n ts ≡ Some (ms, rest) → members_depth ms ≤ deep → members q n ts ≡ Some (ms, rest))
      → (rest : List Token) (ms : Members) (o : Option (Option (List ℕ) × List Token)) → option_and_then (λ k. members_step p (members p n) k.0 k.1) o ≡ Some (ms, rest) → members_depth ms ≤ deep
      → option_and_then (λ k. members_step q (members q n) k.0 k.1) o ≡ Some (ms, rest)
  members_turn n again rest ms None is within = not_found (ms, rest) is
  members_turn n again rest ms (Some (None, after)) is within = is
  members_turn n again rest ms (Some (Some name, after)) is within =
      let s = split (member name) (members p n) (p after) ms rest is in
      let first : depth s.0.0 ≤ deep = omega (arith, within, ap members_depth s.3) in
      let more : members_depth s.2 ≤ deep = omega (arith, within, ap members_depth s.3) in
      joined (member name) (members q n) (q after) s.0 s.2 rest (same after s.0.1 s.0.0 s.1 first) (again s.0.1 rest s.2 s.4 more) ∙ ap (λ (xs : Members). Some (xs, rest)) (sym s.3)

  members_same : (n : ℕ) (ts rest : List Token) (ms : Members) → members p n ts ≡ Some (ms, rest) → members_depth ms ≤ deep → members q n ts ≡ Some (ms, rest)
  unfolding members
  members_same zero ts rest ms is within = not_found (ms, rest) is
  members_same (suc n) ts rest ms is within = members_turn n (members_same n) rest ms (read_key ts) is within

-- an array or an object that was read, by its items or members
module _ {B : Type 0} (made : B → Json) (measure : B → ℕ) (deeper : (b : B) → depth (made b) ≡ suc (measure b)) where
  opened : (o : Option (B × List Token)) (j : Json) (rest : List Token) → parse_map made o ≡ Some (j, rest) → (b : B) × (o ≡ Some (b, rest)) × (j ≡ made b)
  opened None j rest is = not_found (j, rest) is
  opened (Some x) j rest is = let both = Some_inj _ _ is in (x.0, ap (λ z. Some (x.0, z)) (ap (λ z. z.1) both), sym (ap (λ z. z.0) both))

  reopened : (n : ℕ) (o o' : Option (B × List Token)) (j : Json) (rest : List Token) → ((b : B) → o ≡ Some (b, rest) → measure b ≤ n → o' ≡ Some (b, rest))
      → parse_map made o ≡ Some (j, rest) → depth j ≤ suc n → parse_map made o' ≡ Some (j, rest)
  reopened n o o' j rest same is within =
      let found = opened o j rest is in
      let less : measure found.0 ≤ n = omega (arith, within, ap depth found.2, deeper found.0) in
      ap (parse_map made) (same found.0 found.1 less) ∙ ap (λ (x : Json). Some (x, rest)) (sym found.2)

  none_flat : (o : Option (B × List Token)) (j : Json) (rest : List Token) {P : Type 0} → parse_map made o ≡ Some (j, rest) → depth j ≤ 0 → P
  none_flat o j rest is within = let found = opened o j rest is in absurd (omega (arith, within, ap depth found.2, deeper found.0))

pub read_within : (d n : ℕ) → IsRead n (value d) (value n)
unfolding value
read_within d n [] rest j is within = not_found (j, rest) (sym (value_is d []) ∙ is)
read_within zero n (Token.begin_object ∷ ts) rest j is within = not_found (j, rest) is
read_within zero n (Token.begin_array ∷ ts) rest j is within = not_found (j, rest) is
read_within (suc d) zero (Token.begin_object ∷ ts) rest j is within = none_flat object members_depth (λ b. refl) _ j rest is within
read_within (suc d) zero (Token.begin_array ∷ ts) rest j is within = none_flat array items_depth (λ b. refl) _ j rest is within
read_within (suc d) (suc n) (Token.begin_object ∷ ts) rest j is within =
    reopened object members_depth (λ b. refl) n (members (value d) (length ts) ts) (members (value n) (length ts) ts) j rest
    (λ b at less. members_same n (value d) (value n) (read_within d n) (length ts) ts rest b at less) is within
read_within (suc d) (suc n) (Token.begin_array ∷ ts) rest j is within =
    reopened array items_depth (λ b. refl) n (items (value d) (length ts) ts) (items (value n) (length ts) ts) j rest
    (λ b at less. items_same n (value d) (value n) (read_within d n) (length ts) ts rest b at less) is within
read_within d n (Token.end_object ∷ ts) rest j is within = value_is n (Token.end_object ∷ ts) ∙ sym (value_is d (Token.end_object ∷ ts)) ∙ is
read_within d n (Token.end_array ∷ ts) rest j is within = value_is n (Token.end_array ∷ ts) ∙ sym (value_is d (Token.end_array ∷ ts)) ∙ is
read_within d n (Token.key s ∷ ts) rest j is within = value_is n (Token.key s ∷ ts) ∙ sym (value_is d (Token.key s ∷ ts)) ∙ is
read_within d n (Token.string s ∷ ts) rest j is within = value_is n (Token.string s ∷ ts) ∙ sym (value_is d (Token.string s ∷ ts)) ∙ is
read_within d n (Token.number s ∷ ts) rest j is within = value_is n (Token.number s ∷ ts) ∙ sym (value_is d (Token.number s ∷ ts)) ∙ is
read_within d n (Token.boolean b ∷ ts) rest j is within = value_is n (Token.boolean b ∷ ts) ∙ sym (value_is d (Token.boolean b ∷ ts)) ∙ is
read_within d n (Token.null ∷ ts) rest j is within = value_is n (Token.null ∷ ts) ∙ sym (value_is d (Token.null ∷ ts)) ∙ is
read_within d n (Token.bad ∷ ts) rest j is within = value_is n (Token.bad ∷ ts) ∙ sym (value_is d (Token.bad ∷ ts)) ∙ is

-- ---- by turns

abbrev items_count : Items → ℕ
items_count no_items = 0
items_count (item j js) = suc (items_count js)

module _ (p : Parse Json) (takes : Takes p) where
  -- a turn an item, and one for the bracket
  turns_enough : (n m : ℕ) (ts rest : List Token) (js : Items) → items p n ts ≡ Some (js, rest) → items_count js < m → items p m ts ≡ Some (js, rest)
  unfolding items
  turns_enough zero m ts rest js is more = not_found (js, rest) is
  turns_enough (suc n) zero ts rest js is more = absurd (omega (arith, more))
  turns_enough (suc n) (suc m) ts rest js is more = by (turns_enough n m) (after_end_array ts) is
    where
      by : ((us r : List Token) (ks : Items) → items p n us ≡ Some (ks, r) → items_count ks < m → items p m us ≡ Some (ks, r)) → (o : Option (List Token)) → items_step p (items p n) ts o ≡ Some (js, rest) → items_step p (items p m) ts o ≡ Some (js, rest)
      by again (Some x) is = is
      by again None is =
          let s = split item (items p n) (p ts) js rest is in
          let less : items_count s.2 < m = omega (arith, more, ap items_count s.3) in
          joined item (items p m) (p ts) s.0 s.2 rest s.1 (again s.0.1 rest s.2 s.4 less) ∙ ap (λ (xs : Items). Some (xs, rest)) (sym s.3)

  -- each item takes a token, and so does the bracket
  tokens_enough : (n : ℕ) (ts rest : List Token) (js : Items) → items p n ts ≡ Some (js, rest) → items_count js < length ts
  unfolding items
  tokens_enough zero ts rest js is = not_found (js, rest) is
  tokens_enough (suc n) ts rest js is = by (tokens_enough n) (after_end_array ts) refl is
    where
      by : ((us r : List Token) (ks : Items) → items p n us ≡ Some (ks, r) → items_count ks < length us) → (o : Option (List Token)) → after_end_array ts ≡ o → items_step p (items p n) ts o ≡ Some (js, rest) → items_count js < length ts
      by again (Some x) at is = let none = ap (λ (z : Items × List Token). items_count z.0) (Some_inj _ _ is) in omega (arith, none, after_end_array-shorter ts x at)
      by again None at is =
          let s = split item (items p n) (p ts) js rest is in
          omega (arith, ap items_count s.3, again s.0.1 rest s.2 s.4, takes ts s.0.1 (ap left s.1))

-- items are read alike at each depth that is enough, in as many turns as there are tokens
pub items_at : (d n deep : ℕ) (ts rest : List Token) (js : Items) → items (value d) n ts ≡ Some (js, rest) → items_depth js ≤ deep → items (value deep) (length ts) ts ≡ Some (js, rest)
items_at d n deep ts rest js is within =
    let there = items_same deep (value d) (value deep) (read_within d deep) n ts rest js is within in
    turns_enough (value deep) (skip_value-shorter deep) n (length ts) ts rest js there (tokens_enough (value deep) (skip_value-shorter deep) n ts rest js there)

-- items that were read nest no deeper than they may
pub items_within : (d n : ℕ) (ts rest : List Token) (js : Items) → items (value d) n ts ≡ Some (js, rest) → items_depth js ≤ d
unfolding items
items_within d zero ts rest js is = not_found (js, rest) is
items_within d (suc n) ts rest js is = by (items_within d n) (after_end_array ts) is
  where
    by : ((us r : List Token) (ks : Items) → items (value d) n us ≡ Some (ks, r) → items_depth ks ≤ d) → (o : Option (List Token)) → items_step (value d) (items (value d) n) ts o ≡ Some (js, rest) → items_depth js ≤ d
    by again (Some x) is = omega (arith, ap (λ (z : Items × List Token). items_depth z.0) (Some_inj _ _ is))
    by again None is =
        let s = split item (items (value d) n) (value d ts) js rest is in
        omega (arith, ap items_depth s.3, value-depth d ts s.0.1 s.0.0 s.1, again s.0.1 rest s.2 s.4)

-- ---- members, in the same way

abbrev members_count : Members → ℕ
members_count no_members = 0
members_count (member name j ms) = suc (members_count ms)

module _ (p : Parse Json) (takes : Takes p) where
  members_enough : (n m : ℕ) (ts rest : List Token) (ms : Members) → members p n ts ≡ Some (ms, rest) → members_count ms < m → members p m ts ≡ Some (ms, rest)
  unfolding members
  members_enough zero m ts rest ms is more = not_found (ms, rest) is
  members_enough (suc n) zero ts rest ms is more = absurd (omega (arith, more))
  members_enough (suc n) (suc m) ts rest ms is more = by (members_enough n m) (read_key ts) is
    where
      by : ((us r : List Token) (ks : Members) → members p n us ≡ Some (ks, r) → members_count ks < m → members p m us ≡ Some (ks, r)) → (o : Option (Option (List ℕ) × List Token)) → option_and_then (λ k. members_step p (members p n) k.0 k.1) o ≡ Some (ms, rest)
          → option_and_then (λ k. members_step p (members p m) k.0 k.1) o ≡ Some (ms, rest)
      by again None is = not_found (ms, rest) is
      by again (Some (None, after)) is = is
      by again (Some (Some name, after)) is =
          let s = split (member name) (members p n) (p after) ms rest is in
          let less : members_count s.2 < m = omega (arith, more, ap members_count s.3) in
          joined (member name) (members p m) (p after) s.0 s.2 rest s.1 (again s.0.1 rest s.2 s.4 less) ∙ ap (λ (xs : Members). Some (xs, rest)) (sym s.3)

  members_tokens : (n : ℕ) (ts rest : List Token) (ms : Members) → members p n ts ≡ Some (ms, rest) → members_count ms < length ts
  unfolding members
  members_tokens zero ts rest ms is = not_found (ms, rest) is
  members_tokens (suc n) ts rest ms is = by (members_tokens n) (read_key ts) refl is
    where
      by : ((us r : List Token) (ks : Members) → members p n us ≡ Some (ks, r) → members_count ks < length us) → (o : Option (Option (List ℕ) × List Token)) → read_key ts ≡ o → option_and_then (λ k. members_step p (members p n) k.0 k.1) o ≡ Some (ms, rest) → members_count ms < length ts
      by again None at is = not_found (ms, rest) is
      by again (Some (None, after)) at is = let none = ap (λ (z : Members × List Token). members_count z.0) (Some_inj _ _ is) in omega (arith, none, read_key-shorter ts None after at)
      by again (Some (Some name, after)) at is =
          let s = split (member name) (members p n) (p after) ms rest is in
          omega (arith, ap members_count s.3, again s.0.1 rest s.2 s.4, takes after s.0.1 (ap left s.1), read_key-shorter ts (Some name) after at)

pub members_at : (d n deep : ℕ) (ts rest : List Token) (ms : Members) → members (value d) n ts ≡ Some (ms, rest) → members_depth ms ≤ deep → members (value deep) (length ts) ts ≡ Some (ms, rest)
members_at d n deep ts rest ms is within =
    let there = members_same deep (value d) (value deep) (read_within d deep) n ts rest ms is within in
    members_enough (value deep) (skip_value-shorter deep) n (length ts) ts rest ms there (members_tokens (value deep) (skip_value-shorter deep) n ts rest ms there)

pub members_within : (d n : ℕ) (ts rest : List Token) (ms : Members) → members (value d) n ts ≡ Some (ms, rest) → members_depth ms ≤ d
unfolding members
members_within d zero ts rest ms is = not_found (ms, rest) is
members_within d (suc n) ts rest ms is = by (members_within d n) (read_key ts) is
  where
    by : ((us r : List Token) (ks : Members) → members (value d) n us ≡ Some (ks, r) → members_depth ks ≤ d) → (o : Option (Option (List ℕ) × List Token)) → option_and_then (λ k. members_step (value d) (members (value d) n) k.0 k.1) o ≡ Some (ms, rest) → members_depth ms ≤ d
    by again None is = not_found (ms, rest) is
    by again (Some (None, after)) is = omega (arith, ap (λ (z : Members × List Token). members_depth z.0) (Some_inj _ _ is))
    by again (Some (Some name, after)) is =
        let s = split (member name) (members (value d) n) (value d after) ms rest is in
        omega (arith, ap members_depth s.3, value-depth d after s.0.1 s.0.0 s.1, again s.0.1 rest s.2 s.4)
