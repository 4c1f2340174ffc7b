-- The names of members that are read from a text are bytes of characters where the text is.
use Rattle.std.proofs.Common.{◌≡◌, ℕ, zero, suc, List, [], ◌∷◌, length, Option, Some, None, option_map, option_and_then, Ordering, Less, Equal, Greater, subst, IsUtf8}
use Rattle.std.specs.Cmp.Lexicographic.{slice_cmp}
use Rattle.std.specs.Ordering.{nat_cmp, match_ordering}
use Rattle.json.specs.Token.{Token}
use Rattle.json.specs.Lex.{tokens}
use Rattle.json.specs.Json as json
use Rattle.json.specs.Json.{Json, Items, Members, Parse, parse_map, after_end_array, read_key, items_step, members_step, items, members, value_with, value, if_last}
use Rattle.serde_json.specs.Data as serde
use Rattle.serde_json.specs.Data.{Data, put}
use Rattle.serde_json.specs.Read.{number_of, of_json, of_items, of_members, max_depth, read}
use Rattle.sql_tree.proofs.Spelled.{AreItemsSpelled, AreMembersSpelled, AreNamesSpelled, IsSpelled}
use Rattle.sql_tree.proofs.SpelledTexts.{text_spelled}
use Rattle.sql_tree.proofs.SpelledTokens.{AreTokensSpelled, tokens_spelled}

abbrev mutual
  HasSpelledNames : Json → Type 0
  HasSpelledNames json.null = Unit {0}
  HasSpelledNames (json.boolean b) = Unit {0}
  HasSpelledNames (json.number s) = Unit {0}
  HasSpelledNames (json.string s) = Unit {0}
  HasSpelledNames (json.array js) = HaveSpelledNames js
  HasSpelledNames (json.object ms) = MembersHaveSpelledNames ms

  HaveSpelledNames : Items → Type 0
  HaveSpelledNames json.no_items = Unit {0}
  HaveSpelledNames (json.item j js) = HasSpelledNames j × HaveSpelledNames js

  MembersHaveSpelledNames : Members → Type 0
  MembersHaveSpelledNames json.no_members = Unit {0}
  MembersHaveSpelledNames (json.member k j ms) = IsSpelled 0 k × HasSpelledNames j × MembersHaveSpelledNames ms

-- ---- what is read from tokens, and the tokens after it

abbrev Reads : {A : Type 0} → (A → Type 0) → Option (A × List Token) → Type 0
Reads P None = Unit {0}
Reads P (Some p) = P p.0 × AreTokensSpelled p.1

abbrev ReadsAlways : {A : Type 0} → (A → Type 0) → Parse A → Type 0
ReadsAlways P parse = (ts : List Token) → AreTokensSpelled ts → Reads P (parse ts)

mapped : {A B : Type 0} (P : A → Type 0) (Q : B → Type 0) (h : A → B) → ((a : A) → P a → Q (h a)) → (o : Option (A × List Token)) → Reads P o → Reads Q (parse_map h o)
mapped P Q h go None reads = tt
mapped P Q h go (Some p) reads = (go p.0 reads.0, reads.1)

and_more : {B : Type 0} (Q : B → Type 0) (h : Json → B → B) → ((j : Json) (b : B) → HasSpelledNames j → Q b → Q (h j b)) → (more : Parse B) → ReadsAlways Q more
    → (o : Option (Json × List Token)) → Reads HasSpelledNames o → Reads Q (option_and_then (λ p. parse_map (h p.0) (more p.1)) o)
and_more Q h go more always None reads = tt
and_more Q h go more always (Some p) reads = mapped Q Q (h p.0) (λ b held. go p.0 b reads.0 held) (more p.1) (always p.1 reads.1)

-- what follows a closing bracket
abbrev TokensIf : Option (List Token) → Type 0
TokensIf None = Unit {0}
TokensIf (Some ts) = AreTokensSpelled ts

end_spelled : (ts : List Token) → AreTokensSpelled ts → TokensIf (after_end_array ts)
end_spelled [] spelled = tt
end_spelled (Token.begin_object ∷ ts) spelled = tt
end_spelled (Token.end_object ∷ ts) spelled = tt
end_spelled (Token.begin_array ∷ ts) spelled = tt
end_spelled (Token.end_array ∷ ts) spelled = spelled.1
end_spelled (Token.key s ∷ ts) spelled = tt
end_spelled (Token.string s ∷ ts) spelled = tt
end_spelled (Token.number s ∷ ts) spelled = tt
end_spelled (Token.boolean b ∷ ts) spelled = tt
end_spelled (Token.null ∷ ts) spelled = tt
end_spelled (Token.bad ∷ ts) spelled = tt

abbrev SpelledKey : Option (List ℕ) → Type 0
SpelledKey None = Unit {0}
SpelledKey (Some k) = IsSpelled 0 k

key_spelled : (ts : List Token) → AreTokensSpelled ts → Reads SpelledKey (read_key ts)
key_spelled [] spelled = tt
key_spelled (Token.begin_object ∷ ts) spelled = tt
key_spelled (Token.end_object ∷ ts) spelled = (tt, spelled.1)
key_spelled (Token.begin_array ∷ ts) spelled = tt
key_spelled (Token.end_array ∷ ts) spelled = tt
key_spelled (Token.key s ∷ ts) spelled = (spelled.0, spelled.1)
key_spelled (Token.string s ∷ ts) spelled = tt
key_spelled (Token.number s ∷ ts) spelled = tt
key_spelled (Token.boolean b ∷ ts) spelled = tt
key_spelled (Token.null ∷ ts) spelled = tt
key_spelled (Token.bad ∷ ts) spelled = tt

module _ (p : Parse Json) (always : ReadsAlways HasSpelledNames p) where
  item_turn : (more : Parse Items) → ReadsAlways HaveSpelledNames more → (ts : List Token) → AreTokensSpelled ts → (o : Option (List Token)) → TokensIf o → Reads HaveSpelledNames (items_step p more ts o)
  item_turn more again ts spelled (Some rest) after = (tt, after)
  item_turn more again ts spelled None after = and_more HaveSpelledNames json.item (λ j js one others. (one, others)) more again (p ts) (always ts spelled)

  items_read : (n : ℕ) → ReadsAlways HaveSpelledNames (items p n)
  unfolding items
  items_read zero ts spelled = tt
  items_read (suc n) ts spelled = item_turn (items p n) (items_read n) ts spelled (after_end_array ts) (end_spelled ts spelled)

  member_turn : (more : Parse Members) → ReadsAlways MembersHaveSpelledNames more → (o : Option (Option (List ℕ) × List Token)) → Reads SpelledKey o
      → Reads MembersHaveSpelledNames (option_and_then (λ q. members_step p more q.0 q.1) o)
  member_turn more again None reads = tt
  member_turn more again (Some (None, ts)) reads = (tt, reads.1)
  member_turn more again (Some (Some k, ts)) reads =
      and_more MembersHaveSpelledNames (json.member k) (λ j ms one others. (reads.0, one, others)) more again (p ts) (always ts reads.1)

  members_read : (n : ℕ) → ReadsAlways MembersHaveSpelledNames (members p n)
  unfolding members
  members_read zero ts spelled = tt
  members_read (suc n) ts spelled = member_turn (members p n) (members_read n) (read_key ts) (key_spelled ts spelled)

one_level : (a : Parse Items) (o : Parse Members) → ((ts : List Token) → AreTokensSpelled ts → Reads HasSpelledNames (parse_map json.array (a ts)))
    → ((ts : List Token) → AreTokensSpelled ts → Reads HasSpelledNames (parse_map json.object (o ts))) → ReadsAlways HasSpelledNames (value_with a o)
one_level a o arrays objects [] spelled = tt
one_level a o arrays objects (Token.begin_object ∷ ts) spelled = objects ts spelled.1
one_level a o arrays objects (Token.end_object ∷ ts) spelled = tt
one_level a o arrays objects (Token.begin_array ∷ ts) spelled = arrays ts spelled.1
one_level a o arrays objects (Token.end_array ∷ ts) spelled = tt
one_level a o arrays objects (Token.key s ∷ ts) spelled = tt
one_level a o arrays objects (Token.string s ∷ ts) spelled = (tt, spelled.1)
one_level a o arrays objects (Token.number s ∷ ts) spelled = (tt, spelled.1)
one_level a o arrays objects (Token.boolean b ∷ ts) spelled = (tt, spelled.1)
one_level a o arrays objects (Token.null ∷ ts) spelled = (tt, spelled.1)
one_level a o arrays objects (Token.bad ∷ ts) spelled = tt

value_read : (depth : ℕ) → ReadsAlways HasSpelledNames (value depth)
unfolding value
value_read zero = one_level (λ ts. None) (λ ts. None) (λ ts spelled. tt) (λ ts spelled. tt)
value_read (suc depth) =
    one_level (λ ts. items (value depth) (length ts) ts) (λ ts. members (value depth) (length ts) ts)
    (λ ts spelled. mapped HaveSpelledNames HasSpelledNames json.array (λ js held. held) _ (items_read (value depth) (value_read depth) (length ts) ts spelled))
    (λ ts spelled. mapped MembersHaveSpelledNames HasSpelledNames json.object (λ ms held. held) _ (members_read (value depth) (value_read depth) (length ts) ts spelled))

-- ---- the data

abbrev HoldsIf : {A : Type 0} → (A → Type 0) → Option A → Type 0
HoldsIf P None = Unit {0}
HoldsIf P (Some a) = P a

map_holds : {A B : Type 0} (P : A → Type 0) (Q : B → Type 0) (h : A → B) → ((a : A) → P a → Q (h a)) → (o : Option A) → HoldsIf P o → HoldsIf Q (option_map h o)
map_holds P Q h go None held = tt
map_holds P Q h go (Some a) held = go a held

then_holds : {A B : Type 0} (P : A → Type 0) (Q : B → Type 0) (h : A → Option B) → ((a : A) → P a → HoldsIf Q (h a)) → (o : Option A) → HoldsIf P o → HoldsIf Q (option_and_then h o)
then_holds P Q h go None held = tt
then_holds P Q h go (Some a) held = go a held

any_number : (o : Option serde.Num) → HoldsIf AreNamesSpelled (option_map serde.number o)
any_number None = tt
any_number (Some n) = tt

put_spelled : (k : List ℕ) (d : Data) (ms : serde.Members) → IsSpelled 0 k → AreNamesSpelled d → AreMembersSpelled ms → AreMembersSpelled (put k d ms)
put_spelled k d serde.no_members key held others = (key, held, tt)
put_spelled k d (serde.member l e ms) key held others =
    by (slice_cmp nat_cmp k l) (put_spelled k d ms key held others.2)
  where
    by : (o : Ordering) → AreMembersSpelled (put k d ms) → AreMembersSpelled (match_ordering o (serde.member k d (serde.member l e ms)) (serde.member l d ms) (serde.member l e (put k d ms)))
    by Less more = (key, held, others)
    by Equal more = (others.0, held, others.2)
    by Greater more = (others.0, others.1, more)

mutual
  value_spelled : (j : Json) → HasSpelledNames j → HoldsIf AreNamesSpelled (of_json j)
  value_spelled json.null held = tt
  value_spelled (json.boolean b) held = tt
  value_spelled (json.number s) held = any_number (number_of s)
  value_spelled (json.string s) held = tt
  value_spelled (json.array js) held = map_holds AreItemsSpelled AreNamesSpelled serde.array (λ ds all. all) (of_items js) (items_spelled js held)
  value_spelled (json.object ms) held = map_holds AreMembersSpelled AreNamesSpelled serde.object (λ found all. all) (of_members ms serde.no_members) (members_spelled ms serde.no_members held tt)

  items_spelled : (js : Items) → HaveSpelledNames js → HoldsIf AreItemsSpelled (of_items js)
  items_spelled json.no_items held = tt
  items_spelled (json.item j js) held =
      then_holds AreNamesSpelled AreItemsSpelled _ (λ d one. map_holds AreItemsSpelled AreItemsSpelled (serde.item d) (λ ds others. (one, others)) (of_items js) (items_spelled js held.1)) (of_json j) (value_spelled j held.0)

  members_spelled : (ms : Members) (found : serde.Members) → MembersHaveSpelledNames ms → AreMembersSpelled found → HoldsIf AreMembersSpelled (of_members ms found)
  members_spelled json.no_members found held before = before
  members_spelled (json.member k j ms) found held before =
      then_holds AreNamesSpelled AreMembersSpelled _ (λ d one. members_spelled ms (put k d found) held.2 (put_spelled k d found held.0 one before)) (of_json j) (value_spelled j held.1)

last_holds : (o : Option (Json × List Token)) → Reads HasSpelledNames o → HoldsIf HasSpelledNames (option_and_then (λ p. if_last p.0 p.1) o)
last_holds None reads = tt
last_holds (Some (j, [])) reads = reads.0
last_holds (Some (j, t ∷ ts)) reads = tt

pub names_spelled : (text : List ℕ) (d : Data) → IsUtf8 text → read text ≡ Some d → AreNamesSpelled d
names_spelled text d utf8 is =
    subst (HoldsIf AreNamesSpelled) is
    (then_holds HasSpelledNames AreNamesSpelled of_json value_spelled _ (last_holds (value max_depth (tokens text)) (value_read max_depth (tokens text) (tokens_spelled text (text_spelled text utf8)))))
