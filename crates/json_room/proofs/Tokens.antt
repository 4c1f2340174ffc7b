-- What a row's tokens begin with, by `serde_json`'s definition of reading.
use Rattle.std.proofs.Common.{◌≡◌, ℕ, ◌-◌, ◌<◌, List, [], ◌∷◌, length, Option, Some, None, option_map, option_and_then, refl, ap, ◌∙◌, Bool}
use Rattle.json.specs.Token.{Token}
use Rattle.json.specs.Json as json
use Rattle.json.specs.Json.{after_end_array, value, items, members, parse_map, if_last}
use Rattle.json.proofs.Grammar.{left, skip_value-shorter, value-begin_array, value-begin_object, value_is}
use Rattle.serde_json.specs.Data.{Data, array, object, Items, Members, no_members, Num, null, boolean, number, string}
use Rattle.json.specs.Lex.{tokens}
use Rattle.serde_json.specs.Read.{of_json, of_items, of_members, converted, max_depth, read, number_of}
use Rattle.json_room.specs.ValueTokens.{Reads}
use Rattle.json_room.specs.private.ItemTokens.{ReadsToken, ReadsItems, ReadsMembers}

-- what is beside the rest, and the rest
beside : {B : Type 0} (rest r : List Token) (x : Option B) (b : B) → option_map {U = B × List Token} (λ y. (y, rest)) x ≡ Some (b, r) → (x ≡ Some b) × (rest ≡ r)
beside rest r None b e = absurd (cc)
beside {B} rest r (Some y) b e =
    let same : (y, rest) ≡ (b, r) = cc in
    (ap (λ (p : B × List Token). Some p.0) same, ap (λ (p : B × List Token). p.1) same)

-- what was read, before its numbers had values
pub grammar_read : {A B : Type 0} (f : A → Option B) (o : Option (A × List Token)) (b : B) (r : List Token) → converted f o ≡ Some (b, r) → (a : A) × (o ≡ Some (a, r)) × (f a ≡ Some b)
grammar_read f None b r e = absurd (cc)
grammar_read f (Some p) b r e =
    let both = beside p.1 r (f p.0) b e in
    (p.0, ap (λ (rest : List Token). Some (p.0, rest)) both.1, both.0)

-- a value takes a token at least
pub read_shorter : (depth : ℕ) (tokens rest : List Token) (P : Data → Type 0) → Reads depth tokens rest P → length rest < length tokens
read_shorter depth tokens rest P reads =
    let j = grammar_read of_json (value depth tokens) reads.json rest reads.is_read in
    skip_value-shorter depth tokens rest (ap left j.1)

-- no value begins with a closing bracket
pub unclosed : (depth : ℕ) (tokens rest : List Token) (P : Data → Type 0) → Reads depth tokens rest P → after_end_array tokens ≡ None
unclosed depth tokens rest P reads = go tokens reads.is_read
  where
    go : (ts : List Token) → converted of_json (value depth ts) ≡ Some (reads.json, rest) → after_end_array ts ≡ None
    go [] e = refl
    go (Token.begin_object ∷ ts) e = refl
    go (Token.end_object ∷ ts) e = refl
    go (Token.begin_array ∷ ts) e = refl
    go (Token.end_array ∷ ts) e =
        let none : converted of_json (value depth (Token.end_array ∷ ts)) ≡ None = ap (converted of_json) (value_is depth (Token.end_array ∷ ts)) in
        absurd (cc)
    go (Token.key s ∷ ts) e = refl
    go (Token.string s ∷ ts) e = refl
    go (Token.number s ∷ ts) e = refl
    go (Token.boolean b ∷ ts) e = refl
    go (Token.null ∷ ts) e = refl
    go (Token.bad ∷ ts) e = refl

pub reads_as : (depth : ℕ) (tokens rest : List Token) (P Q : Data → Type 0) → ((json : Data) → P json → Q json) → Reads depth tokens rest P → Reads depth tokens rest Q
reads_as depth tokens rest P Q by reads = record { json = reads.json; is_read = reads.is_read; holds = by reads.json reads.holds }

-- a value that is one token
pub token_reads : (depth : ℕ) (token : Token) (tokens rest : List Token) (P : Data → Type 0) → tokens ≡ token ∷ rest → ReadsToken token P → Reads depth tokens rest P
token_reads depth token tokens rest P is reads =
    record { json = reads.json; is_read = ap (λ (ts : List Token). converted of_json (value depth ts)) is ∙ reads.is_read depth rest; holds = reads.holds }

map_twice : {A B : Type 0} (g : A → B) (rest : List Token) (x : Option A) → option_map {U = B × List Token} (λ b. (b, rest)) (option_map g x) ≡ parse_map g (option_map (λ a. (a, rest)) x)
map_twice g rest None = refl
map_twice g rest (Some a) = refl

object_converted : (o : Option (json.Members × List Token)) → converted of_json (parse_map json.object o) ≡ parse_map object (converted (λ ms. of_members ms no_members) o)
object_converted None = refl
object_converted (Some p) = map_twice object p.1 (of_members p.0 no_members)

array_converted : (o : Option (json.Items × List Token)) → converted of_json (parse_map json.array o) ≡ parse_map array (converted of_items o)
array_converted None = refl
array_converted (Some p) = map_twice array p.1 (of_items p.0)

-- an object, after its opening brace
pub object_reads : (depth : ℕ) (tokens rest : List Token) (P : Members → Type 0) (Q : Data → Type 0) → 0 < depth → ((found : Members) → P found → Q (object found))
    → ReadsMembers (depth - 1) tokens rest P → Reads depth (Token.begin_object ∷ tokens) rest Q
object_reads depth tokens rest P Q some by reads =
    record {
      json = object reads.found;
      is_read = ap (converted of_json) (value-begin_object depth tokens some) ∙ object_converted (members (value (depth - 1)) (length tokens) tokens) ∙ ap (parse_map object) reads.is_read;
      holds = by reads.found reads.holds;
    }

-- an array, after its opening bracket
pub array_reads : (depth : ℕ) (tokens rest : List Token) (P : Items → Type 0) (Q : Data → Type 0) → 0 < depth → ((jsons : Items) → P jsons → Q (array jsons))
    → ReadsItems (depth - 1) tokens rest P → Reads depth (Token.begin_array ∷ tokens) rest Q
array_reads depth tokens rest P Q some by reads =
    record {
      json = array reads.jsons;
      is_read = ap (converted of_json) (value-begin_array depth tokens some) ∙ array_converted (items (value (depth - 1)) (length tokens) tokens) ∙ ap (parse_map array) reads.is_read;
      holds = by reads.jsons reads.holds;
    }

-- a whole text is a value where nothing stands after it
pub whole_read : (text : List ℕ) (d : Data) → converted of_json (value max_depth (tokens text)) ≡ Some (d, []) → read text ≡ Some d
whole_read text d e =
    let j = grammar_read of_json (value max_depth (tokens text)) d [] e in
    ap (λ (o : Option (json.Json × List Token)). option_and_then of_json (option_and_then (λ p. if_last p.0 p.1) o)) j.1 ∙ j.2

-- ---- tokens that are values without parts

pub null_token : (depth : ℕ) (rest : List Token) → converted of_json (value depth (Token.null ∷ rest)) ≡ Some (null, rest)
null_token depth rest = ap (converted of_json) (value_is depth (Token.null ∷ rest))

pub string_token : (s : List ℕ) (depth : ℕ) (rest : List Token) → converted of_json (value depth (Token.string s ∷ rest)) ≡ Some (string s, rest)
string_token s depth rest = ap (converted of_json) (value_is depth (Token.string s ∷ rest))

pub boolean_token : (b : Bool) (depth : ℕ) (rest : List Token) → converted of_json (value depth (Token.boolean b ∷ rest)) ≡ Some (boolean b, rest)
boolean_token b depth rest = ap (converted of_json) (value_is depth (Token.boolean b ∷ rest))

pub number_token : (s : List ℕ) (m : Num) → number_of s ≡ Some m → (depth : ℕ) (rest : List Token) → converted of_json (value depth (Token.number s ∷ rest)) ≡ Some (number m, rest)
number_token s m is depth rest = ap (converted of_json) (value_is depth (Token.number s ∷ rest)) ∙ rw is
