-- The value that tokens begin with, by its kind.
use Rattle.std.proofs.lemmas.Bool.{false≢true}
use Rattle.std.proofs.Common.{◌≡◌, ◌≤◌, ◌∙◌, ℕ, List, Option, Some, None, Bool, is_some, option_map, refl, sym, ap, subst, arith}
use Rattle.std.specs.Prelude.{IsSome}
use Rattle.json.specs.Token.{Token}
use Rattle.json.specs.Find.{BeginsWith}
use Rattle.json.specs.Find as find
use Rattle.json.specs.Json as json
use Rattle.json.specs.Tree.{depth}
use Rattle.json.proofs.Found.{Some_inj, not_found}
use Rattle.serde_json.specs.Data.{Data, Items, Members, Num, array, no_members, number, object}
use Rattle.serde_json.specs.Find.{as_array, as_bool, as_null, as_number, as_object, as_str}
use Rattle.serde_json.specs.Read.{converted, number_of, of_items, of_json, of_members}
use Rattle.edm_entities.specs.private.TapeNodes.{IsReadOn, IsReadWithin, data_on, read_on}
use Rattle.edm_entities.proofs.TapeLemmas.Shallow.{read_within}

-- what a function of an option's value gives has a value
pub mapped : {A B : Type 0} (f : A → B) (o : Option A) (b : B) → option_map f o ≡ Some b → (a : A) × (o ≡ Some a) × (f a ≡ b)
mapped f None b is = not_found b is
mapped f (Some a) b is = (a, refl, Some_inj (f a) b is)

-- a value stands on the tape, which is the data
pub record IsValueOn (tokens : List Token) (held : Data) : Type 0 where
  pub found : json.Json
  pub rest : List Token
  pub is_found : json.value json.max_depth tokens ≡ Some (found, rest)
  pub is_data : of_json found ≡ Some held

value_read : (tokens : List Token) (o : Option (json.Json × List Token)) → json.value json.max_depth tokens ≡ o → IsSome (converted of_json o) → IsValueOn tokens (data_on tokens)
value_read tokens None at some = absurd (false≢true some)
value_read tokens (Some p) at some = data_read (of_json p.0) refl some
  where
    data_read : (o : Option Data) → of_json p.0 ≡ o → IsSome (converted of_json (Some p)) → IsValueOn tokens (data_on tokens)
    data_read None is some = absurd (false≢true (subst (λ (o : Option (Data × List Token)). IsSome o) (ap (option_map (λ d. (d, p.1))) is) some))
    data_read (Some d) is some =
        let read : read_on tokens ≡ Some (d, p.1) = ap (converted of_json) at ∙ ap (option_map (λ e. (e, p.1))) is in
        let same : data_on tokens ≡ d = rw read refl in
        record { found = p.0; rest = p.1; is_found = at; is_data = is ∙ ap Some (sym same) }

pub value_on : (tokens : List Token) → IsReadOn tokens → IsValueOn tokens (data_on tokens)
value_on tokens some = value_read tokens (json.value json.max_depth tokens) refl some

-- ---- by kind

pub null_of : (found : json.Json) (held : Data) → of_json found ≡ Some held → find.is_null found ≡ is_some (as_null held)
null_of json.null held is = ap (λ (d : Data). is_some (as_null d)) (Some_inj _ _ is)
null_of (json.boolean b) held is = ap (λ (d : Data). is_some (as_null d)) (Some_inj _ _ is)
null_of (json.number s) held is = ap (λ (d : Data). is_some (as_null d)) (mapped number (number_of s) held is).2
null_of (json.string s) held is = ap (λ (d : Data). is_some (as_null d)) (Some_inj _ _ is)
null_of (json.array js) held is = ap (λ (d : Data). is_some (as_null d)) (mapped array (of_items js) held is).2
null_of (json.object ms) held is = ap (λ (d : Data). is_some (as_null d)) (mapped object (of_members ms no_members) held is).2

pub str_of : (found : json.Json) (held : Data) → of_json found ≡ Some held → find.as_str found ≡ as_str held
str_of json.null held is = ap as_str (Some_inj _ _ is)
str_of (json.boolean b) held is = ap as_str (Some_inj _ _ is)
str_of (json.number s) held is = ap as_str (mapped number (number_of s) held is).2
str_of (json.string s) held is = ap as_str (Some_inj _ _ is)
str_of (json.array js) held is = ap as_str (mapped array (of_items js) held is).2
str_of (json.object ms) held is = ap as_str (mapped object (of_members ms no_members) held is).2

pub bool_of : (found : json.Json) (held : Data) → of_json found ≡ Some held → find.as_bool found ≡ as_bool held
bool_of json.null held is = ap as_bool (Some_inj _ _ is)
bool_of (json.boolean b) held is = ap as_bool (Some_inj _ _ is)
bool_of (json.number s) held is = ap as_bool (mapped number (number_of s) held is).2
bool_of (json.string s) held is = ap as_bool (Some_inj _ _ is)
bool_of (json.array js) held is = ap as_bool (mapped array (of_items js) held is).2
bool_of (json.object ms) held is = ap as_bool (mapped object (of_members ms no_members) held is).2

-- a number has a value, which is the data; other values are no numbers
abbrev pub NumberOf : Option (List ℕ) → Data → Type 0
NumberOf None held = as_number held ≡ None
NumberOf (Some s) held = (m : Num) × (number_of s ≡ Some m) × (held ≡ number m)

pub number_of_kind : (found : json.Json) (held : Data) → of_json found ≡ Some held → NumberOf (find.as_number found) held
number_of_kind json.null held is = sym (ap as_number (Some_inj _ _ is))
number_of_kind (json.boolean b) held is = sym (ap as_number (Some_inj _ _ is))
number_of_kind (json.number s) held is = let at = mapped number (number_of s) held is in (at.0, at.1, sym at.2)
number_of_kind (json.string s) held is = sym (ap as_number (Some_inj _ _ is))
number_of_kind (json.array js) held is = sym (ap as_number (mapped array (of_items js) held is).2)
number_of_kind (json.object ms) held is = sym (ap as_number (mapped object (of_members ms no_members) held is).2)

-- what tokens begin with, in whatever depth it is read, is on the tape
pub read_as : (tokens : List Token) (found : json.Json) (held : Data) → BeginsWith tokens found → depth found ≤ json.max_depth → of_json found ≡ Some held → IsReadOn tokens × (data_on tokens ≡ held)
read_as tokens found held begins within is =
    let read : read_on tokens ≡ Some (held, begins.1) =
    ap (converted of_json) (read_within begins.0 json.max_depth tokens begins.1 found begins.2 within) ∙ ap (option_map (λ e. (e, begins.1))) is in
    (rw read refl, rw read refl)

-- what is no array is none in the data, and so with objects
pub array_of_kind : (found : json.Json) (held : Data) → of_json found ≡ Some held → find.as_array found ≡ None → as_array held ≡ None
array_of_kind json.null held is none = sym (ap as_array (Some_inj _ _ is))
array_of_kind (json.boolean b) held is none = sym (ap as_array (Some_inj _ _ is))
array_of_kind (json.number s) held is none = sym (ap as_array (mapped number (number_of s) held is).2)
array_of_kind (json.string s) held is none = sym (ap as_array (Some_inj _ _ is))
array_of_kind (json.array js) held is none = absurd (cc)
array_of_kind (json.object ms) held is none = sym (ap as_array (mapped object (of_members ms no_members) held is).2)

pub object_of_kind : (found : json.Json) (held : Data) → of_json found ≡ Some held → find.as_object found ≡ None → as_object held ≡ None
object_of_kind json.null held is none = sym (ap as_object (Some_inj _ _ is))
object_of_kind (json.boolean b) held is none = sym (ap as_object (Some_inj _ _ is))
object_of_kind (json.number s) held is none = sym (ap as_object (mapped number (number_of s) held is).2)
object_of_kind (json.string s) held is none = sym (ap as_object (Some_inj _ _ is))
object_of_kind (json.array js) held is none = sym (ap as_object (mapped array (of_items js) held is).2)
object_of_kind (json.object ms) held is none = absurd (cc)

-- what is read at a depth is on the tape
pub read_is : (tokens : List Token) (deep : ℕ) (found : json.Json) → BeginsWith tokens found → deep ≤ json.max_depth → IsReadWithin deep found → IsReadOn tokens
read_is tokens deep found begins most read = by (of_json found) refl read.1
  where
    by : (o : Option Data) → of_json found ≡ o → IsSome o → IsReadOn tokens
    by None at some = absurd (false≢true some)
    by (Some d) at some = (read_as tokens found d begins (omega (arith, read.0, most)) at).0
