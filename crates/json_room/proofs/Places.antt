-- Values, items and members of a line, by the offsets between them.
use Rattle.std.proofs.Common.{◌≡◌, ◌⊎◌, inl, inr, ℕ, ◌+◌, ◌-◌, ◌<◌, ◌≤◌, List, ◌∷◌, length, drop, get_or, Bool, true, Option, None, Some, IfSome, IsSome, refl, sym, ap, ◌∙◌, subst, arith}
use Rattle.std.proofs.lemmas.Bool.{false≢true}
use Rattle.json.specs.Json.{after_end_array, read_key, value as json_value}
use Rattle.json.specs.Lex.{between, lex, punctuate, token, Place, after_comma, after_value, fresh, may_begin, may_close}
use Rattle.json.specs.Token.{Token, begin_array, begin_object, end_array, end_object}
use Rattle.serde_json.specs.Data.{Data, Items, Members, Num, array, boolean, item, no_items, no_members, null, number, object, put, string}
use Rattle.serde_json.specs.Read.{converted, number_of, of_json}
use Rattle.json_room.specs.private.Lexemes.{BeginsKey, IsTextAt, PassesSpaces}
use Rattle.json_room.proofs.LexemeLemmas.{begins_key, closes_array, closes_object, ends_at_close, ends_at_comma, from_byte, opened_there, opens_array, opens_object, stay}
use Rattle.json_room.specs.Lexemes.{EndsHere, StandsTo, tokens_at}
use Rattle.json_room.proofs.Standing.{string_stands}
use Rattle.json_room.proofs.Tokens.{boolean_token, null_token, number_token, string_token, array_reads, object_reads, reads_as, token_reads, unclosed}
use Rattle.json_room.specs.ValueTokens.{Reads}
use Rattle.json_room.specs.private.ItemTokens.{ItemsLead, MembersLead, ReadsItems, ReadsMembers, ReadsToken, append_items}
use Rattle.json_room.proofs.Leads.{item_more, items_over, items_start, member_more, members_over, members_start}
use Rattle.json_room.specs.private.ValuesStand.{EndsByBrace, EndsByComma, NamesTo, MembersRead, MembersUpTo}
use Rattle.json_room.specs.ValueStands.{ValueStands}

-- a turn after which a value may begin is an offset where one may
pub begins_at : (line : List ℕ) (from to : ℕ) (first : Token) (turn : Place) → may_begin turn ≡ true → StandsTo line from first to → EndsHere line to → tokens_at turn line from ≡ first ∷ tokens_at after_value line to
begins_at line from to first turn may stands here = stands.begins turn may here

-- a token by itself
pub token_to : (depth : ℕ) (line : List ℕ) (from to : ℕ) (first : Token) (P : Data → Type 0) → StandsTo line from first to → ReadsToken first P → ValueStands depth line from to P
token_to depth line from to first P stands reads =
    record {
      bounds = stands.bounds;
      reads = λ turn may here. token_reads depth first (tokens_at turn line from) (tokens_at after_value line to) P (begins_at line from to first turn may stands here) reads;
    }

pub reads_to_as : (depth : ℕ) (line : List ℕ) (from to : ℕ) (P Q : Data → Type 0) → ((json : Data) → P json → Q json) → ValueStands depth line from to P → ValueStands depth line from to Q
reads_to_as depth line from to P Q by reads =
    record { bounds = reads.bounds; reads = λ turn may here. reads_as depth (tokens_at turn line from) (tokens_at after_value line to) P Q by (reads.reads turn may here) }

-- white space before an offset
pub spaces_at : (turn : Place) (line : List ℕ) (from to : ℕ) → PassesSpaces line from to → tokens_at turn line to ≡ tokens_at turn line from
spaces_at turn line from to passed = ap (punctuate turn) passed.same

pub reads_behind : (depth : ℕ) (line : List ℕ) (from place to : ℕ) (P : Data → Type 0) → PassesSpaces line from place → ValueStands depth line place to P → ValueStands depth line from to P
reads_behind depth line from place to P passed reads =
    record {
      bounds = (omega (arith, passed.bounds.0, reads.bounds.0), reads.bounds.1);
      reads = λ turn may here. subst (λ ts. Reads depth ts (tokens_at after_value line to) P) (spaces_at turn line from place passed) (reads.reads turn may here);
    }

-- what ends a value: a comma, or what closes an array or an object
pub comma_ends : (line : List ℕ) (end place : ℕ) → PassesSpaces line end place → place < length line → get_or line place 32 ≡ 44
    → EndsHere line end × (tokens_at after_comma line (place + 1) ≡ tokens_at after_value line end)
comma_ends line end place passed within is =
    let ended = ends_at_comma line end place passed within is in
    (record { ends = ended.ends; no_colon = ended.no_colon }, ended.left)

pub close_ends : (line : List ℕ) (end place x : ℕ) → PassesSpaces line end place → place < length line → get_or line place 32 ≡ x → (x ≡ 125) ⊎ (x ≡ 93) → EndsHere line end
close_ends line end place x passed within is which =
    let ended = ends_at_close line end place x passed within is which in
    record { ends = ended.ends; no_colon = ended.no_colon }

-- a name and its colon
pub names_to : (line : List ℕ) (from : ℕ) (name : List ℕ) (to : ℕ) → from < to → BeginsKey line from name to → NamesTo line from name to
names_to line from name to further begins =
    record { bounds = (further, begins.within); reads = λ turn may. ap read_key (begins.begins turn may) }

pub names_behind : (line : List ℕ) (from place : ℕ) (name : List ℕ) (to : ℕ) → PassesSpaces line from place → NamesTo line place name to → NamesTo line from name to
names_behind line from place name to passed named =
    record {
      bounds = (omega (arith, passed.bounds.0, named.bounds.0), named.bounds.1);
      reads = λ turn may. subst (λ ts. read_key ts ≡ Some (Some name, tokens_at fresh line to)) (spaces_at turn line from place passed) (named.reads turn may);
    }

-- ---- opening and closing

pub object_opened : (turn : Place) (line : List ℕ) (place : ℕ) → may_begin turn ≡ true → place < length line → get_or line place 32 ≡ 123
    → tokens_at turn line place ≡ begin_object ∷ tokens_at fresh line (place + 1)
object_opened turn line place may within is = opened_there turn line place place 123 begin_object may (stay line place (omega arith)) within is opens_object

pub array_opened : (turn : Place) (line : List ℕ) (place : ℕ) → may_begin turn ≡ true → place < length line → get_or line place 32 ≡ 91
    → tokens_at turn line place ≡ begin_array ∷ tokens_at fresh line (place + 1)
array_opened turn line place may within is = opened_there turn line place place 91 begin_array may (stay line place (omega arith)) within is opens_array

-- where nothing or a value stands before white space, a closing bracket or brace
array_closed : (turn : Place) (line : List ℕ) (from place : ℕ) → may_close turn ≡ true → PassesSpaces line from place → place < length line → get_or line place 32 ≡ 93
    → tokens_at turn line from ≡ end_array ∷ tokens_at after_value line (place + 1)
array_closed turn line from place may passed within is =
    ap (punctuate turn) (sym passed.same ∙ ap (lex between) (from_byte line place 93 within is)) ∙ closes_array turn (drop (place + 1) line) may

object_closed : (turn : Place) (line : List ℕ) (from place : ℕ) → may_close turn ≡ true → PassesSpaces line from place → place < length line → get_or line place 32 ≡ 125
    → tokens_at turn line from ≡ end_object ∷ tokens_at after_value line (place + 1)
object_closed turn line from place may passed within is =
    ap (punctuate turn) (sym passed.same ∙ ap (lex between) (from_byte line place 125 within is)) ∙ closes_object turn (drop (place + 1) line) may

pub array_ends : (turn : Place) (line : List ℕ) (from place : ℕ) → may_close turn ≡ true → PassesSpaces line from place → place < length line → get_or line place 32 ≡ 93
    → after_end_array (tokens_at turn line from) ≡ Some (tokens_at after_value line (place + 1))
array_ends turn line from place may passed within is = ap after_end_array (array_closed turn line from place may passed within is)

pub object_ends : (turn : Place) (line : List ℕ) (from place : ℕ) → may_close turn ≡ true → PassesSpaces line from place → place < length line → get_or line place 32 ≡ 125
    → read_key (tokens_at turn line from) ≡ Some (None, tokens_at after_value line (place + 1))
object_ends turn line from place may passed within is = ap read_key (object_closed turn line from place may passed within is)

-- ---- the walk over items and members

-- the items before an offset where one may begin
pub record ItemsUpTo (depth : ℕ) (line : List ℕ) (from place : ℕ) (P : Items → Type 0) : Type 0 where
  pub bounds : (from ≤ place) × (place ≤ length line)
  pub turn : Place
  pub begins : may_begin turn ≡ true
  pub leads : ItemsLead depth (tokens_at fresh line from) (tokens_at turn line place) P

pub items_begin : (depth : ℕ) (line : List ℕ) (from place : ℕ) (P : Items → Type 0) → PassesSpaces line from place → P no_items → ItemsUpTo depth line from place P
items_begin depth line from place P passed holds =
    record {
      bounds = passed.bounds;
      turn = fresh;
      begins = refl;
      leads = subst (λ ts. ItemsLead depth (tokens_at fresh line from) ts P) (sym (spaces_at fresh line from place passed)) (items_start depth (tokens_at fresh line from) P holds);
    }

-- after one item more, whose end a comma or a bracket shows
item_read : (depth : ℕ) (line : List ℕ) (from place end : ℕ) (P R : Items → Type 0) (Q : Data → Type 0) → ((found : Items) (d : Data) → P found → Q d → R (append_items found (item d no_items)))
    → (so_far : ItemsUpTo depth line from place P) → ValueStands depth line place end Q → EndsHere line end → ItemsLead depth (tokens_at fresh line from) (tokens_at after_value line end) R
item_read depth line from place end P R Q by so_far reads here =
    let read = reads.reads so_far.turn so_far.begins here in
    item_more depth (tokens_at fresh line from) (tokens_at so_far.turn line place) (tokens_at after_value line end) P Q R
    (unclosed depth (tokens_at so_far.turn line place) (tokens_at after_value line end) Q read) by read so_far.leads

pub item_and_comma : (depth : ℕ) (line : List ℕ) (from place end comma next : ℕ) (P R : Items → Type 0) (Q : Data → Type 0) → ((found : Items) (d : Data) → P found → Q d → R (append_items found (item d no_items)))
    → ItemsUpTo depth line from place P → ValueStands depth line place end Q → PassesSpaces line end comma → comma < length line → get_or line comma 32 ≡ 44 → PassesSpaces line (comma + 1) next
    → ItemsUpTo depth line from next R
item_and_comma depth line from place end comma next P R Q by so_far reads passed within is behind =
    let ended = comma_ends line end comma passed within is in
    let lead = item_read depth line from place end P R Q by so_far reads ended.0 in
    record {
      bounds = (omega (arith, so_far.bounds.0, reads.bounds.0, passed.bounds.0, behind.bounds.0), behind.bounds.1);
      turn = after_comma;
      begins = refl;
      leads = subst (λ ts. ItemsLead depth (tokens_at fresh line from) ts R) (sym (spaces_at after_comma line (comma + 1) next behind ∙ ended.1)) lead;
    }

pub item_and_bracket : (depth : ℕ) (line : List ℕ) (from place end bracket : ℕ) (P R : Items → Type 0) (Q : Data → Type 0) → ((found : Items) (d : Data) → P found → Q d → R (append_items found (item d no_items)))
    → ItemsUpTo depth line from place P → ValueStands depth line place end Q → PassesSpaces line end bracket → bracket < length line → get_or line bracket 32 ≡ 93
    → ReadsItems depth (tokens_at fresh line from) (tokens_at after_value line (bracket + 1)) R
item_and_bracket depth line from place end bracket P R Q by so_far reads passed within is =
    let here = close_ends line end bracket 93 passed within is (inr refl) in
    items_over depth (tokens_at fresh line from) (tokens_at after_value line end) (tokens_at after_value line (bracket + 1)) R (array_ends after_value line end bracket refl passed within is)
    (item_read depth line from place end P R Q by so_far reads here)

pub no_items_read : (depth : ℕ) (line : List ℕ) (from bracket : ℕ) (P : Items → Type 0) → PassesSpaces line from bracket → bracket < length line → get_or line bracket 32 ≡ 93 → P no_items
    → ReadsItems depth (tokens_at fresh line from) (tokens_at after_value line (bracket + 1)) P
no_items_read depth line from bracket P passed within is holds =
    items_over depth (tokens_at fresh line from) (tokens_at fresh line from) (tokens_at after_value line (bracket + 1)) P (array_ends fresh line from bracket refl passed within is)
    (items_start depth (tokens_at fresh line from) P holds)

pub members_begin : (depth : ℕ) (line : List ℕ) (from place : ℕ) (P : Members → Type 0) → PassesSpaces line from place → P no_members → MembersUpTo depth line from place P
members_begin depth line from place P passed holds =
    record {
      bounds = passed.bounds;
      turn = fresh;
      begins = refl;
      leads = subst (λ ts. MembersLead depth (tokens_at fresh line from) ts P) (sym (spaces_at fresh line from place passed)) (members_start depth (tokens_at fresh line from) P holds);
    }

pub member_read : (depth : ℕ) (line : List ℕ) (from place value end : ℕ) (name : List ℕ) (P R : Members → Type 0) (Q : Data → Type 0) → ((found : Members) (d : Data) → P found → Q d → R (put name d found))
    → MembersUpTo depth line from place P → NamesTo line place name value → ValueStands depth line value end Q → EndsHere line end
    → MembersLead depth (tokens_at fresh line from) (tokens_at after_value line end) R
member_read depth line from place value end name P R Q by so_far named reads here =
    member_more depth (tokens_at fresh line from) (tokens_at so_far.turn line place) (tokens_at fresh line value) (tokens_at after_value line end) name P Q R
    (named.reads so_far.turn so_far.begins) by (reads.reads fresh refl here) so_far.leads

pub member_and_comma : (depth : ℕ) (line : List ℕ) (from place value end comma next : ℕ) (name : List ℕ) (P R : Members → Type 0) (Q : Data → Type 0) → ((found : Members) (d : Data) → P found → Q d → R (put name d found))
    → MembersUpTo depth line from place P → NamesTo line place name value → ValueStands depth line value end Q → PassesSpaces line end comma → comma < length line → get_or line comma 32 ≡ 44
    → PassesSpaces line (comma + 1) next → MembersUpTo depth line from next R
member_and_comma depth line from place value end comma next name P R Q by so_far named reads passed within is behind =
    let ended = comma_ends line end comma passed within is in
    let lead = member_read depth line from place value end name P R Q by so_far named reads ended.0 in
    record {
      bounds = (omega (arith, so_far.bounds.0, named.bounds.0, reads.bounds.0, passed.bounds.0, behind.bounds.0), behind.bounds.1);
      turn = after_comma;
      begins = refl;
      leads = subst (λ ts. MembersLead depth (tokens_at fresh line from) ts R) (sym (spaces_at after_comma line (comma + 1) next behind ∙ ended.1)) lead;
    }

pub member_and_brace : (depth : ℕ) (line : List ℕ) (from place value end brace : ℕ) (name : List ℕ) (P R S : Members → Type 0) (Q : Data → Type 0) → ((found : Members) (d : Data) → P found → Q d → R (put name d found))
    → ((found : Members) → R found → S found) → MembersUpTo depth line from place P → NamesTo line place name value → ValueStands depth line value end Q → PassesSpaces line end brace → brace < length line
    → get_or line brace 32 ≡ 125 → ReadsMembers depth (tokens_at fresh line from) (tokens_at after_value line (brace + 1)) S
member_and_brace depth line from place value end brace name P R S Q by last so_far named reads passed within is =
    let here = close_ends line end brace 125 passed within is (inl refl) in
    members_over depth (tokens_at fresh line from) (tokens_at after_value line end) (tokens_at after_value line (brace + 1)) R S (object_ends after_value line end brace refl passed within is) last
    (member_read depth line from place value end name P R Q by so_far named reads here)

pub no_members_read : (depth : ℕ) (line : List ℕ) (from brace : ℕ) (P S : Members → Type 0) → PassesSpaces line from brace → brace < length line → get_or line brace 32 ≡ 125 → ((found : Members) → P found → S found) → P no_members
    → ReadsMembers depth (tokens_at fresh line from) (tokens_at after_value line (brace + 1)) S
no_members_read depth line from brace P S passed within is last holds =
    members_over depth (tokens_at fresh line from) (tokens_at fresh line from) (tokens_at after_value line (brace + 1)) P S (object_ends fresh line from brace refl passed within is) last
    (members_start depth (tokens_at fresh line from) P holds)

pub member_then : (depth : ℕ) (line : List ℕ) (from place value end : ℕ) (name : List ℕ) (P R : Members → Type 0) (Q : Data → Type 0) → ((found : Members) (d : Data) → P found → Q d → R (put name d found))
    → MembersUpTo depth line from place P → NamesTo line place name value → ValueStands depth line value end Q → MembersRead depth line from end R
member_then depth line from place value end name P R Q by so_far named reads =
    record {
      bounds = (omega (arith, so_far.bounds.0, named.bounds.0, reads.bounds.0), reads.bounds.1);
      leads = λ here. member_read depth line from place value end name P R Q by so_far named reads here;
    }

pub comma_then : (depth : ℕ) (line : List ℕ) (from end next : ℕ) (P : Members → Type 0) → MembersRead depth line from end P → EndsByComma line end next → MembersUpTo depth line from next P
comma_then depth line from end next P read (further, within, here, left) =
    record {
      bounds = (omega (arith, read.bounds.0, further), within);
      turn = after_comma;
      begins = refl;
      leads = subst (λ ts. MembersLead depth (tokens_at fresh line from) ts P) (sym left) (read.leads here);
    }

pub brace_then : (depth : ℕ) (line : List ℕ) (from end next : ℕ) (P S : Members → Type 0) → ((found : Members) → P found → S found) → MembersRead depth line from end P → EndsByBrace line end next
    → ReadsMembers depth (tokens_at fresh line from) (tokens_at after_value line next) S
brace_then depth line from end next P S last read (further, within, here, closes) =
    members_over depth (tokens_at fresh line from) (tokens_at after_value line end) (tokens_at after_value line next) P S closes last (read.leads here)

-- ---- values that nobody looks at

pub some_by : {V : Type 0} (o : Option V) (P Q : V → Type 0) → ((v : V) → P v → Q v) → IfSome o P → IfSome o Q
some_by None P Q by holds = tt
some_by (Some v) P Q by holds = by v holds

abbrev pub any_json : Data → Type 0
any_json json = Unit {0}

pub both_some : {A : Type 0} (o : Option A) (P Q R : A → Type 0) → ((x : A) → P x → Q x → R x) → IfSome o P → IfSome o Q → IfSome o R
both_some None P Q R by p q = tt
both_some (Some x) P Q R by p q = by x p q

pub any_string : (s : List ℕ) → ReadsToken (Token.string s) any_json
any_string s = record { json = string s; is_read = λ depth rest. string_token s depth rest; no_null = refl; holds = tt }

pub any_boolean : (b : Bool) → ReadsToken (Token.boolean b) any_json
any_boolean b = record { json = boolean b; is_read = λ depth rest. boolean_token b depth rest; no_null = refl; holds = tt }

pub any_number : (s : List ℕ) → IsSome (number_of s) → ReadsToken (Token.number s) any_json
any_number s has = go (number_of s) refl has
  where
    go : (o : Option Num) → number_of s ≡ o → IsSome o → ReadsToken (Token.number s) any_json
    go (Some m) same some = record { json = number m; is_read = λ depth rest. number_token s m same depth rest; no_null = refl; holds = tt }
    go None same some = absurd (false≢true some)

-- null is a value too, but not one of those tokens
pub any_null : (depth : ℕ) (line : List ℕ) (from to : ℕ) → StandsTo line from Token.null to → ValueStands depth line from to any_json
any_null depth line from to stands =
    record {
      bounds = stands.bounds;
      reads = λ turn may here. record {
        json = null;
        is_read = ap (λ ts. converted of_json (json_value depth ts)) (begins_at line from to Token.null turn may stands here) ∙ null_token depth (tokens_at after_value line to);
        holds = tt;
      };
    }

pub text_to : (depth : ℕ) (line : List ℕ) (from to : ℕ) (s : List ℕ) → from < to → IsTextAt line from s to → ValueStands depth line from to any_json
text_to depth line from to s further stands = token_to depth line from to (Token.string s) any_json (string_stands line from to s further stands.within stands.lexed) (any_string s)

-- an array and an object, after their opening bytes
pub array_to : (depth : ℕ) (line : List ℕ) (from to : ℕ) (P : Items → Type 0) (Q : Data → Type 0) → 0 < depth → from < length line → get_or line from 32 ≡ 91 → ((jsons : Items) → P jsons → Q (array jsons))
    → (from + 1 < to) × (to ≤ length line) → ReadsItems (depth - 1) (tokens_at fresh line (from + 1)) (tokens_at after_value line to) P → ValueStands depth line from to Q
array_to depth line from to P Q some within is by bounds reads =
    record {
      bounds = (omega (arith, bounds.0), bounds.1);
      reads = λ turn may here. subst (λ ts. Reads depth ts (tokens_at after_value line to) Q) (sym (array_opened turn line from may within is))
          (array_reads depth (tokens_at fresh line (from + 1)) (tokens_at after_value line to) P Q some by reads);
    }

pub object_to : (depth : ℕ) (line : List ℕ) (from to : ℕ) (P : Members → Type 0) (Q : Data → Type 0) → 0 < depth → from < length line → get_or line from 32 ≡ 123 → ((found : Members) → P found → Q (object found))
    → (from + 1 < to) × (to ≤ length line) → ReadsMembers (depth - 1) (tokens_at fresh line (from + 1)) (tokens_at after_value line to) P → ValueStands depth line from to Q
object_to depth line from to P Q some within is by bounds reads =
    record {
      bounds = (omega (arith, bounds.0), bounds.1);
      reads = λ turn may here. subst (λ ts. Reads depth ts (tokens_at after_value line to) Q) (sym (object_opened turn line from may within is))
          (object_reads depth (tokens_at fresh line (from + 1)) (tokens_at after_value line to) P Q some by reads);
    }

-- a text, white space and a colon are a name
pub named_text : (line : List ℕ) (from end colon : ℕ) (s : List ℕ) → from < end → IsTextAt line from s end → PassesSpaces line end colon → colon < length line → get_or line colon 32 ≡ 58 → NamesTo line from s (colon + 1)
named_text line from end colon s further stands passed within is =
    record {
      bounds = (omega (arith, further, passed.bounds.0), omega (arith, within));
      reads = λ turn may. ap read_key (ap (punctuate turn) (stands.lexed ∙ ap (λ ls. token (Token.string s) ∷ ls) (sym passed.same ∙ ap (lex between) (from_byte line colon 58 within is))) ∙ begins_key turn s (drop (colon + 1) line) may);
    }
