-- For private clauses: items and members of a line, from one offset to the other.
use Rattle.std.specs.Prelude.{◌≡◌, ℕ, ◌<◌, ◌≤◌, List, length, true, None, Some}
use Rattle.json.specs.Json.{read_key}
use Rattle.json.specs.Lex.{Place, fresh, after_comma, after_value, may_begin}
use Rattle.serde_json.specs.Data.{Members}
use Rattle.json_room.specs.Lexemes.{EndsHere, tokens_at}
use Rattle.json_room.specs.ValueStands.{ValueStands}
use Rattle.json_room.specs.private.ItemTokens.{MembersLead}

-- from one offset on, after an opening bracket or brace, up to the other
abbrev pub PassesTo : List ℕ → ℕ → ℕ → Type 0
PassesTo line from to = (from < to) × (to ≤ length line)

-- from one offset to the other, where a member may begin, stand a name and its colon
pub record NamesTo (line : List ℕ) (from : ℕ) (name : List ℕ) (to : ℕ) : Type 0 where
  pub bounds : (from < to) × (to ≤ length line)
  pub reads : (turn : Place) → may_begin turn ≡ true
      → read_key (tokens_at turn line from) ≡ Some (Some name, tokens_at fresh line to)

-- a member of whatever name, with its value, nested no deeper than that
abbrev pub PassesAnyMember : ℕ → List ℕ → ℕ → ℕ → Type 0
PassesAnyMember depth line from to =
    (name : List ℕ) × (value : ℕ) × NamesTo line from name value × ValueStands depth line value to (λ json. Unit {0})

-- the members before an offset where one may begin
pub record MembersUpTo (depth : ℕ) (line : List ℕ) (from place : ℕ) (P : Members → Type 0) : Type 0 where
  pub bounds : (from ≤ place) × (place ≤ length line)
  pub turn : Place
  pub begins : may_begin turn ≡ true
  pub leads : MembersLead depth (tokens_at fresh line from) (tokens_at turn line place) P

-- the members up to an offset where the value of one ends, if it may end there
pub record MembersRead (depth : ℕ) (line : List ℕ) (from end : ℕ) (P : Members → Type 0) : Type 0 where
  pub bounds : (from ≤ end) × (end ≤ length line)
  pub leads : EndsHere line end → MembersLead depth (tokens_at fresh line from) (tokens_at after_value line end) P

-- where a value ends at one offset, a comma goes up to the other
abbrev pub EndsByComma : List ℕ → ℕ → ℕ → Type 0
EndsByComma line end next =
    (end < next) × (next ≤ length line) × EndsHere line end
    × (tokens_at after_comma line next ≡ tokens_at after_value line end)

-- the same of a brace, which ends an object
abbrev pub EndsByBrace : List ℕ → ℕ → ℕ → Type 0
EndsByBrace line end next =
    (end < next) × (next ≤ length line) × EndsHere line end
    × (read_key (tokens_at after_value line end) ≡ Some (None, tokens_at after_value line next))
