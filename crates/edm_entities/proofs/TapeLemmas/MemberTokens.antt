-- The members of an object on a tape, and those that are left once one was taken.
use Rattle.std.proofs.lemmas.Bool.{false≢true}
use Rattle.std.proofs.Common.{◌≡◌, ◌≤◌, ◌∙◌, ℕ, List, Option, Some, None, MatchOption, length, option_and_then, option_map, refl, sym, ap, subst, arith}
use Rattle.std.specs.Prelude.{IsSome}
use Rattle.json.specs.Token.{Token}
use Rattle.json.specs.Find.{BeginsWith, InMembers, NextMember}
use Rattle.json.specs.Json as json
use Rattle.json.specs.Tree.{depth, members_depth}
use Rattle.json.proofs.Found.{Some_inj, not_found}
use Rattle.serde_json.specs.Data.{Data, Members, no_members, put}
use Rattle.serde_json.specs.Read.{converted, of_json, of_members}
use Rattle.edm_entities.specs.private.TapeNodes.{AreMembersOn, IsNextMember, IsReadOn, data_on, members_on, members_read}
use Rattle.edm_entities.proofs.TapeLemmas.Shallow.{members_at, members_within}
use Rattle.edm_entities.proofs.TapeLemmas.Values.{read_as}

-- members that are read after some are read after any
pub read_after : (ms : json.Members) (found other : Members) → IsSome (of_members ms found) → IsSome (of_members ms other)
read_after json.no_members found other some = refl
read_after (json.member k j ms) found other some = by (read_after ms) (of_json j) some
  where
    by : ((before after : Members) → IsSome (of_members ms before) → IsSome (of_members ms after)) → (o : Option Data) → IsSome (option_and_then (λ d. of_members ms (put k d found)) o) → IsSome (option_and_then (λ d. of_members ms (put k d other)) o)
    by again None some = some
    by again (Some d) some = again (put k d found) (put k d other) some

-- members stand on the tape
pub record AreNamesOn (tokens : List Token) : Type 0 where
  pub found : json.Members
  pub rest : List Token
  pub are_found : json.members (json.value json.max_depth) (length tokens) tokens ≡ Some (found, rest)
  pub are_read : (before : Members) → IsSome (of_members found before)

names_found : (tokens : List Token) (o : Option (json.Members × List Token)) → json.members (json.value json.max_depth) (length tokens) tokens ≡ o → IsSome (converted (λ ms. of_members ms no_members) o) → AreNamesOn tokens
names_found tokens None at some = absurd (false≢true some)
names_found tokens (Some p) at some = record { found = p.0; rest = p.1; are_found = at; are_read = λ before. read_after p.0 no_members before (is_read (of_members p.0 no_members) some) }
  where
    is_read : (o : Option Members) → IsSome {T = Members × List Token} (option_map (λ d. (d, p.1)) o) → IsSome o
    is_read None some = some
    is_read (Some ms) some = refl

pub names_on : (tokens : List Token) → AreMembersOn tokens → AreNamesOn tokens
names_on tokens some = names_found tokens (json.members (json.value json.max_depth) (length tokens) tokens) refl some

-- members that tokens begin with, in whatever depth and turns they are read, are those on the tape
pub members_as : (tokens : List Token) (found : json.Members) (before after : Members) → InMembers tokens found → members_depth found ≤ json.max_depth → of_members found before ≡ Some after
    → AreMembersOn tokens × (members_on before tokens ≡ after)
members_as tokens found before after begins within is =
    let at = members_at begins.0 begins.1 json.max_depth tokens begins.2 found begins.3 within in
    let some : IsSome (of_members found no_members) = read_after found before no_members (rw is refl) in
    (rw at (mapped_some (of_members found no_members) begins.2 some), rw at (rw is refl))
  where
    mapped_some : (o : Option Members) (rest : List Token) → IsSome o → IsSome {T = Members × List Token} (option_map (λ d. (d, rest)) o)
    mapped_some None rest some = some
    mapped_some (Some ms) rest some = refl

-- ---- a member more

first_of : (k : List ℕ) (found : json.Json) (more : json.Members) (before after : Members) → of_members (json.member k found more) before ≡ Some after
    → (d : Data) × (of_json found ≡ Some d) × (of_members more (put k d before) ≡ Some after)
first_of k found more before after is = by (of_json found) refl is
  where
    by : (o : Option Data) → of_json found ≡ o → option_and_then (λ d. of_members more (put k d before)) o ≡ Some after → (d : Data) × (of_json found ≡ Some d) × (of_members more (put k d before) ≡ Some after)
    by None at is = not_found after is
    by (Some d) at is = (d, at, is)

made : (o : Option Members) → IsSome o → (ms : Members) × (o ≡ Some ms)
made None some = absurd (false≢true some)
made (Some ms) some = (ms, refl)

pub next_member : (old new : List Token) (taken : Option (List ℕ × List Token)) → AreMembersOn old → NextMember old taken new
    → MatchOption taken ((before : Members) → members_on before old ≡ before)
    (λ m. IsReadOn m.1 × AreMembersOn new × ((before : Members) → members_on before old ≡ members_on (put m.0 (data_on m.1) before) new))
next_member old new None some next = λ before.
    let here = names_on old some in
    let none = next here.found (json.max_depth, length old, here.rest, here.are_found) in
    let is : of_members here.found before ≡ Some before = ap (λ (ms : json.Members). of_members ms before) none in
    (members_as old here.found before before (json.max_depth, length old, here.rest, here.are_found) (members_within json.max_depth (length old) old here.rest here.found here.are_found) is).1
next_member old new (Some m) some next =
    let here = names_on old some in
    let one = next here.found (json.max_depth, length old, here.rest, here.are_found) in
    let deep : members_depth here.found ≤ json.max_depth = members_within json.max_depth (length old) old here.rest here.found here.are_found in
    let begins : InMembers old here.found = (json.max_depth, length old, here.rest, here.are_found) in
    let known = made (of_members here.found no_members) (here.are_read no_members) in
    let split = first_of m.0 one.0 one.1 no_members known.0 (sym (ap (λ (ms : json.Members). of_members ms no_members) one.2) ∙ known.1) in
    let value = read_as m.1 one.0 split.0 one.3 (omega (arith, deep, ap members_depth one.2)) split.1 in
    let rest = members_as new one.1 (put m.0 split.0 no_members) known.0 one.4 (omega (arith, deep, ap members_depth one.2)) split.2 in (
      value.0,
      rest.0,
      λ before.
          let whole = made (of_members here.found before) (here.are_read before) in
          let parts = first_of m.0 one.0 one.1 before whole.0 (sym (ap (λ (ms : json.Members). of_members ms before) one.2) ∙ whole.1) in
          let same : parts.0 ≡ data_on m.1 = Some_inj _ _ (sym parts.1 ∙ split.1) ∙ sym value.1 in
          let left = members_as new one.1 (put m.0 parts.0 before) whole.0 one.4 (omega (arith, deep, ap members_depth one.2)) parts.2 in
          (members_as old here.found before whole.0 begins deep whole.1).1 ∙ sym left.1 ∙ ap (λ (d : Data). members_on (put m.0 d before) new) same,
    )
