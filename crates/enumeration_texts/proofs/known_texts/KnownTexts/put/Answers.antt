use Rattle.std.proofs.Common.{◌≡◌, ◌<◌, ◌-◌, ◌++◌, List, None, take, replicate, is_ok, true, false, sym, subst, arith, rules}
use Rattle.enumeration_texts.specs.EnumerationTexts.{AreOfEnumerations}
use Rattle.enumeration_texts.specs.declared.known_texts.KnownText.{KnownText}
use Rattle.enumeration_texts.specs.private.KnownTexts.{AreSpelled, IsOfItsOwn, IsSpelled, stored_texts}
use Rattle.enumeration_texts.proofs.TextsStored.{all_own, each_filled, each_resized, each_set, each_stays, own_each}
use Rattle.enumeration_texts.proofs.known_texts.KnownTexts.put.Goals as goal

-- what is put where no text is stored
abbrev nothing : KnownText
nothing = record { id = None; length = 16; front = replicate 16 0; mask = replicate 16 0 }

pub invariant_of-self : goal.invariant_of-self
invariant_of-self c at =
    let old = c.self.inside.stored.items in
    let ok : is_ok c.resize.result ≡ true = search rules in
    each_set c.resize.new.self.items c.index_of.result at c.in-Some.known (λ (k : KnownText). k.length < 16 → IsSpelled k) (λ _. c.in-Some.ensures.spelled)
    (each_resized (is_ok c.resize.result) c.resize.new.self.items old (take 32 old ++ replicate (32 - c.self.inside.stored.len) nothing) (λ (k : KnownText). k.length < 16 → IsSpelled k) ok c.resize.ensures.items
    (λ i. each_filled old 32 (32 - c.self.inside.stored.len) i nothing (λ (k : KnownText). k.length < 16 → IsSpelled k) (λ short. absurd (omega (arith, short))) c.self.invariant) at)

pub returns-then-is_ok : goal.returns-then-is_ok
returns-then-is_ok c =
    let schema = c.args.schema.now in
    let old = c.self.inside.stored.items in
    let ok : is_ok c.resize.result ≡ true = search rules in
    let own = own_each schema old (subst (AreOfEnumerations schema) (sym c.self.view_is) c.requires) in
    all_own schema _
    (λ at. each_set c.resize.new.self.items c.index_of.result at c.in-Some.known (IsOfItsOwn schema) c.in-Some.ensures.known
    (each_resized (is_ok c.resize.result) c.resize.new.self.items old (take 32 old ++ replicate (32 - c.self.inside.stored.len) nothing) (IsOfItsOwn schema) ok c.resize.ensures.items
    (λ i. each_filled old 32 (32 - c.self.inside.stored.len) i nothing (IsOfItsOwn schema) (λ id is. let none_is = is in absurd cc) own) at))

-- out of memory all stays
pub invariant_of-self-else-is_ok : goal.invariant_of-self-else-is_ok
invariant_of-self-else-is_ok c =
    let old = c.self.inside.stored.items in
    let failed : is_ok c.resize.result ≡ false = search rules in
    subst AreSpelled (sym (each_stays (is_ok c.resize.result) c.resize.new.self.items old (take 32 old ++ replicate (32 - c.self.inside.stored.len) nothing) failed c.resize.ensures.items)) c.self.invariant

pub returns-else-is_ok : goal.returns-else-is_ok
returns-else-is_ok c =
    let schema = c.args.schema.now in
    let old = c.self.inside.stored.items in
    let failed : is_ok c.resize.result ≡ false = search rules in
    subst (λ (stored : List KnownText). AreOfEnumerations schema (stored_texts stored)) (sym (each_stays (is_ok c.resize.result) c.resize.new.self.items old (take 32 old ++ replicate (32 - c.self.inside.stored.len) nothing) failed c.resize.ensures.items))
    (subst (AreOfEnumerations schema) (sym c.self.view_is) c.requires)
