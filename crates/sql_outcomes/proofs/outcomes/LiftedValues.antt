-- What operands evaluate to in the body of a `Let` that binds some of them.
use Rattle.sql_outcomes.proofs.Common.{◌≡◌, ◌++◌, ◌∷◌, [], ◌+◌, ℕ, suc, List, Bool, true, false, Option, Some, None, map, length, refl, sym, ap, subst, ◌∙◌, append_assoc, append-nil, arith, length-append, IsSomeAnd, slice_get, Val, Filter, goes_there, there_found, Outcome, gives, without_fault, BaseGives, PathGives, PlaceGives, Asked, Bound, BoundValue, bound_value, Carrier, Base, Path, Operand, Source, AllHave, AreChosen, carrier_in, chosen, chosen_of, in_let, unfaulted_by, within_let, SourceHas, bound_source, World, extended}
use Rattle.sql_outcomes.proofs.outcomes.Apart.{at_end}
use Rattle.sql_outcomes.proofs.nodes.Binding.{found, stays}

-- ---- what is bound further in changes nothing

found_stays : (bound more : Bound) (level : ℕ) (P : BoundValue → Type 0) → IsSomeAnd (slice_get bound level) P → IsSomeAnd (slice_get (bound ++ more) level) P
found_stays bound more level P is =
    let b = found (slice_get bound level) P is in
    subst (λ (o : Option BoundValue). IsSomeAnd o P) (sym (stays bound more level b.0 b.1)) b.2

base_stays : (asked : Asked) (bound more : Bound) (base : Base) (v : Val) → BaseGives asked bound base v → BaseGives asked (bound ++ more) base v
base_stays asked bound more (Base.Member level) v is = found_stays bound more level (λ b. b.value ≡ gives v) is
base_stays asked bound more _ v is = is

pub place_stays : (asked : Asked) (bound more : Bound) (path : ℕ) (v : Val) → PlaceGives asked bound path v → PlaceGives asked (bound ++ more) path v
place_stays asked bound more path v is =
    goes_there (slice_get asked.paths path) (λ (p : Path). PathGives asked bound p v) (λ (p : Path). PathGives asked (bound ++ more) p v)
    (λ p gives_it. (gives_it.0, base_stays asked bound more p.base gives_it.0 gives_it.1, gives_it.2)) is

pub source_stays : (filter : Filter) (source : Source) (world : World) (more : List BoundValue) (o : Outcome) → SourceHas filter source world o → SourceHas filter source (extended world more) o
source_stays filter (Source.Node place) world more o has = (has.0, record { stop = has.1.stop; stands = has.1.stands }, has.2)
source_stays filter (Source.Bound level) world more o has = found_stays world.bound more level (λ b. o ≡ b.value) has
source_stays filter (Source.Unfaulted level carrier) world more o has = found_stays world.bound more level (λ b. o ≡ without_fault b.value) has
source_stays filter (Source.Field path type) world more o has = (has.0, place_stays world.asked world.bound more path has.0 has.1, has.2, has.3)
source_stays filter (Source.Place path) world more o has = (has.0, place_stays world.asked world.bound more path has.0 has.1, has.2)
source_stays filter _ world more o has = has

-- ---- what is bound

bound_has : (filter : Filter) (world : World) (before rest : List BoundValue) (level : ℕ) (o : Outcome) (carrier : Option Carrier) → level ≡ length (world.bound ++ before)
    → SourceHas filter (bound_source carrier level) (extended world (before ++ bound_value o ∷ rest)) (unfaulted_by carrier o)
bound_has filter world before rest level o carrier is = of_carrier carrier
  where
    at : slice_get (world.bound ++ (before ++ bound_value o ∷ rest)) level ≡ Some (bound_value o)
    at =
        ap (λ (k : ℕ). slice_get (world.bound ++ (before ++ bound_value o ∷ rest)) k) is
        ∙ ap (λ (bs : List BoundValue). slice_get bs (length (world.bound ++ before))) (sym (append_assoc world.bound before (bound_value o ∷ rest)))
        ∙ at_end (world.bound ++ before) rest (bound_value o)

    of_carrier : (c : Option Carrier) → SourceHas filter (bound_source c level) (extended world (before ++ bound_value o ∷ rest)) (unfaulted_by c o)
    of_carrier (Some c) = there_found (λ (b : BoundValue). without_fault o ≡ without_fault b.value) (slice_get (world.bound ++ (before ++ bound_value o ∷ rest)) level) (bound_value o) at refl
    of_carrier None = there_found (λ (b : BoundValue). o ≡ b.value) (slice_get (world.bound ++ (before ++ bound_value o ∷ rest)) level) (bound_value o) at refl

module _ (filter : Filter) (world : World) where
  inner_have : (before : List BoundValue) (level : ℕ) (choices : List Bool) (operands : List Operand) (os : List Outcome) → level ≡ length (world.bound ++ before) → AreChosen choices operands
      → AllHave filter operands world os
      → AllHave filter (within_let level choices operands) (extended world (before ++ map bound_value (chosen_of choices os))) (in_let choices operands os)
  inner_have before level [] [] os is are have = refl
  inner_have before level [] (operand ∷ operands) os is are have = absurd are
  inner_have before level (true ∷ choices) [] os is are have = absurd are
  inner_have before level (false ∷ choices) [] os is are have = absurd are
  inner_have before level (true ∷ choices) (operand ∷ operands) [] is are have = absurd have
  inner_have before level (false ∷ choices) (operand ∷ operands) [] is are have = absurd have
  inner_have before level (true ∷ choices) (operand ∷ operands) (o ∷ os) is are have =
      let further : level + 1 ≡ length (world.bound ++ (before ++ bound_value o ∷ [])) =
      omega (arith, is, length-append world.bound before, length-append world.bound (before ++ bound_value o ∷ []), length-append before (bound_value o ∷ [])) in (
        bound_has filter world before (map bound_value (chosen_of choices os)) level o (carrier_in operand) is,
        subst (λ (bs : List BoundValue). AllHave filter (within_let (level + 1) choices operands) (extended world bs) (in_let choices operands os))
            (append_assoc before (bound_value o ∷ []) (map bound_value (chosen_of choices os)))
            (inner_have (before ++ bound_value o ∷ []) (level + 1) choices operands os further are have.1),
      )
  inner_have before level (false ∷ choices) (operand ∷ operands) (o ∷ os) is are have =
      (source_stays filter operand.source world (before ++ map bound_value (chosen_of choices os)) o have.0, inner_have before level choices operands os is are.1 have.1)

  -- the operands of the body evaluate to these, where those that are bound evaluate to what they do
  pub body_have : (level : ℕ) (choices : List Bool) (operands : List Operand) (os : List Outcome) → level ≡ length world.bound → AreChosen choices operands → AllHave filter operands world os
      → AllHave filter (within_let level choices operands) (extended world (map bound_value (chosen_of choices os))) (in_let choices operands os)
  body_have level choices operands os is are have = inner_have [] level choices operands os (is ∙ ap length (sym (append-nil world.bound))) are have

  pub chosen_have : (choices : List Bool) (operands : List Operand) (os : List Outcome) → AreChosen choices operands → AllHave filter operands world os
      → AllHave filter (chosen choices operands) world (chosen_of choices os)
  chosen_have [] [] os are have = refl
  chosen_have [] (operand ∷ operands) os are have = absurd are
  chosen_have (true ∷ choices) [] os are have = absurd are
  chosen_have (false ∷ choices) [] os are have = absurd are
  chosen_have (true ∷ choices) (operand ∷ operands) [] are have = absurd have
  chosen_have (false ∷ choices) (operand ∷ operands) [] are have = absurd have
  chosen_have (true ∷ choices) (operand ∷ operands) (o ∷ os) are have = (have.0, chosen_have choices operands os are have.1)
  chosen_have (false ∷ choices) (operand ∷ operands) (o ∷ os) are have = chosen_have choices operands os are.1 have.1

  pub as_many : (operands : List Operand) (os : List Outcome) → AllHave filter operands world os → length os ≡ length operands
  as_many [] os have = ap length have
  as_many (operand ∷ operands) [] have = absurd have
  as_many (operand ∷ operands) (o ∷ os) have = ap suc (as_many operands os have.1)
