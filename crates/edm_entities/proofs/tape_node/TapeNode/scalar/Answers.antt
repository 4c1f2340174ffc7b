use Rattle.std.proofs.Common.{◌≡◌, List, Option, Some, None, refl, sym, subst}
use Rattle.std.specs.Prelude.{IfSome, IsSome}
use Rattle.json.specs.Token.{Token}
use Rattle.serde_json.specs.Data.{Data, Num, boolean, number, string}
use Rattle.serde_json.specs.Find.{as_bool, as_number, as_str}
use Rattle.edm_entities.specs.private.Scalars.{IsJsonNumber}
use Rattle.edm_entities.specs.private.TapeNodes.{data_on}
use Rattle.edm_entities.proofs.TapeLemmas.Nodes.{bool_is, boolean_data, number_is, str_is, string_data}
use Rattle.edm_entities.proofs.tape_node.TapeNode.scalar.Goals as goal

pub number_on_tape-requires : goal.number_on_tape-requires
number_on_tape-requires c =
    let has = number_is c.self.inside.element c.self.invariant (Some c.in-Some-as_number.text.now) c.in-Some-as_number.ensures in
    subst (λ (o : Option Num). IsSome o) (sym has.1) refl

pub returns-in-Some : goal.returns-in-Some
returns-in-Some c =
    subst (λ (ts : List Token). data_on ts ≡ string c.in-Some.text.now) c.self.view_is
    (string_data (data_on c.self.inside.element) c.in-Some.text.now (str_is c.self.inside.element c.self.invariant (Some c.in-Some.text.now) c.in-Some.ensures))

pub returns-in-Some-as_number : goal.returns-in-Some-as_number
returns-in-Some-as_number c =
    let has = number_is c.self.inside.element c.self.invariant (Some c.in-Some-as_number.text.now) c.in-Some-as_number.ensures in
    let is : IsJsonNumber c.number_on_tape.result (number has.0) =
    subst (λ (o : Option Num). IfSome o (λ value. IsJsonNumber c.number_on_tape.result (number value))) has.1 c.number_on_tape.ensures in
    subst (λ (ts : List Token). IsJsonNumber c.number_on_tape.result (data_on ts)) c.self.view_is
    (subst (λ (d : Data). IsJsonNumber c.number_on_tape.result d) (sym has.2) is)

pub returns-in-Some-as_bool : goal.returns-in-Some-as_bool
returns-in-Some-as_bool c =
    subst (λ (ts : List Token). data_on ts ≡ boolean c.in-Some-as_bool.truth) c.self.view_is
    (boolean_data (data_on c.self.inside.element) c.in-Some-as_bool.truth
    (bool_is c.self.inside.element c.self.invariant (Some c.in-Some-as_bool.truth) c.in-Some-as_bool.ensures))

pub returns-in-None-as_bool : goal.returns-in-None-as_bool
returns-in-None-as_bool c =
    subst (λ (ts : List Token). (as_bool (data_on ts) ≡ None) × (as_number (data_on ts) ≡ None) × (as_str (data_on ts) ≡ None)) c.self.view_is (
      sym (bool_is c.self.inside.element c.self.invariant None c.in-None-as_bool.ensures),
      number_is c.self.inside.element c.self.invariant None c.in-None-as_number.ensures,
      sym (str_is c.self.inside.element c.self.invariant None c.in-None.ensures),
    )
