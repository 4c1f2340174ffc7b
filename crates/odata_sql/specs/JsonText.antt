-- Conditions as a JSON text: an object with a member for each (RFC 8259).
use Rattle.std.specs.Prelude.{◌≡◌, ℕ, List, [], ◌∷◌, codes, string_bytes, Option, Some, None, IsSomeAnd}
use Rattle.serde_json.specs.Data.{Data, Items, no_items, item, array, number, string}
use Rattle.serde_json.specs.Find.{get, of_integer}
use Rattle.serde_json.specs.Read.{read}
use Rattle.sql_tree.specs.GivenText.{given_text}
use Rattle.sql_tree.specs.declared.dialect.Dialect.{Dialect}
use Rattle.sql_tree.specs.declared.parameter.Parameter.{Parameter}
use Rattle.odata_sql.specs.declared.translation.Conditions.{Conditions}
use Rattle.odata_sql.specs.declared.translation.Statement.{Statement}

-- a whole number is that number, a text that text, and an instant the text that the engine is given for it
abbrev pub IsParameter : Dialect → Parameter → Data → Type 0
IsParameter dialect (Parameter.Whole n) json = json ≡ number (of_integer n)
IsParameter dialect (Parameter.Text text) json = json ≡ string (string_bytes text)
IsParameter dialect (Parameter.Instant n) json = json ≡ string (given_text dialect (Parameter.Instant n))

-- one after another
abbrev pub AreParameters : Dialect → List Parameter → Items → Type 0
AreParameters dialect [] no_items = Unit {0}
AreParameters dialect (parameter ∷ parameters) (item json items) =
    IsParameter dialect parameter json × AreParameters dialect parameters items
AreParameters dialect parameters items = ⊥

-- an object with the statement's text and its parameters in order
pub record IsStatement (dialect : Dialect) (statement : Statement) (json : Data) : Type 0 where
  pub text_is : get (codes "text") json ≡ Some (string (string_bytes statement.text))
  pub items : Items
  pub parameters_are : get (codes "parameters") json ≡ Some (array items)
  pub parameters : AreParameters dialect statement.parameters.items items

-- no member where there is no statement
abbrev pub IsStatementOrNone : Dialect → Option Statement → Option Data → Type 0
IsStatementOrNone dialect (Some statement) found = IsSomeAnd found (IsStatement dialect statement)
IsStatementOrNone dialect None found = found ≡ None

-- an object with the three statements
pub record IsConditions (dialect : Dialect) (conditions : Conditions) (json : Data) : Type 0 where
  pub outcome : IsSomeAnd (get (codes "outcome") json) (IsStatement dialect conditions.outcome)
  pub keep : IsSomeAnd (get (codes "keep") json) (IsStatement dialect conditions.keep)
  pub fault : IsStatementOrNone dialect conditions.fault (get (codes "fault") json)

-- the text reads as such an object
abbrev pub IsTextOf : Dialect → Conditions → List ℕ → Type 0
IsTextOf dialect conditions text = IsSomeAnd (read text) (IsConditions dialect conditions)
