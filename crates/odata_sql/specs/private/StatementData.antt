-- For private clauses: a statement as JSON, member by member.
use Rattle.std.specs.Prelude.{◌≡◌, codes, string_bytes}
use Rattle.serde_json.specs.Data.{Data, Items, array, member, no_members, object, string}
use Rattle.sql_tree.specs.declared.dialect.Dialect.{Dialect}
use Rattle.odata_sql.specs.JsonText.{AreParameters}
use Rattle.odata_sql.specs.declared.translation.Statement.{Statement}

-- an object of the parameters and the text, and of nothing else
pub record IsStatementData (dialect : Dialect) (statement : Statement) (json : Data) : Type 0 where
  pub items : Items
  pub parameters : AreParameters dialect statement.parameters.items items
  pub json_is :
      json
      ≡ object (member (codes "parameters") (array items)
      (member (codes "text") (string (string_bytes statement.text)) no_members))
