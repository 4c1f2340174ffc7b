-- Parentheses of SQL: those between quotes count for nothing (ISO/IEC 9075-2, sections 5.2 and 5.3).
use Rattle.std.specs.Prelude.{◌≡◌, ◌≢◌, ℕ, zero, suc, List, [], ◌∷◌, if◌then◌else◌, nat_eq}
use Rattle.std.specs.List.{AllByRecursion}
use Rattle.csdl_schema.specs.EnumerationText.{members_in}
use Rattle.csdl_schema.specs.SchemaModel.{enumeration_at}
use Rattle.sql_tree.specs.PathText.{step_name}
use Rattle.sql_tree.specs.TableModel.{TableModel}
use Rattle.sql_tree.specs.declared.json_path.Step.{Step}

-- what has been read of a text: it is outside quotes, within a text or within a name, with so many parentheses open; or
-- one has been closed that was not open
pub data Reading : Type 0 where
  outside : ℕ → Reading
  in_text : ℕ → Reading
  in_name : ℕ → Reading
  broken : Reading

abbrev pub closed : ℕ → Reading
closed zero = broken
closed (suc depth) = outside depth

-- one character more
abbrev pub next : Reading → ℕ → Reading
next (outside depth) c =
    if nat_eq c 40 then outside (suc depth) else if nat_eq c 41 then closed depth
    else if nat_eq c 39 then in_text depth else if nat_eq c 34 then in_name depth else outside depth
next (in_text depth) c = if nat_eq c 39 then outside depth else in_text depth
next (in_name depth) c = if nat_eq c 34 then outside depth else in_name depth
next broken c = broken

abbrev pub read : Reading → List ℕ → Reading
read reading [] = reading
read reading (c ∷ cs) = read (next reading c) cs

-- each parenthesis that is opened is closed, and none other; each quote is ended
abbrev pub AreBalanced : List ℕ → Type 0
AreBalanced text = read (outside 0) text ≡ outside 0

-- no character of it is a quote
abbrev pub HasNoQuote : List ℕ → Type 0
HasNoQuote = AllByRecursion (λ c. c ≢ 39)

-- no name of a property or of an enumeration's member has one
pub record AreNamesPlain (table : TableModel) : Type 0 where
  pub steps : (step : Step) → HasNoQuote (step_name table step)
  pub members : (id : ℕ) → AllByRecursion (λ m. HasNoQuote m.name) (members_in (enumeration_at table.schema id))
