-- Trees whose nodes have as many children as they take, and nodes that name what is there.
use Rattle.std.specs.Prelude.{◌≡◌, ◌+◌, ℕ, zero, suc, List}
use Rattle.sql_tree.specs.TableDigits.{arity_of_table}
use Rattle.sql_tree.specs.TableModel.{TableModel}
use Rattle.sql_tree.specs.Term.{Term, Terms, term, no_terms, more_terms}
use Rattle.sql_tree.specs.TreeText.{CountsFit, NamesWhatIs, count_of}
use Rattle.sql_tree.specs.declared.sql_node.SqlFunction.{SqlFunction}
use Rattle.sql_tree.specs.declared.sql_node.SqlNode.{SqlNode}
use Rattle.sql_tree.specs.declared.json_path.Path.{Path}

abbrev pub arity_of_function : SqlFunction → ℕ
arity_of_function SqlFunction.Contains = 2
arity_of_function SqlFunction.StartsWith = 2
arity_of_function SqlFunction.EndsWith = 2
arity_of_function SqlFunction.Concat = 2
arity_of_function SqlFunction.IndexOf = 2
arity_of_function SqlFunction.RestFrom = 2
arity_of_function SqlFunction.PartFrom = 3
arity_of_function function = 1

-- how many children a node takes
abbrev pub arity : SqlNode → ℕ
arity (SqlNode.Parameter place type) = 0
arity (SqlNode.Null type) = 0
arity (SqlNode.Truth value) = 0
arity (SqlNode.Number value) = 0
arity (SqlNode.Column slot) = 0
arity (SqlNode.Field path type) = 0
arity (SqlNode.IsMissing path) = 0
arity (SqlNode.Count path) = 0
arity (SqlNode.Bound level) = 0
arity (SqlNode.Fault carrier fault) = 0
arity SqlNode.And = 2
arity SqlNode.Or = 2
arity (SqlNode.Compare operator type) = 2
arity (SqlNode.Same type) = 2
arity SqlNode.Case = 3
arity SqlNode.Coalesce = 2
arity (SqlNode.Plain operator) = 2
arity (SqlNode.Wide operator) = 2
arity SqlNode.Bits = 2
arity SqlNode.HasBits = 2
arity (SqlNode.Function function) = arity_of_function function
arity (SqlNode.LookUp table) = arity_of_table table
arity (SqlNode.Let level count) = count + 1
arity (SqlNode.Among count type) = count + 1
arity node = 1

-- a `Let` binds something, and a list has items
abbrev pub BindsSome : SqlNode → Type 0
BindsSome (SqlNode.Let level zero) = ⊥
BindsSome (SqlNode.Among zero type) = ⊥
BindsSome node = Unit {0}

abbrev mutual
  -- each node has as many children as it takes
  pub IsShaped : Term → Type 0
  IsShaped (term node children) = (count_of children ≡ arity node) × AreShaped children

  pub AreShaped : Terms → Type 0
  AreShaped no_terms = Unit {0}
  AreShaped (more_terms first rest) = IsShaped first × AreShaped rest

-- what the node names is there, and what it counts is something and fits
abbrev pub IsThere : TableModel → List Path → SqlNode → Type 0
IsThere table paths node = NamesWhatIs table paths node × CountsFit node × BindsSome node
