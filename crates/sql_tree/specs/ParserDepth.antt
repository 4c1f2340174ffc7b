-- How many symbols SQLite's parser holds at most at a time while it reads the text of a tree: those of what has not
-- ended yet. A token that is open is one; an operand or a list of arguments that has ended is one, whatever is in it.
-- So `(` is one symbol, an operand with the sign after it two, `f(` three with an empty DISTINCT, arguments with the
-- comma after them two, and `(SELECT` five with what may stand before its first column. They are counted by the grammar
-- of SQLite 3.40, and measured.
use Rattle.std.specs.Prelude.{ℕ, zero, suc, ◌+◌, ◌-◌, ◌*◌, max, min}
use Rattle.edm_values.specs.declared.primitive.PrimitiveType.{PrimitiveType}
use Rattle.sql_tree.specs.Term.{Term, Terms, term, no_terms, more_terms}
use Rattle.sql_tree.specs.declared.sql_node.FieldType.{FieldType}
use Rattle.sql_tree.specs.declared.sql_node.SqlFunction.{SqlFunction}
use Rattle.sql_tree.specs.declared.sql_node.SqlNode.{SqlNode}

-- ---- of a node itself, apart from its children

abbrev pub own_of_function : SqlFunction → ℕ
own_of_function SqlFunction.Instant = 32
own_of_function SqlFunction.OffsetMinutes = 21
own_of_function SqlFunction.Second = 18
own_of_function SqlFunction.StartsWith = 18
own_of_function SqlFunction.EndsWith = 19
own_of_function SqlFunction.RestFrom = 14
own_of_function SqlFunction.PartFrom = 14
own_of_function SqlFunction.Trim = 14
own_of_function function = 8

abbrev pub own_of_field : FieldType → ℕ
own_of_field (FieldType.Prim PrimitiveType.Guid) = 9
own_of_field (FieldType.Prim prim) = 8
own_of_field (FieldType.Enum id) = 37

abbrev pub own_symbols : SqlNode → ℕ
own_symbols (SqlNode.Field path type) = own_of_field type
own_symbols (SqlNode.Exists path level) = 17
own_symbols (SqlNode.Least path level) = 16
own_symbols (SqlNode.Count path) = 9
own_symbols (SqlNode.IsMissing path) = 7
own_symbols (SqlNode.Function function) = own_of_function function
own_symbols node = 3

-- ---- of a node while a child is read, after so many others, two at most

-- before any child, and after some
abbrev pub after_first : ℕ → ℕ → ℕ → ℕ
after_first zero first later = first
after_first (suc done) first later = later

abbrev pub kept_of_function : SqlFunction → ℕ → ℕ
kept_of_function SqlFunction.Concat done = 1 + 2 * done
kept_of_function SqlFunction.Contains done = 4 + 2 * done
kept_of_function SqlFunction.IndexOf done = 4 + 2 * done
kept_of_function SqlFunction.Length done = 3
kept_of_function SqlFunction.Trim done = 3
kept_of_function SqlFunction.ToLower done = 3
kept_of_function SqlFunction.ToUpper done = 3
kept_of_function SqlFunction.DateOfMoment done = 3
kept_of_function SqlFunction.RestFrom done = 3 + 8 * done
kept_of_function SqlFunction.PartFrom done = after_first done 3 11
kept_of_function SqlFunction.StartsWith done = 11
kept_of_function SqlFunction.EndsWith done = 11
kept_of_function SqlFunction.Second done = 11
kept_of_function SqlFunction.OffsetMinutes done = 11
kept_of_function SqlFunction.Instant done = 11
kept_of_function function done = 5

-- beside a range of a type
abbrev pub kept_of_range : PrimitiveType → ℕ
kept_of_range PrimitiveType.Int64 = 5
kept_of_range type = 1

abbrev pub kept_of_node : SqlNode → ℕ → ℕ
kept_of_node SqlNode.Case done = after_first done 4 (7 - done)
kept_of_node SqlNode.Coalesce done = 3 + 2 * done
kept_of_node (SqlNode.LookUp table) done = 9
kept_of_node (SqlNode.Let level count) done = after_first done 5 11
kept_of_node (SqlNode.Exists path level) done = 8
kept_of_node (SqlNode.Least path level) done = 8
kept_of_node (SqlNode.Unfault carrier) done = 6
kept_of_node (SqlNode.Within type) done = kept_of_range type
kept_of_node (SqlNode.Among count type) done = after_first done 1 6
kept_of_node SqlNode.HasBits done = 3 + done
kept_of_node (SqlNode.Function function) done = kept_of_function function done
kept_of_node SqlNode.Not done = 2
kept_of_node SqlNode.TruthCode done = 2
kept_of_node (SqlNode.FaultCode carrier) done = 2
kept_of_node (SqlNode.FaultOfCode carrier) done = 2
kept_of_node (SqlNode.Decided quantifier level) done = 2
kept_of_node node done = 1 + 2 * done

-- the same from the third child on
abbrev pub kept_symbols : SqlNode → ℕ → ℕ
kept_symbols node others = kept_of_node node (min others 2)

-- ---- of a tree

abbrev mutual
  -- the most that are kept at a time
  pub symbols_of : Term → ℕ
  symbols_of (term node children) = max (own_symbols node) (symbols_among node 0 children)

  -- the most while the children are read of which so many have ended
  pub symbols_among : SqlNode → ℕ → Terms → ℕ
  symbols_among node done no_terms = 0
  symbols_among node done (more_terms first rest) =
      max (kept_symbols node done + symbols_of first) (symbols_among node (done + 1) rest)
