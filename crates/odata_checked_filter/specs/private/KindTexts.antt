-- For private clauses: the words of operators, by the kinds of their nodes.
use Rattle.std.specs.Prelude.{ℕ, List, [], codes}
use Rattle.odata_syntax.specs.Lexeme.{operator_word}
use Rattle.odata_checked_filter.specs.declared.checked_node.NodeKind.{NodeKind}

-- the word of the operator of a node of the kind; none for one without an operator
abbrev pub kind_word : NodeKind → List ℕ
kind_word NodeKind.Neg = codes "-"
kind_word NodeKind.Not = codes "not"
kind_word (NodeKind.Binary operator) = operator_word operator
kind_word NodeKind.Has = codes "has"
kind_word NodeKind.InList = codes "in"
kind_word NodeKind.InPath = codes "in"
kind_word _ = []
