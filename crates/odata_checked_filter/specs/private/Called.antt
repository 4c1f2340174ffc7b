-- For private clauses: which functions a node calls, by its kind.
use Rattle.std.specs.Prelude.{Bool, true, false}
use Rattle.odata_signatures.specs.declared.function.Function.{Function}
use Rattle.odata_checked_filter.specs.declared.checked_node.NodeKind.{NodeKind}

-- the function makes a text
abbrev pub function_makes_text : Function → Bool
function_makes_text Function.Concat = true
function_makes_text Function.ToLower = true
function_makes_text Function.ToUpper = true
function_makes_text _ = false

-- the node calls one that does
abbrev pub kind_makes_text : NodeKind → Bool
kind_makes_text (NodeKind.Call function) = function_makes_text function
kind_makes_text _ = false

-- the node calls now
abbrev pub kind_is_now : NodeKind → Bool
kind_is_now NodeKind.Now = true
kind_is_now _ = false
