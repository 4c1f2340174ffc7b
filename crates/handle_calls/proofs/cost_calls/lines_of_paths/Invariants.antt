use Rattle.std.proofs.Common.{◌≡◌, map, string_bytes, take}
use Rattle.handle_calls.specs.Costs.{lines_of}
use Rattle.handle_calls.proofs.cost_calls.lines_of_paths.Given as goal

-- the lines so far are those of the paths so far
abbrev pub invariant-loop-path : goal.invariant-loop-path
invariant-loop-path l = string_bytes l.lines ≡ lines_of (map string_bytes (take l.path-index l.paths))
