-- For private clauses: the fault of a page, by that of a run over the lines of its items.
use Rattle.std.specs.Prelude.{◌≡◌, ◌⊎◌}
use Rattle.filter_runs.specs.declared.run_fault.RunFault.{RunFault}

-- the fault itself, or that what follows the item is no JSON, or that an allocation failed
abbrev pub StandsOrYields : RunFault → RunFault → Type 0
StandsOrYields fault result = (result ≡ fault) ⊎ ((result ≡ RunFault.NotACollection) ⊎ (result ≡ RunFault.Memory 0))

-- a line that is no JSON makes the document none; a read that fails is of no line
abbrev pub IsPageFault : RunFault → RunFault → Type 0
IsPageFault (RunFault.Json line) result = result ≡ RunFault.NotACollection
IsPageFault (RunFault.Read line) result = (result ≡ RunFault.Memory 0) ⊎ (result ≡ RunFault.Read 0)
IsPageFault (RunFault.Row line fault) result = StandsOrYields (RunFault.Row line fault) result
IsPageFault (RunFault.Arithmetic line fault) result = StandsOrYields (RunFault.Arithmetic line fault) result
IsPageFault (RunFault.LineTooLong line) result = result ≡ RunFault.LineTooLong line
IsPageFault RunFault.NotACollection result = result ≡ RunFault.NotACollection
IsPageFault RunFault.Write result = result ≡ RunFault.Write
IsPageFault (RunFault.Memory line) result = result ≡ RunFault.Memory line
