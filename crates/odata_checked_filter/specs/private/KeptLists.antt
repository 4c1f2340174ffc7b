-- Where a filter has its list, and what it needs of navigation. Private clauses alone cite this.
use Rattle.std.specs.Prelude.{List}
use Rattle.csdl_schema.specs.ExpansionView.{StepModel}
use Rattle.odata_checked_filter.specs.FlatTree.{FlatTree}
use Rattle.odata_checked_filter.specs.declared.list_cow.ListCow.{ListCow}
use Rattle.odata_checked_filter.specs.declared.list_cow.ListCow.TheVariants.{Own, Borrowed}

-- its own list, or the one that it borrows
abbrev pub list_in : ListCow → FlatTree
list_in (Own list expansion) = list
list_in (Borrowed list expansion) = list.now

abbrev pub expansion_in : ListCow → List StepModel
expansion_in (Own list expansion) = expansion
expansion_in (Borrowed list expansion) = expansion.now
