-- The fault of a row, from the fault of its value.
use Rattle.std.proofs.Common.{◌≡◌, ℕ, List, [], ◌∷◌, false, Option, Some, None, String, Global, string_bytes, refl, subst}
use Rattle.serde_json.specs.Data.{Data}
use Rattle.serde_json.specs.Find.{as_object}
use Rattle.csdl_schema.specs.ExprType.{single, structured}
use Rattle.csdl_schema.specs.SchemaModel.{Slots}
use Rattle.edm_entities.specs.FitsPrimitive.{Flaw, missing, wrong_kind, null_not_allowed, out_of_range, bad_text, not_expanded}
use Rattle.edm_entities.specs.RowFaults.{Path, IsValueFault, IsFirstFaultAt, IsRowFault, IsMemory}
use Rattle.edm_entities.specs.private.Faults.{OnFlaw, IsPathText, IsFaultOf, IsReportedAs}
use Rattle.edm_entities.specs.declared.flaw.ReadFlaw.{ReadFlaw}
use Rattle.edm_entities.specs.declared.flaw.ReadFlaw.TheVariants as code
use Rattle.edm_entities.specs.declared.flaw.ReadFault.{ReadFault}
use Rattle.edm_entities.specs.declared.row_fault.RowFault.{RowFault}
use Rattle.edm_entities.specs.declared.row_fault.RowFault.TheVariants as fault

module _ (slots : Slots) (name : List ℕ) (json : Data) where
  abbrev At : Path → Flaw → Type 0
  At path flaw = IsValueFault slots false path (single (structured name)) json flaw

  -- a flaw at a path that has a text
  at_path : (flaw : Flaw) (reported : String Global) (path : Path) → IsPathText path (Some reported) → At path flaw → IsFirstFaultAt slots name json (string_bytes reported) flaw
  at_path flaw reported [] text here = absurd text
  at_path flaw reported (step ∷ path) text here = (step ∷ path, here, text)

  -- the row itself is not an object
  no_object : (flaw : Flaw) (path : Path) → IsPathText path None → At path flaw → as_object json ≡ None
  no_object wrong_kind [] text here = here
  no_object missing [] text here = absurd here
  no_object null_not_allowed [] text here = absurd here
  no_object out_of_range [] text here = absurd here
  no_object bad_text [] text here = absurd here
  no_object not_expanded [] text here = absurd here
  no_object flaw (step ∷ path) text here = absurd text

  found : (reported : ReadFault) (flaw : ReadFlaw) (path : Option (String Global)) → reported.flaw ≡ flaw → reported.path ≡ path → IsFaultOf At reported
      → OnFlaw flaw (λ f. (way : Path) × IsPathText way path × At way f)
  found reported flaw path is way fault =
      subst (λ (f : ReadFlaw). OnFlaw f (λ g. (w : Path) × IsPathText w path × At w g)) is
      (subst (λ (p : Option (String Global)). OnFlaw reported.flaw (λ g. (w : Path) × IsPathText w p × At w g)) way fault)

  nowhere : (flaw : ReadFlaw) → ¬ (flaw ≡ code.Memory) → OnFlaw flaw (λ f. (way : Path) × IsPathText way None × At way f) → as_object json ≡ None
  nowhere code.Missing memory here = no_object missing here.0 here.1 here.2
  nowhere code.WrongKind memory here = no_object wrong_kind here.0 here.1 here.2
  nowhere code.NullNotAllowed memory here = no_object null_not_allowed here.0 here.1 here.2
  nowhere code.OutOfRange memory here = no_object out_of_range here.0 here.1 here.2
  nowhere code.BadText memory here = no_object bad_text here.0 here.1 here.2
  nowhere code.NotExpanded memory here = no_object not_expanded here.0 here.1 here.2
  nowhere code.Memory memory here = absurd (memory refl)

  pub row_reported : (reported : ReadFault) (result : RowFault) → IsReportedAs reported result → IsFaultOf At reported → ¬ (IsMemory result) → IsRowFault slots name json result
  row_reported reported fault.NotObject is here some = nowhere reported.flaw is.1 (found reported reported.flaw None refl is.0 here)
  row_reported reported (fault.Missing path) is here some = let at = found reported code.Missing (Some path) is.0 is.1 here in at_path missing path at.0 at.1 at.2
  row_reported reported (fault.WrongKind path) is here some = let at = found reported code.WrongKind (Some path) is.0 is.1 here in at_path wrong_kind path at.0 at.1 at.2
  row_reported reported (fault.NullNotAllowed path) is here some = let at = found reported code.NullNotAllowed (Some path) is.0 is.1 here in at_path null_not_allowed path at.0 at.1 at.2
  row_reported reported (fault.OutOfRange path) is here some = let at = found reported code.OutOfRange (Some path) is.0 is.1 here in at_path out_of_range path at.0 at.1 at.2
  row_reported reported (fault.BadText path) is here some = let at = found reported code.BadText (Some path) is.0 is.1 here in at_path bad_text path at.0 at.1 at.2
  row_reported reported (fault.NotExpanded path) is here some = let at = found reported code.NotExpanded (Some path) is.0 is.1 here in at_path not_expanded path at.0 at.1 at.2
  row_reported reported fault.Memory is here some = absurd (some tt)
