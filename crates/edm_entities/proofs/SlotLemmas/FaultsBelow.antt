-- A fault that is reported from a step further up, and the fault of a row.
use Rattle.std.proofs.Common.{◌≡◌, inl, inr, ℕ, List, [], ◌∷◌, None, sym, subst}
use Rattle.edm_entities.specs.FitsPrimitive.{Flaw, missing, wrong_kind, null_not_allowed, out_of_range, bad_text, not_expanded}
use Rattle.edm_entities.specs.RowFaults.{Path}
use Rattle.edm_entities.specs.private.Faults.{OnFlaw, IsPathText, IsFaultOf, IsBelow}
use Rattle.edm_entities.specs.declared.flaw.ReadFlaw.{ReadFlaw}
use Rattle.edm_entities.specs.declared.flaw.ReadFlaw.TheVariants as code
use Rattle.edm_entities.specs.declared.flaw.ReadFault.{ReadFault}

pub on_flaw : (reported : ReadFlaw) (P Q : Flaw → Type 0) → ((flaw : Flaw) → P flaw → Q flaw) → OnFlaw reported P → OnFlaw reported Q
on_flaw code.Missing P Q by holds = by missing holds
on_flaw code.WrongKind P Q by holds = by wrong_kind holds
on_flaw code.NullNotAllowed P Q by holds = by null_not_allowed holds
on_flaw code.OutOfRange P Q by holds = by out_of_range holds
on_flaw code.BadText P Q by holds = by bad_text holds
on_flaw code.NotExpanded P Q by holds = by not_expanded holds
on_flaw code.Memory P Q by holds = tt

-- a flaw of a value itself has the way without steps
pub flaw_here : (P : Path → Flaw → Type 0) (reported : ReadFault) → reported.path ≡ None → OnFlaw reported.flaw (P []) → IsFaultOf P reported
flaw_here P reported none holds =
    on_flaw reported.flaw (P []) (λ flaw. (path : Path) × IsPathText path reported.path × P path flaw)
    (λ flaw here. ([], subst (IsPathText []) (sym none) tt, here)) holds

pub fault_by : (P Q : Path → Flaw → Type 0) (reported : ReadFault) → ((path : Path) (flaw : Flaw) → P path flaw → Q path flaw) → IsFaultOf P reported → IsFaultOf Q reported
fault_by P Q reported by fault =
    on_flaw reported.flaw (λ flaw. (path : Path) × IsPathText path reported.path × P path flaw) (λ flaw. (path : Path) × IsPathText path reported.path × Q path flaw)
    (λ flaw here. (here.0, here.1, by here.0 flaw here.2)) fault

-- a fault within a part is a fault of the whole
pub fault_below : (P Q : Path → Flaw → Type 0) (step : List ℕ) (reported result : ReadFault) → IsBelow step reported result
    → ((path : Path) (flaw : Flaw) → P path flaw → Q (step ∷ path) flaw) → IsFaultOf P reported → IsFaultOf Q result
fault_below P Q step reported result (inl memory) by fault =
    subst (λ (f : ReadFlaw). OnFlaw f (λ flaw. (path : Path) × IsPathText path result.path × Q path flaw)) (sym memory) tt
fault_below P Q step reported result (inr (same, texts)) by fault =
    subst (λ (f : ReadFlaw). OnFlaw f (λ flaw. (path : Path) × IsPathText path result.path × Q path flaw)) (sym same)
    (on_flaw reported.flaw (λ flaw. (path : Path) × IsPathText path reported.path × P path flaw) (λ flaw. (path : Path) × IsPathText path result.path × Q path flaw)
    (λ flaw here. (step ∷ here.0, texts here.0 here.1, by here.0 flaw here.2)) fault)
