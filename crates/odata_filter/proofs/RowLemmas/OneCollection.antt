-- Of a collection one fault is the first, and one text is kept.
use Rattle.std.proofs.Common.{◌≡◌, ◌∙◌, ℕ, List, [], ◌∷◌, Option, None, Some, inl, inr, refl, sym, ap, subst}
use Rattle.serde_json.specs.Data.{Data, Items as ItemsData}
use Rattle.serde_json.specs.View.{items_of}
use Rattle.edm_values.specs.MomentParts.{MomentParts}
use Rattle.csdl_schema.specs.JsonText.{IsJsonOf}
use Rattle.line_filter.specs.Kept.{LineClass, Filters, StopsAt}
use Rattle.line_filter.specs.Once.{IsFaulty}
use Rattle.line_filter.specs.ItemIndexes.{IndexedItem}
use Rattle.line_filter.specs.declared.judge.Judgment.{Judgment}
use Rattle.line_filter.specs.declared.tally.Tally.{Tally}
use Rattle.odata_checked_filter.specs.Filter.{Filter}
use Rattle.filter_runs.specs.Collection.{IsCollectionOf, IsNoCollection, OfCollection, StopsCollection, array_of, entities_of}
use Rattle.row_judges.specs.RowJudgment.{JudgesValue}
use Rattle.row_judges.specs.RowsOnce.{AreSameJudgment}
use Rattle.odata_filter.specs.StopsOnce.{AreSameFault, IsOfDocument}
use Rattle.row_judges.specs.declared.bad_row.BadRow.{BadRow}
use Rattle.filter_runs.specs.declared.run_fault.RunFault.{RunFault}

-- ---- a document is a collection of one list of items, or it is none

one_json : (document : List ℕ) (json other : Data) → IsJsonOf document json → IsJsonOf document other → json ≡ other
one_json document json other is of =
    let one = is.1 in
    let two = of.1 in
    cc

one_list : (items other : List Data) → items_of items ≡ items_of other → items ≡ other
one_list [] [] same = refl
one_list [] (e ∷ es) same = absurd cc
one_list (d ∷ ds) [] same = absurd cc
one_list (d ∷ ds) (e ∷ es) same =
    let first : d ≡ e = cc in
    let rest : items_of ds ≡ items_of es = cc in
    ap (λ (x : Data). x ∷ ds) first ∙ ap (λ (xs : List Data). e ∷ xs) (one_list ds es rest)

same_some : (a b : ItemsData) → Some a ≡ Some b → a ≡ b
same_some a b same = cc

one_collection : (document : List ℕ) (items other : List Data) → IsCollectionOf document items → IsCollectionOf document other → items ≡ other
one_collection document items other a b =
    let json : a.json ≡ b.json = one_json document a.json b.json a.is_json b.is_json in
    one_list items other (same_some (items_of items) (items_of other) (sym a.value ∙ ap array_of json ∙ b.value))

none_some : (held : Option ItemsData) (items : ItemsData) → held ≡ None → held ≡ Some items → ⊥
none_some held items none some = absurd cc

no_collection : (document : List ℕ) (items : List Data) → IsNoCollection document → IsCollectionOf document items → ⊥
no_collection document items (inl none) a =
    let nothing = none a.is_json.0 in
    let some = a.is_json.1 in
    absurd cc
no_collection document items (inr (json, is_json, none)) a =
    none_some (array_of a.json) (items_of items) (ap array_of (one_json document a.json json a.is_json is_json) ∙ none) a.value

module _ (filter : Filter) (now : MomentParts) (once : (json : Data) (j k : Judgment BadRow) → JudgesValue filter now json j → JudgesValue filter now json k → AreSameJudgment j k)
    (stopped : (items : List Data) (text other : List ℕ) (m n : ℕ) (f g : LineClass BadRow) → IsFaulty f → IsFaulty g
    → (a : StopsAt (entities_of filter now items) text m f) → (b : StopsAt (entities_of filter now items) other n g) → (m ≡ n) × (text ≡ other) × (a.bad ≡ b.bad))
    (filtered : (items : List Data) (text other : List ℕ) (tally : Tally) (n : ℕ) (f : LineClass BadRow)
    → Filters (entities_of filter now items) text tally → IsFaulty f → StopsAt (entities_of filter now items) other n f → ⊥)
    (kept : (items : List Data) (text other : List ℕ) (m n : Tally) → Filters (entities_of filter now items) text m → Filters (entities_of filter now items) other n → (text ≡ other) × (m ≡ n)) where
  abbrev says : Data → Judgment BadRow → Type 0
  says = JudgesValue filter now

  -- two faults that are found of the first item at fault
  items_meet : (items : List Data) (text other : List ℕ) (m n : ℕ) (d e : BadRow) → StopsAt (entities_of filter now items) text m (LineClass.judged (Judgment.Fault d))
      → StopsAt (entities_of filter now items) other n (LineClass.judged (Judgment.Fault e)) → ((m ≡ n) × AreSameJudgment (Judgment.Fault d) (Judgment.Fault e)) × (text ≡ other)
  items_meet items text other m n d e a b =
      let (number, texts, bad) = stopped items text other m n (LineClass.judged (Judgment.Fault d)) (LineClass.judged (Judgment.Fault e)) (λ fine. fine) (λ fine. fine) a b in
      let there : says b.bad.item (Judgment.Fault d) = subst (λ (p : IndexedItem Data). says p.item (Judgment.Fault d)) bad a.found in
      ((number, once b.bad.item (Judgment.Fault d) (Judgment.Fault e) there b.found), texts)

  module _ (document text other : List ℕ) where
    -- a fault is found of an item
    abbrev StopsOnItem : List ℕ → ℕ → BadRow → Type 0
    StopsOnItem written line fault = OfCollection filter now document (λ items. StopsAt items written line (LineClass.judged (Judgment.Fault fault)))

    faults_meet : (m n : ℕ) (d e : BadRow) → StopsOnItem text m d → StopsOnItem other n e → ((m ≡ n) × AreSameJudgment (Judgment.Fault d) (Judgment.Fault e)) × (text ≡ other)
    faults_meet m n d e (items, is, a) (others, of, b) =
        let same : others ≡ items = one_collection document others items of is in
        items_meet items text other m n d e a (subst (λ (l : List Data). StopsAt (entities_of filter now l) other n (LineClass.judged (Judgment.Fault e))) same b)

    apart : (line : ℕ) (fault : BadRow) (written : List ℕ) → IsNoCollection document → StopsOnItem written line fault → ⊥
    apart line fault written none (items, is, a) = no_collection document items none is

    pub collection_faults_once : (f g : RunFault) → IsOfDocument f → IsOfDocument g → StopsCollection filter now document text f → StopsCollection filter now document other g
        → AreSameFault f g × (text ≡ other)
    collection_faults_once RunFault.NotACollection RunFault.NotACollection of of' a b = (tt, a.1 ∙ sym b.1)
    collection_faults_once RunFault.NotACollection (RunFault.Row n e) of of' a b = absurd (apart n (BadRow.NoEntity e) other a.0 b)
    collection_faults_once RunFault.NotACollection (RunFault.Arithmetic n e) of of' a b = absurd (apart n (BadRow.NoValue e) other a.0 b)
    collection_faults_once (RunFault.Row m d) RunFault.NotACollection of of' a b = absurd (apart m (BadRow.NoEntity d) text b.0 a)
    collection_faults_once (RunFault.Row m d) (RunFault.Row n e) of of' a b = faults_meet m n (BadRow.NoEntity d) (BadRow.NoEntity e) a b
    collection_faults_once (RunFault.Row m d) (RunFault.Arithmetic n e) of of' a b = let (at, texts) = faults_meet m n (BadRow.NoEntity d) (BadRow.NoValue e) a b in absurd at.1
    collection_faults_once (RunFault.Arithmetic m d) RunFault.NotACollection of of' a b = absurd (apart m (BadRow.NoValue d) text b.0 a)
    collection_faults_once (RunFault.Arithmetic m d) (RunFault.Row n e) of of' a b = let (at, texts) = faults_meet m n (BadRow.NoValue d) (BadRow.NoEntity e) a b in absurd at.1
    collection_faults_once (RunFault.Arithmetic m d) (RunFault.Arithmetic n e) of of' a b = faults_meet m n (BadRow.NoValue d) (BadRow.NoValue e) a b
    collection_faults_once RunFault.NotACollection (RunFault.Json n) of of' a b = absurd of'
    collection_faults_once RunFault.NotACollection (RunFault.LineTooLong n) of of' a b = absurd of'
    collection_faults_once RunFault.NotACollection (RunFault.Read n) of of' a b = absurd of'
    collection_faults_once RunFault.NotACollection RunFault.Write of of' a b = absurd of'
    collection_faults_once RunFault.NotACollection (RunFault.Memory n) of of' a b = absurd of'
    collection_faults_once (RunFault.Row m d) (RunFault.Json n) of of' a b = absurd of'
    collection_faults_once (RunFault.Row m d) (RunFault.LineTooLong n) of of' a b = absurd of'
    collection_faults_once (RunFault.Row m d) (RunFault.Read n) of of' a b = absurd of'
    collection_faults_once (RunFault.Row m d) RunFault.Write of of' a b = absurd of'
    collection_faults_once (RunFault.Row m d) (RunFault.Memory n) of of' a b = absurd of'
    collection_faults_once (RunFault.Arithmetic m d) (RunFault.Json n) of of' a b = absurd of'
    collection_faults_once (RunFault.Arithmetic m d) (RunFault.LineTooLong n) of of' a b = absurd of'
    collection_faults_once (RunFault.Arithmetic m d) (RunFault.Read n) of of' a b = absurd of'
    collection_faults_once (RunFault.Arithmetic m d) RunFault.Write of of' a b = absurd of'
    collection_faults_once (RunFault.Arithmetic m d) (RunFault.Memory n) of of' a b = absurd of'
    collection_faults_once (RunFault.Json m) g of of' a b = absurd of
    collection_faults_once (RunFault.LineTooLong m) g of of' a b = absurd of
    collection_faults_once (RunFault.Read m) g of of' a b = absurd of
    collection_faults_once RunFault.Write g of of' a b = absurd of
    collection_faults_once (RunFault.Memory m) g of of' a b = absurd of

    item_never : (tally : Tally) (line : ℕ) (fault : BadRow) → OfCollection filter now document (λ items. Filters items text tally) → StopsOnItem other line fault → ⊥
    item_never tally line fault (items, is, passes) (others, of, b) =
        let same : others ≡ items = one_collection document others items of is in
        filtered items text other tally line (LineClass.judged (Judgment.Fault fault)) passes (λ fine. fine)
        (subst (λ (l : List Data). StopsAt (entities_of filter now l) other line (LineClass.judged (Judgment.Fault fault))) same b)

    -- no fault where all items pass
    pub collection_faults_never : (tally : Tally) (f : RunFault) → OfCollection filter now document (λ items. Filters items text tally) → IsOfDocument f
        → StopsCollection filter now document other f → ⊥
    collection_faults_never tally RunFault.NotACollection passes of a = no_collection document passes.0 a.0 passes.1
    collection_faults_never tally (RunFault.Row n d) passes of a = item_never tally n (BadRow.NoEntity d) passes a
    collection_faults_never tally (RunFault.Arithmetic n d) passes of a = item_never tally n (BadRow.NoValue d) passes a
    collection_faults_never tally (RunFault.Json n) passes of a = absurd of
    collection_faults_never tally (RunFault.LineTooLong n) passes of a = absurd of
    collection_faults_never tally (RunFault.Read n) passes of a = absurd of
    collection_faults_never tally RunFault.Write passes of a = absurd of
    collection_faults_never tally (RunFault.Memory n) passes of a = absurd of

    -- one text, and one tally
    pub collection_kept_once : (m n : Tally) → OfCollection filter now document (λ items. Filters items text m) → OfCollection filter now document (λ items. Filters items other n)
        → (text ≡ other) × (m ≡ n)
    collection_kept_once m n (items, is, a) (others, of, b) =
        let same : others ≡ items = one_collection document others items of is in
        kept items text other m n a (subst (λ (l : List Data). Filters (entities_of filter now l) other n) same b)
