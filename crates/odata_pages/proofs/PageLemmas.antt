-- What a run over the lines of a page's items says of the page.
use Rattle.std.proofs.Common.{◌≡◌, ◌⊎◌, inl, inr, ℕ, List, ◌∷◌, ◌++◌, Option, None, Some, refl, sym, ap, ◌∙◌, subst}
use Rattle.std.proofs.lemmas.List.{append_assoc}
use Rattle.std.specs.Prelude.{IfSome, IsSomeAnd, map}
use Rattle.edm_values.specs.MomentParts.{MomentParts}
use Rattle.line_filter.specs.declared.tally.Tally.{Tally}
use Rattle.line_filter.specs.Growth.{Writes}
use Rattle.line_filter.specs.Kept.{Filters}
use Rattle.collection_items.specs.ItemLines.{in_line}
use Rattle.collection_reader.specs.Pages.{AreItemLinesOf, BreaksOff, lines_of}
use Rattle.odata_checked_filter.specs.Filter.{Filter}
use Rattle.row_judges.specs.RowJudgment.{rows_of}
use Rattle.odata_pages.specs.Pages.{FiltersPage}
use Rattle.odata_pages.proofs.NoTextLemmas.{no_rows}

-- lines that break off have a byte that no text has
marked : (lines first end begun after : List ℕ) → lines ≡ first ++ end → end ≡ begun ++ 255 ∷ after → lines ≡ (first ++ begun) ++ 255 ∷ after
marked lines first end begun after is ends = is ∙ ap (λ (t : List ℕ). first ++ t) ends ∙ sym (append_assoc first begun (255 ∷ after))

-- the lines of a page of which none is at fault
page_of : (filter : Filter) (now : MomentParts) (bytes lines text : List ℕ) (tally : Tally) → AreItemLinesOf bytes lines ⊎ BreaksOff bytes lines
    → Filters (rows_of filter now lines) text tally → FiltersPage filter now bytes text tally
page_of filter now bytes lines text tally (inl are) filters = record { lines = lines; are_lines = are; filters = filters }
page_of filter now bytes lines text tally (inr broken) filters =
    let begun = map in_line broken.breaks.begun in
    let is = marked lines (lines_of broken.texts) broken.end begun broken.breaks.after broken.are_lines broken.breaks.ends in
    absurd (no_rows filter now (lines_of broken.texts ++ begun) broken.breaks.after text tally (subst (λ (t : List ℕ). Filters (rows_of filter now t) text tally) is filters))

-- the same of what the reader of the document had, and what the one of its lines has
pub page_filtered : (filter : Filter) (now : MomentParts) (document lines left old new : Option (List ℕ)) (tally : Tally) → left ≡ lines
    → ((bytes : List ℕ) → document ≡ Some bytes → IsSomeAnd lines (λ text. AreItemLinesOf bytes text ⊎ BreaksOff bytes text))
    → IfSome left (λ bytes. Writes old new (λ text. Filters (rows_of filter now bytes) text tally))
    → IfSome document (λ bytes. Writes old new (λ text. FiltersPage filter now bytes text tally))
page_filtered filter now None lines left old new tally same are filters = tt
page_filtered filter now (Some bytes) lines left old new tally same are filters = here lines (are bytes refl) (subst (λ (o : Option (List ℕ)). IfSome o (λ bytes. Writes old new (λ text. Filters (rows_of filter now bytes) text tally))) same filters)
  where
    here : (lines : Option (List ℕ)) → IsSomeAnd lines (λ text. AreItemLinesOf bytes text ⊎ BreaksOff bytes text) → IfSome lines (λ bytes. Writes old new (λ text. Filters (rows_of filter now bytes) text tally))
        → Writes old new (λ text. FiltersPage filter now bytes text tally)
    here None are filters = absurd are
    here (Some lines) are (text, grows, filters) = (text, grows, page_of filter now bytes lines text tally are filters)
