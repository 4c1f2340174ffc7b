-- What is put at the end of a document.
use Rattle.std.proofs.Common.{◌≡◌, ◌∷◌, [], Bool, true, false, sym, ◌∙◌}
use Rattle.std.proofs.lemmas.Bool.{cond-false, cond-true}
use Rattle.collection_reader.specs.private.ItemText.{Scanned, is_collection, text_left}
use Rattle.collection_reader.proofs.StepLemmas.{text_left-nil}

-- nothing, or a byte that no text has
pub ends_none : (s : Scanned) (is : Bool) → is ≡ is_collection s → is ≡ true → text_left s [] ≡ []
ends_none s is same well = text_left-nil s ∙ cond-true (is_collection s) [] (255 ∷ []) (sym same ∙ well)

pub ends_marked : (s : Scanned) (is : Bool) → is ≡ is_collection s → is ≡ false → text_left s [] ≡ 255 ∷ []
ends_marked s is same ill = text_left-nil s ∙ cond-false (is_collection s) [] (255 ∷ []) (sym same ∙ ill)
