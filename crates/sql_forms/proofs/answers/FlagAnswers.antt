-- What `put_other_truth` returns.
use Rattle.sql_forms.proofs.Common.{◌≡◌, ◌≢◌, ◌+◌, ℕ, List, Result, OnOk, refl, IsSomeAnd, slice_get, IsMoment, NodeKind, EndsOnceOnEntities, HasKind, Range, OneType, Quantifier, Draft, Operand, Source, FlagsHave, IsSideAt, AreRanges, IsOtherKind, IsStep, OfPlace, Puts, Question, where_ok}
use Rattle.sql_outcomes.specs.private.ValueForms.{Itself}
use Rattle.sql_outcomes.proofs.nodes.Sides.{OneNumber}
use Rattle.sql_outcomes.proofs.nodes.FlagNodes.{flags_come}
use Rattle.sql_forms.proofs.puts.FlagsPut.{flags_node_put}

-- what asks no collection, no flags, no list and no path is a step
pub other_step : (kind : NodeKind) → IsOtherKind kind → kind ≢ NodeKind.AnyItem → kind ≢ NodeKind.Has → kind ≢ NodeKind.InList → kind ≢ NodeKind.InPath → ((q : Quantifier) → kind ≢ NodeKind.Lambda q) → IsStep kind
other_step (NodeKind.Property slot) other no_any no_has no_list no_path no_lambda = tt
other_step (NodeKind.Variable level) other no_any no_has no_list no_path no_lambda = tt
other_step (NodeKind.Member slot) other no_any no_has no_list no_path no_lambda = tt
other_step NodeKind.AnyItem other no_any no_has no_list no_path no_lambda = absurd (no_any refl)
other_step NodeKind.Has other no_any no_has no_list no_path no_lambda = absurd (no_has refl)
other_step NodeKind.InList other no_any no_has no_list no_path no_lambda = absurd (no_list refl)
other_step NodeKind.InPath other no_any no_has no_list no_path no_lambda = absurd (no_path refl)
other_step (NodeKind.Lambda q) other no_any no_has no_list no_path no_lambda = absurd (no_lambda q refl)
other_step kind other no_any no_has no_list no_path no_lambda = absurd other

-- `has`, by its two sides
pub ok_flags_node : (question : Question) (types : OneType) (one : OneNumber) (ranges : List Range) (are : AreRanges question ranges) (ends : EndsOnceOnEntities) (is_moment : IsMoment question.now.civil question.now.offset_minutes)
    (place : ℕ) (left right : Operand) (left_source : left.source ≡ Source.Node (place + 1)) → (second : ℕ) → IsSideAt question.filter ranges second right
    → IsSomeAnd (slice_get question.filter.list.nodes (place + 1)) (λ n. n.stop ≡ second) → HasKind question.filter.list place NodeKind.Has → {T E : Type 0} (r : Result T E) (old new : Draft)
    → OnOk r (Puts question old new (FlagsHave question.filter left right) Itself) → OnOk r (Puts question old new (OfPlace question.filter place) Itself)
ok_flags_node question types one ranges are ends is_moment place left right left_source second right_is is_second here r old new put =
    where_ok (flags_node_put question types one ranges are ends is_moment place left right left_source
    (λ world o seen has. flags_come question types one ranges are ends is_moment place left right left_source world o seen second right_is is_second here has) old new) r put
