use Rattle.odata_queries.proofs.Common.{◌≡◌, ◌+◌, ◌-◌, List, ℕ, length, arith, ap, refl, ◌∙◌, percent_decode, value_of}
use Rattle.odata_queries.specs.Find.{FoundModel, found_in}
use Rattle.odata_queries.proofs.queries.QueryLoops.{name-room}
use Rattle.odata_queries.proofs.find.found_filter.Goals as goal

made : (piece : List ℕ) (start : ℕ) (text value : List ℕ) → text ≡ percent_decode (value_of piece) → value ≡ value_of piece
    → ◌≡◌ {A = FoundModel} (record { text = text; piece = record { start = start; stop = start + length piece }; value = record { start = start + length piece - length value; stop = start + length piece } }) (found_in piece start)
unfolding found_in
made piece start text value is_text is_value = rw (is_text, is_value) refl

pub overflow_sub-value_start : goal.overflow_sub-value_start
overflow_sub-value_start c =
    let value : length c.name_and_value.result.1.now ≡ length (value_of c.args.piece.now) = ap length c.name_and_value.ensures.value in
    omega (arith, name-room c.args.piece.now)

pub returns-in-Ok-clause-found : goal.returns-in-Ok-clause-found
returns-in-Ok-clause-found c =
    made c.args.piece.now c.args.start _ c.name_and_value.result.1.now (c.in-Ok.ensures.ok ∙ c.requires.text) c.name_and_value.ensures.value
