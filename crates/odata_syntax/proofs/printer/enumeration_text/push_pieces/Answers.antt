use Rattle.std.proofs.Common.{rules, lit<, string_bytes}
use Rattle.std.proofs.lemmas.Str.{encode_ascii}
use Rattle.std.proofs.lemmas.Str.Pattern.{split_parts, strip_suffix_char}
use Rattle.odata_syntax.proofs.printing.Appended.{on_ok, pushed_ok}
use Rattle.odata_syntax.proofs.printing.Enumerations.{pushed_last, pushed_piece, pushed_rest}
use Rattle.odata_syntax.proofs.printer.enumeration_text.push_pieces.Goals as goal

pub loop-piece-preserved : goal.loop-piece-preserved
loop-piece-preserved c =
    let cut = rw c.in-Some.is at (split_parts 44 c.loop-piece.rest.now c.split_once.result c.split_once.ensures.cases (lit< tt)) in
    let lead = c.without_leading_spaces.ensures in
    let trail = c.without_trailing_spaces.ensures in (
      search rules,
      pushed_piece _ (string_bytes c.loop-piece.out) (string_bytes c.push_str.new.self) (string_bytes c.push.new.self) c.loop-piece.rest.now c.in-Some.piece.now c.in-Some.behind.now
          c.without_leading_spaces.result.now c.without_trailing_spaces.result.now lead.spaces.0 trail.spaces.0 c.loop-piece.invariant.1 cut.0 cut.1 lead.spaces.1 lead.first trail.spaces.1 trail.last
          c.in_ok-push_str.ensures.bytes (rw (encode_ascii 44 (lit< tt)) at c.in_ok-push.ensures.bytes),
    )

pub returns-in_ok-push_str-in-Some-strip_suffix : goal.returns-in_ok-push_str-in-Some-strip_suffix
returns-in_ok-push_str-in-Some-strip_suffix c =
    let lacks = rw c.in_default.is at (split_parts 44 c.loop-piece.rest.now c.split_once.result c.split_once.ensures.cases (lit< tt)) in
    let lead = c.without_leading_spaces-last.ensures in
    let trail = c.without_trailing_spaces-in-Some-strip_suffix.ensures in
    let quoted = rw c.in-Some-strip_suffix.is at (strip_suffix_char 39 c.without_leading_spaces-last.result.now c.strip_suffix.result c.strip_suffix.ensures.cases (lit< tt)) in
    let quote = rw (encode_ascii 39 (lit< tt)) at c.push-in-Some-strip_suffix.ensures.bytes in
    on_ok c.push-in-Some-strip_suffix.result
    (λ pushed. pushed_last _ (string_bytes c.loop-piece.out) (string_bytes c.push_str-in-Some-strip_suffix.new.self) (string_bytes c.push-in-Some-strip_suffix.new.self) c.loop-piece.rest.now
    c.without_leading_spaces-last.result.now c.in-Some-strip_suffix.piece.now c.without_trailing_spaces-in-Some-strip_suffix.result.now lead.spaces.0 trail.spaces.0 c.loop-piece.invariant.1 lacks
    lead.spaces.1 lead.first quoted trail.spaces.1 trail.last c.in_ok-push_str-in-Some-strip_suffix.ensures.bytes pushed)
    (pushed_ok c.push-in-Some-strip_suffix.result _ _ _ quote)

pub returns-in-None : goal.returns-in-None
returns-in-None c =
    let lacks = rw c.in_default.is at (split_parts 44 c.loop-piece.rest.now c.split_once.result c.split_once.ensures.cases (lit< tt)) in
    let lead = c.without_leading_spaces-last.ensures in
    let open_end = rw c.in-None.is at (strip_suffix_char 39 c.without_leading_spaces-last.result.now c.strip_suffix.result c.strip_suffix.ensures.cases (lit< tt)) in
    on_ok c.push_str-in-None.result
    (λ pushed. pushed_rest _ (string_bytes c.loop-piece.out) (string_bytes c.push_str-in-None.new.self) c.loop-piece.rest.now c.without_leading_spaces-last.result.now lead.spaces.0
    c.loop-piece.invariant.1 lacks lead.spaces.1 lead.first open_end pushed)
    (pushed_ok c.push_str-in-None.result _ _ _ c.push_str-in-None.ensures.bytes)
