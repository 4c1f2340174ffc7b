use Rattle.std.proofs.Common.{rules, lit<, ◌∷◌}
use Rattle.std.specs.Prelude.{string_bytes}
use Rattle.std.proofs.lemmas.Str.{encode_ascii}
use Rattle.std.proofs.lemmas.Str.Pattern.{split_parts}
use Rattle.sql_tree.specs.QuotedName.{name_quote, with_doubled_name_quotes}
use Rattle.sql_tree.proofs.NameQuotes.{last_quoted, one_quoted}
use Rattle.sql_tree.proofs.quoted_name.quoted_text.Goals as goal

pub loop-piece-preserved : goal.loop-piece-preserved
loop-piece-preserved c =
    let cut = rw c.in-Some.is at (split_parts 34 c.loop-piece.rest.now c.split_once.result c.split_once.ensures.cases (lit< tt)) in (
      search rules,
      one_quoted (name_quote ∷ with_doubled_name_quotes c.args.name.now) (string_bytes c.loop-piece.text) c.in-Some.piece.now c.in-Some.behind.now c.loop-piece.rest.now
          (string_bytes c.push_str.new.self) (string_bytes c.push_str-in-Some.new.self) cut.1 cut.0 c.loop-piece.invariant.1 c.in_ok-push_str.ensures.bytes c.in_ok-push_str-2.ensures.bytes,
    )

pub returns : goal.returns
returns c =
    let plain = rw c.in_default.is at (split_parts 34 c.loop-piece.rest.now c.split_once.result c.split_once.ensures.cases (lit< tt)) in
    last_quoted (name_quote ∷ with_doubled_name_quotes c.args.name.now) (string_bytes c.loop-piece.text) c.loop-piece.rest.now
    (string_bytes c.push_str-2.new.self) (string_bytes c.push.new.self) plain c.loop-piece.invariant.1 c.in_ok-push_str-3.ensures.bytes
    (rw (encode_ascii 34 (lit< tt)) at c.in_ok-push.ensures.bytes)
