use Rattle.odata_text.specs.TokenModel.{token_models}
use Rattle.odata_syntax.proofs.parser.parse.Goals as goal

pub new-requires : goal.new-requires
new-requires c =
    record {
      tokens = token_models c.args.tokens.now;
      length = c.args.len;
      of_text = c.requires;
      parsed = rw (c.in_ok-root.ensures, c.as_slice.ensures.value) c.in_ok-nodes.ensures.parsed;
    }

pub returns-clause-derived : goal.returns-clause-derived
returns-clause-derived c = rw (c.new.ensures, c.in_ok-root.ensures, c.as_slice.ensures.value) c.in_ok-nodes.ensures.parsed

pub returns-clause-only : goal.returns-clause-only
returns-clause-only c = rw (c.new.ensures, c.in_ok-root.ensures, c.as_slice.ensures.value) c.in_ok-nodes.ensures.only
