use Rattle.std.proofs.Common.{◌≡◌, ◌≤◌, Some, take}
use Rattle.odata_text.specs.TokenModel.{token_models}
use Rattle.odata_syntax.specs.Front.{IsShallow, open_count, close_count}
use Rattle.odata_syntax.specs.private.Forests.{token_texts}
use Rattle.odata_syntax.specs.private.ListSteps.{IsSteadyState}
use Rattle.odata_syntax.specs.private.Machine.{run, start}
use Rattle.odata_syntax.specs.private.MachineView.{machine_of}
use Rattle.odata_syntax.proofs.parser.take_all.Given as goal

-- the machine after the tokens so far, nowhere too deep, and the parentheses among them
abbrev pub invariant-loop-token : goal.invariant-loop-token
invariant-loop-token l = record {
  steady : IsSteadyState l.state;
  number : l.number ≡ l.token-index;
  taken : run (token_models (take l.token-index l.tokens)) start ≡ Some (machine_of (token_texts l.tokens) l.state);
  shallow : IsShallow (token_models (take l.token-index l.tokens));
  opened : l.depth.opens ≡ open_count (token_models (take l.token-index l.tokens));
  closed : l.depth.closes ≡ close_count (token_models (take l.token-index l.tokens));
  opens_within : l.depth.opens ≤ l.token-index;
  closes_within : l.depth.closes ≤ l.token-index;
}
