use Rattle.std.proofs.lemmas.Result.{IfErr-weaker, IfOk-weaker}
use Rattle.odata_text.proofs.Common.{ℕ, ◌≡◌, ◌≢◌, subst, List, TokenModel, token_models, IsTokenList, Memory}
use Rattle.odata_text.specs.Scanning.{text_of}
use Rattle.odata_text.specs.Tokens.{IsTextFault}
use Rattle.odata_text.proofs.readings.OneReading.{no_list, one_list}
use Rattle.odata_text.proofs.scan.tokens.Goals as goal

pub returns-clause-only : goal.returns-clause-only
returns-clause-only c =
    IfOk-weaker c.all_tokens.result (λ tokens. IsTokenList (text_of c.in_ok-scanner.scanner) (token_models tokens.items)) (λ tokens. (pieces : List TokenModel) → IsTokenList c.args.text.now pieces → pieces ≡ token_models tokens.items)
    (λ tokens list pieces other. one_list c.args.text.now pieces (token_models tokens.items) other (subst (λ (xs : List ℕ). IsTokenList xs (token_models tokens.items)) c.in_ok-scanner.ensures.text list))
    c.all_tokens.ensures.ok

pub returns-clause-none : goal.returns-clause-none
returns-clause-none c =
    IfErr-weaker c.all_tokens.result (λ fault. fault ≢ Memory → IsTextFault (text_of c.in_ok-scanner.scanner) fault) (λ fault. fault ≢ Memory → (pieces : List TokenModel) → IsTokenList c.args.text.now pieces → ⊥)
    (λ fault is known pieces list. no_list c.args.text.now fault (subst (λ (xs : List ℕ). IsTextFault xs fault) c.in_ok-scanner.ensures.text (is known)) pieces list)
    c.all_tokens.ensures.fault
