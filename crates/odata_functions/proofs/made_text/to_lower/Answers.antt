use Rattle.std.proofs.lemmas.Result.{IfOk-weaker}
use Rattle.std.proofs.lemmas.Str.{IsUtf8-string_bytes}
use Rattle.std.proofs.Common.{string_bytes}
use Rattle.odata_functions.proofs.texts.Letters.{lower_text}
use Rattle.odata_functions.proofs.made_text.to_lower.Goals as goal

pub returns : goal.returns
returns c =
    IfOk-weaker c.to_ascii_lowercase.result _ _ (λ made e. lower_text c.args.text.now (string_bytes made) c.utf8.text (IsUtf8-string_bytes made) e)
    c.to_ascii_lowercase.ensures.ok
