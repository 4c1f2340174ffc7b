use Rattle.std.proofs.lemmas.Result.{IfOk-weaker}
use Rattle.std.proofs.lemmas.Str.{IsUtf8-string_bytes}
use Rattle.std.proofs.Common.{string_bytes}
use Rattle.odata_functions.proofs.texts.Letters.{upper_text}
use Rattle.odata_functions.proofs.made_text.to_upper.Goals as goal

pub returns : goal.returns
returns c =
    IfOk-weaker c.to_ascii_uppercase.result _ _ (λ made e. upper_text c.args.text.now (string_bytes made) c.utf8.text (IsUtf8-string_bytes made) e)
    c.to_ascii_uppercase.ensures.ok
