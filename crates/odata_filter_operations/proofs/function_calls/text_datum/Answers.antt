use Rattle.std.proofs.Common.{ap, subst, sym}
use Rattle.std.specs.Prelude.{IsUtf8}
use Rattle.std.specs.Cow.{cow_str_bytes}
use Rattle.std.proofs.lemmas.Str.{encodes-chars}
use Rattle.edm_values.specs.Val.{text}
use Rattle.odata_filter_operations.proofs.function_calls.text_datum.Goals as goal

pub returns : goal.returns
returns c = λ s. ap text (sym (encodes-chars (cow_str_bytes c.args.given) (subst IsUtf8 c.as_str-characters.ensures.value c.as_str-characters.utf8)))
