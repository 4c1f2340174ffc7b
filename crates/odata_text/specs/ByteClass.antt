-- What a single byte is between the tokens of a filter's text (OData ABNF 4.01, sections 1 and 7).
use Rattle.std.specs.Prelude.{ℕ, ◌==◌, ◌||◌, if◌then◌else◌}
use Rattle.odata_text.specs.declared.byte_class.ByteClass.{ByteClass}
use Rattle.odata_text.specs.declared.byte_class.ByteClass.TheVariants.{Quote, Space, Other}

-- `'`; the white space, space and tab; any other
unfoldable pub class_of : ℕ → ByteClass
class_of b =
    if b == 39 then Quote
    else (if (b == 32) || (b == 9) then Space
    else Other)
