-- What a key stands for: a name, which is written as it is (RFC 8259, section 7).
use Rattle.std.specs.Prelude.{◌≡◌, length, string_bytes}
use Rattle.json.specs.Written.{PlainBetween}
use Rattle.json_room.specs.declared.key.Key.TheInside.{Inside}
use Rattle.json_room.specs.Keys.{name_with_colon, quoted_name}

-- a key has a name without quotes, backslashes and control characters, and keeps what stands for it in a text
pub record IsKey (key : Inside) : Type 0 where
  pub plain : PlainBetween (string_bytes key.name) 0 (length (string_bytes key.name))
  pub quoted : string_bytes key.quoted ≡ quoted_name (string_bytes key.name)
  pub with_colon : string_bytes key.with_colon ≡ name_with_colon (string_bytes key.name)
