-- What a line with room after it stands for.
use Rattle.std.specs.Prelude.{◌≡◌, ◌+◌, ◌≤◌, length, take, get_or}
use Rattle.json_room.specs.declared.roomy_line.RoomyLine.TheInside.{Inside}

-- The line is at the front of the bytes; an LF follows it, and at least 63 bytes follow that.
pub record IsRoomy (line : Inside) : Type 0 where
  pub front : take (length line.text.now) line.bytes.now ≡ line.text.now
  pub line_feed : get_or line.bytes.now (length line.text.now) 0 ≡ 10
  pub room : length line.text.now + 64 ≤ length line.bytes.now
