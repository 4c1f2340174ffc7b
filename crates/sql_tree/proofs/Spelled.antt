-- Bytes of whole characters, and data of which the names of members are such bytes.
use Rattle.std.specs.Prelude.{◌≤◌, ℕ, zero, suc, List, [], ◌∷◌}
use Rattle.std.specs.Str.{continuation_len}
use Rattle.serde_json.specs.Data.{Data, null, boolean, number, string, array, object, Items, no_items, item, Members, no_members, member}

-- after so many bytes that end a character, each first byte of one is followed by as many bytes past ASCII as it says
abbrev pub IsSpelled : ℕ → List ℕ → Type 0
IsSpelled n [] = Unit {0}
IsSpelled zero (b ∷ bs) = IsSpelled (continuation_len b) bs
IsSpelled (suc n) (b ∷ bs) = (128 ≤ b) × IsSpelled n bs

abbrev mutual
  pub AreNamesSpelled : Data → Type 0
  AreNamesSpelled null = Unit {0}
  AreNamesSpelled (boolean b) = Unit {0}
  AreNamesSpelled (number n) = Unit {0}
  AreNamesSpelled (string s) = Unit {0}
  AreNamesSpelled (array ds) = AreItemsSpelled ds
  AreNamesSpelled (object ms) = AreMembersSpelled ms

  pub AreItemsSpelled : Items → Type 0
  AreItemsSpelled no_items = Unit {0}
  AreItemsSpelled (item d ds) = AreNamesSpelled d × AreItemsSpelled ds

  pub AreMembersSpelled : Members → Type 0
  AreMembersSpelled no_members = Unit {0}
  AreMembersSpelled (member k d ms) = IsSpelled 0 k × AreNamesSpelled d × AreMembersSpelled ms
