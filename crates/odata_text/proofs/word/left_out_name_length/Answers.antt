use Rattle.odata_text.proofs.Common.{◌⊎◌, ℕ, List, codes, IsNamed}
use Rattle.odata_text.proofs.spellings.Sequences.{reach-either}
use Rattle.odata_text.proofs.word.left_out_name_length.Goals as goal

abbrev IsGeo : List ℕ → Type 0
IsGeo xs = IsNamed (codes "geography") xs ⊎ IsNamed (codes "geometry") xs

abbrev IsBinaryOrGeo : List ℕ → Type 0
IsBinaryOrGeo xs = IsNamed (codes "binary") xs ⊎ IsGeo xs

pub returns : goal.returns
returns c =
    let geo = reach-either (IsNamed (codes "geography")) (IsNamed (codes "geometry")) c.args.rest.now _ _ c.longer.result c.name_length-geography.ensures c.name_length-geometry.ensures c.longer.ensures in
    let more = reach-either (IsNamed (codes "binary")) IsGeo c.args.rest.now _ _ c.longer-2.result c.name_length-binary.ensures geo c.longer-2.ensures in
    reach-either (IsNamed (codes "duration")) IsBinaryOrGeo c.args.rest.now _ _ c.longer-3.result c.name_length-duration.ensures more c.longer-3.ensures
