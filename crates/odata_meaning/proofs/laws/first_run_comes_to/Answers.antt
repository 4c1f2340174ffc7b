use Rattle.odata_meaning.proofs.meaning.FirstRunLaws.{kept_item, other_item, inactive_item, right_side_unread}
use Rattle.odata_meaning.proofs.laws.first_run_comes_to.Goals as goal

pub returns : goal.returns
returns c =
    let known = c.laws_below.ensures.one in
    record { kept = kept_item known; other_name = other_item known; inactive = inactive_item known; right_side_left_out = right_side_unread known }
