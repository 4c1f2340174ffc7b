use Rattle.odata_meaning.proofs.meaning.MembersLaws as laws
use Rattle.odata_meaning.proofs.laws.members_come_to.Goals as goal

pub returns : goal.returns
returns c =
    let known = c.laws_below.ensures.one in
    record {
      some = laws.some_null known;
      not_all = laws.not_all_null known;
      null_body_of_any = laws.any_of_null_body known;
      null_body_of_all = laws.all_of_null_body known;
      any_of_none = laws.any_of_none known;
      all_of_none = laws.all_of_none known;
      of_null = laws.of_null known;
      outer_variable = laws.outer_variable known;
      fault_behind = laws.fault_behind known;
      fault_before = laws.fault_before known;
      two_counted = laws.two_counted known;
      null_counted = laws.null_counted known;
      any_member = laws.any_member known;
      null_member = laws.null_member known;
      in_null = laws.in_null known;
    }
