-- For private clauses: the laws on which the walk over a tree rests.
use Rattle.odata_signatures.specs.Laws.{FirstBelow, FirstItself, OneType, QuotingIsText, TypedIsClear}
use Rattle.odata_signatures.specs.Unread.{FlagsByTypes, ItemsByTypes, OperandsByTypes, TextsApart}
use Rattle.odata_checked_filter.specs.Laws.{KeptStands, PutChanges, PutStands}
use Rattle.odata_typing.specs.private.SpanLaws.{SpanLaws}

-- laws of types, of lists of nodes, of operands that are not read, and of spans
pub record LawsBelow : Type 0 where
  pub one_type : OneType
  pub clear : TypedIsClear
  pub below : FirstBelow
  pub itself : FirstItself
  pub kept : KeptStands
  pub changes : PutChanges
  pub put : PutStands
  pub operands : OperandsByTypes
  pub flags : FlagsByTypes
  pub items : ItemsByTypes
  pub apart : TextsApart
  pub quotes : QuotingIsText
  pub spans : SpanLaws
