-- For private clauses: the items of a list, by the type of its left operand.
use Rattle.std.specs.Prelude.{◌≡◌, ◌⊎◌, ℕ, ℤ, List, [], ◌∷◌, Option}
use Rattle.std.specs.List.{AllByRecursion}
use Rattle.csdl_schema.specs.ExprType.{ExprType}
use Rattle.csdl_schema.specs.SchemaModel.{SchemaModel, Slots}
use Rattle.odata_signatures.specs.CollectionTyped.{IsCollection, IsItemFor}
use Rattle.odata_signatures.specs.QuotedNumber.{IsResolvedBy, LacksNumber, ResolvedNumber}
use Rattle.odata_signatures.specs.Side.{Side, quoting}
use Rattle.odata_signatures.specs.TypeView.{expr_type}
use Rattle.odata_checked_filter.specs.declared.checked_node.CheckedNode.{CheckedNode}
use Rattle.odata_checked_filter.specs.FlatTree.{FlatTree}
use Rattle.odata_checked_filter.specs.ListChanges.{number_put}
use Rattle.odata_typing.specs.declared.in_list.ItemsFit.{ItemsFit}
use Rattle.odata_typing.specs.private.Rows.{quoted_in}

-- the type resolves no text
abbrev pub IsUnreadLeft : ExprType → Type 0
IsUnreadLeft left = (quoted : Option (List ℕ)) → ¬ IsResolvedBy left quoted

-- one of the items is read and stands for no number
abbrev pub OneLacks : Slots → ExprType → List Side → Type 0
OneLacks slots left [] = ⊥
OneLacks slots left (item ∷ items) = LacksNumber slots left item.quoted ⊎ OneLacks slots left items

abbrev pub AllItemsFor : Slots → ExprType → List Side → Type 0
AllItemsFor slots left items = AllByRecursion (IsItemFor slots left) items

-- what was found of items
abbrev pub AreItemsFit : Slots → ExprType → List Side → ItemsFit → Type 0
AreItemsFit slots left items ItemsFit.All = AllItemsFor slots left items × (¬ OneLacks slots left items)
AreItemsFit slots left items ItemsFit.Refused = (¬ AllItemsFor slots left items) × (¬ OneLacks slots left items)
AreItemsFit slots left items ItemsFit.Unknown = OneLacks slots left items
AreItemsFit slots left items ItemsFit.OutOfMemory = Unit {0}

-- an item that is read has its number as its value then; nothing else has changed
abbrev pub IsItemRead : Slots → ExprType → Side → FlatTree → ℕ → CheckedNode → FlatTree → Type 0
IsItemRead slots left item old place found new =
    ((n : ℤ) × ResolvedNumber slots left item.quoted n × (new ≡ number_put old place found n))
    ⊎ ((¬ IsResolvedBy left item.quoted) × (new ≡ old))

-- so it is where the item may stand there
abbrev pub IsItemPut : Slots → ExprType → Side → FlatTree → ℕ → CheckedNode → FlatTree → ItemsFit → Type 0
IsItemPut slots left item old place found new ItemsFit.All = IsItemRead slots left item old place found new
IsItemPut slots left item old place found new fit = Unit {0}

-- the same of items one after another, from the first on
abbrev pub AreItemsRead : Slots → SchemaModel → ExprType → FlatTree → ℕ → List CheckedNode → FlatTree → Type 0
AreItemsRead slots schema left old place [] new = new ≡ old
AreItemsRead slots schema left old place (found ∷ row) new =
    (mid : FlatTree)
    × IsItemRead slots left (quoting (quoted_in old place found) (expr_type schema found.edm_type)) old place found mid
    × AreItemsRead slots schema left mid found.stop row new

abbrev pub AreItemsPut :
    Slots → SchemaModel → ExprType → FlatTree → ℕ → List CheckedNode → FlatTree → ItemsFit → Type 0
AreItemsPut slots schema left old place row new ItemsFit.All = AreItemsRead slots schema left old place row new
AreItemsPut slots schema left old place row new fit = Unit {0}

-- the same of items of which none is read, with the operand, which may be no collection
abbrev pub AreListFit : Slots → ExprType → List Side → ItemsFit → Type 0
AreListFit slots left items ItemsFit.All = (¬ IsCollection left) × AllItemsFor slots left items
AreListFit slots left items ItemsFit.Refused = ¬ ((¬ IsCollection left) × AllItemsFor slots left items)
AreListFit slots left items fit = ⊥

-- of two parts of a list the second alone counts if the first is as it should be; else the worse one
abbrev pub worse_fit : ItemsFit → ItemsFit → ItemsFit
worse_fit ItemsFit.All rest = rest
worse_fit ItemsFit.Refused ItemsFit.All = ItemsFit.Refused
worse_fit ItemsFit.Refused rest = rest
worse_fit first rest = first
