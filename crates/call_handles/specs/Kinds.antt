-- The kinds of handles.
use Rattle.call_handles.specs.declared.handle.Handle.{Handle}

abbrev pub IsSchema : Handle → Type 0
IsSchema (Handle.Schema held) = Unit {0}
IsSchema handle = ⊥

abbrev pub IsType : Handle → Type 0
IsType (Handle.Type held) = Unit {0}
IsType handle = ⊥

abbrev pub IsFilterKind : Handle → Type 0
IsFilterKind (Handle.Filter held) = Unit {0}
IsFilterKind handle = ⊥

abbrev pub IsConditionsKind : Handle → Type 0
IsConditionsKind (Handle.Conditions held) = Unit {0}
IsConditionsKind handle = ⊥

-- a judge and conditions belong to one owner
abbrev pub HasOneOwner : Handle → Type 0
HasOneOwner (Handle.Judge held) = Unit {0}
HasOneOwner (Handle.Conditions held) = Unit {0}
HasOneOwner handle = ⊥
