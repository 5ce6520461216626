-- The numbers of document 01's list, and what an outcome is by them.
use Rattle.std.specs.Prelude.{ℕ, Result, Ok, Err}
use Rattle.refusals.specs.declared.Refusal.{Refusal}
use Rattle.refusals.specs.declared.Refusal.TheVariants.{FileTooLong, FileTooShort, OtherMagic, OtherMajor, NoDirectory}
use Rattle.refusals.specs.declared.Refusal.TheVariants.{CriticalSection, CodedSection, SectionOutside, SectionRepeated, SectionMissing, DigestDiffers}
use Rattle.refusals.specs.declared.Refusal.TheVariants.{ManifestShape, Unsupported, ExportNames}
use Rattle.refusals.specs.declared.Refusal.TheVariants.{NodesShape, HashWrong, HashTwice, ChildMissing, Circle, HashUnresolved}
use Rattle.refusals.specs.declared.Refusal.TheVariants.{NoRoom, ExportsTooShort, NoSlot, Damaged, NoExport, TooManySteps, TooDeep}

-- "the written list"
abbrev pub refusal_number : Refusal → ℕ
refusal_number FileTooLong = 1
refusal_number FileTooShort = 2
refusal_number OtherMagic = 3
refusal_number OtherMajor = 4
refusal_number NoDirectory = 5
refusal_number CriticalSection = 6
refusal_number CodedSection = 7
refusal_number SectionOutside = 8
refusal_number SectionRepeated = 9
refusal_number SectionMissing = 10
refusal_number DigestDiffers = 11
refusal_number ManifestShape = 12
refusal_number Unsupported = 13
refusal_number ExportNames = 14
refusal_number NodesShape = 15
refusal_number HashWrong = 16
refusal_number HashTwice = 17
refusal_number ChildMissing = 18
refusal_number Circle = 19
refusal_number HashUnresolved = 20
refusal_number NoRoom = 21
refusal_number ExportsTooShort = 22
refusal_number NoSlot = 23
refusal_number Damaged = 24
refusal_number NoExport = 25
refusal_number TooManySteps = 40
refusal_number TooDeep = 49

-- what a call comes to, with its refusal by the number
abbrev pub by_number : {A : Type 0} → Result A Refusal → Result A ℕ
by_number (Ok x) = Ok x
by_number (Err r) = Err (refusal_number r)

-- the number of what a check comes to: 0 where nothing is refused
abbrev pub answer_of : {A : Type 0} → Result A Refusal → ℕ
answer_of (Ok x) = 0
answer_of (Err r) = refusal_number r
