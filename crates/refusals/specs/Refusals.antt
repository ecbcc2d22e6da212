-- The refusal numbers of document 01, with line and field; 0 where there is none.
use Rattle.std.specs.Prelude.{ℕ}
use Rattle.refusals.specs.declared.Refusal.{Refusal}
use Rattle.refusals.specs.declared.Refusal.TheVariants.{NoText, LongText, NoLineFeed, ManyLines, AfterWaiting, FieldCount, BadName, BadNumber, LateDeadline, LongTimes, NameTaken, BadTable, NoSuchRow, NoRoom, ManyTicks}

-- the number of each refusal
abbrev pub number_of : Refusal → ℕ
number_of NoText = 1
number_of LongText = 2
number_of NoLineFeed = 3
number_of (ManyLines line) = 4
number_of (AfterWaiting line) = 5
number_of (FieldCount line) = 6
number_of (BadName line) = 7
number_of (BadNumber line field) = 8
number_of (LateDeadline line) = 9
number_of (LongTimes line) = 10
number_of (NameTaken line) = 11
number_of BadTable = 20
number_of NoSuchRow = 21
number_of NoRoom = 22
number_of ManyTicks = 23

-- the line, from 1
abbrev pub line_of : Refusal → ℕ
line_of NoText = 0
line_of LongText = 0
line_of NoLineFeed = 0
line_of (ManyLines line) = line
line_of (AfterWaiting line) = line
line_of (FieldCount line) = line
line_of (BadName line) = line
line_of (BadNumber line field) = line
line_of (LateDeadline line) = line
line_of (LongTimes line) = line
line_of (NameTaken line) = line
line_of BadTable = 0
line_of NoSuchRow = 0
line_of NoRoom = 0
line_of ManyTicks = 0

-- the field, from 1: a name is field 1, D is field 3
abbrev pub field_of : Refusal → ℕ
field_of NoText = 0
field_of LongText = 0
field_of NoLineFeed = 0
field_of (ManyLines line) = 0
field_of (AfterWaiting line) = 0
field_of (FieldCount line) = 0
field_of (BadName line) = 1
field_of (BadNumber line field) = field
field_of (LateDeadline line) = 3
field_of (LongTimes line) = 0
field_of (NameTaken line) = 1
field_of BadTable = 0
field_of NoSuchRow = 0
field_of NoRoom = 0
field_of ManyTicks = 0
