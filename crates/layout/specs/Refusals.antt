-- Document 01, "Refusals": the number of each. Assumes nothing.
use Rattle.std.specs.Prelude.{ℕ}
use Rattle.layout.specs.declared.refusal.Refusal.{Refusal}
use Rattle.layout.specs.declared.refusal.Refusal.TheVariants.{NotCircuit, BadId, BadRow, BadIndex, BadWord, Full, Empty, Target, Columns, Loose, Degree, Paths, NoRoom, Repeat, Table, Frame, NotLowered}

abbrev pub number_of : Refusal → ℕ
number_of NotCircuit = 1
number_of BadId = 2
number_of BadRow = 3
number_of BadIndex = 4
number_of BadWord = 5
number_of Full = 6
number_of Empty = 7
number_of Target = 8
number_of Columns = 9
number_of Loose = 10
number_of Degree = 11
number_of Paths = 12
number_of NoRoom = 13
number_of Repeat = 14
number_of Table = 15
number_of Frame = 16
number_of NotLowered = 17
