-- The number of each refusal of an addition.
use Rattle.std.specs.Prelude.{ℕ}
use Rattle.sheets.specs.declared.fault.SheetFault.{SheetFault}
use Rattle.sheets.specs.declared.fault.SheetFault.TheVariants.{Sized, Controls, Symbols, States, RightSide, NoControl, NoSymbol, NoRuleRoom, NoState, IntoControl, NotNew, NoArrowRoom}

abbrev pub fault_number : SheetFault → ℕ
fault_number Sized = 1
fault_number Controls = 2
fault_number Symbols = 3
fault_number States = 4
fault_number RightSide = 5
fault_number NoControl = 6
fault_number NoSymbol = 7
fault_number NoRuleRoom = 8
fault_number NoState = 9
fault_number IntoControl = 10
fault_number NotNew = 11
fault_number NoArrowRoom = 12
