-- The faults of a load and of a store, with their numbers.
use Rattle.std.specs.Prelude.{ℕ}
use Rattle.reading.specs.declared.fault.EntryFault.{EntryFault}
use Rattle.reading.specs.Faults.{fault_number as entry_number}
use Rattle.sheets.specs.declared.fault.SheetFault.{SheetFault}
use Rattle.sheets.specs.Faults.{fault_number as sheet_number}
use Rattle.faults.specs.declared.Lower.{Lower}
use Rattle.faults.specs.declared.Lower.TheVariants.{Entry, Sheet}
use Rattle.faults.specs.declared.Layer.{Layer}
use Rattle.faults.specs.declared.Layer.TheVariants.{Entry as EntryLayer, Sheet as SheetLayer}
use Rattle.faults.specs.declared.Spot.{Spot}
use Rattle.faults.specs.declared.LoadFault.{LoadFault}
use Rattle.faults.specs.declared.StoreFault.{StoreFault}
use Rattle.faults.specs.declared.StoreFault.TheVariants.{ShortStrip, NoRoom}

-- a fault of the entry at a spot
abbrev pub of_entry : Spot → EntryFault → LoadFault
of_entry s e = record { spot = s; lower = Entry e }

-- the refusal of a call whose entry is at a spot
abbrev pub of_sheet : Spot → SheetFault → LoadFault
of_sheet s e = record { spot = s; lower = Sheet e }

abbrev pub layer_of : Lower → Layer
layer_of (Entry e) = EntryLayer
layer_of (Sheet e) = SheetLayer

abbrev pub lower_number : Lower → ℕ
lower_number (Entry e) = entry_number e
lower_number (Sheet e) = sheet_number e

abbrev pub store_number : StoreFault → ℕ
store_number ShortStrip = 13
store_number NoRoom = 26
