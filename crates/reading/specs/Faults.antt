-- The numbers of the faults.
use Rattle.std.specs.Prelude.{ℕ}
use Rattle.reading.specs.declared.fault.EntryFault.{EntryFault}
use Rattle.reading.specs.declared.fault.EntryFault.TheVariants.{Unknown, Cut, Due, NoValue}

abbrev pub fault_number : EntryFault → ℕ
fault_number Unknown = 22
fault_number Cut = 23
fault_number Due = 24
fault_number NoValue = 25
