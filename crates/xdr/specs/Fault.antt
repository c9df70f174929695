-- The numbers of the faults.
use Rattle.std.specs.Prelude.{ℕ}
use Rattle.xdr.specs.declared.fault.XdrFault.{XdrFault}
use Rattle.xdr.specs.declared.fault.XdrFault.TheVariants.{Short, Padding, BadBool, TooLong, BadEnum}

-- the number of a fault, in the order in which they are declared
abbrev pub fault_number : XdrFault → ℕ
fault_number Short = 1
fault_number Padding = 2
fault_number BadBool = 3
fault_number TooLong = 4
fault_number BadEnum = 5
