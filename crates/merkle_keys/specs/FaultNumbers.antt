-- The numbers of the faults of signing.
use Rattle.std.specs.Prelude.{ℕ, Option, Some, None}
use Rattle.merkle_keys.specs.declared.signer.SignFault.{SignFault}
use Rattle.merkle_keys.specs.declared.signer.SignFault.TheVariants.{KeysUsedUp, NoMemory}

-- the number of a fault; being out of memory has none
abbrev pub fault_number : SignFault → Option ℕ
fault_number KeysUsedUp = Some 1
fault_number NoMemory = None
