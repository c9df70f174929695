-- The numbers of the refusals of an authenticator.
use Rattle.std.specs.Prelude.{ℕ, Option, Some, None}
use Rattle.authenticator.specs.declared.refusal.Refusal.{Refusal}
use Rattle.authenticator.specs.declared.refusal.Refusal.TheVariants.{UnknownNode, Garbage, BadSignature}
use Rattle.authenticator.specs.declared.refusal.Refusal.TheVariants.{NoMemory}

-- the number of a refusal; being out of memory has none
abbrev pub refusal_number : Refusal → Option ℕ
refusal_number UnknownNode = Some 1
refusal_number Garbage = Some 2
refusal_number BadSignature = Some 3
refusal_number NoMemory = None
