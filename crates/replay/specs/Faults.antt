-- What a fault in memory says.
use Rattle.replay_spec.specs.Stepping as spec
use Rattle.replay.specs.declared.fault.ReplayFault.{ReplayFault}
use Rattle.replay.specs.declared.fault.ReplayFault.TheVariants.{BadForm, BadReceive, Repeated, WrongReply}
use Rattle.replay.specs.declared.fault.ReplayFault.TheVariants.{ClockBack, WrongCheckpoint, BadAck}

-- the fault of an entry
abbrev pub fault_in : ReplayFault → spec.ReplayFault
fault_in BadForm = spec.BadForm
fault_in BadReceive = spec.BadReceive
fault_in Repeated = spec.Repeated
fault_in WrongReply = spec.WrongReply
fault_in ClockBack = spec.ClockBack
fault_in WrongCheckpoint = spec.WrongCheckpoint
fault_in BadAck = spec.BadAck
