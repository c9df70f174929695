-- What the program's values of calls and their faults say.
use Rattle.std.specs.Prelude.{◌≡◌, ℕ, List, Result, Ok, Err}
use Rattle.xdr.specs.declared.fault.XdrFault.{XdrFault}
use Rattle.xdr.specs.declared.fault.XdrFault.TheVariants as faults
use Rattle.xdr.specs.Reading.{Read}
use Rattle.rpc.specs.declared.call.OpaqueAuth.{OpaqueAuth}
use Rattle.rpc.specs.declared.call.Header.{Header}
use Rattle.rpc.specs.declared.call.CallBody.TheVariants as bodies
use Rattle.rpc.specs.declared.call.Call.{Call}
use Rattle.rpc.specs.declared.call.CallBody.{CallBody}
use Rattle.rpc.specs.declared.call.CallFault.{CallFault}
use Rattle.rpc.specs.declared.call.CallFault.TheVariants as call_faults
use Rattle.xdr.specs.Item.{Value}
use Rattle.rpc.specs.Call.{opaque_auth, Auth, CallHeader, Message, OtherVersion, Version2, Says}

-- what a credential or a verifier says
abbrev pub auth_of : OpaqueAuth → Auth
auth_of a = record { flavor = a.flavor; body = a.body.now }

-- the same, as the value of its item
abbrev pub auth_value_of : OpaqueAuth → Value opaque_auth
auth_value_of a = (a.flavor, a.body.now)

-- what a header says
abbrev pub header_of : Header → CallHeader
header_of h = record {
  program = h.program;
  version = h.version;
  procedure = h.procedure;
  credential = auth_of h.credential;
  verifier = auth_of h.verifier;
}

-- A body is of version 2, with this header and these arguments.
abbrev pub IsVersion2 : CallBody → CallHeader → List ℕ → Type 0
IsVersion2 bodies.OtherVersion h rest = ⊥
IsVersion2 (bodies.Version2 header arguments) h rest = (header_of header ≡ h) × (arguments.now ≡ rest)

-- A value of the program is this call, with these arguments and what follows them.
abbrev pub IsCallOf : Call → Message → List ℕ → Type 0
IsCallOf c (OtherVersion xid version) rest = (c.xid ≡ xid) × (c.body ≡ bodies.OtherVersion)
IsCallOf c (Version2 xid h) rest = (c.xid ≡ xid) × IsVersion2 c.body h rest

-- A value of the program is a call that the bytes say.
abbrev pub IsCallIn : List ℕ → Call → Type 0
IsCallIn bytes c = (m : Message) × (rest : List ℕ) × Says bytes m rest × IsCallOf c m rest

-- the fault of a call: the bytes end too early, or they say something else
abbrev pub call_fault : XdrFault → CallFault
call_fault faults.Short = call_faults.Short
call_fault faults.Padding = call_faults.NotACall
call_fault faults.BadBool = call_faults.NotACall
call_fault faults.TooLong = call_faults.NotACall
call_fault faults.BadEnum = call_faults.NotACall

-- the number of a fault, as the program prints it
abbrev pub call_fault_number : CallFault → ℕ
call_fault_number call_faults.Short = 1
call_fault_number call_faults.NotACall = 2

-- A result is what reading gives.
abbrev pub GivesCall : Result Call CallFault → Read Message → Type 0
GivesCall (Ok c) (Ok x) = IsCallOf c x.0 x.1
GivesCall (Err e) (Err f) = e ≡ call_fault f
GivesCall (Ok c) (Err f) = ⊥
GivesCall (Err e) (Ok x) = ⊥
