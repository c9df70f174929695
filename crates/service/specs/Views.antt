-- What the program's values say of a call that was checked.
use Rattle.std.specs.Prelude.{◌≤◌, length, Result, Ok, Err, IfSome}
use Rattle.rpc.specs.declared.reply.ReplyBody.{ReplyBody}
use Rattle.nfs_procs.specs.nfs_items.Caller.{Caller}
use Rattle.nfs_procs.specs.nfs_items.CallerOf.{caller_of}
use Rattle.nfs_procs.specs.nfs_items.declared.who.Who.{Who}
use Rattle.nfs_types.specs.Arguments as nfs
use Rattle.nfs_types.specs.Bounds as nfs_bounds
use Rattle.mount.specs.mount_types.Arguments as mount
use Rattle.mount.specs.mount_types.declared.limits.TheConstants.{MNTNAMLEN}
use Rattle.mount.specs.mount_types.Bounds as mount_bounds
use Rattle.service.specs.declared.checks.ServedArgs.{ServedArgs}
use Rattle.service.specs.declared.checks.ServedArgs.TheVariants as code
use Rattle.server_spec.specs.Replies.{OrRefusal, ServedCall, Nfs, Mount}

-- the caller that was set, or the refusal
abbrev pub view_of_caller : Who → Result (Unit {0}) ReplyBody → OrRefusal Caller
view_of_caller who (Ok x) = Ok (caller_of who)
view_of_caller who (Err body) = Err body

-- the name of a caller's machine, where it gave one, has at most MNTNAMLEN bytes (RFC 1094, section A.3)
abbrev pub HasShortName : Who → Type 0
HasShortName who = IfSome who.machine_name (λ name. length name.now ≤ MNTNAMLEN)

-- the call that the program's value says
abbrev pub served_of : ServedArgs → ServedCall
served_of (code.Nfs args) = Nfs (nfs.call_of args)
served_of (code.Mount args) = Mount (mount.call_of args)

-- the call that the program's value says, or the refusal
abbrev pub view_of_served : Result ServedArgs ReplyBody → OrRefusal ServedCall
view_of_served (Ok args) = Ok (served_of args)
view_of_served (Err body) = Err body

-- the caller that was set with the call, or the refusal
abbrev pub view_of_call : Who → Result ServedArgs ReplyBody → OrRefusal (Caller × ServedCall)
view_of_call who (Ok args) = Ok (caller_of who, served_of args)
view_of_call who (Err body) = Err body

-- the arguments are within the bounds of what is read from bytes
abbrev pub IsBounded : ServedArgs → Type 0
IsBounded (code.Nfs args) = nfs_bounds.HasBounds (nfs.call_of args)
IsBounded (code.Mount args) = mount_bounds.HasBounds (mount.call_of args)
