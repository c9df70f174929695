-- The name of a machine that AUTH_SYS gives has at most 255 bytes.
-- Serves: `checks::sys_caller`.
use Rattle.std.proofs.Common.{◌≡◌, ℕ, ◌≤◌, List, length, Option, Some, None, ap}
use Rattle.std.specs.Prelude.{IfSome, option_map}
use Rattle.xdr.specs.Item.{IsBytes}
use Rattle.nfs_procs.specs.nfs_items.Caller.{Caller}
use Rattle.nfs_procs.specs.nfs_items.CallerOf.{caller_of}
use Rattle.nfs_procs.specs.nfs_items.Credentials.{caller_in}
use Rattle.nfs_procs.specs.nfs_items.declared.who.Who.{Who}
use Rattle.nfs_procs.proofs.nfs_items.Credentials.{said}
use Rattle.service.specs.Views.{HasShortName}

short : {R : Type 0} (value : R → List ℕ) (m : Option R) (name : List ℕ) → length name ≤ 255
    → option_map value m ≡ Some name → IfSome m (λ r. length (value r) ≤ 255)
short value None name few is = tt
short value (Some r) name few is = let e : value r ≡ name = cc in rw (e) few

-- a caller that a body says has a short name
pub named : (who : Who) (body : List ℕ) → IsBytes body → caller_in body ≡ Some (caller_of who)
    → HasShortName who
named who body bound is =
    let p = said body (caller_of who) bound is in
    short _ who.machine_name p.1 p.6.name (ap (λ (c : Caller). c.machine_name) p.7)
