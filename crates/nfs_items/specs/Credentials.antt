-- The body of an AUTH_SYS credential (RFC 5531, appendix A), and the caller that it says.
use Rattle.std.specs.Prelude.{ℕ, ◌<◌, ◌^◌, ◌≤◌, List, length, true, Option, Some, option_map}
use Rattle.std.specs.List.{AllByRecursion}
use Rattle.xdr.specs.Item.{Item, word, opaque, pair, array, Value, spelling}
use Rattle.xdr.specs.Texts.Text.{Text, text_at}
use Rattle.nfs_items.specs.Caller.{Caller}

-- authsys_parms: stamp, machinename, uid, gid, gids
abbrev pub authsys_parms : Item
authsys_parms = pair word (pair (opaque 255) (pair word (pair word (array 16 word))))

-- the parameters and nothing more
abbrev pub credential_text : Text
credential_text = record { item = authsys_parms; test = λ v. true }

-- the stamp says nothing of the caller
abbrev pub caller_of_parms : Value authsys_parms → Caller
caller_of_parms v = record { uid = v.1.1.0; gid = v.1.1.1.0; gids = v.1.1.1.1; machine_name = Some v.1.0 }

-- the caller that a body says; None where it is no body
abbrev pub caller_in : List ℕ → Option Caller
caller_in body = option_map caller_of_parms (text_at credential_text body)

-- the body with a stamp, a machine's name, a user, a group and further groups
abbrev pub body_of : ℕ → List ℕ → ℕ → ℕ → List ℕ → List ℕ
body_of stamp name uid gid gids = spelling authsys_parms (stamp, (name, (uid, (gid, gids))))

-- the caller of a machine's name, a user, a group and further groups
abbrev pub caller_from : List ℕ → ℕ → ℕ → List ℕ → Caller
caller_from name uid gid gids = record { uid = uid; gid = gid; gids = gids; machine_name = Some name }

-- what may be said of a caller: words, a name of at most 255 bytes, and at most 16 further groups
pub record IsCaller (machine : List ℕ) (user group : ℕ) (groups : List ℕ) : Type 0 where
  pub name : length machine ≤ 255
  pub uid : user < 2 ^ 32
  pub gid : group < 2 ^ 32
  pub count : length groups ≤ 16
  pub gids : AllByRecursion (λ g. g < 2 ^ 32) groups
