-- What a caller asks of attributes (RFC 1094, section 2.3.6, sattr).
use Rattle.std.specs.Prelude.{ℕ, ◌%◌, ◌==◌, ◌||◌, nat_lt, Bool, Option, Some, None, is_some, if◌then◌else◌}
use Rattle.fs_spec.specs.nfs_items.Timeval.{Timeval}
use Rattle.fs_spec.specs.nfs_items.declared.sattr.Sattr.{Sattr}

-- the word of all ones
abbrev pub all_ones : ℕ
all_ones = 0xffff_ffff

-- a word of all ones is ignored
abbrev pub given_word : ℕ → Option ℕ
given_word n = if n == all_ones then None else Some n

-- a mode is ignored at 0000ffff too, and of another the low twelve bits are meant
abbrev pub given_mode : ℕ → Option ℕ
given_mode n = if (n == all_ones) || (n == 0xffff) then None else Some (n % 0o10000)

-- a time is ignored where its seconds are all ones; with microseconds above 999,999 it is the clock reading
abbrev pub given_time : Timeval → Timeval → Option Timeval
given_time now t =
    if t.seconds == all_ones then None
    else if nat_lt 999_999 t.microseconds then Some now
    else Some t

-- what is given
pub record GivenFields : Type 0 where
  pub mode : Option ℕ
  pub uid : Option ℕ
  pub gid : Option ℕ
  pub size : Option ℕ
  pub atime : Option Timeval
  pub mtime : Option Timeval

-- what a sattr gives, at a clock reading
abbrev pub given_fields : Timeval → Sattr → GivenFields
given_fields now s = record {
  mode = given_mode s.mode;
  uid = given_word s.uid;
  gid = given_word s.gid;
  size = given_word s.size;
  atime = given_time now s.atime;
  mtime = given_time now s.mtime;
}

-- whether anything is given
abbrev pub gives_any : GivenFields → Bool
gives_any a =
    is_some a.mode || is_some a.uid || is_some a.gid || is_some a.size || is_some a.atime || is_some a.mtime

-- nothing is given
abbrev pub no_fields : GivenFields
no_fields = record { mode = None; uid = None; gid = None; size = None; atime = None; mtime = None }
