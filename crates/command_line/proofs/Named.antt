-- A subcommand of a name that isn't found has another name. Serves: keys_request_in, hosts_request_in.
use Rattle.std.proofs.Common.{◌≡◌, true, false}

pub not_so : false ≡ true → ⊥
not_so h = cc
