-- What a run of the service may be asked.
use Rattle.std.specs.Prelude.{ℕ, ◌≤◌, IfSome}
use Rattle.serve_options.specs.declared.options.ServeOptions.{ServeOptions}

-- a height of a tree of keys, with which a log has no more entries than a witness audits
abbrev pub IsHeight : ℕ → Type 0
IsHeight height = (1 ≤ height) × (height ≤ 15)

-- so many connections, such heights, at most a day of silence where there is an end to it, and so many calls between
-- two CHECKs where there are some
pub record AreServeOptions (o : ServeOptions) : Type 0 where
  pub some : 1 ≤ o.connections
  pub most : o.connections ≤ 16
  pub server : IsHeight o.heights.server
  pub client : IsHeight o.heights.client
  pub idle : IfSome o.idle (λ seconds. (1 ≤ seconds) × (seconds ≤ 86400))
  pub check_every : IfSome o.check_every (λ calls. (1 ≤ calls) × (calls ≤ 16384))
