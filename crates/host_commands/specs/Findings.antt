-- What came of asking witnesses.
use Rattle.std.specs.Prelude.{ℕ, ◌+◌}
use Rattle.host_commands.specs.declared.findings.Finding.{Finding}
use Rattle.host_commands.specs.declared.findings.Finding.TheVariants.{Trusted, Suspected, Failed, Exposed}

-- How grave it is: that all are trusted, that somebody is suspected, that a witness couldn't be asked, by the status for
-- it, that somebody is exposed.
abbrev pub rank : Finding → ℕ
rank Trusted = 0
rank Suspected = 1
rank (Failed status) = 2 + status
rank Exposed = 258
