-- A server's world, and which of its files have no digest that is kept.
use Rattle.std.specs.Prelude.{List, refl}
use Rattle.std.specs.Coded.{Coded, code_by, coded×, coded_list, coded_ℕ}
use Rattle.nfs_procs.specs.nfs_items.Terms.{FileNumber}
use Rattle.server_spec.specs.World.{World, world_code}

-- a world, and the numbers of the files whose digest isn't kept
pub record KeptWorld : Type 0 where
  pub world : World
  pub missing : List FileNumber

-- they are told apart by both
abbrev pub kept_world_code : Coded KeptWorld
kept_world_code =
    code_by (World × List FileNumber) (coded× world_code (coded_list coded_ℕ)) (λ k. (k.world, k.missing))
    (λ p. record { world = p.0; missing = p.1 }) (λ _. refl)
