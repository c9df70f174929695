-- The world of what is seen of a server.
-- Serves: `Service::answer_into`, `Service::is_a_world`.
use Rattle.std.proofs.Common.{◌≡◌, ap}
use Rattle.service.specs.KeptWorld.{KeptWorld}

-- what is seen of a server has one world
pub world_seen : {a b : KeptWorld} → a ≡ b → a.world ≡ b.world
world_seen e = ap (λ (k : KeptWorld). k.world) e
