-- What histories reach.
use Rattle.std.specs.Prelude.{List}
use Rattle.authenticator.specs.declared.member.Member.{Member}
use Rattle.witness_spec.specs.Refusals.{Refusal}
use Rattle.witness_spec.specs.Events.{Event}
use Rattle.witness_spec.specs.Replies.{Reply, refused}
use Rattle.witness_spec.specs.Starting.{from_the_first}
use Rattle.witness_spec.specs.Watched.{Watched, watched}
use Rattle.witness_spec.specs.Steps.{Step, Past}
use Rattle.witness_spec.specs.Owing.{Owes}
use Rattle.witness_spec.specs.Histories.{History, IsOwed, AreOwed}

-- a member of a roster, watched without a base
abbrev pub watched_in : List Member → Member → Watched
watched_in ms m = watched (from_the_first ms) m

-- From an empty book on, each of a node's own steps has the reply that is owed to it after the earlier ones;
-- and after them all a step is owed this reply.
pub record Reaches (w : Watched) (past : Past) (step : Step) (reply : Reply) : Type 0 where
  pub steps : AreOwed w past
  pub next : Owes w past step reply

-- An event is owed this refusal after every history.
abbrev pub IsRefused : List Member → Event → Refusal → Type 0
IsRefused ms event refusal =
    (history : History) → IsOwed (from_the_first ms) history event (refused event refusal)
