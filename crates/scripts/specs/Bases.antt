-- The bases that nodes of a script give.
use Rattle.std.specs.Prelude.{◌≢◌, ℕ, List, Option, Some, None}
use Rattle.authenticator.specs.declared.member.Member.{Member}
use Rattle.challenge.specs.KnownBases.{IsGoodText, KnownBase, parts_of}
use Rattle.node_logs.specs.Bases.{GivesBase, RefusesBase}
use Rattle.node_logs.specs.Nodes.{NodeParts}
use Rattle.node_logs.specs.declared.base_fault.BaseFault.{BaseFault}
use Rattle.node_logs.specs.declared.base_fault.BaseFault.TheVariants.{NoMemory}
use Rattle.scripts.specs.Nodes.{IsNodeOf}
use Rattle.scripts.specs.declared.parties.Parties.{Parties}

-- A node gives this base at a number of its log, and it is good under a roster, of a member.
pub record GivesGood (ms : List Member) (node : NodeParts) (at : ℕ) (b : KnownBase) (m : Member) : Type 0 where
  pub bytes : List ℕ
  pub gives : GivesBase node at bytes
  pub good : IsGoodText ms bytes (parts_of b) m b.state

-- The node of a script with a number gives this base.
pub record IsGiven (ms : List Member) (parties : Parties) (number at : ℕ) (b : KnownBase) (m : Member)
    : Type 0 where
  pub node : NodeParts
  pub there : IsNodeOf parties number node
  pub base : GivesGood ms node at b m

-- A node gives no base at a number: there is none, or its text would be too long.
pub record IsWithout (node : NodeParts) (at : ℕ) : Type 0 where
  pub fault : BaseFault
  pub refuses : RefusesBase node at fault
  pub enough : fault ≢ NoMemory

-- The node of a script with a number gives none at a number of its log.
pub record IsNotGiven (parties : Parties) (number at : ℕ) : Type 0 where
  pub node : NodeParts
  pub there : IsNodeOf parties number node
  pub none : IsWithout node at
