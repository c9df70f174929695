-- What of a node's log a witness's journal accounts for.
use Rattle.std.specs.Prelude.{◌≡◌, ◌⊎◌, ℕ, true, List, None, IsSome, Contains}
use Rattle.commitment.specs.Senders.LookUps.{IsLastSigned}
use Rattle.commitment.specs.Senders.Sender.{SenderParts, signed_at}
use Rattle.witness_reports.specs.node_book.declared.reply.Indication.TheVariants.{Trusted}
use Rattle.witness_reports.specs.node_book.witness_spec.Events.{Event}
use Rattle.witness_reports.specs.node_book.witness_spec.Replies.{Reply}
use Rattle.node_logs.specs.Nodes.{sender_of}
use Rattle.node_logs.specs.Steps.Nodes.{NodeParts}
use Rattle.witness_reports.specs.Audits.{was_filed_to, was_refused}
use Rattle.witness_reports.specs.declared.report.NodeReport.{NodeReport}

-- The number is the last that was signed: nothing is signed at the 4,096 numbers after it, and something is
-- at the number itself, unless it is 0.
pub record IsEndOfSigned (s : SenderParts) (last : ℕ) : Type 0 where
  pub none_after : IsLastSigned s last None
  pub there : (last ≡ 0) ⊎ IsSome (signed_at s last)

-- A node that is called trusted was audited to this number: a sound segment that ends there is filed; or its
-- audit was refused, and the journal says why.
abbrev pub IsAudited : List (Event × Reply) → NodeReport → (last : ℕ) → Type 0
IsAudited places r last =
    r.indication ≡ Trusted
    → (last ≡ 0) ⊎ (was_filed_to r.node last places ≡ true) ⊎ (was_refused r.node places ≡ true)

-- A node that is called trusted in the end was audited to its last signed entry, or its audit was refused.
pub record IsAccounted (places : List (Event × Reply)) (r : NodeReport) (s : SenderParts) : Type 0 where
  pub last : ℕ
  pub signed : IsEndOfSigned s last
  pub audited : IsAudited places r last

-- There is a report of a node, and its log is accounted for.
pub record HasAccount (rs : List NodeReport) (places : List (Event × Reply)) (n : NodeParts) : Type 0 where
  pub report : NodeReport
  pub there : Contains rs report
  pub is_of : report.node ≡ n.node
  pub accounted : IsAccounted places report (sender_of n)
