-- Which challenges are open.
use Rattle.std.specs.Prelude.{◌≡◌, ◌↔◌, true, ◌∷◌, ◌++◌}
use Rattle.secure_log.specs.LogEntries.Chain.{IsAmong}
use Rattle.envelopes.specs.Acknowledgement.{acked_message}
use Rattle.witness_spec.specs.Replies.{Reply, Challenge, AuditOf, SendOf}
use Rattle.witness_spec.specs.Replies as replies
use Rattle.witness_spec.specs.Standing.{is_answered, is_send_of, open_challenges}
use Rattle.witness_spec.specs.Steps.{Step, Past}
use Rattle.witness_spec.specs.Steps as steps

-- A step with its reply accepts a challenge: an Audit that was answered Asked, or a SendChallenge that was
-- answered Opened.
abbrev pub Opens : Step → Reply → Challenge → Type 0
Opens steps.Audit (replies.Asked first last) x = x ≡ AuditOf first last
Opens (steps.SendChallenge e) replies.Opened x = x ≡ SendOf e
Opens _ _ x = ⊥

-- A step with its reply answers a challenge: an Accepted answers the audit, and each challenge with a message
-- whose sender, number and hash a RECV in the segment has; a Closed answers the challenge with its own
-- message.
abbrev pub AnswersIt : Step → Reply → Challenge → Type 0
AnswersIt (steps.Answer c) replies.Accepted x = is_answered c.segment x ≡ true
AnswersIt (steps.AckIn a) replies.Closed x = is_send_of (acked_message a) x ≡ true
AnswersIt _ _ x = ⊥

-- Among a node's own steps, the newest first, one accepts a challenge, and none since answers it.
pub record IsUnanswered (past : Past) (x : Challenge) : Type 0 where
  -- the steps since
  pub since : Past
  -- the step that accepts it, with its reply
  pub accepting : Step × Reply
  -- the steps before
  pub before : Past
  -- these are all
  pub all : past ≡ since ++ accepting ∷ before
  -- it accepts it
  pub opens : Opens accepting.0 accepting.1 x
  -- none since answers it
  pub none : (p : Step × Reply) → IsAmong p since → ¬ AnswersIt p.0 p.1 x

-- A challenge is open exactly if it was accepted and not answered since.
abbrev pub OpenExactlyIf : Type 0
OpenExactlyIf = (past : Past) (x : Challenge) → IsAmong x (open_challenges past) ↔ IsUnanswered past x
