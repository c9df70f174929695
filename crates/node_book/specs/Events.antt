-- What events and steps in memory say.
use Rattle.authenticator.specs.declared.member.Member.{Member}
use Rattle.witness_spec.specs.Events.{JobParts, PublicKey}
use Rattle.witness_spec.specs.Events as spec
use Rattle.witness_spec.specs.Steps as steps
use Rattle.replay_jobs.specs.Jobs.{done_parts}
use Rattle.node_book.specs.declared.event.EventOf.{EventOf}
use Rattle.node_book.specs.declared.event.EventOf.TheVariants as e
use Rattle.node_book.specs.declared.event.Question.{Question}
use Rattle.node_book.specs.declared.event.Question.TheVariants as q
use Rattle.node_book.specs.declared.step.Step.{Step}
use Rattle.node_book.specs.declared.step.Step.TheVariants as s

-- the question that is asked
abbrev pub question_in : Question → spec.Question
question_in q.Indication = spec.ItsIndication
question_in q.Challenges = spec.ItsChallenges
question_in q.Evidence = spec.ItsEvidence

-- a member's public key
abbrev pub key_of : Member → PublicKey
key_of m = record { root = m.root; height = m.height }

-- an event, or its plain words
abbrev pub event_in : EventOf JobParts JobParts → spec.Event
event_in (e.Deliver bytes) = spec.Deliver bytes.items
event_in (e.Learn c) = spec.Learn c.value (key_of c.member)
event_in (e.SendChallenge c) = spec.SendChallenge c.value (key_of c.member)
event_in (e.Answer c) = spec.Answer c
event_in (e.AckIn c) = spec.AckIn c.value (key_of c.member)
event_in (e.Audit node) = spec.Audit node
event_in (e.Begin node) = spec.Begin node
event_in (e.File j) = spec.File (done_parts j)
event_in (e.PutBack j) = spec.PutBack j
event_in (e.Forward node) = spec.Forward node
event_in (e.Ask node question) = spec.Ask node (question_in question)

-- a step of one node's book
abbrev pub step_in : Step → steps.Step
step_in (s.Learn a) = steps.Learn a
step_in (s.SendChallenge c) = steps.SendChallenge c
step_in (s.Answer c) = steps.Answer c
step_in (s.AckIn a) = steps.AckIn a
step_in s.Audit = steps.Audit
step_in s.Begin = steps.Begin
step_in (s.File j) = steps.File (done_parts j)
step_in (s.PutBack j) = steps.PutBack j
step_in s.Forward = steps.Forward
step_in (s.Ask question) = steps.Ask (question_in question)
