-- What replies in memory say.
use Rattle.std.specs.Prelude.{map, option_map}
use Rattle.std.specs.Arc.{arc_value}
use Rattle.witness_spec.specs.Events.{JobParts}
use Rattle.witness_spec.specs.Refusals as refusals
use Rattle.witness_spec.specs.Replies as spec
use Rattle.challenge.specs.declared.challenge.Challenge.{Challenge}
use Rattle.challenge.specs.declared.challenge.Challenge.TheVariants as challenges
use Rattle.replay_jobs.specs.Jobs.{done_parts}
use Rattle.node_book.specs.declared.refusal.Refusal.{Refusal}
use Rattle.node_book.specs.declared.refusal.Refusal.TheVariants as f
use Rattle.node_book.specs.declared.reply.Indication.{Indication}
use Rattle.node_book.specs.declared.reply.Indication.TheVariants as i
use Rattle.node_book.specs.declared.reply.ReplyOf.{ReplyOf}
use Rattle.node_book.specs.declared.reply.ReplyOf.TheVariants as r

-- a refusal
abbrev pub refusal_in : Refusal → refusals.Refusal
refusal_in f.UnknownNode = refusals.UnknownNode
refusal_in f.Garbage = refusals.Garbage
refusal_in f.BadSignature = refusals.BadSignature
refusal_in f.LearnedFull = refusals.LearnedFull
refusal_in f.ChallengesFull = refusals.ChallengesFull
refusal_in f.OutboxFull = refusals.OutboxFull
refusal_in f.TooFar = refusals.TooFar
refusal_in f.NothingToAudit = refusals.NothingToAudit
refusal_in f.Busy = refusals.Busy
refusal_in f.NotAsked = refusals.NotAsked
refusal_in f.NoJob = refusals.NoJob
refusal_in f.WrongJob = refusals.WrongJob
refusal_in f.BookFull = refusals.BookFull
refusal_in f.NoMemory = refusals.NoMemory
refusal_in f.BelowBase = refusals.BelowBase

-- what is said of a node
abbrev pub indication_in : Indication → spec.Indication
indication_in i.Trusted = spec.Trusted
indication_in i.Suspected = spec.Suspected
indication_in i.Exposed = spec.Exposed

-- a challenge
abbrev pub challenge_in : Challenge → spec.Challenge
challenge_in (challenges.Audit first last) = spec.AuditOf first last
challenge_in (challenges.Send envelope) = spec.SendOf envelope

-- a reply, or its plain words
abbrev pub reply_in : ReplyOf JobParts JobParts → spec.Reply
reply_in r.Noted = spec.Noted
reply_in r.Already = spec.Already
reply_in r.Opened = spec.Opened
reply_in r.Accepted = spec.Accepted
reply_in r.Closed = spec.Closed
reply_in (r.Asked first last) = spec.Asked first last
reply_in (r.Job j) = spec.Job j
reply_in r.Filed = spec.Filed
reply_in r.Returned = spec.Returned
reply_in (r.Forwarded a) = spec.Forwarded a
reply_in r.Empty = spec.Empty
reply_in (r.Told i) = spec.Told (indication_in i)
reply_in (r.OpenList cs) = spec.OpenList (map challenge_in cs.items)
reply_in (r.EvidenceIs e) = spec.EvidenceIs (option_map arc_value e)
reply_in (r.Refused f) = spec.Refused (refusal_in f)
reply_in (r.FileRefused f j) = spec.FileRefused (refusal_in f) (done_parts j)
reply_in (r.PutBackRefused f j) = spec.PutBackRefused (refusal_in f) j
