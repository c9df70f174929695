-- Up to where each member's log was audited.
use Rattle.std.specs.Prelude.{◌≡◌, ℕ, ◌==◌, List, [], ◌∷◌, map, Option, Some, None, if◌then◌else◌}
use Rattle.authenticator.specs.Roster.{IsRoster}
use Rattle.authenticator.specs.declared.member.Member.{Member}
use Rattle.witness_spec.specs.evidence_spec.replay_spec.Replay.{Verdict, Sound, Fault}
use Rattle.witness_spec.specs.Events.{Event, JobParts}
use Rattle.witness_spec.specs.Events as events
use Rattle.witness_spec.specs.Replies.{Reply, Filed}
use Rattle.witness_spec.specs.Starting.{Beginning, IsBeginning}
use Rattle.witness_spec.specs.Pairs.{last_of}
use Rattle.witness_spec.specs.Histories.{BookParts}
use Rattle.witness_spec.specs.Contract.{AreBooks, StepsTo}
use Rattle.replay_jobs.specs.Jobs.{job_verdict}
use Rattle.watching.specs.declared.ends.SoundEnd.{SoundEnd}

-- the last number of each member's log that was filed sound, by its book
abbrev pub ends_of : List BookParts → List ℕ
ends_of books = map (λ b. b.end.number) books

-- these numbers with another one for a node
abbrev pub with_end : List Member → (node number : ℕ) → List ℕ → List ℕ
with_end [] node number ends = ends
with_end (m ∷ ms) node number [] = []
with_end (m ∷ ms) node number (e ∷ ends) =
    (if node == m.node then number else e) ∷ with_end ms node number ends

-- the number of a node
abbrev pub end_in : List Member → (node : ℕ) → List ℕ → Option ℕ
end_in [] node ends = None
end_in (m ∷ ms) node [] = None
end_in (m ∷ ms) node (e ∷ ends) = if m.node == node then Some e else end_in ms node ends

-- what a replay with this verdict found sound: the node, and the segment's last number
abbrev pub sound_to : JobParts → Verdict → Option (ℕ × ℕ)
sound_to j (Sound state found) = Some (j.node, last_of j.segment.segment)
sound_to j (Fault fault number) = None

-- what a done value did
abbrev pub end_done : JobParts → Option (ℕ × ℕ)
end_done j = sound_to j (job_verdict j)

-- what the event that files one found sound
abbrev pub end_filed : Event → Option (ℕ × ℕ)
end_filed (events.File d) = sound_to d.job d.verdict
end_filed _ = None

-- the numbers after something was filed
abbrev pub moved_ends : List Member → Option (ℕ × ℕ) → List ℕ → List ℕ
moved_ends ms None ends = ends
moved_ends ms (Some end) ends = with_end ms end.0 end.1 ends

-- what was filed, by the reply
abbrev pub filed_by : Option (ℕ × ℕ) → Reply → Option (ℕ × ℕ)
filed_by end Filed = end
filed_by end _ = None

-- the numbers after an event with its reply: a replay that is filed may move them, nothing else does
abbrev pub ends_after : List Member → Event → Reply → List ℕ → List ℕ
ends_after ms event reply ends = moved_ends ms (filed_by (end_filed event) reply) ends

-- the program's value
abbrev pub end_parts : SoundEnd → ℕ × ℕ
end_parts e = (e.node, e.number)

-- Every step of books moves them so.
abbrev pub StepsMoveEnds : Type 0
StepsMoveEnds =
    (g : Beginning) (old new : List BookParts) (event : Event) (reply : Reply)
    → IsRoster g.roster → IsBeginning g → AreBooks g old → StepsTo g old event reply new
    → ends_of new ≡ ends_after g.roster event reply (ends_of old)
