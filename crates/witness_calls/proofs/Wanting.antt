-- What doesn't say that memory ran out.
-- Serves: Said's is_no_memory.
use Rattle.std.proofs.Common.{◌≡◌, false, refl}
use Rattle.witness_books.specs.node_book.Replies.{refusal_in}
use Rattle.witness_books.specs.node_book.declared.refusal.Refusal.{Refusal}
use Rattle.witness_books.specs.node_book.declared.refusal.Refusal.TheVariants as f
use Rattle.witness_books.specs.node_book.witness_spec.Replies.{is_want}
use Rattle.witness_calls.specs.Telling.{wants_memory}
use Rattle.witness_calls.specs.declared.said.Said.{Said}
use Rattle.witness_calls.specs.declared.said.Said.TheVariants as s

-- a refusal but NoMemory isn't want of memory
pub other_refusal : (x : Refusal) → (x ≡ f.NoMemory → ⊥) → is_want (refusal_in x) ≡ false
other_refusal f.UnknownNode h = refl
other_refusal f.Garbage h = refl
other_refusal f.BadSignature h = refl
other_refusal f.LearnedFull h = refl
other_refusal f.ChallengesFull h = refl
other_refusal f.OutboxFull h = refl
other_refusal f.TooFar h = refl
other_refusal f.NothingToAudit h = refl
other_refusal f.Busy h = refl
other_refusal f.NotAsked h = refl
other_refusal f.NoJob h = refl
other_refusal f.WrongJob h = refl
other_refusal f.BookFull h = refl
other_refusal f.BelowBase h = refl
other_refusal f.NoMemory h = absurd (h refl)

-- what isn't a refusal isn't want of memory
pub other_said : (x : Said) → ((r : Refusal) → x ≡ s.Refused r → ⊥) → wants_memory x ≡ false
other_said s.Noted h = refl
other_said s.Already h = refl
other_said s.Opened h = refl
other_said s.Accepted h = refl
other_said s.Closed h = refl
other_said (s.Asked first last) h = refl
other_said s.Returned h = refl
other_said (s.Forwarded a) h = refl
other_said s.Empty h = refl
other_said (s.Told i) h = refl
other_said (s.Open cs) h = refl
other_said (s.EvidenceIs e) h = refl
other_said (s.Refused r) h = absurd (h r refl)
