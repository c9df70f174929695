-- The reply owed and the world after it are those of the functions, and no others.
-- Serves: `laws::one_answer`, `laws::reply_owed_is_the_answer`.
use Rattle.std.proofs.Common.{◌≡◌, ℕ, List, Ok, Err, refl, sym, ap, ◌∙◌}
use Rattle.std.specs.Prelude.{Option, Some}
use Rattle.xdr.specs.Item.{IsBytes}
use Rattle.xdr.specs.Reading.{Read}
use Rattle.rpc.specs.Call.{Message, message_at}
use Rattle.rpc.proofs.Messages.{read_is_said, said_is_read, says_one_call}
use Rattle.mount_types.specs.nfs_items.Timeval.{Timeval}
use Rattle.server_spec.specs.World.{World, at_time}
use Rattle.server_spec.specs.Replies.{Answers, silence, reply, reply_to, reply_of_call, world_after_call}
use Rattle.server_spec.specs.Replies.{reply_owed, world_after}

-- what the functions give is an answer
by_reading : (w : World) (time : Timeval) (bytes : List ℕ) (read : Read Message) → IsBytes bytes
    → message_at bytes ≡ read
    → Answers w time bytes (world_after_call (at_time w time) read) (reply_of_call (at_time w time) read)
by_reading w time bytes (Ok x) bound e = reply x.0 x.1 (read_is_said bytes x bound e) refl refl
by_reading w time bytes (Err f) bound e =
    silence (λ m rest said. let never : message_at bytes ≡ Ok (m, rest) = said_is_read bytes m rest said in
    absurd cc) refl refl

-- what the functions give of a record is its answer
pub answers_owed : (w : World) (time : Timeval) (bytes : List ℕ) → IsBytes bytes
    → Answers w time bytes (world_after w time bytes) (reply_owed w time bytes)
unfolding reply_owed world_after
answers_owed w time bytes bound = by_reading w time bytes (message_at bytes) bound refl

-- two answers to one record are the same
pub one_answer : (w : World) (time : Timeval) (bytes : List ℕ) (v u : World) (r s : Option (List ℕ))
    → Answers w time bytes v r → Answers w time bytes u s → (v ≡ u) × (r ≡ s)
one_answer w time bytes v u r s (silence none e f) (silence none' e' f') = (e ∙ sym e', f ∙ sym f')
one_answer w time bytes v u r s (silence none e f) (reply m rest said e' f') = absurd (none m rest said)
one_answer w time bytes v u r s (reply m rest said e f) (silence none e' f') = absurd (none m rest said)
one_answer w time bytes v u r s (reply m rest said e f) (reply n rest' said' e' f') =
    let one = says_one_call bytes m n rest rest' said said' in
    let same : reply_to (at_time w time) m rest ≡ reply_to (at_time w time) n rest' =
    ap (λ (k : Message). reply_to (at_time w time) k rest) one.0 ∙ ap (reply_to (at_time w time) n) one.1 in
    (e ∙ ap (λ x. x.1) same ∙ sym e', f ∙ ap (λ x. Some x.0) same ∙ sym f')
