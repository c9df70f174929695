use Rattle.std.proofs.Common.{◌≡◌, Ok, Err, None, refl, sym}
use Rattle.std.proofs.lemmas.Option.{none-some}
use Rattle.std.proofs.lemmas.Bool.{false≢true}
use Rattle.std.specs.Prelude.{◌↔◌, IsOk}
use Rattle.xdr.specs.Reading.{Read}
use Rattle.rpc.specs.Call.{Message, message_at}
use Rattle.server_spec.specs.World.{World, at_time}
use Rattle.server_spec.specs.Replies.{reply_of_call, reply_owed}
use Rattle.remote.proofs.laws.replies_are_owed_to_calls.Goals as goal

-- a reply is given to a call alone
owed_to : (w : World) (m : Read Message) → (reply_of_call w m ≡ None) ↔ (IsOk m → ⊥)
owed_to w (Ok x) = (λ e. absurd (none-some _ (sym e)), λ n. absurd (n refl))
owed_to w (Err e) = (λ none ok. false≢true ok, λ n. refl)

pub returns : goal.returns
unfolding reply_owed
returns c w time bytes = owed_to (at_time w time) (message_at bytes)
