-- A reply's spelling is its words, one after the other.
-- Serves: write_reply.
use Rattle.std.proofs.Common.{◌≡◌, ap, List, ◌++◌, ℕ, append_assoc}
use Rattle.std.proofs.lemmas.List.{append-nil}
use Rattle.xdr.specs.Item.{spelling, number_spelling}
use Rattle.rpc.specs.Reply.{reply_body, body_value, reply_text, numbers_text, body_words, reply_words}
use Rattle.rpc.specs.declared.reply.Reply.{Reply}
use Rattle.rpc.specs.declared.reply.ReplyBody.{ReplyBody}
use Rattle.rpc.specs.declared.reply.ReplyBody.TheVariants as bodies

-- of each body
body_says_words : (b : ReplyBody) → spelling reply_body (body_value b) ≡ numbers_text (body_words b)
body_says_words bodies.Success = simp (append_assoc, append-nil)
body_says_words bodies.ProgramUnavailable = simp (append_assoc, append-nil)
body_says_words (bodies.ProgramMismatch low high) = simp (append_assoc, append-nil)
body_says_words bodies.ProcedureUnavailable = simp (append_assoc, append-nil)
body_says_words bodies.GarbageArguments = simp (append_assoc, append-nil)
body_says_words bodies.SystemError = simp (append_assoc, append-nil)
body_says_words (bodies.RpcMismatch low high) = simp append-nil
body_says_words (bodies.AuthError stat) = simp append-nil

-- of a whole reply
pub says_words : (r : Reply) → reply_text r ≡ numbers_text (reply_words r)
says_words r =
    ap (λ (t : List ℕ). number_spelling 4 r.xid ++ (number_spelling 4 1 ++ t)) (body_says_words r.body)
