-- Replies (RFC 5531, section 9, rpc_msg with a reply_body), without the results that may follow.
use Rattle.std.specs.Prelude.{ℕ, ◌==◌, nat_lt, List, [], ◌∷◌, if◌then◌else◌}
use Rattle.std.specs.List.{flat_map}
use Rattle.xdr.specs.Item.{Item, word, word_where, empty, pair, choice, Value, spelling}
use Rattle.rpc.specs.Call.{opaque_auth}
use Rattle.rpc.specs.declared.reply.AuthStat.{AuthStat}
use Rattle.rpc.specs.declared.reply.AuthStat.TheVariants as stats
use Rattle.rpc.specs.declared.reply.ReplyBody.{ReplyBody}
use Rattle.rpc.specs.declared.reply.ReplyBody.TheVariants as bodies
use Rattle.rpc.specs.declared.reply.Reply.{Reply}

-- the lowest and the highest version
abbrev pub mismatch_info : Item
mismatch_info = pair word word

-- accepted_reply: the verifier, and accept_stat: SUCCESS 0, PROG_UNAVAIL 1, PROG_MISMATCH 2, PROC_UNAVAIL 3,
-- GARBAGE_ARGS 4, SYSTEM_ERR 5
abbrev pub accepted_reply : Item
accepted_reply = pair opaque_auth (choice (λ n. nat_lt n 6) (λ n. if n == 2 then mismatch_info else empty))

-- rejected_reply: RPC_MISMATCH 0, AUTH_ERROR 1 with an auth_stat of 0 to 14
abbrev pub rejected_reply : Item
rejected_reply =
    choice (λ n. nat_lt n 2) (λ n. if n == 0 then mismatch_info else word_where (λ s. nat_lt s 15))

-- MSG_ACCEPTED 0 or MSG_DENIED 1
abbrev pub reply_body : Item
reply_body = choice (λ n. nat_lt n 2) (λ n. if n == 0 then accepted_reply else rejected_reply)

-- xid, REPLY, which is 1, and the body
abbrev pub reply : Item
reply = pair word (pair (word_where (λ n. n == 1)) reply_body)

-- AUTH_NONE, with no bytes
abbrev pub no_verifier : Value opaque_auth
no_verifier = (0, [])

-- auth_stat (section 9): AUTH_BADCRED, AUTH_REJECTEDCRED, AUTH_TOOWEAK
abbrev pub auth_stat_number : AuthStat → ℕ
auth_stat_number stats.BadCredential = 1
auth_stat_number stats.RejectedCredential = 2
auth_stat_number stats.TooWeak = 5

-- what a reply's body says
abbrev pub body_value : ReplyBody → Value reply_body
body_value bodies.Success = (0, (no_verifier, (0, tt)))
body_value bodies.ProgramUnavailable = (0, (no_verifier, (1, tt)))
body_value (bodies.ProgramMismatch low high) = (0, (no_verifier, (2, (low, high))))
body_value bodies.ProcedureUnavailable = (0, (no_verifier, (3, tt)))
body_value bodies.GarbageArguments = (0, (no_verifier, (4, tt)))
body_value bodies.SystemError = (0, (no_verifier, (5, tt)))
body_value (bodies.RpcMismatch low high) = (1, (0, (low, high)))
body_value (bodies.AuthError stat) = (1, (1, auth_stat_number stat))

-- what a reply says
abbrev pub reply_value : Reply → Value reply
reply_value r = (r.xid, (1, body_value r.body))

-- the one spelling of a reply
abbrev pub reply_text : Reply → List ℕ
reply_text r = spelling reply (reply_value r)

-- numbers of four bytes, one after the other
abbrev pub numbers_text : List ℕ → List ℕ
numbers_text ns = flat_map (spelling word) ns

-- the words after a reply's first two
abbrev pub body_words : ReplyBody → List ℕ
body_words bodies.Success = 0 ∷ 0 ∷ 0 ∷ 0 ∷ []
body_words bodies.ProgramUnavailable = 0 ∷ 0 ∷ 0 ∷ 1 ∷ []
body_words (bodies.ProgramMismatch low high) = 0 ∷ 0 ∷ 0 ∷ 2 ∷ low ∷ high ∷ []
body_words bodies.ProcedureUnavailable = 0 ∷ 0 ∷ 0 ∷ 3 ∷ []
body_words bodies.GarbageArguments = 0 ∷ 0 ∷ 0 ∷ 4 ∷ []
body_words bodies.SystemError = 0 ∷ 0 ∷ 0 ∷ 5 ∷ []
body_words (bodies.RpcMismatch low high) = 1 ∷ 0 ∷ low ∷ high ∷ []
body_words (bodies.AuthError stat) = 1 ∷ 1 ∷ auth_stat_number stat ∷ []

-- the words of which a reply's spelling consists: xid, REPLY, and those of its body
abbrev pub reply_words : Reply → List ℕ
reply_words r = r.xid ∷ 1 ∷ body_words r.body
