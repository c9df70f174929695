-- What is owed to records one after the other, and the world after them: some records, and then more.
-- Serves: `Batch::fill`, serve_at_hand, run_rpc.
use Rattle.std.proofs.Common.{◌≡◌, ℕ, ◌+◌, List, [], ◌∷◌, ◌++◌, length, sym, ap, ◌∙◌, refl, append_assoc}
use Rattle.std.proofs.lemmas.List.{append-nil}
use Rattle.nfs_items.specs.Timeval.{Timeval}
use Rattle.server_spec.specs.World.{World}
use Rattle.server_spec.specs.Replies.{reply_owed, world_after}
use Rattle.server_spec.specs.Owed.{record_of, replies_owed, world_after_all}
use Rattle.stream_spec.specs.InTurn.{with_times}
use Rattle.stream_spec.proofs.Timed.{with_times-append}
use Rattle.rpc_streams.specs.RunRpc.{time_of}
use Rattle.rpc_streams.specs.Batches.{owed_from, world_from}

-- ---- records at their times

replies_owed-append : (w : World) (cs ds : List (Timeval × List ℕ))
    → replies_owed w (cs ++ ds) ≡ replies_owed w cs ++ replies_owed (world_after_all w cs) ds
replies_owed-append w [] ds = refl
replies_owed-append w (c ∷ cs) ds =
    ap (λ (t : List ℕ). record_of (reply_owed w c.0 c.1) ++ t)
    (replies_owed-append (world_after w c.0 c.1) cs ds)
    ∙ sym (append_assoc (record_of (reply_owed w c.0 c.1)) (replies_owed (world_after w c.0 c.1) cs)
    (replies_owed (world_after_all (world_after w c.0 c.1) cs) ds))

world_after_all-append : (w : World) (cs ds : List (Timeval × List ℕ))
    → world_after_all w (cs ++ ds) ≡ world_after_all (world_after_all w cs) ds
world_after_all-append w [] ds = refl
world_after_all-append w (c ∷ cs) ds = world_after_all-append (world_after w c.0 c.1) cs ds

-- ---- from the k-th record on

-- what is owed to some records and then to others
pub owed_from-append : (w : World) (k : ℕ) (rs ss : List (List ℕ))
    → owed_from w k (rs ++ ss) ≡ owed_from w k rs ++ owed_from (world_from w k rs) (k + length rs) ss
owed_from-append w k rs ss =
    ap (replies_owed w) (with_times-append time_of k rs ss)
    ∙ replies_owed-append w (with_times time_of k rs) (with_times time_of (k + length rs) ss)

-- the world after some records and then others
pub world_from-append : (w : World) (k : ℕ) (rs ss : List (List ℕ))
    → world_from w k (rs ++ ss) ≡ world_from (world_from w k rs) (k + length rs) ss
world_from-append w k rs ss =
    ap (world_after_all w) (with_times-append time_of k rs ss)
    ∙ world_after_all-append w (with_times time_of k rs) (with_times time_of (k + length rs) ss)

-- one record more
pub owed_from-push : (w : World) (k : ℕ) (rs : List (List ℕ)) (r : List ℕ)
    → owed_from w k (rs ++ r ∷ [])
    ≡ owed_from w k rs ++ record_of (reply_owed (world_from w k rs) (time_of (k + length rs)) r)
owed_from-push w k rs r =
    owed_from-append w k rs (r ∷ [])
    ∙ ap (λ (t : List ℕ). owed_from w k rs ++ t)
    (append-nil (record_of (reply_owed (world_from w k rs) (time_of (k + length rs)) r)))

-- the world after one record more
pub world_from-push : (w : World) (k : ℕ) (rs : List (List ℕ)) (r : List ℕ)
    → world_from w k (rs ++ r ∷ []) ≡ world_after (world_from w k rs) (time_of (k + length rs)) r
world_from-push w k rs r = world_from-append w k rs (r ∷ [])
