-- States are told by their digests.
-- Serves: digests_tell_states.
use Rattle.std.proofs.Common.{ℕ, inl, inr, refl, List, [], ◌∷◌, ◌++◌}
use Rattle.secure_log.specs.LogEntries.Chain.{IsAmong}
use Rattle.state_spec.specs.StateText.{digest_text, state_digest}
use Rattle.state_spec.proofs.Back.{one_state}
use Rattle.replay_spec.specs.StateLaws.{state_texts, DigestsTellStates}
use Rattle.replay_spec.proofs.OfStateLaws.Heads.{heads}
use Rattle.replay_spec.proofs.OfStateLaws.SameMachines.{same_machines}

in_left : (x : List ℕ) (xs ys : List (List ℕ)) → IsAmong x xs → IsAmong x (xs ++ ys)
in_left x [] ys i = absurd i
in_left x (y ∷ xs) ys (inl e) = inl e
in_left x (y ∷ xs) ys (inr i) = inr (in_left x xs ys i)

in_right : (x : List ℕ) (xs ys : List (List ℕ)) → IsAmong x ys → IsAmong x (xs ++ ys)
in_right x [] ys i = i
in_right x (y ∷ xs) ys i = inr (in_right x xs ys i)

-- states are told by their digests, where no two of the texts under these have one digest
pub tells : DigestsTellStates
unfolding state_digest
tells s t h few k unlike digests =
    let same = unlike (digest_text s) (digest_text t)
    (in_left (digest_text s) (state_texts s) (state_texts t) (inl refl))
    (in_right (digest_text t) (state_texts s) (state_texts t) (inl refl)) digests in
    let parts = heads s t s.machine t.machine h.node k.node same in
    let machines = same_machines (state_texts s ++ state_texts t) unlike s t h few k s.machine t.machine
    h.state h.machine k.state k.machine
    (λ x i. in_left x (state_texts s) (state_texts t) (inr (inr i)))
    (λ x i. in_right x (state_texts s) (state_texts t) (inr (inr i))) parts.1 parts.2 in
    one_state s t h.state k.state (λ n. (1, (parts.0 n, machines n)))
