-- What the laws on honest nodes suppose: that nobody forges a node's signature, and that no two texts have
-- one digest.
use Rattle.std.specs.Prelude.{ℕ, Option, Some, None, List, [], ◌∷◌, ◌++◌, flat_map}
use Rattle.std.specs.List.{AllByRecursion}
use Rattle.authenticator.specs.declared.authenticator.Authenticator.{Authenticator}
use Rattle.secure_log.specs.LogEntries.Chain.{Logged, NoCollision}
use Rattle.state_spec.specs.State.{State}
use Rattle.evidence_spec.specs.replay_spec.StateLaws.{state_texts}
use Rattle.evidence_spec.specs.Proving.{IsUnforgedIn, texts_of, versioned_texts, showing_texts}
use Rattle.witness_spec.specs.Starting.{KnownBase}
use Rattle.witness_spec.specs.Watched.{Watched}
use Rattle.witness_spec.specs.Steps.{Step, Learn, Answer, Past}

-- the authenticators that a step shows: one to be learned, or the closing of a segment
abbrev pub authenticators_in : Step → List Authenticator
authenticators_in (Learn a) = a ∷ []
authenticators_in (Answer c) = c.segment.closing ∷ []
authenticators_in _ = []

-- the texts that are hashed for a segment
abbrev pub texts_in : Step → List (List ℕ)
texts_in (Answer c) = versioned_texts c.segment
texts_in _ = []

-- the authenticator that a base shows: the closing of its showing
abbrev pub base_closings : Option KnownBase → List Authenticator
base_closings None = []
base_closings (Some b) = b.parts.showing.closing ∷ []

-- the texts that are hashed for a base's showing and its state, and for the states that a log comes to; none without
-- a base
abbrev pub base_texts : Option KnownBase → List State → List (List ℕ)
base_texts None states = []
base_texts (Some b) states = showing_texts b.parts.showing ++ flat_map state_texts (b.state ∷ states)

-- Each authenticator of a node that its base or one of its own steps shows, and that is signed, has its pair in the
-- log.
abbrev pub Unforged : Watched → List Logged → Past → Type 0
Unforged w log past =
    AllByRecursion (IsUnforgedIn w.member.log_version w.roster w.member.node log)
    (base_closings w.base ++ flat_map (λ p. authenticators_in p.0) past)

-- No two texts have one digest, among those of the log and those of the segments among a node's own steps; with a
-- base also those of its showing and its state, and of the states that the log comes to.
abbrev pub NoCollisionWith : Watched → List Logged → List State → Past → Type 0
NoCollisionWith w log states past =
    NoCollision (texts_of log ++ (base_texts w.base states ++ flat_map (λ p. texts_in p.0) past))
