-- What a node showed of its own log: its authenticators and its answers are of that log.
-- Serves: own_words_never_expose.
use Rattle.std.proofs.Common.{◌≡◌, ℕ, ◌-◌, List, [], ◌∷◌, ◌++◌, Some, None, sym, ap, subst, ◌∙◌, append_assoc}
use Rattle.std.specs.Prelude.{flat_map}
use Rattle.std.specs.List.{AllByRecursion}
use Rattle.authenticator.specs.declared.authenticator.Authenticator.{Authenticator}
use Rattle.authenticator.specs.Numbers.{number_in}
use Rattle.secure_log.specs.LogEntries.Chain.{Logged, NoCollision, IsAmong, chain_texts, logged_links}
use Rattle.secure_log.specs.Log.{log_hash, log_pairs}
use Rattle.secure_log.specs.Part.{open_entries}
use Rattle.secure_log.specs.Versioned.{VersionedParts}
use Rattle.commitment.specs.Senders.Sender.{SenderParts, IsSender}
use Rattle.commitment.specs.Senders.LookUps.{IsAuthenticatorAt, authenticator_at}
use Rattle.state_spec.specs.State.{State}
use Rattle.node_logs.specs.Steps.Nodes.{NodeParts, sender_of}
use Rattle.secure_log.proofs.OfLogEntries.FewerTexts.{Within, fewer, both}
use Rattle.witness_laws.specs.evidence_spec.Proving.{IsUnforgedIn, entry_texts, texts_of, versioned_texts}
use Rattle.witness_laws.specs.witness_spec.Watched.{Watched}
use Rattle.witness_laws.specs.witness_spec.Steps.{Step, Learn, SendChallenge, Answer, AckIn, Audit, Begin}
use Rattle.witness_laws.specs.witness_spec.Steps.{File, PutBack}
use Rattle.witness_laws.specs.witness_spec.Steps.{Forward, Ask, Past}
use Rattle.witness_laws.specs.witness_spec.Premises.{NoCollisionWith, Unforged, authenticators_in, base_closings}
use Rattle.witness_laws.specs.witness_spec.Premises.{base_texts, texts_in}
use Rattle.witness_node_laws.specs.Logs.{WentOn, IsAnswered, ShowsItsOwn}
use Rattle.witness_node_laws.proofs.Pairs.{EachPlace, of_longer, of_place}
use Rattle.witness_node_laws.proofs.Hashed.{texts_of_part}

-- what tells that a sender's authenticators are of its log
abbrev pub OfItsLog : Type 0
OfItsLog =
    (s : SenderParts) (number : ℕ) (a : Authenticator) → IsSender s → authenticator_at s number ≡ Some a
    → IsAuthenticatorAt s number a

module _ (each : EachPlace) (of_log : OfItsLog) (n : NodeParts) where
  -- the number and hash of an authenticator are a pair of the log that the node has now
  abbrev InLog : Authenticator → Type 0
  InLog a = IsAmong (number_in n.log_version a.word, a.hash) (log_pairs n.entries)

  -- an authenticator that a node made has its pair there
  made_in_log : (before : NodeParts) → WentOn before n → (number : ℕ) (a : Authenticator)
      → authenticator_at (sender_of before) number ≡ Some a → InLog a
  made_in_log before went number a made =
      subst (λ v. IsAmong (number_in v a.word, a.hash) (log_pairs n.entries)) went.version
      (subst (λ es. IsAmong (number_in before.log_version a.word, a.hash) (log_pairs es)) (sym went.entries)
      (of_longer (number_in before.log_version a.word, a.hash) before.entries went.rest
      (of_place each (sender_of before) number a went.sender
      (of_log (sender_of before) number a went.sender made).place)))

  closing_in_log : (s : VersionedParts) → IsAnswered n s → InLog s.closing
  closing_in_log s h =
      subst (λ (x : VersionedParts). InLog x.closing) (sym h.is)
      (made_in_log h.before h.went_on h.last h.answers.answer.closing h.answers.answer.made)

  -- the texts of a segment that a node answered are among those of its log
  answered_texts : (s : VersionedParts) → IsAnswered n s
      → Within (versioned_texts s) (texts_of n.entries)
  answered_texts s h =
      let part = h.answers.answer.part in
      let at = h.answers.answer.of_log in
      let p = at.part in
      let es : List Logged = open_entries part in
      let whole : n.entries ≡ p.before ++ (es ++ (p.rest ++ h.went_on.rest)) =
      h.went_on.entries ∙ (ap (λ (l : List Logged). l ++ h.went_on.rest) p.whole
      ∙ (append_assoc p.before (es ++ p.rest) h.went_on.rest
      ∙ ap (λ (l : List Logged). p.before ++ l) (append_assoc es p.rest h.went_on.rest))) in
      let texts : List ℕ → List (List ℕ) =
      λ o. chain_texts o (logged_links (part.first - 1) es) ++ flat_map (λ l. entry_texts l.entry) es in
      let here : Within (texts (log_hash p.before)) (texts_of n.entries) =
      subst (λ l. Within (texts (log_hash p.before)) (texts_of l)) (sym whole)
      (texts_of_part p.before es (p.rest ++ h.went_on.rest) part.first (p.place ∙ sym at.number)) in
      subst (λ (x : VersionedParts). Within (versioned_texts x) (texts_of n.entries)) (sym h.is)
      (subst (λ o. Within (texts o) (texts_of n.entries)) (sym at.opening) here)

  module _ (w : Watched) (version : w.member.log_version ≡ n.log_version) where
    -- none of these signatures of the node is forged
    abbrev AreUnforged : List Authenticator → Type 0
    AreUnforged =
        AllByRecursion
        (IsUnforgedIn w.member.log_version w.roster w.member.node n.entries)

    -- the same under the roster's version of the log
    as_listed : (a : Authenticator) → InLog a
        → IsAmong (number_in w.member.log_version a.word, a.hash) (log_pairs n.entries)
    as_listed a i =
        subst (λ v. IsAmong (number_in v a.word, a.hash) (log_pairs n.entries)) (sym version) i

    unforged_in : (s : Step) → ShowsItsOwn n s → AreUnforged (authenticators_in s)
    unforged_in (Learn a) h =
        (λ of signed. as_listed a (made_in_log h.before h.went_on h.number a h.made), tt)
    unforged_in (SendChallenge e) h = tt
    unforged_in (Answer c) h =
        (λ of signed. as_listed c.segment.closing (closing_in_log c.segment h), tt)
    unforged_in (AckIn a) h = tt
    unforged_in Audit h = tt
    unforged_in Begin h = tt
    unforged_in (File d) h = tt
    unforged_in (PutBack j) h = tt
    unforged_in Forward h = tt
    unforged_in (Ask q) h = tt

    all_joined : (xs ys : List Authenticator) → AreUnforged xs → AreUnforged ys → AreUnforged (xs ++ ys)
    all_joined [] ys h k = k
    all_joined (x ∷ xs) ys h k = (h.0, all_joined xs ys h.1 k)

    all_unforged : (past : Past) → AllByRecursion (λ p. ShowsItsOwn n p.0) past
        → AreUnforged (flat_map (λ p. authenticators_in p.0) past)
    all_unforged [] h = tt
    all_unforged (p ∷ past) h =
        all_joined (authenticators_in p.0) (flat_map (λ q. authenticators_in q.0) past) (unforged_in p.0 h.0)
        (all_unforged past h.1)

    -- Where all that own steps show the node showed itself, and there is no base, no signature among them is
    -- forged.
    pub unforged : (past : Past) → w.base ≡ None → AllByRecursion (λ p. ShowsItsOwn n p.0) past
        → Unforged w n.entries past
    unforged past unbased h =
        subst (λ b. AreUnforged (base_closings b ++ flat_map (λ p. authenticators_in p.0) past)) (sym unbased)
        (all_unforged past h)

  texts_within : (s : Step) → ShowsItsOwn n s → Within (texts_in s) (texts_of n.entries)
  texts_within (Learn a) h t i = absurd i
  texts_within (SendChallenge e) h t i = absurd i
  texts_within (Answer c) h t i = answered_texts c.segment h t i
  texts_within (AckIn a) h t i = absurd i
  texts_within Audit h t i = absurd i
  texts_within Begin h t i = absurd i
  texts_within (File d) h t i = absurd i
  texts_within (PutBack j) h t i = absurd i
  texts_within Forward h t i = absurd i
  texts_within (Ask q) h t i = absurd i

  all_within : (past : Past) → AllByRecursion (λ p. ShowsItsOwn n p.0) past
      → Within (flat_map (λ p. texts_in p.0) past) (texts_of n.entries)
  all_within [] h t i = absurd i
  all_within (p ∷ past) h t i =
      both (texts_in p.0) (flat_map (λ q. texts_in q.0) past) (texts_of n.entries) (texts_within p.0 h.0)
      (all_within past h.1) t i

  -- Nor are there other texts than the log's.
  pub unlike_texts : (w : Watched) (states : List State) (past : Past) → w.base ≡ None
      → AllByRecursion (λ p. ShowsItsOwn n p.0) past
      → NoCollision (texts_of n.entries) → NoCollisionWith w n.entries states past
  unlike_texts w states past unbased h unlike =
      let texts = texts_of n.entries in
      let shown : List (List ℕ) = flat_map (λ p. texts_in p.0) past in
      subst (λ b. NoCollision (texts ++ (base_texts b states ++ shown))) (sym unbased)
      (fewer (texts ++ shown) texts (both texts shown texts (λ t i. i) (all_within past h)) unlike)
