-- A challenge is open exactly if it was accepted and not answered since.
-- Serves: open_exactly_if.
use Rattle.std.proofs.Common.{◌≡◌, ◌⊎◌, ◌↔◌, inl, inr, Bool, true, false, not, List, [], ◌∷◌}
use Rattle.std.proofs.Common.{◌++◌, filter, refl, sym, ap, subst}
use Rattle.secure_log.specs.LogEntries.Chain.{IsAmong}
use Rattle.envelopes.specs.Acknowledgement.{acked_message}
use Rattle.witness_spec.specs.Replies.{Reply, Challenge, AuditOf, SendOf}
use Rattle.witness_spec.specs.Replies as replies
use Rattle.witness_spec.specs.Standing.{is_answered, is_send_of, open_after, open_challenges}
use Rattle.witness_spec.specs.Steps.{Step, Past}
use Rattle.witness_spec.specs.Steps as steps
use Rattle.witness_laws.specs.Challenges.{Opens, AnswersIt, IsUnanswered, OpenExactlyIf}
use Rattle.witness_laws.proofs.OfAnswers.Closing.{was_among, not_true, is_left}
use Rattle.witness_laws.proofs.OfAnswers.Answering.{passes}

-- ---- lists

-- what is among a list with one more is in it, or is the last
at_end : (x c : Challenge) (xs : List Challenge) → IsAmong x (xs ++ c ∷ []) → IsAmong x xs ⊎ (x ≡ c)
at_end x c [] (inl same) = inr same
at_end x c [] (inr none) = absurd none
at_end x c (y ∷ ys) (inl same) = inl (inl same)
at_end x c (y ∷ ys) (inr i) =
    elim (at_end x c ys i) as (λ v. IsAmong x (y ∷ ys) ⊎ (x ≡ c)) [ inl j ↦ inl (inr j) | inr same ↦ inr same ]

-- and the other way round
in_front : (x c : Challenge) (xs : List Challenge) → IsAmong x xs → IsAmong x (xs ++ c ∷ [])
in_front x c [] i = absurd i
in_front x c (y ∷ ys) (inl same) = inl same
in_front x c (y ∷ ys) (inr i) = inr (in_front x c ys i)

-- the last is among them
last_is : (x c : Challenge) (xs : List Challenge) → x ≡ c → IsAmong x (xs ++ c ∷ [])
last_is x c [] same = inl same
last_is x c (y ∷ ys) same = inr (last_is x c ys same)

-- a test that fails
not_false : (b : Bool) → (b ≡ true → ⊥) → not b ≡ true
not_false true h = absurd (h refl)
not_false false h = refl

-- ---- one step

-- a list with one more
one_more : (x c : Challenge) (xs : List Challenge)
    → IsAmong x (xs ++ c ∷ []) ↔ ((IsAmong x xs × (⊥ → ⊥)) ⊎ (x ≡ c))
one_more x c xs = (
  λ i. elim (at_end x c xs i) as (λ v. (IsAmong x xs × (⊥ → ⊥)) ⊎ (x ≡ c)) [
    | inl j ↦ inl (j, λ none. none)
    | inr same ↦ inr same
  ],
  λ h. elim h as (λ v. IsAmong x (xs ++ c ∷ [])) [
    | inl j ↦ in_front x c xs j.0
    | inr same ↦ last_is x c xs same
  ],
)

-- a list without those that a test is true of
without : (test : Challenge → Bool) (x : Challenge) (xs : List Challenge)
    → IsAmong x (filter (λ y. not (test y)) xs) ↔ ((IsAmong x xs × (test x ≡ true → ⊥)) ⊎ ⊥)
without test x xs = (
  λ i. inl (was_among (λ y. not (test y)) x xs i, not_true (test x) (passes (λ y. not (test y)) x xs i)),
  λ h. elim h as (λ v. IsAmong x (filter (λ y. not (test y)) xs)) [
    | inl j ↦ is_left (λ y. not (test y)) x xs (not_false (test x) j.1) j.0
    | inr none ↦ absurd none
  ],
)

-- a challenge is open after a step if it was and the step doesn't answer it, or if the step accepts it
after : (old : List Challenge) (step : Step) (reply : Reply) (x : Challenge)
    → IsAmong x (open_after old step reply)
    ↔ ((IsAmong x old × (AnswersIt step reply x → ⊥)) ⊎ Opens step reply x)
after old steps.Audit (replies.Asked first last) x = one_more x (AuditOf first last) old
after old (steps.SendChallenge e) replies.Opened x = one_more x (SendOf e) old
after old (steps.Answer c) replies.Accepted x = without (is_answered c.segment) x old
after old (steps.AckIn a) replies.Closed x = without (is_send_of (acked_message a)) x old
after old step reply x = (
  λ i. inl (i, λ none. none),
  λ h. elim h [ inl j ↦ j.0 | inr none ↦ absurd none ],
)

-- ---- all steps

-- an open challenge was accepted, and not answered since
unanswered : (past : Past) (x : Challenge) → IsAmong x (open_challenges past) → IsUnanswered past x
unanswered [] x i = absurd i
unanswered (p ∷ past) x i = by ((after (open_challenges past) p.0 p.1 x).0 i) (λ j. unanswered past x j)
  where
    by : (IsAmong x (open_challenges past) × (AnswersIt p.0 p.1 x → ⊥)) ⊎ Opens p.0 p.1 x
        → (IsAmong x (open_challenges past) → IsUnanswered past x) → IsUnanswered (p ∷ past) x
    by (inl was) rest =
        let earlier = rest was.0 in
        record {
          since = p ∷ earlier.since;
          accepting = earlier.accepting;
          before = earlier.before;
          all = ap (λ l. p ∷ l) earlier.all;
          opens = earlier.opens;
          none = λ q among answers. elim among as (λ v. ⊥) [
            | inl same ↦ was.1 (subst (λ (r : Step × Reply). AnswersIt r.0 r.1 x) same answers)
            | inr j ↦ earlier.none q j answers
          ];
        }
    by (inr opens) rest =
        record {
          since = [];
          accepting = p;
          before = past;
          all = refl;
          opens = opens;
          none = λ q among answers. absurd among;
        }

-- what was accepted and not answered since is open
still_open : (since : Past) (accepting : Step × Reply) (before : Past) (x : Challenge)
    → Opens accepting.0 accepting.1 x
    → ((p : Step × Reply) → IsAmong p since → AnswersIt p.0 p.1 x → ⊥)
    → IsAmong x (open_challenges (since ++ accepting ∷ before))
still_open [] accepting before x opens none =
    (after (open_challenges before) accepting.0 accepting.1 x).1 (inr opens)
still_open (p ∷ since) accepting before x opens none =
    (after (open_challenges (since ++ accepting ∷ before)) p.0 p.1 x).1
    (inl (still_open since accepting before x opens (λ q i. none q (inr i)), none p (inl refl)))

pub open_exactly_if : OpenExactlyIf
open_exactly_if past x = (
  unanswered past x,
  λ u. subst (λ l. IsAmong x (open_challenges l)) (sym u.all)
      (still_open u.since u.accepting u.before x u.opens u.none),
)
