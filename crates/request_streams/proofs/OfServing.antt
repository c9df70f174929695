-- One more record and its answer, after those before.
-- Serves: serve_requests.
use Rattle.std.proofs.Common.{◌≡◌, ℕ, Bool, true, false, List, [], ◌∷◌, ◌++◌, Option, None, Result, Ok, Err}
use Rattle.std.proofs.Common.{refl, sym, ap, subst, ◌∙◌}
use Rattle.std.specs.Io.KnownBytes.{Appends}
use Rattle.rpc.specs.Records.Record.{fragment}
use Rattle.frames.specs.declared.fault.FrameFault.{FrameFault}
use Rattle.request_streams.specs.declared.serve.ServeEnd.{ServeEnd}
use Rattle.request_streams.specs.declared.serve.ServeFault.{ServeFault}
use Rattle.request_streams.specs.declared.serve.ServeFault.TheVariants.{NoMemory, Reading, TooLong, Writing}
use Rattle.request_streams.specs.Serving.{AnswersOf, IsAnsweredBy, LeadsTo, Made, Serves, StopsWith, Takes}

-- a record that was taken and answered after those of a list is the last of a longer one
pub one_more : (Answers : AnswersOf) (made : List Made) (m : Made) (left before l b left' after : Option (List ℕ))
    → LeadsTo Answers made left before l b → Takes m.request l left' → Answers m.request m.answer
    → Appends b after (fragment true m.answer)
    → LeadsTo Answers (made ++ m ∷ []) left before left' after
one_more Answers [] m left before l b left' after reached taken answer written = (
  left',
  after,
  subst (λ (x : Option (List ℕ)). Takes m.request x left') reached.0 taken,
  answer,
  subst (λ (x : Option (List ℕ)). Appends x after (fragment true m.answer)) reached.1 written,
  (refl, refl),
)
one_more Answers (n ∷ made) m left before l b left' after reached taken answer written = (
  reached.0,
  reached.1,
  reached.2,
  reached.3,
  reached.4,
  one_more Answers made m reached.0 reached.1 l b left' after reached.5 taken answer written,
)

-- How far a connection is: the answers that were written, and that who answers allows no more than at first.
pub record Progress (Answers Now : AnswersOf) (fault : Option FrameFault)
    (left before left' after : Option (List ℕ)) : Type 0 where
  pub made : List Made
  pub reached : LeadsTo Answers made left before left' after
  pub fresh : fault ≡ None
  pub kept : (bytes text : List ℕ) → Now bytes text → Answers bytes text

-- the connection goes on after a record that was answered
pub goes_on : (Answers Now Next : AnswersOf) (is_call : Bool) (bytes given : List ℕ)
    (fault fault' : Option FrameFault) (left before l b left' after : Option (List ℕ)) → Progress Answers Now fault left before l b
    → given ≡ bytes → Takes bytes l left' → IsAnsweredBy Now given (Ok is_call) b after → is_call ≡ true
    → ((record_bytes text : List ℕ) → Next record_bytes text → Now record_bytes text) → fault' ≡ None
    → Progress Answers Next fault' left before left' after
goes_on Answers Now Next true bytes given fault fault' left before l b left' after so_far read taken answered is kept
    fresh =
    let done = subst (λ (r : List ℕ). IsAnsweredBy Now r (Ok true) b after) read answered in
    record {
      made = so_far.made ++ (record { request = bytes; answer = done.0 }) ∷ [];
      reached = one_more Answers so_far.made (record { request = bytes; answer = done.0 }) left before l b left'
          after so_far.reached taken (so_far.kept bytes done.0 done.1) done.2;
      fresh = fresh;
      kept = λ r t a. so_far.kept r t (kept r t a);
    }
goes_on Answers Now Next false bytes given fault fault' left before l b left' after so_far read taken answered is kept
    fresh = absurd cc

-- and stops at one that wasn't
pub stops_at : (Answers Now : AnswersOf) (e f : ServeFault) (result : Result ServeEnd ServeFault)
    (bytes given : List ℕ) (fault : Option FrameFault) (left before l b left' after : Option (List ℕ))
    → result ≡ Err e → e ≡ f → given ≡ bytes → Progress Answers Now fault left before l b → Takes bytes l left'
    → IsAnsweredBy Now given (Err f) b after → Serves Answers result left before left' after
stops_at Answers Now e f result bytes given fault left before l b left' after is same read so_far taken answered =
    subst (λ (r : Result ServeEnd ServeFault). Serves Answers r left before left' after)
    (sym (is ∙ ap Err same)) (record {
      made = so_far.made;
      reached = l;
      written = b;
      answered = so_far.reached;
      stops = at f (subst (λ (r : List ℕ). IsAnsweredBy Now r (Err f) b after) read answered);
    })
  where
    at : (f : ServeFault) → IsAnsweredBy Now bytes (Err f) b after → StopsWith Answers (Err f) l b left' after
    at NoMemory a = a
    at (Reading fault) a = absurd a
    at TooLong a = a
    at Writing a = (bytes, a.0, taken, so_far.kept bytes a.0 a.1, a.2)
