-- Steps that leave what was shown and learned: the book after them is that of the steps.
-- Serves: all laws here.
use Rattle.std.proofs.Common.{◌≡◌, ◌+◌, true, false, cond, List, ◌∷◌, ◌++◌, drop, filter, Option, Some}
use Rattle.std.proofs.Common.{None, fold, nat_lt, refl, sym, ap, ap₂, subst, ◌∙◌, arith, append-nil}
use Rattle.std.specs.Prelude.{option_map, is_some}
use Rattle.std.proofs.lemmas.List.{drop-drop}
use Rattle.std.proofs.lemmas.List.Sums.{sum_by_from}
use Rattle.authenticator.specs.declared.authenticator.Authenticator.{Authenticator}
use Rattle.envelopes.specs.declared.envelope.Envelope.{Envelope}
use Rattle.envelopes.specs.declared.acknowledgement.Ack.{Ack}
use Rattle.witness_laws.specs.evidence_spec.Evidence.{EvidenceParts}
use Rattle.witness_laws.specs.witness_spec.Events.{JobParts, Question}
use Rattle.witness_laws.specs.witness_spec.Replies.{Reply, Opened, Closed, Asked, Job, Returned, Forwarded}
use Rattle.witness_laws.specs.witness_spec.Watched.{Watched}
use Rattle.witness_laws.specs.witness_spec.Steps.{Step, SendChallenge, AckIn, Audit, Begin, PutBack, Forward}
use Rattle.witness_laws.specs.witness_spec.Steps.{Ask, Past}
use Rattle.witness_laws.specs.witness_spec.Pairs.{number_of}
use Rattle.witness_laws.specs.witness_spec.Done.{noted, accepted, begun, filed, forwarded}
use Rattle.witness_laws.specs.witness_spec.Histories.{HoldSame}
use Rattle.witness_laws.specs.witness_spec.Standing.{End, end_of, end_after, pairs_noted, pairs_accepted}
use Rattle.witness_laws.specs.witness_spec.Standing.{shown, is_exposed, unless_exposed, noted_before, kept}
use Rattle.witness_laws.specs.witness_spec.Standing.{segment_of, all_accepted, stage_after, stage_of, begins}
use Rattle.witness_laws.specs.witness_spec.Standing.{open_after}
use Rattle.witness_laws.specs.witness_spec.Standing.{open_challenges, found_filed, all_found, forwards}
use Rattle.witness_laws.specs.witness_spec.Standing.{outbox}
use Rattle.witness_laws.specs.witness_spec.Exposing.{charge_of, evidence}
use Rattle.witness_book_laws.specs.Books.{Book, book_shown}
use Rattle.witness_book_laws.specs.Going.{after_send_challenge, after_ack, after_audit, after_begin}
use Rattle.witness_book_laws.specs.Going.{after_put_back}
use Rattle.witness_book_laws.specs.Going.{after_forward}
use Rattle.witness_book_laws.specs.Fitting.{IsBookOf}

-- whether a node is exposed, with its evidence
pub data Exposure (w : Watched) (past : Past) : Type 0 where
  Hidden : evidence w past ≡ None → is_exposed w past ≡ false → Exposure w past
  Open : (e : EvidenceParts) → evidence w past ≡ Some e → is_exposed w past ≡ true
      → Exposure w past

-- what a step didn't do
pub record DoesNothing (past : Past) (p : Step × Reply) : Type 0 where
  -- it noted nothing
  pub notes : noted p.0 p.1 ≡ None
  -- it accepted nothing
  pub accepts : accepted p.0 p.1 ≡ None
  -- it filed nothing
  pub files : filed p.0 p.1 ≡ None
  -- it began no job
  pub begins : begun p.0 p.1 ≡ None
  -- it forwarded nothing
  pub forwards : forwarded p.0 p.1 ≡ None
  -- the audit stays
  pub stage : stage_after (stage_of past) p.0 p.1 ≡ stage_of past
  -- so do the challenges
  pub challenges : open_after (open_challenges past) p.0 p.1 ≡ open_challenges past

module _ (w : Watched) (past : Past) where
  -- ---- evidence

  stays : (o : Option EvidenceParts) → Exposure w past
      → o ≡ cond (is_exposed w past) (evidence w past) None → o ≡ evidence w past
  stays o (Hidden none is) h = h ∙ (ap (λ b. cond b (evidence w past) None) is ∙ sym none)
  stays o (Open e some is) h = h ∙ ap (λ b. cond b (evidence w past) None) is

  -- a step that notes, accepts and files nothing leaves the evidence
  pub evidence_stays : (p : Step × Reply) → Exposure w past → noted p.0 p.1 ≡ None
      → accepted p.0 p.1 ≡ None → filed p.0 p.1 ≡ None → evidence w (p ∷ past) ≡ evidence w past
  evidence_stays p x n a f =
      stays (evidence w (p ∷ past)) x
      (ap (λ o. cond (is_exposed w past) (evidence w past) (option_map
      (λ g. record { node = w.member.node; charge = g })
      (charge_of w past o (accepted p.0 p.1) (filed p.0 p.1)))) n
      ∙ (ap (λ o. cond (is_exposed w past) (evidence w past) (option_map
      (λ g. record { node = w.member.node; charge = g }) (charge_of w past None o (filed p.0 p.1)))) a
      ∙ ap (λ o. cond (is_exposed w past) (evidence w past) (option_map
      (λ g. record { node = w.member.node; charge = g }) (charge_of w past None None o))) f))

  -- a step that files nothing leaves what was found
  pub found_stays : (p : Step × Reply) → filed p.0 p.1 ≡ None
      → all_found w (p ∷ past) ≡ all_found w past
  found_stays p f =
      ap (λ o. all_found w past ++ found_filed w.roster (end_of w past).state o) f
      ∙ append-nil (all_found w past)

  -- a step that notes and files nothing leaves what is kept
  pub kept_stays : (p : Step × Reply) → noted p.0 p.1 ≡ None → filed p.0 p.1 ≡ None
      → kept w (p ∷ past) ≡ kept w past
  kept_stays p n f =
      ap₂ (λ (e : End) (xs : List Authenticator).
      filter (λ a. nat_lt e.number (number_of w.member.log_version a)) xs)
      (ap (end_after w.roster (end_of w past)) f)
      (ap (λ o. unless_exposed (is_exposed w (p ∷ past)) o ++ noted_before w past) n)

  -- ---- a step that does nothing

  -- the book stays
  pub quiet : (p : Step × Reply) (b : Book) → DoesNothing past p → Exposure w past → IsBookOf w past b
      → IsBookOf w (p ∷ past) b
  quiet p b did x of =
      let end : end_of w (p ∷ past) ≡ end_of w past = ap (end_after w.roster (end_of w past)) did.files in
      let keeps : kept w (p ∷ past) ≡ kept w past = kept_stays p did.notes did.files in
      let all : all_accepted (p ∷ past) ≡ all_accepted past =
      ap (λ o. segment_of o ++ all_accepted past) did.accepts in
      let showing : shown w (p ∷ past) ≡ shown w past =
      ap₂ (λ n a. pairs_noted w.member.log_version (is_exposed w past) n
      ++ (pairs_accepted a ++ shown w past)) did.notes did.accepts in
      let count : begins (p ∷ past) ≡ begins past =
      ap (λ o. fold (λ n (q : Step × Reply). n + cond (is_some (begun q.0 q.1)) 1 0)
      (0 + cond (is_some o) 1 0) past) did.begins in
      let sent : forwards (p ∷ past) ≡ forwards past =
      ap (λ o. fold (λ n (q : Step × Reply). n + cond (is_some (forwarded q.0 q.1)) 1 0)
      (0 + cond (is_some o) 1 0) past) did.forwards in
      record {
        of_member = of.of_member;
        stands = record {
          end = of.stands.end ∙ sym end;
          stage = of.stands.stage ∙ sym did.stage;
          begun = of.stands.begun ∙ sym count;
          learned = subst (λ l. HoldSame b.learned l) (sym keeps) of.stands.learned;
          segments = subst (λ l. HoldSame b.segments l) (sym all) of.stands.segments;
          challenges = of.stands.challenges ∙ sym did.challenges;
          outbox = of.stands.outbox
              ∙ sym (ap₂ (λ n (xs : List Authenticator). drop n xs) sent (found_stays p did.files));
          evidence = of.stands.evidence ∙ sym (evidence_stays p x did.notes did.accepts did.files);
          pairs = subst (λ ps. HoldSame (book_shown b) ps) (sym showing) of.stands.pairs;
        };
      }

  -- the outbox of before, where nothing was forwarded or filed
  pub unsent : (p : Step × Reply) (b : Book) → forwards (p ∷ past) ≡ forwards past → filed p.0 p.1 ≡ None
      → IsBookOf w past b → b.outbox ≡ outbox w (p ∷ past)
  unsent p b sent f of =
      of.stands.outbox ∙ sym (ap₂ (λ n (xs : List Authenticator). drop n xs) sent (found_stays p f))

  -- ---- challenges

  -- after a challenge with a message
  pub having_challenged : (e : Envelope) (r : Reply) (b : Book) → Exposure w past → IsBookOf w past b
      → IsBookOf w ((SendChallenge e, r) ∷ past) (after_send_challenge b e r)
  having_challenged e Opened b x of = record {
    of_member = record { node = of.of_member.node; version = of.of_member.version; base = of.of_member.base };
    stands = record {
      end = of.stands.end;
      stage = of.stands.stage;
      begun = of.stands.begun;
      learned = of.stands.learned;
      segments = of.stands.segments;
      challenges = ap (λ xs. open_after xs (SendChallenge e) Opened) of.stands.challenges;
      outbox = unsent (SendChallenge e, Opened) b refl refl of;
      evidence = of.stands.evidence ∙ sym (evidence_stays (SendChallenge e, Opened) x refl refl refl);
      pairs = of.stands.pairs;
    };
  }
  having_challenged e r b x of =
      quiet (SendChallenge e, r) b (record {
        notes = refl;
        accepts = refl;
        files = refl;
        begins = refl;
        forwards = refl;
        stage = refl;
        challenges = refl;
      }) x of

  -- after an acknowledgement
  pub having_acked : (a : Ack) (r : Reply) (b : Book) → Exposure w past → IsBookOf w past b
      → IsBookOf w ((AckIn a, r) ∷ past) (after_ack b a r)
  having_acked a Closed b x of = record {
    of_member = record { node = of.of_member.node; version = of.of_member.version; base = of.of_member.base };
    stands = record {
      end = of.stands.end;
      stage = of.stands.stage;
      begun = of.stands.begun;
      learned = of.stands.learned;
      segments = of.stands.segments;
      challenges = ap (λ xs. open_after xs (AckIn a) Closed) of.stands.challenges;
      outbox = unsent (AckIn a, Closed) b refl refl of;
      evidence = of.stands.evidence ∙ sym (evidence_stays (AckIn a, Closed) x refl refl refl);
      pairs = of.stands.pairs;
    };
  }
  having_acked a r b x of =
      quiet (AckIn a, r) b (record {
        notes = refl;
        accepts = refl;
        files = refl;
        begins = refl;
        forwards = refl;
        stage = refl;
        challenges = refl;
      }) x of

  -- ---- audits and jobs

  -- after an audit
  pub having_asked : (r : Reply) (b : Book) → Exposure w past → IsBookOf w past b
      → IsBookOf w ((Audit, r) ∷ past) (after_audit b r)
  having_asked (Asked first last) b x of = record {
    of_member = record { node = of.of_member.node; version = of.of_member.version; base = of.of_member.base };
    stands = record {
      end = of.stands.end;
      stage = refl;
      begun = of.stands.begun;
      learned = of.stands.learned;
      segments = of.stands.segments;
      challenges = ap (λ xs. open_after xs Audit (Asked first last)) of.stands.challenges;
      outbox = unsent (Audit, Asked first last) b refl refl of;
      evidence = of.stands.evidence ∙ sym (evidence_stays (Audit, Asked first last) x refl refl refl);
      pairs = of.stands.pairs;
    };
  }
  having_asked r b x of =
      quiet (Audit, r) b (record {
        notes = refl;
        accepts = refl;
        files = refl;
        begins = refl;
        forwards = refl;
        stage = refl;
        challenges = refl;
      }) x of

  -- after a job began
  pub having_begun : (r : Reply) (b : Book) → Exposure w past → IsBookOf w past b
      → IsBookOf w ((Begin, r) ∷ past) (after_begin b r)
  having_begun (Job j) b x of = record {
    of_member = record { node = of.of_member.node; version = of.of_member.version; base = of.of_member.base };
    stands = record {
      end = of.stands.end;
      stage = refl;
      begun = ap (λ n. n + 1) of.stands.begun
          ∙ omega (arith, sum_by_from (λ (q : Step × Reply). cond (is_some (begun q.0 q.1)) 1 0) 1 past);
      learned = of.stands.learned;
      segments = of.stands.segments;
      challenges = of.stands.challenges;
      outbox = unsent (Begin, Job j) b refl refl of;
      evidence = of.stands.evidence ∙ sym (evidence_stays (Begin, Job j) x refl refl refl);
      pairs = of.stands.pairs;
    };
  }
  having_begun r b x of =
      quiet (Begin, r) b (record {
        notes = refl;
        accepts = refl;
        files = refl;
        begins = refl;
        forwards = refl;
        stage = refl;
        challenges = refl;
      }) x of

  -- after a job that was put back
  pub having_put_back : (j : JobParts) (r : Reply) (b : Book) → Exposure w past → IsBookOf w past b
      → IsBookOf w ((PutBack j, r) ∷ past) (after_put_back b j r)
  having_put_back j Returned b x of = record {
    of_member = record { node = of.of_member.node; version = of.of_member.version; base = of.of_member.base };
    stands = record {
      end = of.stands.end;
      stage = refl;
      begun = of.stands.begun;
      learned = of.stands.learned;
      segments = of.stands.segments;
      challenges = of.stands.challenges;
      outbox = unsent (PutBack j, Returned) b refl refl of;
      evidence = of.stands.evidence ∙ sym (evidence_stays (PutBack j, Returned) x refl refl refl);
      pairs = of.stands.pairs;
    };
  }
  having_put_back j r b x of =
      quiet (PutBack j, r) b (record {
        notes = refl;
        accepts = refl;
        files = refl;
        begins = refl;
        forwards = refl;
        stage = refl;
        challenges = refl;
      }) x of

  -- ---- what is asked for

  -- after something was forwarded
  pub having_forwarded : (r : Reply) (b : Book) → Exposure w past → IsBookOf w past b
      → IsBookOf w ((Forward, r) ∷ past) (after_forward b r)
  having_forwarded (Forwarded a) b x of = record {
    of_member = record { node = of.of_member.node; version = of.of_member.version; base = of.of_member.base };
    stands = record {
      end = of.stands.end;
      stage = of.stands.stage;
      begun = of.stands.begun;
      learned = of.stands.learned;
      segments = of.stands.segments;
      challenges = of.stands.challenges;
      outbox = ap (λ (xs : List Authenticator). drop 1 xs) of.stands.outbox
          ∙ (drop-drop 1 (forwards past) (all_found w past)
          ∙ ap₂ (λ n (xs : List Authenticator). drop n xs)
          (omega (arith, sum_by_from (λ (q : Step × Reply). cond (is_some (forwarded q.0 q.1)) 1 0) 1 past))
          (sym (found_stays (Forward, Forwarded a) refl)));
      evidence = of.stands.evidence ∙ sym (evidence_stays (Forward, Forwarded a) x refl refl refl);
      pairs = of.stands.pairs;
    };
  }
  having_forwarded r b x of =
      quiet (Forward, r) b (record {
        notes = refl;
        accepts = refl;
        files = refl;
        begins = refl;
        forwards = refl;
        stage = refl;
        challenges = refl;
      }) x of

  -- after a question
  pub having_told : (q : Question) (r : Reply) (b : Book) → Exposure w past → IsBookOf w past b
      → IsBookOf w ((Ask q, r) ∷ past) b
  having_told q r b x of =
      quiet (Ask q, r) b (record {
        notes = refl;
        accepts = refl;
        files = refl;
        begins = refl;
        forwards = refl;
        stage = refl;
        challenges = refl;
      }) x of
