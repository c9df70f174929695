-- The code of a book, by which a proof tells books apart.
use Rattle.std.specs.Prelude.{◌≡◌, ◌==◌, ℕ, List, Option, if◌then◌else◌, refl}
use Rattle.std.specs.Coded.{Coded, code_by, coded×, coded⊎, coded_ℕ, coded_list, coded_option}
use Rattle.std.proofs.Common.{inl, inr, ◌⊎◌}
use Rattle.authenticator.specs.declared.authenticator.Authenticator.{Authenticator}
use Rattle.authenticator.specs.contracts.authenticator.Authenticator as authenticators
use Rattle.authenticator.specs.declared.member.LogVersion.{LogVersion}
use Rattle.authenticator.specs.declared.member.LogVersion.TheVariants.{One, Two}
use Rattle.authenticator.specs.Roster.{log_number}
use Rattle.secure_log.specs.LogEntries.Chain.{Logged}
use Rattle.secure_log.specs.declared.log_entries.entry.Entry.{Entry}
use Rattle.secure_log.specs.contracts.log_entries.entry.Entry as entries
use Rattle.secure_log.specs.Versioned.{VersionedParts, ClosedParts}
use Rattle.envelopes.specs.declared.envelope.Envelope.{Envelope}
use Rattle.envelopes.specs.contracts.envelope.Envelope as envelopes
use Rattle.evidence_spec.specs.Evidence.{EvidenceParts}
use Rattle.challenge.specs.contracts.evidence.Evidence as evidences
use Rattle.challenge.specs.evidence_showings.contracts.base_text.BaseText as bases
use Rattle.evidence_spec.specs.Base.{BaseParts}
use Rattle.witness_spec.specs.state_spec.State.{State}
use Rattle.witness_spec.specs.state_spec.Codes.{state_code}
use Rattle.witness_spec.specs.Replies.{Challenge, AuditOf, SendOf}
use Rattle.witness_spec.specs.Starting.{KnownBase}
use Rattle.witness_spec.specs.Standing.{End, Stage, NoAudit, Wanted, Given, Out}
use Rattle.witness_book_laws.specs.Books.{Book}
use Rattle.replay_jobs.specs.Codes.{closed_code}

-- of an authenticator
abbrev pub authenticator_code : Coded Authenticator
authenticator_code = authenticators.the_row.coded

-- the version of a log with this number
abbrev pub version_numbered : ℕ → LogVersion
version_numbered n = if n == 2 then Two else One

-- a version is that of its number
pub version_back : (v : LogVersion) → version_numbered (log_number v) ≡ v
version_back One = refl
version_back Two = refl

-- of a log's version
abbrev pub version_code : Coded LogVersion
version_code = code_by ℕ coded_ℕ log_number version_numbered version_back

-- of an entry, with how many numbers are skipped before it
abbrev pub logged_code : Coded Logged
logged_code =
    code_by (ℕ × Entry) (coded× coded_ℕ entries.the_row.coded) (λ l. (l.skipped, l.entry))
    (λ p. record { skipped = p.0; entry = p.1 }) (λ _. refl)

-- of a segment
abbrev pub segment_code : Coded VersionedParts
segment_code =
    code_by (LogVersion × (ℕ × (ℕ × (List ℕ × (List Logged × Authenticator)))))
    (coded× version_code (coded× coded_ℕ (coded× coded_ℕ (coded× (coded_list coded_ℕ)
    (coded× (coded_list logged_code) authenticator_code)))))
    (λ s. (s.log_version, (s.node, (s.first, (s.opening, (s.entries, s.closing))))))
    (λ p. record {
      log_version = p.0;
      node = p.1.0;
      first = p.1.1.0;
      opening = p.1.1.1.0;
      entries = p.1.1.1.1.0;
      closing = p.1.1.1.1.1;
    }) (λ _. refl)

-- what a challenge is made of, without names: two numbers, or an envelope
abbrev pub ChallengeParts : Type 0
ChallengeParts = (ℕ × ℕ) ⊎ Envelope

-- the parts of a challenge
abbrev pub challenge_parts : Challenge → ChallengeParts
challenge_parts (AuditOf first last) = inl (first, last)
challenge_parts (SendOf e) = inr e

-- the challenge of these parts
abbrev pub challenge_of_parts : ChallengeParts → Challenge
challenge_of_parts (inl p) = AuditOf p.0 p.1
challenge_of_parts (inr e) = SendOf e

-- a challenge is that of its parts
pub challenge_parts_back : (c : Challenge) → challenge_of_parts (challenge_parts c) ≡ c
challenge_parts_back (AuditOf first last) = refl
challenge_parts_back (SendOf e) = refl

-- of a challenge
abbrev pub challenge_code : Coded Challenge
challenge_code =
    code_by ChallengeParts (coded⊎ (coded× coded_ℕ coded_ℕ) envelopes.the_row.coded)
    challenge_parts challenge_of_parts challenge_parts_back

-- what a stage is made of, without names: nothing, two numbers, or a segment for each of the two others
abbrev pub StageParts : Type 0
StageParts = ℕ ⊎ ((ℕ × ℕ) ⊎ (ClosedParts ⊎ ClosedParts))

-- the parts of a stage
abbrev pub stage_parts : Stage → StageParts
stage_parts NoAudit = inl 0
stage_parts (Wanted first last) = inr (inl (first, last))
stage_parts (Given c) = inr (inr (inl c))
stage_parts (Out c) = inr (inr (inr c))

-- the stage of these parts
abbrev pub stage_of_parts : StageParts → Stage
stage_of_parts (inl n) = NoAudit
stage_of_parts (inr (inl p)) = Wanted p.0 p.1
stage_of_parts (inr (inr (inl c))) = Given c
stage_of_parts (inr (inr (inr c))) = Out c

-- a stage is that of its parts
pub stage_parts_back : (s : Stage) → stage_of_parts (stage_parts s) ≡ s
stage_parts_back NoAudit = refl
stage_parts_back (Wanted first last) = refl
stage_parts_back (Given c) = refl
stage_parts_back (Out c) = refl

-- of a stage
abbrev pub stage_code : Coded Stage
stage_code =
    code_by StageParts
    (coded⊎ coded_ℕ (coded⊎ (coded× coded_ℕ coded_ℕ) (coded⊎ closed_code closed_code)))
    stage_parts stage_of_parts stage_parts_back

-- of an end
abbrev pub end_code : Coded End
end_code =
    code_by (ℕ × State) (coded× coded_ℕ state_code)
    (λ e. (e.number, e.state)) (λ p. record { number = p.0; state = p.1 }) (λ _. refl)

-- of a base
abbrev pub base_code : Coded KnownBase
base_code =
    code_by (BaseParts × State) (coded× bases.the_row.coded state_code)
    (λ b. (b.parts, b.state)) (λ p. record { parts = p.0; state = p.1 }) (λ _. refl)

-- of authenticators
abbrev pub authenticators_code : Coded (List Authenticator)
authenticators_code = coded_list authenticator_code

-- of a book's lists
abbrev pub ListParts : Type 0
ListParts = List Authenticator × (List VersionedParts × (List Challenge × List Authenticator))

-- of a book's lists
abbrev pub lists_code : Coded ListParts
lists_code =
    coded× authenticators_code (coded× (coded_list segment_code)
    (coded× (coded_list challenge_code) authenticators_code))

-- of a book
abbrev pub book_code : Coded Book
book_code =
    code_by ((ℕ × (LogVersion × Option KnownBase)) × (End × (Stage × (ℕ × (ListParts × Option EvidenceParts)))))
    (coded× (coded× coded_ℕ (coded× version_code (coded_option base_code))) (coded× end_code (coded× stage_code (coded× coded_ℕ
    (coded× lists_code (coded_option evidences.the_row.coded))))))
    (λ b. (
      (b.node, (b.log_version, b.base)),
      (
        b.end,
        (
          b.stage,
          (
            b.begun,
            ((b.learned, (b.segments, (b.challenges, b.outbox))), b.evidence),
          ),
        ),
      ),
    ))
    (λ p. record {
      node = p.0.0;
      log_version = p.0.1.0;
      base = p.0.1.1;
      end = p.1.0;
      stage = p.1.1.0;
      begun = p.1.1.1.0;
      learned = p.1.1.1.1.0.0;
      segments = p.1.1.1.1.0.1.0;
      challenges = p.1.1.1.1.0.1.1.0;
      outbox = p.1.1.1.1.0.1.1.1;
      evidence = p.1.1.1.1.1;
    }) (λ _. refl)
