-- How much a book keeps at most.
use Rattle.std.specs.Prelude.{ℕ, ◌+◌, ◌-◌, ◌≤◌, length, count_by}
use Rattle.witness_laws.specs.witness_spec.Starting.{start_number}
use Rattle.witness_laws.specs.witness_spec.Limits.{MAX_LEARNED, MAX_CHALLENGES, MAX_AUDITED, MAX_OUTBOX}
use Rattle.witness_laws.specs.witness_spec.Pairs.{last_of}
use Rattle.witness_laws.specs.witness_spec.Standing.{Stage, NoAudit, Wanted, Given, Out}
use Rattle.witness_laws.specs.witness_spec.Owing.{is_send}
use Rattle.witness_book_laws.specs.Books.{Book}

-- the last number that the audit is to reach: without one, the end
abbrev pub audit_last : (end : ℕ) → Stage → ℕ
audit_last end NoAudit = end
audit_last end (Wanted first last) = last
audit_last end (Given c) = last_of c.segment
audit_last end (Out c) = last_of c.segment

-- A book keeps no more than it may, and has room in the outbox for what the audit can find.
pub record KeepsLimits (b : Book) : Type 0 where
  -- learned authenticators
  pub learned : length b.learned ≤ MAX_LEARNED
  -- open challenges with messages
  pub challenges : count_by is_send b.challenges ≤ MAX_CHALLENGES
  -- audited numbers, from where the audit began
  pub end : b.end.number ≤ start_number b.base + MAX_AUDITED
  -- with those of the audit
  pub last : audit_last b.end.number b.stage ≤ start_number b.base + MAX_AUDITED
  -- the outbox, with one authenticator for each number of the audit
  pub outbox : length b.outbox + (audit_last b.end.number b.stage - b.end.number) ≤ MAX_OUTBOX
