-- Texts of cases: a roster, and after it the text of evidence.
-- Serves: case_of, roster_in_front.
use Rattle.std.proofs.Common.{◌≡◌, ℕ, Bool, true, false, cond, List, [], ◌∷◌, Ok, Err, Option, Some, None}
use Rattle.std.proofs.Common.{refl, sym, ap, subst, ◌∙◌}
use Rattle.std.specs.Prelude.{IfSome, IsTrue}
use Rattle.std.specs.Bool.{OnTrue}
use Rattle.xdr.specs.declared.list.ReadFault.{ReadFault}
use Rattle.xdr.specs.declared.list.ReadFault.TheVariants.{NoMemory, Fault}
use Rattle.xdr.specs.ReadFault.{xdr_fault}
use Rattle.xdr.specs.Item.{Fits, Value, IsBytes}
use Rattle.xdr.specs.Reading.{Read, read_at}
use Rattle.xdr.specs.Texts.Text.{text_at}
use Rattle.xdr.proofs.Exact.{takes}
use Rattle.authenticator.specs.declared.member.Member.{Member}
use Rattle.authenticator.specs.Roster.{IsRoster, is_roster_value, roster_item, roster_value}
use Rattle.authenticator.proofs.Forms.{roster_passes}
use Rattle.evidence_showings.specs.evidence_spec.Evidence.{evidence_item, evidence_text}
use Rattle.challenge.specs.Cases.{case_item, case_text}
use Rattle.challenge.specs.FaultNumbers.{is_garbage}
use Rattle.challenge.specs.Readings.{fault_of}

-- a case of a roster and evidence, if there is evidence and the roster passes its test
abbrev with_roster : Value roster_item → Option (Value evidence_item) → Option (Value case_item)
with_roster r None = None
with_roster r (Some v) = cond (is_roster_value r) (Some (r, v)) None

-- a case's text is one of evidence after the roster
case_at : (bytes rest : List ℕ) (r : Value roster_item) → read_at roster_item bytes ≡ Ok (r, rest)
    → text_at case_text bytes ≡ with_roster r (text_at evidence_text rest)
unfolding text_at
case_at bytes rest r e = by_evidence (read_at evidence_item rest) refl
  where
    by_evidence : (read : Read (Value evidence_item)) → read_at evidence_item rest ≡ read
        → text_at case_text bytes ≡ with_roster r (text_at evidence_text rest)
    by_evidence (Ok (v, [])) f = by_test (evidence_text.test v) refl
      where
        by_test : (b : Bool) → evidence_text.test v ≡ b
            → text_at case_text bytes ≡ with_roster r (text_at evidence_text rest)
        by_test true h = rw (e, f, h) refl
        by_test false h = rw (e, f, h) refl
    by_evidence (Ok (v, x ∷ xs)) f = rw (e, f) refl
    by_evidence (Err d) f = rw (e, f) refl

-- without a roster at its front it is none
pub no_roster_read_no_case : (bytes : List ℕ) (e : ReadFault)
    → IfSome (xdr_fault e) (λ f. read_at roster_item bytes ≡ Err f)
    → OnTrue (is_garbage (fault_of e)) (text_at case_text bytes ≡ None)
unfolding text_at
no_roster_read_no_case bytes NoMemory e = tt
no_roster_read_no_case bytes (Fault f) e = rw e refl

-- what fails a roster's test stands in no case's text
pub no_roster_no_case : (bytes rest : List ℕ) (r : Value roster_item) → IsBytes bytes
    → read_at roster_item bytes ≡ Ok (r, rest) → ¬ (Fits roster_item r × IsTrue (is_roster_value r))
    → text_at case_text bytes ≡ None
no_roster_no_case bytes rest r bound e broken = by_test (is_roster_value r) refl
  where
    none : (o : Option (Value evidence_item)) → is_roster_value r ≡ false → with_roster r o ≡ None
    none None h = refl
    none (Some v) h = rw h refl

    by_test : (b : Bool) → is_roster_value r ≡ b → text_at case_text bytes ≡ None
    by_test true h = absurd (broken ((takes roster_item bytes (r, rest) bound e).1, h))
    by_test false h = case_at bytes rest r e ∙ none (text_at evidence_text rest) h

-- a roster with evidence after it is a case
pub is_case : (bytes rest : List ℕ) (r : Value roster_item) (ms : List Member) (v : Value evidence_item)
    → IsRoster ms → roster_value ms ≡ r
    → read_at roster_item bytes ≡ Ok (r, rest) → text_at evidence_text rest ≡ Some v
    → text_at case_text bytes ≡ Some (roster_value ms, v)
is_case bytes rest r ms v roster same e f =
    let passes : IsTrue (is_roster_value r) =
    subst (λ x. IsTrue (is_roster_value x)) same (roster_passes ms roster) in
    case_at bytes rest r e ∙ rw (f, passes) (ap (λ x. Some (x, v)) (sym same))

-- without evidence after its roster it is none
pub no_evidence_no_case : (bytes rest : List ℕ) (r : Value roster_item) (garbage : Bool)
    → read_at roster_item bytes ≡ Ok (r, rest)
    → OnTrue garbage (text_at evidence_text rest ≡ None)
    → OnTrue garbage (text_at case_text bytes ≡ None)
no_evidence_no_case bytes rest r true e f = case_at bytes rest r e ∙ rw f refl
no_evidence_no_case bytes rest r false e f = tt

-- what was read, or another value
read_or : Value roster_item → Read (Value roster_item) → Value roster_item
read_or d (Ok x) = x.0
read_or d (Err e) = d

-- two readings that are one gave one roster
pub one_read : (r s : Value roster_item) (x y : List ℕ)
    → ◌≡◌ {A = Read (Value roster_item)} (Ok (r, x)) (Ok (s, y)) → r ≡ s
unfolding read_or
one_read r s x y e = ap (read_or r) e
