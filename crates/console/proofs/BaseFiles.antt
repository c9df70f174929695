-- What is said of a file with a base, by more bytes of it than such a file has.
-- Serves: base_in, read_judgement.
use Rattle.std.proofs.Common.{◌≡◌, ◌∙◌, ℕ, ◌<◌, List, [], ◌++◌, length, Ok, Err, Some, refl, ap, arith, subst, sym}
use Rattle.std.proofs.Common.{append_assoc, inl, inr}
use Rattle.std.specs.Prelude.{IfErr, IfOk, IfSome, Option, None, Result}
use Rattle.std.proofs.lemmas.List.{length-append}
use Rattle.xdr.specs.Item.{IsBytes, Value, spelling}
use Rattle.xdr.specs.Reading.{read_at}
use Rattle.xdr.specs.Texts.Text.{text_at}
use Rattle.xdr.proofs.Exact.{again, takes}
use Rattle.authenticator.specs.declared.member.Member.{Member}
use Rattle.authenticator.specs.declared.refusal.Refusal.{Refusal}
use Rattle.authenticator.specs.declared.refusal.Refusal.TheVariants.{BadSignature, Garbage, NoMemory, UnknownNode}
use Rattle.authenticator.specs.Roster.{roster_item, roster_value}
use Rattle.challenge.specs.evidence_spec.Base.{base_item, base_text}
use Rattle.challenge.specs.BaseFiles.{ChecksFile, ChecksRest, HasNoRoster, HasRoster}
use Rattle.challenge.specs.KnownBases.{ChecksBase, KnownBase}
use Rattle.console.specs.Bases.{Holds, IsRefused, JudgesBase}
use Rattle.console.specs.declared.bases.BaseJudgement.{BaseJudgement}
use Rattle.console.specs.declared.bases.BaseJudgement.TheVariants.{Base, NoBase}
use Rattle.console.specs.Contents.{IsFront}
use Rattle.console.proofs.Fronts.{none_unless, text_read}
use Rattle.console.proofs.Lengths.{base_up, roster_up}
use Rattle.console.proofs.Locals.{roster_local}

-- the most bytes of a file with a base
abbrev longest : ℕ
longest = 67309180

-- ---- the roster in front

-- a roster in front is there, too, with more bytes after them
roster_more : (front more rest : List ℕ) (ms : List Member) → IsBytes front → HasRoster front ms rest
    → HasRoster (front ++ more) ms (rest ++ more)
roster_more front more rest ms bound has =
    let text = takes roster_item front (roster_value ms, rest) bound has.item in
    let parts : front ++ more ≡ spelling roster_item (roster_value ms) ++ (rest ++ more) =
    ap (λ (t : List ℕ). t ++ more) text.0.parts ∙ append_assoc (spelling roster_item (roster_value ms)) rest more in
    record {
      item = ap (read_at roster_item) parts ∙ again roster_item (roster_value ms) (rest ++ more) text.1;
      passes = has.passes;
    }

-- and none without one, where they are many
no_roster_more : (front more : List ℕ) → longest < length front → HasNoRoster front → HasNoRoster (front ++ more)
no_roster_more front more long none ms rest has =
    let local = roster_local front more (roster_value ms, rest) (omega (arith, long)) has.item in
    none ms local.0 (record { item = local.1; passes = has.passes })

-- ---- the base after it

-- after a roster many bytes are left
many_left : (front rest : List ℕ) (ms : List Member) → longest < length front → HasRoster front ms rest
    → 67306100 < length rest
many_left front rest ms long has = omega (arith, long, roster_up.takes front (roster_value ms, rest) has.item)

-- so many are no base's text
no_base : (bytes : List ℕ) (v : Value base_item) → 67306100 < length bytes → text_at base_text bytes ≡ Some v → ⊥
no_base bytes v many e =
    let t = text_read base_text bytes v e in
    omega (arith, many, base_up.takes bytes (t.0, []) t.1)

-- so a file whose front is said to have one is all read
all_read : (front input rest : List ℕ) (ms : List Member) (v : Value base_item) → HasRoster front ms rest
    → text_at base_text rest ≡ Some v → IsFront longest front input → front ≡ input
all_read front input rest ms v has text (inl same) = same
all_read front input rest ms v has text (inr more) =
    absurd (no_base rest v (many_left front rest ms more.many has) text)

-- ---- what is said of the file

-- what is checked after a roster, of all that is there
checked : {C D : Type 0} {value : C → KnownBase} {member : C → Member} (its_value : D → KnownBase)
    (its_member : D → Member) (front input : List ℕ) (r : Result C Refusal) (s : Result D Refusal)
    (c : ChecksRest front value member r) → front ≡ input
    → ChecksBase c.roster c.rest its_value its_member s → ChecksRest input its_value its_member s
checked its_value its_member front input r s c same is =
    record {
      roster = c.roster;
      rest = c.rest;
      has = subst (λ bytes. HasRoster bytes c.roster c.rest) same c.has;
      checks = is;
    }

-- a base in front of a file is in the file
pub held : {C : Type 0} (value : C → KnownBase) (member : C → Member) (front input : List ℕ) (c : C)
    → IsFront longest front input → ChecksFile front value member (Ok c)
    → Holds input (value c) (member c)
held value member front input c is base =
    let same = all_read front input base.rest base.roster _ base.has base.checks.is.text is in
    checked (λ (k : KnownBase × Member). k.0) (λ k. k.1) front input (Ok c) (Ok (value c, member c)) base same
    base.checks

-- so what is answered of a file is what is said of it
pub judged : {C : Type 0} (value : C → KnownBase) (member : C → Member) (input : Option (List ℕ))
    (answer : Result C Refusal) (judgement : BaseJudgement)
    → IfOk answer (λ c. IfSome input (λ bytes. Holds bytes (value c) (member c)))
    → IfErr answer (λ refusal. IfSome input (λ bytes. IsRefused bytes refusal))
    → IfOk answer (λ c. judgement ≡ Base (value c).showing.node (value c).at)
    → IfErr answer (λ refusal. judgement ≡ NoBase refusal) → IfSome input (λ bytes. JudgesBase bytes judgement)
judged value member None answer judgement holds refused is none = tt
judged value member (Some bytes) (Ok c) judgement holds refused is none =
    subst (JudgesBase bytes) (sym is) (record {
      base = value c;
      member = member c;
      holds = holds;
      its = refl;
      there = refl;
    })
judged value member (Some bytes) (Err refusal) judgement holds refused is none =
    subst (JudgesBase bytes) (sym none) refused

-- a file that is garbage by its front is garbage
garbage : {C D : Type 0} (value : C → KnownBase) (member : C → Member) (its_value : D → KnownBase)
    (its_member : D → Member) (front input : List ℕ) → IsBytes front → IsFront longest front input
    → ChecksFile front value member (Err Garbage) → ChecksFile input its_value its_member (Err Garbage)
garbage value member its_value its_member front input bound (inl same) (inl none) = inl (subst HasNoRoster same none)
garbage value member its_value its_member front input bound (inl same) (inr c) =
    inr (checked its_value its_member front input (Err Garbage) (Err Garbage) c same c.checks)
garbage value member its_value its_member front input bound (inr more) (inl none) =
    inl (subst HasNoRoster (sym more.begins) (no_roster_more front more.rest more.many none))
garbage value member its_value its_member front input bound (inr more) (inr c) =
    let many : 67306100 < length (c.rest ++ more.rest) =
    omega (arith, many_left front c.rest c.roster more.many c.has, length-append c.rest more.rest) in
    inr (record {
      roster = c.roster;
      rest = c.rest ++ more.rest;
      has =
          subst (λ bytes. HasRoster bytes c.roster (c.rest ++ more.rest)) (sym more.begins)
          (roster_more front more.rest c.rest c.roster bound c.has);
      checks = inl (none_unless _ (λ v e. no_base (c.rest ++ more.rest) v many e));
    })

-- a file that is refused by its front is refused
pub refused : {C : Type 0} (value : C → KnownBase) (member : C → Member) (front input : List ℕ) (refusal : Refusal)
    → IsBytes front → IsFront longest front input → (refusal ≡ NoMemory → ⊥)
    → ChecksFile front value member (Err refusal) → IsRefused input refusal
refused value member front input Garbage bound is other c =
    garbage value member (λ (k : KnownBase × Member). k.0) (λ k. k.1) front input bound is c
refused value member front input UnknownNode bound is other c =
    let same = all_read front input c.rest c.roster _ c.has c.checks.is.text is in
    checked (λ (k : KnownBase × Member). k.0) (λ k. k.1) front input (Err UnknownNode) (Err UnknownNode) c same c.checks
refused value member front input BadSignature bound is other c =
    let same = all_read front input c.rest c.roster _ c.has c.checks.is.text is in
    checked (λ (k : KnownBase × Member). k.0) (λ k. k.1) front input (Err BadSignature) (Err BadSignature) c same c.checks
refused value member front input NoMemory bound is other c = other refl
