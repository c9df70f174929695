-- What is said, and what of it is printed and claimed.
-- Serves: what the witness of a script is asked and told.
use Rattle.std.proofs.Common.{◌≡◌, ◌∙◌, sym, ap, refl, inl, inr, ℕ, true, false, List, [], ◌∷◌, ◌++◌}
use Rattle.std.proofs.Common.{append_assoc, append-nil, Option, Result, Ok, Err}
use Rattle.std.specs.Prelude.{IfOk}
use Rattle.authenticator.specs.Numbers.{number_in}
use Rattle.authenticator.specs.declared.authenticator.Authenticator.{Authenticator}
use Rattle.authenticator.specs.declared.member.LogVersion.{LogVersion}
use Rattle.witness_calls.specs.witness_service.Claims.{Claim, KeepsOne}
use Rattle.witness_spec.specs.Events.{Event, Forward, Ask, ItsIndication, ItsChallenges, ItsEvidence}
use Rattle.witness_spec.specs.Events as e
use Rattle.evidence_spec.specs.Evidence.{EvidenceParts}
use Rattle.witness_spec.specs.Refusals.{NoMemory, refusal_number}
use Rattle.witness_spec.specs.Replies.{Reply, refused, is_want, is_want_of_memory}
use Rattle.witness_spec.specs.Replies as r
use Rattle.witness_books.specs.node_book.Replies.{indication_in, refusal_in}
use Rattle.witness_calls.specs.Telling.{AsksOpen, Extends, Hears, IsSaid, Says, Tells, Withholds}
use Rattle.witness_calls.specs.Telling.{wants_memory}
use Rattle.witness_calls.specs.declared.said.Said.{Said}
use Rattle.witness_calls.specs.declared.said.Said.TheVariants as s
use Rattle.witness_calls.specs.declared.told.Told.{Told}
use Rattle.scripts.specs.Said.{IsLineOf, said_line}
use Rattle.scripts.specs.Turns.{Does, IsAfter, IsAnswered, IsAsked, IsEvidence, IsFlood, IsForwarded}
use Rattle.scripts.specs.Turns.{IsHanded}
use Rattle.scripts.specs.Turns.{IsHeard, IsPassed, IsRefusal, IsRound, IsSilent, claim}
use Rattle.scripts.specs.Turns.{evidence_line}
use Rattle.scripts.specs.Turns.{flooded_line, forwarded_words, none_line, reply_line, told_line}

-- ---- replies

-- what a reply says has that reply's line
said_is_reply : (reply : Reply) (said : Said) → IsSaid reply said → said_line said ≡ reply_line reply
said_is_reply reply s.Noted h = sym (ap reply_line h)
said_is_reply reply s.Already h = sym (ap reply_line h)
said_is_reply reply s.Opened h = sym (ap reply_line h)
said_is_reply reply s.Accepted h = sym (ap reply_line h)
said_is_reply reply s.Closed h = sym (ap reply_line h)
said_is_reply reply (s.Asked first last) h = sym (ap reply_line h)
said_is_reply reply s.Returned (inl h) = sym (ap reply_line h)
said_is_reply reply s.Returned (inr (inl h)) = sym (ap reply_line h)
said_is_reply reply s.Returned (inr (inr (j, h))) = sym (ap reply_line h)
said_is_reply reply (s.Forwarded x) h = sym (ap reply_line h)
said_is_reply reply s.Empty h = sym (ap reply_line h)
said_is_reply reply (s.Told i) h = sym (ap reply_line h)
said_is_reply reply (s.Open cs) h = sym (ap reply_line h)
said_is_reply reply (s.EvidenceIs x) h = sym (ap reply_line h)
said_is_reply reply (s.Refused f) (inl h) = sym (ap reply_line h)
said_is_reply reply (s.Refused f) (inr (inl (d, h))) = sym (ap reply_line h)
said_is_reply reply (s.Refused f) (inr (inr (j, h))) = sym (ap reply_line h)

-- it is said that memory ran out where the reply says so
said_wants : (reply : Reply) (said : Said) → IsSaid reply said → wants_memory said ≡ is_want_of_memory reply
said_wants reply s.Noted h = sym (ap is_want_of_memory h)
said_wants reply s.Already h = sym (ap is_want_of_memory h)
said_wants reply s.Opened h = sym (ap is_want_of_memory h)
said_wants reply s.Accepted h = sym (ap is_want_of_memory h)
said_wants reply s.Closed h = sym (ap is_want_of_memory h)
said_wants reply (s.Asked first last) h = sym (ap is_want_of_memory h)
said_wants reply s.Returned (inl h) = sym (ap is_want_of_memory h)
said_wants reply s.Returned (inr (inl h)) = sym (ap is_want_of_memory h)
said_wants reply s.Returned (inr (inr (j, h))) = sym (ap is_want_of_memory h)
said_wants reply (s.Forwarded x) h = sym (ap is_want_of_memory h)
said_wants reply s.Empty h = sym (ap is_want_of_memory h)
said_wants reply (s.Told i) h = sym (ap is_want_of_memory h)
said_wants reply (s.Open cs) h = sym (ap is_want_of_memory h)
said_wants reply (s.EvidenceIs x) h = sym (ap is_want_of_memory h)
said_wants reply (s.Refused f) (inl h) = sym (ap is_want_of_memory h)
said_wants reply (s.Refused f) (inr (inl (d, h))) = sym (ap is_want_of_memory h)
said_wants reply (s.Refused f) (inr (inr (j, h))) = sym (ap is_want_of_memory h)

refused_wants : (event : Event) → is_want_of_memory (refused event NoMemory) ≡ true
refused_wants (e.Deliver bytes) = refl
refused_wants (e.Learn x key) = refl
refused_wants (e.SendChallenge x key) = refl
refused_wants (e.Answer c) = refl
refused_wants (e.AckIn x key) = refl
refused_wants (e.Audit node) = refl
refused_wants (e.Begin node) = refl
refused_wants (e.File d) = refl
refused_wants (e.PutBack j) = refl
refused_wants (e.Forward node) = refl
refused_wants (e.Ask node question) = refl

-- a step that doesn't say that memory ran out keeps its claim
kept_one : (old : List Claim) (event : Event) (said : Said) (new : List Claim) (says : Says old event said new)
    → wants_memory said ≡ false → KeepsOne old event says.reply new
kept_one old event said new says enough = elim says.keeps [
  | inl k ↦ k
  | inr k ↦ absurd (let wants : is_want_of_memory says.reply ≡ true =
      ap is_want_of_memory k.refused ∙ refused_wants event in
      let differs : false ≡ true = sym enough ∙ said_wants says.reply said says.is_said ∙ wants in cc)
]

-- ---- turns

-- what a call's result says, said anew
pub if_ok : {A E : Type 0} {P Q : A → Type 0} (r : Result A E) → ((x : A) → P x → Q x) → IfOk r P → IfOk r Q
if_ok (Ok x) so h = so x h
if_ok (Err x) so h = tt

-- what holds of each value holds of a result's
pub any_ok : {A E : Type 0} {Q : A → Type 0} (r : Result A E) → ((x : A) → Q x) → IfOk r Q
any_ok (Ok x) so = so x
any_ok (Err x) so = tt

-- a turn of one kind is one of a wider kind
pub does_as : {P Q : List ℕ → List Claim → Type 0} (old : List Claim) (text : List ℕ) (new : List Claim)
    → ((t : List ℕ) (c : List Claim) → P t c → Q t c) → Does P old text new → Does Q old text new
does_as old text new so d = record { claims = d.claims; added = d.added; is_so = so text d.claims d.is_so }

-- an event's line and its claim
pub answered : (old : List Claim) (event : Event) (said : Said) (new : List Claim) (text : List ℕ)
    → Says old event said new → IsLineOf said text
    → Does (IsAnswered event) old text new
answered old event said new text says line =
    let k : KeepsOne old event says.reply new = kept_one old event said new says line.enough in
    record {
      claims = claim k.place event says.reply ∷ [];
      added = k.claims;
      is_so = record {
        place = k.place;
        reply = says.reply;
        claims_are = refl;
        text_is = line.is ∙ said_is_reply says.reply said says.is_said;
      };
    }

-- nothing was claimed
pub none_added : {P : List ℕ → List Claim → Type 0} (old : List Claim) (text : List ℕ) (new : List Claim)
    → new ≡ old → P text [] → Does P old text new
none_added old text new same is = record { claims = []; added = same ∙ sym (append-nil old); is_so = is }

-- a line that the witness isn't asked
pub silent : (old : List Claim) (text : List ℕ) (new : List Claim) → new ≡ old → Does IsSilent old text new
silent old text new same = none_added {P = IsSilent} old text new same refl

-- what the witness said of a packet
pub heard : (old : List Claim) (said : Said) (new : List Claim) (text : List ℕ) → Hears old said new
    → IsLineOf said text → Does IsHeard old text new
heard old said new text (inl (event, says)) line =
    does_as {P = IsAnswered event} {Q = IsHeard} old text new (λ t c h. inl (event, h))
    (answered old event said new text says line)
heard old said new text (inr (f, is_refused, same)) line =
    none_added {P = IsHeard} old text new same
    (inr (record { claims_are = refl; is_refusal = (refusal_number (refusal_in f), line.is ∙ ap said_line is_refused) }))

-- a packet that a node made, and what the witness said of it
pub handed : (old : List Claim) (text : List ℕ) (new : List Claim) → Does IsHeard old text new
    → Does IsHanded old text new
handed old text new d = does_as {P = IsHeard} {Q = IsHanded} old text new (λ t c h. inl h) d

-- the node made no packet
pub nothing_handed : (old : List Claim) (text : List ℕ) (new : List Claim) → new ≡ old → text ≡ none_line
    → Does IsHanded old text new
nothing_handed old text new same is =
    none_added {P = IsHanded} old text new same (inr (record { claims_are = refl; text_is = is }))

-- the node refused to make one
pub refusal_handed : (old : List Claim) (text : List ℕ) (new : List Claim) → new ≡ old → IsRefusal text
    → Does IsHanded old text new
refusal_handed old text new same is =
    none_added {P = IsHanded} old text new same (inl (inr (record { claims_are = refl; is_refusal = is })))

-- one turn after an event
pub then_does : {P : List ℕ → List Claim → Type 0} (event : Event) (a b c : List Claim) (before text : List ℕ)
    → Does (IsAnswered event) a before b → Does P b text c → Does (IsAfter event P) a text c
then_does event a b c before text first then = record {
  claims = first.claims ++ then.claims;
  added = then.added ∙ ap (λ l. l ++ then.claims) first.added ∙ append_assoc a first.claims then.claims;
  is_so = record {
    place = first.is_so.place;
    reply = first.is_so.reply;
    more = then.claims;
    claims_are = ap (λ l. l ++ then.claims) first.is_so.claims_are;
    is_then = then.is_so;
  };
}

-- ---- what a node is asked

-- what `ask` prints of a node is what the witness told of it
pub told : (old : List Claim) (node : ℕ) (x : Told) (new : List Claim) (text : List ℕ) → Tells old node x new
    → text ≡ told_line x.node (indication_in x.indication) x.open → Does (IsAsked node) old text new
told old node x new text t is =
    let i = indication_in x.indication in
    record {
      claims = claim t.first (Ask node ItsIndication) (r.Told i)
          ∷ claim t.second (Ask node ItsChallenges) (r.OpenList t.listed) ∷ [];
      added = t.claims;
      is_so = inl (record {
        indication = i;
        listed = t.listed;
        first = t.first;
        second = t.second;
        claims_are = refl;
        text_is = is ∙ ap (λ n. told_line n i x.open) t.is_of ∙ ap (λ n. told_line node i n) (sym t.count);
      });
    }

-- or the refusal, where the witness told less
pub withheld : (old : List Claim) (node : ℕ) (said : Said) (new : List Claim) (text : List ℕ)
    → Withholds old node said new → IsLineOf said text
    → Does (IsAsked node) old text new
withheld old node said new text (inl says) line =
    does_as {P = IsAnswered (Ask node ItsIndication)} {Q = IsAsked node} old text new (λ t c h. inr (inl h))
    (answered old (Ask node ItsIndication) said new text says line)
withheld old node said new text (inr (i, between, first, second)) line =
    does_as {P = IsAfter (Ask node ItsIndication) (IsAnswered (Ask node ItsChallenges))} {Q = IsAsked node} old text new
    (λ t c h. inr (inr h))
    (then_does {P = IsAnswered (Ask node ItsChallenges)} (Ask node ItsIndication) old between new
    (said_line (s.Told i)) text
    (answered old (Ask node ItsIndication) (s.Told i) between (said_line (s.Told i)) first (record { enough = refl; is = refl }))
    (answered between (Ask node ItsChallenges) said new text second line))

-- what is open was asked before a packet was handed in
pub asked_before : (a : List Claim) (node : ℕ) (b c : List Claim) (text : List ℕ) → AsksOpen a node b
    → Does IsHanded b text c → Does (IsAfter (Ask node ItsChallenges) IsHanded) a text c
asked_before a node b c text asks d =
    then_does {P = IsHanded} (Ask node ItsChallenges) a b c (said_line asks.said) text
    (answered a (Ask node ItsChallenges) asks.said b (said_line asks.said) asks.says
    (record { enough = asks.enough; is = refl })) d

-- an authenticator that is passed on, and what its own witness said of it
pub passed : (old : List Claim) (v : LogVersion) (x : Authenticator) (line : List ℕ) (new : List Claim)
    (text : List ℕ) → Does IsHeard old line new → text ≡ forwarded_words x.node (number_in v x.word) ++ line
    → Does (IsPassed v x) old text new
passed old v x line new text d is = record {
  claims = d.claims;
  added = d.added;
  is_so = record { words = line; text_is = is; is_heard = d.is_so };
}

-- the same after the answer that gave it
pub passed_on : (a : List Claim) (node : ℕ) (v : LogVersion) (x : Authenticator) (b c : List Claim)
    (text : List ℕ) → Says a (Forward node) (s.Forwarded x) b → Does (IsPassed v x) b text c
    → Does (IsForwarded node) a text c
passed_on a node v x b c text says d =
    let k : KeepsOne a (Forward node) says.reply b = kept_one a (Forward node) (s.Forwarded x) b says refl in
    let first : List Claim = claim k.place (Forward node) says.reply ∷ [] in
    record {
      claims = first ++ d.claims;
      added = d.added ∙ ap (λ l. l ++ d.claims) k.claims ∙ append_assoc a first d.claims;
      is_so = inl (record {
        place = k.place;
        passed = x;
        version = v;
        more = d.claims;
        claims_are = ap (λ y. claim k.place (Forward node) y ∷ d.claims) says.is_said;
        is_passed = d.is_so;
      });
    }

-- none was given
pub not_passed : (old : List Claim) (node : ℕ) (said : Said) (new : List Claim) (text : List ℕ)
    → Says old (Forward node) said new → IsLineOf said text
    → Does (IsForwarded node) old text new
not_passed old node said new text says line =
    does_as {P = IsAnswered (Forward node)} {Q = IsForwarded node} old text new (λ t c h. inr h)
    (answered old (Forward node) said new text says line)

-- ---- evidence

-- evidence, or that there is none
pub shown : (old : List Claim) (node : ℕ) (said : Said) (x : Option EvidenceParts) (new : List Claim) (text : List ℕ)
    → Says old (Ask node ItsEvidence) said new → wants_memory said ≡ false
    → ((reply : Reply) → IsSaid reply said → reply ≡ r.EvidenceIs x) → text ≡ evidence_line x
    → Does (IsEvidence node) old text new
shown old node said x new text says enough is_x is =
    let k : KeepsOne old (Ask node ItsEvidence) says.reply new =
    kept_one old (Ask node ItsEvidence) said new says enough in
    record {
      claims = claim k.place (Ask node ItsEvidence) says.reply ∷ [];
      added = k.claims;
      is_so = inl (record {
        place = k.place;
        evidence = x;
        claims_are = ap (λ y. claim k.place (Ask node ItsEvidence) y ∷ []) (is_x says.reply says.is_said);
        text_is = is;
      });
    }

-- or the refusal, where the witness gave neither
pub not_shown : (old : List Claim) (node : ℕ) (said : Said) (new : List Claim) (text : List ℕ)
    → Says old (Ask node ItsEvidence) said new → IsLineOf said text
    → Does (IsEvidence node) old text new
not_shown old node said new text says line =
    does_as {P = IsAnswered (Ask node ItsEvidence)} {Q = IsEvidence node} old text new (λ t c h. inr h)
    (answered old (Ask node ItsEvidence) said new text says line)

-- ---- floods

-- a packet that was handed in adds to the claims
pub heard_extends : (a : List Claim) (said : Said) (b : List Claim) → Hears a said b → Extends a b
heard_extends a said b (inl (event, says)) = elim says.keeps [
  | inl k ↦ record { more = claim k.place event says.reply ∷ []; is = k.claims }
  | inr k ↦ record { more = []; is = k.stays ∙ sym (append-nil a) }
]
heard_extends a said b (inr (f, is_refused, same)) = record { more = []; is = same ∙ sym (append-nil a) }

-- all packets of a flood were handed in
pub flooded : (times : ℕ) (a b : List Claim) (text : List ℕ) → Extends a b → text ≡ flooded_line times
    → Does (IsFlood times) a text b
flooded times a b text x is = record { claims = x.more; added = x.is; is_so = inl is }

-- a flood ended with what the witness said of one packet
pub last_heard : (times : ℕ) (a b : List Claim) (said : Said) (c : List Claim) (text : List ℕ) → Extends a b
    → Hears b said c → IsLineOf said text → Does (IsFlood times) a text c
last_heard times a b said c text x hears line =
    let d : Does IsHeard b text c = heard b said c text hears line in
    record {
      claims = x.more ++ d.claims;
      added = d.added ∙ ap (λ l. l ++ d.claims) x.is ∙ append_assoc a x.more d.claims;
      is_so = inr (inl (record { before = x.more; last = d.claims; claims_are = refl; is_heard = d.is_so }));
    }

-- the node made no packet for a flood
pub no_flood : (times : ℕ) (a b : List Claim) (text : List ℕ) → b ≡ a → text ≡ none_line → Does (IsFlood times) a text b
no_flood times a b text same is =
    none_added {P = IsFlood times} a text b same (inr (inr (record { claims_are = refl; text_is = is })))

-- ---- rounds

-- a round's claims are those that it added
pub round_done : (a b : List Claim) (text : List ℕ) → Extends a b → Does IsRound a text b
round_done a b text x = record { claims = x.more; added = x.is; is_so = tt }
