-- The state of a base: the link at its number, and the messages that its state knows as sent.
-- Serves: find_link, link_at_number, sends_lie_below, bytes_state, state_of, Base::mark_at, Base::hash.
use Rattle.std.proofs.Common.{◌≡◌, ℕ, ◌+◌, ◌-◌, ◌<◌, ◌≤◌, Bool, true, false, ◌||◌, List, [], ◌∷◌, map, inl}
use Rattle.std.proofs.Common.{inr, Some, None, refl, sym, ap, subst, ◌∙◌, ◌++◌, length, arith}
use Rattle.std.specs.Prelude.{◌≢◌, ◌⊎◌, ◌↔◌, ◌==◌, filter, nat_le}
use Rattle.std.specs.FinMap as finite
use Rattle.std.specs.List.{AllByRecursion, list_any}
use Rattle.std.specs.Ordering.{eq_by_cmp, nat_cmp}
use Rattle.std.specs.Cmp.{unsigned_tied}
use Rattle.std.proofs.lemmas.Bool.{eq-eqb, eqb-true, le-leb, leb-true}
use Rattle.xdr.specs.Item.{IsBytes, Value}
use Rattle.xdr.specs.Texts.Text.{text_at}
use Rattle.xdr.proofs.OfTexts.WholeTexts.{is_text}
use Rattle.authenticator.specs.declared.member.LogVersion.{LogVersion}
use Rattle.authenticator.specs.Numbers.{number_in}
use Rattle.replay.specs.checkpoint.Parts.SaidParts.{sent_said, state_said}
use Rattle.replay.specs.checkpoint.state_machine.declared.states.texts.NumberedSend.{NumberedSend}
use Rattle.replay.specs.checkpoint.declared.parts.parts.MachinePart.{MachinePart}
use Rattle.replay.specs.checkpoint.declared.parts.parts.MachinePart.TheVariants as parts
use Rattle.replay.specs.checkpoint.declared.parts.parts.StatePart.{StatePart}
use Rattle.replay.specs.replay_spec.state_spec.State.{Client, Machine, SentMessage, Server, State}
use Rattle.replay.specs.replay_spec.state_spec.StateItems.{sent_item}
use Rattle.replay.specs.replay_spec.state_spec.StateItems.{sent_value}
use Rattle.replay.specs.replay_spec.state_spec.StateText.{IsStateText, Said, said, spelled_text, state_digest}
use Rattle.secure_log.specs.declared.log_entries.entry.Entry.TheVariants.{Check}
use Rattle.evidence_showings.specs.Showings.{numbered_link}
use Rattle.evidence_showings.specs.evidence_spec.Base.{BaseParts, IsCheckAt, SendsLieBelow, base_marks, check_link}
use Rattle.evidence_showings.specs.evidence_spec.Showing.{ShownLink, links_in, numbered, showing_marks, shown_logged}
use Rattle.evidence_showings.proofs.evidence_spec.Gaps.{shown_after}
use Rattle.secure_log.specs.LogEntries.Chain.{IsAmong, Link, hash_after, marks, no_entry, none_from}
use Rattle.secure_log.specs.LogEntries.Chain.{chain_text}
use Rattle.sha2.proofs.Facts256.{length-sha256}
use Rattle.secure_log.proofs.OfLogEntries.Marks.{one_mark}
use Rattle.challenge.specs.BaseStates.{HasNoCheck, LinkIs, link_at}

-- ---- the link at a number

-- a number up to that before some links is none of theirs
pub none_up_to : (before : ℕ) (ls : List ShownLink) (n : ℕ) → n ≤ before → link_at before ls n ≡ None
none_up_to before [] n low = refl
none_up_to before (l ∷ ls) n low =
    by (none_up_to (before + 1 + l.skipped) ls n (omega (arith, low))) (before + 1 + l.skipped == n) refl
  where
    by : link_at (before + 1 + l.skipped) ls n ≡ None → (b : Bool) → (before + 1 + l.skipped == n) ≡ b
        → link_at before (l ∷ ls) n ≡ None
    by none true e = absurd (omega (arith, eqb-true (before + 1 + l.skipped) n e, low))
    by none false e = rw e none

-- the next link has the number
pub first_has : (before : ℕ) (l : ShownLink) (ls : List ShownLink) (n : ℕ) → before + 1 + l.skipped ≡ n
    → link_at before (l ∷ ls) n ≡ Some l
first_has before l ls n e = let is : (before + 1 + l.skipped == n) ≡ true = eq-eqb (before + 1 + l.skipped) n e in rw is refl

-- or it is that of one behind it
pub first_has_not : (before : ℕ) (l : ShownLink) (ls : List ShownLink) (n : ℕ) → ¬ (before + 1 + l.skipped ≡ n)
    → link_at before (l ∷ ls) n ≡ link_at (before + 1 + l.skipped) ls n
first_has_not before l ls n differs = by (before + 1 + l.skipped == n) refl
  where
    by : (b : Bool) → (before + 1 + l.skipped == n) ≡ b
        → link_at before (l ∷ ls) n ≡ link_at (before + 1 + l.skipped) ls n
    by true e = absurd (differs (eqb-true (before + 1 + l.skipped) n e))
    by false e = rw e refl

-- what is found is among the links
pub at_among : (before : ℕ) (ls : List ShownLink) (n : ℕ) (l : ShownLink) → link_at before ls n ≡ Some l
    → IsAmong (numbered_link l n) (numbered before ls)
at_among before [] n l e = absurd cc
at_among before (k ∷ ks) n l e =
    by (at_among (before + 1 + k.skipped) ks n l) (before + 1 + k.skipped == n) refl
  where
    by : (link_at (before + 1 + k.skipped) ks n ≡ Some l
        → IsAmong (numbered_link l n) (numbered (before + 1 + k.skipped) ks))
        → (b : Bool) → (before + 1 + k.skipped == n) ≡ b → IsAmong (numbered_link l n) (numbered before (k ∷ ks))
    by behind true h =
        let same : before + 1 + k.skipped ≡ n = eqb-true (before + 1 + k.skipped) n h in
        let found : Some k ≡ Some l = sym (first_has before k ks n same) ∙ e in
        let one : k ≡ l = cc in
        inl (ap (λ m. numbered_link l m) (sym same) ∙ ap (λ x. numbered_link x (before + 1 + k.skipped)) (sym one))
    by behind false h =
        let rest : link_at (before + 1 + k.skipped) ks n ≡ Some l =
        sym (first_has_not before k ks n (λ same. let is : (before + 1 + k.skipped == n) ≡ true =
        eq-eqb (before + 1 + k.skipped) n same in let both : true ≡ false = sym is ∙ h in absurd cc)) ∙ e in
        inr (behind rest)

above : (before : ℕ) (ls : List ShownLink) (x : Link) → IsAmong x (numbered before ls) → before < x.number
above before [] x i = absurd i
above before (l ∷ ls) x (inl e) = omega (arith, ap (λ (y : Link). y.number) e)
above before (l ∷ ls) x (inr i) = omega (arith, above (before + 1 + l.skipped) ls x i)

-- A link that is found at the number of another, which is among them.
pub record Found (before : ℕ) (ls : List ShownLink) (x : Link) : Type 0 where
  pub link : ShownLink
  pub found : link_at before ls x.number ≡ Some link
  pub same : x ≡ numbered_link link x.number

-- each link is found at its number
pub among_at : (before : ℕ) (ls : List ShownLink) (x : Link) → IsAmong x (numbered before ls) → Found before ls x
among_at before [] x i = absurd i
among_at before (l ∷ ls) x (inl e) =
    let number : before + 1 + l.skipped ≡ x.number = sym (ap (λ (y : Link). y.number) e) in record {
      link = l;
      found = first_has before l ls x.number number;
      same = e ∙ ap (λ m. numbered_link l m) number;
    }
among_at before (l ∷ ls) x (inr i) =
    let behind = among_at (before + 1 + l.skipped) ls x i in
    let more = above (before + 1 + l.skipped) ls x i in record {
      link = behind.link;
      found = first_has_not before l ls x.number (λ e. omega (arith, e, more)) ∙ behind.found;
      same = behind.same;
    }

-- ---- the CHECK at a base's number

-- where no link has the number, no state has its CHECK there
pub no_link : (b : BaseParts) → link_at (b.showing.first - 1) b.showing.links b.at ≡ None → HasNoCheck b
no_link b none s check =
    let f = among_at (b.showing.first - 1) b.showing.links (check_link check.skipped b.at s) check.link in
    let both : None ≡ Some f.link = sym none ∙ f.found in
    absurd cc

-- the link there is that of the CHECK
pub check_here : (b : BaseParts) (l : ShownLink) (s : State) → LinkIs b l → IsCheckAt b s
    → l ≡ shown_logged (record { skipped = l.skipped; entry = Check (state_digest s) })
check_here b l s is check =
    let f = among_at (b.showing.first - 1) b.showing.links (check_link check.skipped b.at s) check.link in
    let both : Some f.link ≡ Some l = sym f.found ∙ is in
    let one : f.link ≡ l = cc in
    let same : check_link check.skipped b.at s ≡ numbered_link l b.at =
    f.same ∙ ap (λ x. numbered_link x b.at) one in
    let kind = sym (ap (λ (x : Link). x.kind) same) in
    let content = sym (ap (λ (x : Link). x.content) same) in
    λ i. record { skipped = l.skipped; kind = kind i; content = content i }

-- and it is of the kind CHECK
pub other_kind : (b : BaseParts) (l : ShownLink) → LinkIs b l → l.kind ≢ 5 → HasNoCheck b
other_kind b l is differs s check = differs (ap (λ (x : ShownLink). x.kind) (check_here b l s is check))

-- a link that is so there shows that CHECK
pub check_is : (b : BaseParts) (l : ShownLink) (s : State) → LinkIs b l
    → l ≡ shown_logged (record { skipped = l.skipped; entry = Check (state_digest s) }) → IsCheckAt b s
check_is b l s is e =
    let among = at_among (b.showing.first - 1) b.showing.links b.at l is in
    record { skipped = l.skipped; link = subst (λ x. IsAmong x (links_in b.showing)) (ap (λ x. numbered_link x b.at) e) among }

-- ---- messages that were sent

-- the words of messages that were sent, as a text says them
abbrev sent_words : List (Value sent_item) → List ℕ
sent_words es = map (λ (e : Value sent_item). e.0) es

-- what a text says was sent
abbrev sends_said : Said → List ℕ
sends_said v = sent_words v.1.1.1.1.1.0

own_words : (es : List (ℕ × SentMessage)) → sent_words (map sent_value es) ≡ map (λ (e : ℕ × SentMessage). e.0) es
own_words [] = refl
own_words (e ∷ es) = ap (λ ws. e.0 ∷ ws) (own_words es)

part_words : (ns : List NumberedSend) → sent_words (map sent_said ns) ≡ map (λ (n : NumberedSend). n.seq) ns
part_words [] = refl
part_words (n ∷ ns) = ap (λ ws. n.seq ∷ ws) (part_words ns)

state_words : (s : State) (m : Machine)
    → sends_said (said (record { node = s.node; received = s.received; sends = s.sends; machine = m }))
    ≡ map (λ (e : ℕ × SentMessage). e.0) (finite.entries s.sends)
state_words s (Server w stage) = own_words (finite.entries s.sends)
state_words s (Client clock) = own_words (finite.entries s.sends)

parts_words : (p : StatePart) (m : MachinePart)
    → sends_said (state_said (record {
      node = p.node;
      clock = p.clock;
      received = p.received;
      sends = p.sends;
      machine = m;
    }))
    ≡ map (λ (n : NumberedSend). n.seq) p.sends.items
parts_words p (parts.Server w) = part_words p.sends.items
parts_words p parts.Client = part_words p.sends.items

-- the words under which a state keeps what it sent are those that the parts of its text say
pub same_words : (s : State) (p : StatePart) (bytes : List ℕ) → IsBytes bytes → IsStateText s bytes
    → text_at spelled_text bytes ≡ Some (state_said p)
    → finite.keys s.sends ≡ map (λ (n : NumberedSend). n.seq) p.sends.items
same_words s p bytes bound text read =
    let own : text_at spelled_text bytes ≡ Some (said s) =
    (is_text spelled_text (said s) bytes bound).1 (text.fits, refl, text.spelled) in
    let two : Some (said s) ≡ Some (state_said p) = sym own ∙ read in
    let same : said s ≡ state_said p = cc in
    sym (state_words s s.machine) ∙ ap sends_said same ∙ parts_words p p.machine

-- ---- all of them lie below a number

module _ (v : LogVersion) (number : ℕ) where
  -- a message's number lies below it
  abbrev pub LiesBelow : NumberedSend → Type 0
  LiesBelow n = number_in v n.seq < number

  all_of : (ns : List NumberedSend) → AllByRecursion LiesBelow ns → (word : ℕ)
      → list_any (eq_by_cmp nat_cmp word) (map (λ (n : NumberedSend). n.seq) ns) ≡ true → number_in v word < number
  all_of [] all word there = absurd cc
  all_of (n ∷ ns) all word there = by (all_of ns all.1 word) (eq_by_cmp nat_cmp word n.seq) refl
    where
      by : (list_any (eq_by_cmp nat_cmp word) (map (λ (m : NumberedSend). m.seq) ns) ≡ true
          → number_in v word < number)
          → (b : Bool) → eq_by_cmp nat_cmp word n.seq ≡ b → number_in v word < number
      by behind true e = subst (λ w. number_in v w < number)
          (sym (eqb-true word n.seq (sym (unsigned_tied word n.seq) ∙ e))) all.0
      by behind false e = behind (rw e at there)

  of_all : (ns : List NumberedSend)
      → ((word : ℕ) → list_any (eq_by_cmp nat_cmp word) (map (λ (n : NumberedSend). n.seq) ns) ≡ true
      → number_in v word < number)
      → AllByRecursion LiesBelow ns
  of_all [] each = tt
  of_all (n ∷ ns) each = (
    each n.seq (let tied : eq_by_cmp nat_cmp n.seq n.seq ≡ true =
        unsigned_tied n.seq n.seq ∙ eq-eqb n.seq n.seq refl in rw tied refl),
    of_all ns (λ word there. each word (more word (eq_by_cmp nat_cmp word n.seq) there)),
  )
    where
      more : (word : ℕ) (b : Bool)
          → list_any (eq_by_cmp nat_cmp word) (map (λ (m : NumberedSend). m.seq) ns) ≡ true
          → (b || list_any (eq_by_cmp nat_cmp word) (map (λ (m : NumberedSend). m.seq) ns)) ≡ true
      more word true there = refl
      more word false there = there

  -- so it is of the state
  pub sends_lie : (s : State) (ns : List NumberedSend) → finite.keys s.sends ≡ map (λ (n : NumberedSend). n.seq) ns
      → AllByRecursion LiesBelow ns ↔ SendsLieBelow v s number
  sends_lie s ns same = (
    (λ all word there. all_of ns all word
        (sym (finite.contains_key-keys s.sends word ∙ ap (list_any (eq_by_cmp nat_cmp word)) same) ∙ there)),
    (λ each. of_all ns (λ word there. each word
        (finite.contains_key-keys s.sends word ∙ ap (list_any (eq_by_cmp nat_cmp word)) same ∙ there))),
  )

-- ---- the marks up to a number

-- the marks that are kept are those of numbers up to it
pub among_kept : (at n : ℕ) (m : List ℕ) (ms : List (ℕ × List ℕ))
    → IsAmong (n, m) (filter (λ p. nat_le p.0 at) ms) ↔ ((n ≤ at) × IsAmong (n, m) ms)
among_kept at n m [] = ((λ i. absurd i), (λ h. absurd h.1))
among_kept at n m (p ∷ ms) = by (among_kept at n m ms) (nat_le p.0 at) refl
  where
    by : IsAmong (n, m) (filter (λ q. nat_le q.0 at) ms) ↔ ((n ≤ at) × IsAmong (n, m) ms)
        → (b : Bool) → nat_le p.0 at ≡ b
        → IsAmong (n, m) (filter (λ q. nat_le q.0 at) (p ∷ ms)) ↔ ((n ≤ at) × IsAmong (n, m) (p ∷ ms))
    by rest true e = rw e (
      (λ i. keep i),
      (λ h. kept h.0 h.1),
    )
      where
        low : p.0 ≤ at
        low = leb-true p.0 at e

        keep : ((n, m) ≡ p) ⊎ IsAmong (n, m) (filter (λ q. nat_le q.0 at) ms) → (n ≤ at) × IsAmong (n, m) (p ∷ ms)
        keep (inl same) = (omega (arith, ap (λ (q : ℕ × List ℕ). q.0) same, low), inl same)
        keep (inr i) = ((rest.0 i).0, inr (rest.0 i).1)

        kept : n ≤ at → IsAmong (n, m) (p ∷ ms) → ((n, m) ≡ p) ⊎ IsAmong (n, m) (filter (λ q. nat_le q.0 at) ms)
        kept few (inl same) = inl same
        kept few (inr i) = inr (rest.1 (few, i))
    by rest false e = rw e (
      (λ i. ((rest.0 i).0, inr (rest.0 i).1)),
      (λ h. kept h.0 h.1),
    )
      where
        kept : n ≤ at → IsAmong (n, m) (p ∷ ms) → IsAmong (n, m) (filter (λ q. nat_le q.0 at) ms)
        kept few (inl same) =
            let is : nat_le p.0 at ≡ true =
            le-leb p.0 at (omega (arith, ap (λ (q : ℕ × List ℕ). q.0) same, few)) in absurd cc
        kept few (inr i) = rest.1 (few, i)

-- ---- the mark at a base's number

-- A link's number has a hash among the marks.
pub record HasHash (ps : List (ℕ × List ℕ)) (n : ℕ) : Type 0 where
  pub hash : List ℕ
  pub long : length hash ≡ 32
  pub there : IsAmong (n, hash) ps

-- the first mark is that of the place before the links
first_mark : (before : ℕ) (opening : List ℕ) (links : List Link) → IsAmong (before, opening) (marks before opening links)
first_mark before opening [] = inl refl
first_mark before opening (l ∷ ls) = inl refl

right : (xs ys : List (ℕ × List ℕ)) (p : ℕ × List ℕ) → IsAmong p ys → IsAmong p (xs ++ ys)
right [] ys p i = i
right (x ∷ xs) ys p i = inr (right xs ys p i)

hash_long : (opening : List ℕ) (l : Link) → length (hash_after opening l) ≡ 32
unfolding hash_after
hash_long opening l = length-sha256 (chain_text opening l)

link_hash : (before : ℕ) (opening : List ℕ) (links : List Link) (l : Link) → IsAmong l links
    → HasHash (marks before opening links) l.number
link_hash before opening [] l i = absurd i
link_hash before opening (k ∷ ks) l (inl e) =
    record {
      hash = hash_after opening k;
      long = hash_long opening k;
      there = inr (right (none_from (before + 1) k.skipped) (marks k.number (hash_after opening k) ks)
          (l.number, hash_after opening k)
          (subst (λ (n : ℕ). IsAmong (n, hash_after opening k) (marks k.number (hash_after opening k) ks))
          (sym (ap (λ (x : Link). x.number) e)) (first_mark k.number (hash_after opening k) ks)));
    }
link_hash before opening (k ∷ ks) l (inr i) =
    let rest = link_hash k.number (hash_after opening k) ks l i in
    record {
      hash = rest.hash;
      long = rest.long;
      there = inr (right (none_from (before + 1) k.skipped) (marks k.number (hash_after opening k) ks)
          (l.number, rest.hash) rest.there);
    }

-- a base has a hash at its number
pub check_hash : (b : BaseParts) (s : State) → IsCheckAt b s → HasHash (base_marks b) b.at
check_hash b s check =
    let has = link_hash (b.showing.first - 1) b.showing.opening (links_in b.showing)
    (check_link check.skipped b.at s) check.link in
    record {
      hash = has.hash;
      long = has.long;
      there = (among_kept b.at b.at has.hash (showing_marks b.showing)).1 (omega arith, has.there);
    }

-- and so no other mark than that
pub no_other_mark : (b : BaseParts) (s : State) → IsCheckAt b s → ¬ IsAmong (b.at, no_entry) (base_marks b)
no_other_mark b s check i =
    let has = check_hash b s check in
    let shown = ((among_kept b.at b.at has.hash (showing_marks b.showing)).0 has.there).1 in
    let none = ((among_kept b.at b.at no_entry (showing_marks b.showing)).0 i).1 in
    let same = one_mark (b.showing.first - 1) b.showing.opening (links_in b.showing) b.at has.hash no_entry
    (shown_after (b.showing.first - 1) b.showing.links) shown none in
    let long = has.long in
    let short : length no_entry ≡ 32 = subst (λ x. length x ≡ 32) same long in
    absurd (omega (arith, short))
