-- A charge that is read is told by its text: two of one text are the same.
-- Serves: a_text_has_one_charge.
use Rattle.std.proofs.Common.{◌≡◌, ℕ, zero, suc, ◌+◌, ◌-◌, List, [], ◌∷◌, Option, Some, None, map}
use Rattle.std.proofs.Common.{refl, sym, ap, ap₂, subst, ◌∙◌, arith}
use Rattle.std.specs.Prelude.{◌==◌, IfSome, if◌then◌else◌, option_map}
use Rattle.std.specs.List.{AllByRecursion}
use Rattle.xdr.specs.Item.{Value, choice}
use Rattle.authenticator.specs.declared.member.LogVersion.{LogVersion}
use Rattle.authenticator.specs.declared.member.LogVersion.TheVariants.{One, Two}
use Rattle.authenticator.specs.Numbers.{word_of}
use Rattle.authenticator.proofs.Words.{word_is}
use Rattle.secure_log.specs.Versioned.{VersionedParts, versioned_value}
use Rattle.secure_log.proofs.OneText as logs
use Rattle.secure_log.proofs.Texts.{same_authenticator}
use Rattle.evidence_showings.specs.evidence_spec.Showing.{ShowingParts, ShownLink, link_value, numbered}
use Rattle.evidence_showings.specs.evidence_spec.Showing.{showing_item, showing_value}
use Rattle.evidence_showings.specs.evidence_spec.Evidence.{Charge, Based, Fork, ForkParts, Replay}
use Rattle.evidence_showings.specs.evidence_spec.Evidence.{based_item, based_value, begun_replay, charge_item}
use Rattle.evidence_showings.specs.evidence_spec.Base.{BaseParts, begun_item, begun_value}
use Rattle.evidence_showings.specs.evidence_spec.Evidence.{charge_value, fork_charge, fork_item, fork_value}
use Rattle.evidence_showings.specs.evidence_spec.Evidence.{is_charge, replay_charge, replay_item}
use Rattle.evidence_showings.specs.Showings.{SaysNoMore}
use Rattle.challenge.specs.Charges.{IsWritten, LogSaysNoMore}

-- ---- showings

same_link : (l k : ShownLink) → l.skipped ≡ k.skipped → l.kind ≡ k.kind → l.content ≡ k.content → l ≡ k
same_link l k s n c = λ i. record { skipped = s i; kind = n i; content = c i }

-- links that skip nothing are told by a text of version 1
plain_links : (n m : ℕ) (ls ks : List ShownLink) → AllByRecursion (λ l. l.skipped ≡ 0) ls
    → AllByRecursion (λ l. l.skipped ≡ 0) ks
    → map (link_value One) (numbered n ls) ≡ map (link_value One) (numbered m ks) → ls ≡ ks
plain_links n m [] [] a b e = refl
plain_links n m [] (k ∷ ks) a b e = absurd cc
plain_links n m (l ∷ ls) [] a b e = absurd cc
plain_links n m (l ∷ ls) (k ∷ ks) a b e =
    let head : ◌≡◌ {A = ℕ × List ℕ} (l.kind, l.content) (k.kind, k.content) = cc in
    let tail : map (link_value One) (numbered (n + 1 + l.skipped) ls)
    ≡ map (link_value One) (numbered (m + 1 + k.skipped) ks) = cc in
    ap₂ (λ x xs. x ∷ xs)
    (same_link l k (a.0 ∙ sym b.0) (ap (λ (p : ℕ × List ℕ). p.0) head) (ap (λ (p : ℕ × List ℕ). p.1) head))
    (plain_links (n + 1 + l.skipped) (m + 1 + k.skipped) ls ks a.1 b.1 tail)

-- links after one number are told by a text of version 2
worded_links : (n : ℕ) (ls ks : List ShownLink)
    → map (link_value Two) (numbered n ls) ≡ map (link_value Two) (numbered n ks) → ls ≡ ks
worded_links n [] [] e = refl
worded_links n [] (k ∷ ks) e = absurd cc
worded_links n (l ∷ ls) [] e = absurd cc
worded_links n (l ∷ ls) (k ∷ ks) e =
    let head : ◌≡◌ {A = ℕ × (ℕ × List ℕ)} (word_of l.skipped (n + 1 + l.skipped), (l.kind, l.content))
    (word_of k.skipped (n + 1 + k.skipped), (k.kind, k.content)) = cc in
    let tail : map (link_value Two) (numbered (n + 1 + l.skipped) ls)
    ≡ map (link_value Two) (numbered (n + 1 + k.skipped) ks) = cc in
    let skip : l.skipped ≡ k.skipped =
    omega (
      arith,
      ap (λ (p : ℕ × (ℕ × List ℕ)). p.0) head,
      word_is l.skipped (n + 1 + l.skipped),
      word_is k.skipped (n + 1 + k.skipped),
    ) in
    ap₂ (λ x xs. x ∷ xs)
    (same_link l k skip (ap (λ (p : ℕ × (ℕ × List ℕ)). p.1.0) head) (ap (λ (p : ℕ × (ℕ × List ℕ)). p.1.1) head))
    (worded_links (n + 1 + l.skipped) ls ks
    (tail ∙ ap (λ s. map (link_value Two) (numbered (n + 1 + s) ks)) (sym skip)))

same_showing : (s t : ShowingParts) → s.node ≡ t.node → s.first ≡ t.first → s.opening ≡ t.opening
    → s.links ≡ t.links → s.closing ≡ t.closing → s ≡ t
same_showing s t n f o l c =
    λ i. record { node = n i; first = f i; opening = o i; links = l i; closing = c i }

-- a showing that says no more than its text is told by it
one_showing : (v : LogVersion) (s t : ShowingParts) → SaysNoMore v s → SaysNoMore v t
    → showing_value v s ≡ showing_value v t → s ≡ t
one_showing One s t a b e =
    same_showing s t (ap (λ (x : Value (showing_item One)). x.0) e)
    (ap (λ (x : Value (showing_item One)). x.1.0) e)
    (ap (λ (x : Value (showing_item One)). x.1.1.0) e)
    (plain_links (s.first - 1) (t.first - 1) s.links t.links a b
    (ap (λ (x : Value (showing_item One)). x.1.1.1.0) e))
    (same_authenticator s.closing t.closing (ap (λ (x : Value (showing_item One)). x.1.1.1.1) e))
one_showing Two s t a b e =
    let start : s.first - 1 ≡ t.first - 1 = ap (λ (x : Value (showing_item Two)). x.1.0) e in
    same_showing s t (ap (λ (x : Value (showing_item Two)). x.0) e) (omega (arith, start, a, b))
    (ap (λ (x : Value (showing_item Two)). x.1.1.0) e)
    (worded_links (s.first - 1) s.links t.links
    (ap (λ (x : Value (showing_item Two)). x.1.1.1.0) e
    ∙ ap (λ n. map (link_value Two) (numbered n t.links)) (sym start)))
    (same_authenticator s.closing t.closing (ap (λ (x : Value (showing_item Two)). x.1.1.1.1) e))

one_second : (v : LogVersion) (s t : Option ShowingParts) → IfSome s (SaysNoMore v) → IfSome t (SaysNoMore v)
    → option_map (showing_value v) s ≡ option_map (showing_value v) t → s ≡ t
one_second v None None a b e = refl
one_second v None (Some t) a b e = absurd cc
one_second v (Some s) None a b e = absurd cc
one_second v (Some s) (Some t) a b e =
    let same : showing_value v s ≡ showing_value v t = cc in ap Some (one_showing v s t a b same)

-- ---- logs

-- a log that says no more than its text
as_log : (v : LogVersion) (s : VersionedParts) → LogSaysNoMore v s → logs.SaysNoMore v s
as_log One s a = a
as_log Two s a = a

-- is told by it
one_log : (v : LogVersion) (s t : VersionedParts) → s.log_version ≡ t.log_version → LogSaysNoMore v s
    → LogSaysNoMore v t → versioned_value v s ≡ versioned_value v t → s ≡ t
one_log v s t same a b e = logs.one_log v s t same (as_log v s a) (as_log v t b) e

-- ---- charges

abbrev ChargeValue : Type 0
ChargeValue = Value (choice is_charge charge_item)

-- what stands after each kind, or another value
after_1 : Value (fork_item One) → (n : ℕ) → Value (charge_item n) → Value (fork_item One)
after_1 d zero x = d
after_1 d (suc zero) x = x
after_1 d (suc (suc n)) x = d

after_2 : Value (replay_item One) → (n : ℕ) → Value (charge_item n) → Value (replay_item One)
after_2 d zero x = d
after_2 d (suc zero) x = d
after_2 d (suc (suc zero)) x = x
after_2 d (suc (suc (suc n))) x = d

after_3 : Value (fork_item Two) → (n : ℕ) → Value (charge_item n) → Value (fork_item Two)
after_3 d zero x = d
after_3 d (suc zero) x = d
after_3 d (suc (suc zero)) x = d
after_3 d (suc (suc (suc zero))) x = x
after_3 d (suc (suc (suc (suc n)))) x = d

after_4 : Value (replay_item Two) → (n : ℕ) → Value (charge_item n) → Value (replay_item Two)
after_4 d zero x = d
after_4 d (suc zero) x = d
after_4 d (suc (suc zero)) x = d
after_4 d (suc (suc (suc zero))) x = d
after_4 d (suc (suc (suc (suc zero)))) x = x
after_4 d (suc (suc (suc (suc (suc n))))) x = d

fork_says : (v : LogVersion) (f g : ForkParts) → fork_charge v f ≡ fork_charge v g
    → fork_value v f ≡ fork_value v g
unfolding after_1 after_3
fork_says One f g e = ap (λ (x : ChargeValue). after_1 (fork_value One f) x.0 x.1) e
fork_says Two f g e = ap (λ (x : ChargeValue). after_3 (fork_value Two f) x.0 x.1) e

log_says : (v : LogVersion) (s t : VersionedParts) → replay_charge v s ≡ replay_charge v t
    → versioned_value v s ≡ versioned_value v t
unfolding after_2 after_4
log_says One s t e = ap (λ (x : ChargeValue). after_2 (versioned_value One s) x.0 x.1) e
log_says Two s t e = ap (λ (x : ChargeValue). after_4 (versioned_value Two s) x.0 x.1) e

-- the kinds tell versions, and forks from replays
fork_version : (v w : LogVersion) (f g : ForkParts) → fork_charge v f ≡ fork_charge w g → v ≡ w
fork_version One One f g e = refl
fork_version One Two f g e = absurd (omega (arith, ap (λ (x : ChargeValue). x.0) e))
fork_version Two One f g e = absurd (omega (arith, ap (λ (x : ChargeValue). x.0) e))
fork_version Two Two f g e = refl

log_version : (v w : LogVersion) (s t : VersionedParts) → replay_charge v s ≡ replay_charge w t → v ≡ w
log_version One One s t e = refl
log_version One Two s t e = absurd (omega (arith, ap (λ (x : ChargeValue). x.0) e))
log_version Two One s t e = absurd (omega (arith, ap (λ (x : ChargeValue). x.0) e))
log_version Two Two s t e = refl

no_log : (v w : LogVersion) (f : ForkParts) (s : VersionedParts) → fork_charge v f ≡ replay_charge w s → ⊥
no_log One One f s e = omega (arith, ap (λ (x : ChargeValue). x.0) e)
no_log One Two f s e = omega (arith, ap (λ (x : ChargeValue). x.0) e)
no_log Two One f s e = omega (arith, ap (λ (x : ChargeValue). x.0) e)
no_log Two Two f s e = omega (arith, ap (λ (x : ChargeValue). x.0) e)

one_fork : (f g : ForkParts) → IsWritten (Fork f) → IsWritten (Fork g) → charge_value (Fork f) ≡ charge_value (Fork g)
    → f ≡ g
one_fork f g a b e =
    let v = f.log_version in
    let same : v ≡ g.log_version = fork_version v g.log_version f g e in
    let says : fork_value v f ≡ fork_value v g =
    fork_says v f g (e ∙ sym (ap (λ (w : LogVersion). fork_charge w g) same)) in
    let first = subst (λ (w : LogVersion). SaysNoMore w g.a) (sym same) b.0 in
    let second = subst (λ (w : LogVersion). IfSome g.b (SaysNoMore w)) (sym same) b.1 in
    let at = ap (λ (x : Value (fork_item v)). x.0) says in
    let x = one_showing v f.a g.a a.0 first (ap (λ (x : Value (fork_item v)). x.1.0) says) in
    let y = one_second v f.b g.b a.1 second (ap (λ (x : Value (fork_item v)). x.1.1) says) in
    λ i. record { log_version = same i; at = at i; a = x i; b = y i }

no_based : (v w : LogVersion) (f : ForkParts) (b : BaseParts) (s : VersionedParts)
    → ¬ ◌≡◌ {A = ChargeValue} (fork_charge v f) (5, based_value w b s)
no_based One w f b s e = omega (arith, ap (λ (x : ChargeValue). x.0) e)
no_based Two w f b s e = omega (arith, ap (λ (x : ChargeValue). x.0) e)

no_replay : (v w : LogVersion) (r : VersionedParts) (b : BaseParts) (s : VersionedParts)
    → ¬ ◌≡◌ {A = ChargeValue} (replay_charge v r) (5, based_value w b s)
no_replay One w r b s e = omega (arith, ap (λ (x : ChargeValue). x.0) e)
no_replay Two w r b s e = omega (arith, ap (λ (x : ChargeValue). x.0) e)

after_5 : Value based_item → (n : ℕ) → Value (charge_item n) → Value based_item
after_5 d zero x = d
after_5 d (suc zero) x = d
after_5 d (suc (suc zero)) x = d
after_5 d (suc (suc (suc zero))) x = d
after_5 d (suc (suc (suc (suc zero)))) x = d
after_5 d (suc (suc (suc (suc (suc zero))))) x = x
after_5 d (suc (suc (suc (suc (suc (suc n)))))) x = d

based_says : (v w : LogVersion) (b c : BaseParts) (s t : VersionedParts)
    → ◌≡◌ {A = ChargeValue} (5, based_value v b s) (5, based_value w c t)
    → based_value v b s ≡ based_value w c t
unfolding after_5
based_says v w b c s t e = ap (λ (x : ChargeValue). after_5 (based_value v b s) x.0 x.1) e

-- what stands after the version of a base, or another value
begun_1 : Value (begun_replay One) → (n : ℕ) → Value (if n == 1 then begun_replay One else begun_replay Two)
    → Value (begun_replay One)
begun_1 d zero x = d
begun_1 d (suc zero) x = x
begun_1 d (suc (suc n)) x = d

begun_2 : Value (begun_replay Two) → (n : ℕ) → Value (if n == 1 then begun_replay One else begun_replay Two)
    → Value (begun_replay Two)
begun_2 d zero x = d
begun_2 d (suc zero) x = d
begun_2 d (suc (suc zero)) x = x
begun_2 d (suc (suc (suc n))) x = d

begun_says : (v : LogVersion) (b c : BaseParts) (s t : VersionedParts) → based_value v b s ≡ based_value v c t
    → (begun_value v b ≡ begun_value v c) × (versioned_value v s ≡ versioned_value v t)
unfolding begun_1 begun_2
begun_says One b c s t e =
    let same = ap (λ (x : Value based_item). begun_1 (begun_value One b, versioned_value One s) x.0 x.1) e in
    (ap (λ (x : Value (begun_replay One)). x.0) same, ap (λ (x : Value (begun_replay One)). x.1) same)
begun_says Two b c s t e =
    let same = ap (λ (x : Value based_item). begun_2 (begun_value Two b, versioned_value Two s) x.0 x.1) e in
    (ap (λ (x : Value (begun_replay Two)). x.0) same, ap (λ (x : Value (begun_replay Two)). x.1) same)

based_version : (v w : LogVersion) (b c : BaseParts) (s t : VersionedParts)
    → based_value v b s ≡ based_value w c t → v ≡ w
based_version One One b c s t e = refl
based_version One Two b c s t e = absurd (omega (arith, ap (λ (x : Value based_item). x.0) e))
based_version Two One b c s t e = absurd (omega (arith, ap (λ (x : Value based_item). x.0) e))
based_version Two Two b c s t e = refl

-- a base that says no more than its text is told by it
pub one_base : (b c : BaseParts) → SaysNoMore b.log_version b.showing → SaysNoMore c.log_version c.showing
    → b.log_version ≡ c.log_version → begun_value b.log_version b ≡ begun_value b.log_version c → b ≡ c
one_base b c x y is same =
    let v = b.log_version in
    let shown = one_showing v b.showing c.showing x (subst (λ (w : LogVersion). SaysNoMore w c.showing) (sym is) y)
    (ap (λ (z : Value (begun_item v)). z.0) same) in
    let at = ap (λ (z : Value (begun_item v)). z.1.0) same in
    let state = ap (λ (z : Value (begun_item v)). z.1.1) same in
    λ i. record { log_version = is i; showing = shown i; at = at i; state = state i }

one_based : (b c : BaseParts) (s t : VersionedParts) → IsWritten (Based b s) → IsWritten (Based c t)
    → based_value b.log_version b s ≡ based_value c.log_version c t → (b ≡ c) × (s ≡ t)
one_based b c s t x y e =
    let v = b.log_version in
    let is : v ≡ c.log_version = based_version v c.log_version b c s t e in
    let says = begun_says v b c s t (e ∙ sym (ap (λ (w : LogVersion). based_value w c t) is)) in
    let logs : s.log_version ≡ t.log_version = x.1 ∙ is ∙ sym y.1 in
    let own : LogSaysNoMore v s = subst (λ (w : LogVersion). LogSaysNoMore w s) x.1 x.2 in
    let other : LogSaysNoMore v t = subst (λ (w : LogVersion). LogSaysNoMore w t) (y.1 ∙ sym is) y.2 in
    (one_base b c x.0 y.0 is says.0, one_log v s t logs own other says.1)

-- two charges that are read of one text are the same
pub one_charge : (one other : Charge) → IsWritten one → IsWritten other
    → charge_value one ≡ charge_value other → one ≡ other
one_charge (Fork f) (Fork g) a b e = ap Fork (one_fork f g a b e)
one_charge (Fork f) (Replay s) a b e = absurd (no_log f.log_version s.log_version f s e)
one_charge (Replay s) (Fork f) a b e = absurd (no_log f.log_version s.log_version f s (sym e))
one_charge (Fork f) (Based b s) a c e = absurd (no_based f.log_version b.log_version f b s e)
one_charge (Based b s) (Fork f) a c e = absurd (no_based f.log_version b.log_version f b s (sym e))
one_charge (Replay r) (Based b s) a c e = absurd (no_replay r.log_version b.log_version r b s e)
one_charge (Based b s) (Replay r) a c e = absurd (no_replay r.log_version b.log_version r b s (sym e))
one_charge (Based b s) (Based c t) x y e =
    let same = one_based b c s t x y (based_says b.log_version c.log_version b c s t e) in
    ap₂ Based same.0 same.1
one_charge (Replay s) (Replay t) a b e =
    let v = s.log_version in
    let same : v ≡ t.log_version = log_version v t.log_version s t e in
    ap Replay (one_log v s t same a
    (subst (λ (w : LogVersion). LogSaysNoMore w t) (sym same) b)
    (log_says v s t (e ∙ sym (ap (λ (w : LogVersion). replay_charge w t) same))))
