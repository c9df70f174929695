-- What is kept of what passes.
-- Serves: Replies::note, note_told, Exchanges.
use Rattle.std.proofs.Common.{◌≡◌, ℕ, ◌-◌, Bool, true, List, [], ◌∷◌, Option, Some, None, Result, Ok, Err}
use Rattle.std.proofs.Common.{refl, sym, ap, subst, ◌∙◌, eq-eqb}
use Rattle.std.proofs.Math.Logic.{∥∥₁_map}
use Rattle.std.specs.Prelude.{IfSome, OnErr, OnOk, if◌then◌else◌}
use Rattle.authenticator.specs.declared.authenticator.Authenticator.{Authenticator}
use Rattle.assurance.specs.Events as events
use Rattle.assurance.specs.Exchanges.{Adds, Exchange, Greeted}
use Rattle.assurance.specs.Exchanges as exchange
use Rattle.assurance.specs.Keeping.{StandsFor}
use Rattle.assurance.specs.Passing.{Asked, HandedOut, IsRecorded, Passed, Passes, Records, Showed, StandsBy}
use Rattle.assurance.specs.Passing.{acknowledged, exchanges, history, is_taken, with_reply, with_taken}
use Rattle.assurance.specs.declared.assured.Assurance.{Assurance}
use Rattle.assurance.specs.declared.replies.Replies.{Replies}
use Rattle.assurance.specs.declared.shown.ShownOf.{ShownOf}

-- what is taken is noted
pub noted : (server : ℕ) (p : List Passed) (of : ShownOf) (signed : Authenticator) (answer : ℕ) (r' : Replies)
    → is_taken server signed.node answer ≡ true
    → StandsFor (with_reply of (acknowledged server p) (history server p)) r'.assurance
    → r'.acknowledged.items ≡ with_taken of (acknowledged server p)
    → StandsBy server (Showed of signed answer ∷ p) r'
noted server p of signed answer r' took stands items = record {
  assurance = subst
      (λ (b : Bool). StandsFor
      (if b then with_reply of (acknowledged server p) (history server p) else history server p) r'.assurance)
      (sym took) stands;
  acknowledged = items
      ∙ sym (ap (λ (b : Bool). if b then with_taken of (acknowledged server p) else acknowledged server p) took);
}

-- what the witness was asked and answered is
pub told : (server : ℕ) (p : List Passed) (exposed : Bool) (end : ℕ) (r' : Replies)
    → StandsFor (events.Told exposed end ∷ (events.Asked ∷ history server p)) r'.assurance
    → r'.acknowledged.items ≡ acknowledged server p
    → StandsBy server (Asked server exposed end ∷ p) r'
told server p exposed end r' stands items = record {
  assurance = subst
      (λ (b : Bool). StandsFor
      (if b then events.Told exposed end ∷ (events.Asked ∷ history server p) else history server p) r'.assurance)
      (sym (eq-eqb server server refl)) stands;
  acknowledged = items;
}

-- one exchange more
pub known_more : (link link' : Option (List Exchange)) (e : Exchange) (es : List Exchange)
    → IfSome link (λ xs. xs ≡ es) → Adds link e link' → IfSome link' (λ xs. xs ≡ e ∷ es)
known_more None link' e es known more =
    subst (λ (o : Option (List Exchange)). IfSome o (λ xs. xs ≡ e ∷ es)) (sym more) tt
known_more (Some xs) link' e es known more =
    subst (λ (o : Option (List Exchange)). IfSome o (λ ys. ys ≡ e ∷ es)) (sym more) (ap (λ ys. e ∷ ys) known)

-- an exchange passed in which the witness was shown something
pub passes_showed : (server : ℕ) (link link' : Option (List Exchange)) (r r' : Replies) (of : ShownOf)
    (signed : Authenticator) (answer : ℕ)
    → Adds link (exchange.Shown signed answer) link'
    → ((p : List Passed) → StandsBy server p r → StandsBy server (Showed of signed answer ∷ p) r')
    → Passes server link r (Showed of signed answer) link' r'
passes_showed server link link' r r' of signed answer more stands = λ p s. record {
  known = known_more link link' (exchange.Shown signed answer) (exchanges p) s.known more;
  kept = stands p s.kept;
}

-- one in which it was asked
pub passes_asked : (server : ℕ) (link link' : Option (List Exchange)) (r r' : Replies) (exposed : Bool) (end : ℕ)
    → Adds link (exchange.Asked server exposed end) link'
    → ((p : List Passed) → StandsBy server p r → StandsBy server (Asked server exposed end ∷ p) r')
    → Passes server link r (Asked server exposed end) link' r'
passes_asked server link link' r r' exposed end more stands = λ p s. record {
  known = known_more link link' (exchange.Asked server exposed end) (exchanges p) s.known more;
  kept = stands p s.kept;
}

-- a reply was handed out
pub passes_handed : (server : ℕ) (link : Option (List Exchange)) (r r' : Replies) (n : ℕ)
    → ((p : List Passed) → StandsBy server p r → StandsBy server (HandedOut n ∷ p) r')
    → Passes server link r (HandedOut n) link r'
passes_handed server link r r' n stands = λ p s. record { known = s.known; kept = stands p s.kept }

-- the witness greeted, and nothing else has passed
pub begun : (server : ℕ) (link link' : Option (List Exchange)) (r : Replies) → IfSome link (λ es. es ≡ [])
    → Adds link Greeted link'
    → StandsBy server [] r
    → Records server link' [] r
begun server link link' r none more stands =
    record { known = known_more link link' Greeted [] none more; kept = stands }

-- what passed is recorded
pub recorded : (server : ℕ) (link link' : Option (List Exchange)) (r r' : Replies) (passed : Passed)
    → IsRecorded server link r
    → Passes server link r passed link' r'
    → IsRecorded server link' r'
recorded server link link' r r' passed was passes = ∥∥₁_map was (λ h. (passed ∷ h.0, passes h.0 h.1))

-- where nothing passed the same is
pub still_recorded : (server : ℕ) (link link' : Option (List Exchange)) (r : Replies) → link' ≡ link
    → IsRecorded server link r
    → IsRecorded server link' r
still_recorded server link link' r same was = subst (λ (l : Option (List Exchange)). IsRecorded server l r) (sym same) was

-- what is kept stands for it where it is the same
pub still_stands : (server : ℕ) (p : List Passed) (r r' : Replies) → r'.acknowledged.items ≡ r.acknowledged.items
    → r'.assurance ≡ r.assurance
    → StandsBy server p r
    → StandsBy server p r'
still_stands server p r r' items same s = record {
  assurance = subst (λ (a : Assurance). StandsFor (history server p) a) (sym same) s.assurance;
  acknowledged = items ∙ s.acknowledged;
}

-- where what is kept stands for the same it is recorded
pub recorded_so : (server : ℕ) (link : Option (List Exchange)) (r r' : Replies)
    → ((p : List Passed) → StandsBy server p r → StandsBy server p r')
    → IsRecorded server link r
    → IsRecorded server link r'
recorded_so server link r r' stands was =
    ∥∥₁_map was (λ h. (h.0, record { known = h.1.known; kept = stands h.0 h.1.kept }))

-- a reply was handed out, or a growth was refused
pub handed_or_not : {X E : Type 0} (server : ℕ) (link : Option (List Exchange)) (r r' : Replies) (n : ℕ)
    (result : Result X E)
    → OnOk result ((s : ℕ) (p : List Passed) → StandsBy s p r → StandsBy s (HandedOut n ∷ p) r')
    → OnErr result ((s : ℕ) (p : List Passed) → StandsBy s p r → StandsBy s p r')
    → IsRecorded server link r
    → IsRecorded server link r'
handed_or_not server link r r' n (Ok x) handed refused was =
    recorded server link link r r' (HandedOut n) was (passes_handed server link r r' n (handed server))
handed_or_not server link r r' n (Err e) handed refused was = recorded_so server link r r' (refused server) was
