-- Forks whose showings have texts have one.
-- Serves: Rows::evidence_of_fork, Rows::fork_by_authenticator, Rows::fork_by_segment, Rows::showing_before.
use Rattle.std.proofs.Common.{◌≡◌, ℕ, Bool, true, Option, Some, None, refl, sym, ap, subst, ◌∙◌}
use Rattle.std.specs.Prelude.{IfNone, IfSome, false}
use Rattle.std.proofs.lemmas.Bool.{and_from, true≢false}
use Rattle.authenticator.specs.declared.authenticator.Authenticator.{Authenticator}
use Rattle.authenticator.specs.declared.member.LogVersion.{LogVersion}
use Rattle.authenticator.specs.declared.member.LogVersion.TheVariants.{One, Two}
use Rattle.evidence_spec.specs.Showing.{ShowingParts, authenticator_showing, links_follow, showing_value}
use Rattle.evidence_spec.specs.Evidence.{Fork, charge_value, is_whole_charge}
use Rattle.node_book.specs.Looking.{HasWordsOf}

-- an authenticator alone has no words that would have to follow
pub alone_has_words : (v : LogVersion) (a : Authenticator) → HasWordsOf v (authenticator_showing v a)
alone_has_words One a = refl
alone_has_words Two a = refl

-- nor has any showing of a log of version 1
pub plain_has_words : (v : LogVersion) (s : ShowingParts) → v ≡ One → HasWordsOf v s
plain_has_words v s is = subst (λ x. HasWordsOf x s) (sym is) refl

-- a fork has a text where its showings' words follow
pub fork_is_whole : (v : LogVersion) (at : ℕ) (a : ShowingParts) (b : Option ShowingParts) → HasWordsOf v a
    → IfSome b (HasWordsOf v)
    → is_whole_charge (charge_value (Fork (record { log_version = v; at = at; a = a; b = b }))) ≡ true
fork_is_whole One at a b first second = refl
fork_is_whole Two at a None first second = and_from _ true first refl
fork_is_whole Two at a (Some s) first second = and_from _ (links_follow Two (showing_value Two s)) first second

-- what may not be missing is there
pub some_is : {A : Type 0} (o : Option A) (x : A) (b : Bool) → IfSome o (λ e. e ≡ x) → IfNone o (b ≡ false) → b ≡ true
    → o ≡ Some x
some_is (Some e) x b some none h = ap (λ y. Some y) some
some_is None x b some none h = absurd (true≢false (sym h ∙ none))
