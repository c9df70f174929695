-- The tests on signatures are what it means that something is signed.
-- Serves: tests_as_it_is_signed.
use Rattle.std.proofs.Common.{◌≡◌, ℕ, Bool, true, ◌==◌, nat_le, nat_lt, nat_eq, List, length}
use Rattle.std.proofs.Common.{Option, Some, None, IsSomeAnd, refl, sym, ap, ◌∙◌, false}
use Rattle.std.proofs.Common.{eqb-true, eq-eqb, ltb-true, lt-ltb, leb-true, le-leb}
use Rattle.std.specs.Prelude.{◌&&◌, ◌^◌}
use Rattle.std.specs.Cmp.Lexicographic.{pointwise, same_text, nat_list_eq_equiv}
use Rattle.std.proofs.lemmas.Bool.{and_parts, and_from}
use Rattle.merkle_keys.specs.Tree.{path_end}
use Rattle.merkle_keys.specs.Signing.{SignatureParts, Signed}
use Rattle.merkle_keys.specs.declared.signature.TheConstants.{MAX_HEIGHT}
use Rattle.authenticator.specs.Roster.{member_of}
use Rattle.authenticator.specs.Signed.{IsSignedBy, IsSignedIn, signed_digest}
use Rattle.authenticator.specs.declared.member.Member.{Member}
use Rattle.authenticator.specs.declared.authenticator.Authenticator.{Authenticator}
use Rattle.authenticator.specs.Signing.{is_same, shown_leaf, is_signed, is_signed_by, is_signed_in}

-- what isn't true is false
pub is_false : (b : Bool) → ¬ (b ≡ true) → b ≡ false
is_false true h = absurd (h refl)
is_false false h = refl

-- texts that are the same are equal
pub same_list : (x y : List ℕ) → is_same x y ≡ true → x ≡ y
same_list x y h = same_text x y (sym h)

-- texts that are the same pass the test of being so
pub list_same : (x y : List ℕ) → x ≡ y → is_same x y ≡ true
list_same x y e = ap (pointwise nat_eq x) (sym e) ∙ nat_list_eq_equiv.refl x

module _ (root : List ℕ) (height : ℕ) (digest : List ℕ) (signature : SignatureParts) where
  -- what the last test asks
  abbrev leads : Bool
  leads = is_same (path_end signature.leaf (shown_leaf digest signature) signature.path) root

  abbrev levels_lead : Bool
  levels_lead = (length signature.path == height) && leads

  -- what passes the tests is signed
  pub signed_of : is_signed root height digest signature ≡ true → Signed root height digest signature
  unfolding is_signed
  signed_of h =
      let low = and_parts (nat_le height MAX_HEIGHT) (nat_lt signature.leaf (2 ^ height) && levels_lead) h in
      let leaf = and_parts (nat_lt signature.leaf (2 ^ height)) levels_lead low.1 in
      let ends = and_parts (length signature.path == height) leads leaf.1 in
      record {
        low = leb-true height MAX_HEIGHT low.0;
        leaf = ltb-true signature.leaf (2 ^ height) leaf.0;
        levels = eqb-true (length signature.path) height ends.0;
        leads = same_list (path_end signature.leaf (shown_leaf digest signature) signature.path) root ends.1;
      }

  -- what is signed passes the tests
  pub of_signed : Signed root height digest signature → is_signed root height digest signature ≡ true
  unfolding is_signed
  of_signed s =
      and_from (nat_le height MAX_HEIGHT) (nat_lt signature.leaf (2 ^ height) && levels_lead)
      (le-leb height MAX_HEIGHT s.low)
      (and_from (nat_lt signature.leaf (2 ^ height)) levels_lead (lt-ltb signature.leaf (2 ^ height) s.leaf)
      (and_from (length signature.path == height) leads (eq-eqb (length signature.path) height s.levels)
      (list_same (path_end signature.leaf (shown_leaf digest signature) signature.path) root s.leads)))

-- a member's test, by both
signed_by_of : (o : Option Member) (a : Authenticator) → is_signed_by o a ≡ true
    → IsSomeAnd o (λ m. IsSignedBy m a)
signed_by_of None a h = absurd (cc)
signed_by_of (Some m) a h = signed_of m.root m.height (signed_digest a.node a.word a.hash) a.signature h

of_signed_by : (o : Option Member) (a : Authenticator) → IsSomeAnd o (λ m. IsSignedBy m a)
    → is_signed_by o a ≡ true
of_signed_by None a h = absurd h
of_signed_by (Some m) a h = of_signed m.root m.height (signed_digest a.node a.word a.hash) a.signature h

-- the test of the member that an authenticator names, by both
pub signed_in_of : (ms : List Member) (a : Authenticator) → is_signed_in ms a ≡ true → IsSignedIn ms a
signed_in_of ms a h = signed_by_of (member_of ms a.node) a h

-- an authenticator that is signed under a roster passes the tests
pub of_signed_in : (ms : List Member) (a : Authenticator) → IsSignedIn ms a → is_signed_in ms a ≡ true
of_signed_in ms a h = of_signed_by (member_of ms a.node) a h

-- the test of an authenticator, by the member that it names
pub signed_by_member : (ms : List Member) (a : Authenticator) (m : Member) → member_of ms a.node ≡ Some m
    → IsSignedBy m a → is_signed_in ms a ≡ true
signed_by_member ms a m e h = ap (λ (o : Option Member). is_signed_by o a) e ∙ of_signed_by (Some m) a h

-- and it fails where that member didn't sign
pub unsigned_by_member : (ms : List Member) (a : Authenticator) (m : Member) → member_of ms a.node ≡ Some m
    → ¬ IsSignedBy m a → is_signed_in ms a ≡ false
unsigned_by_member ms a m e h =
    ap (λ (o : Option Member). is_signed_by o a) e
    ∙ is_false (is_signed_by (Some m) a) (λ s. h (signed_by_of (Some m) a s))
