use Rattle.std.proofs.Common.{◌≡◌, ℕ, ◌+◌, Bool, false, List, [], ◌∷◌, get_or, ap, sym, ◌∙◌}
use Rattle.sha2.specs.Sha256.{sha256}
use Rattle.lamport.specs.Lamport.{secret}
use Rattle.lamport.proofs.key.OneTimeKey.four_secrets.Goals as goal

-- each lane has the secret of its place and bit value
pub returns : goal.returns
returns c = λ bit held.
    let key = c.args.self.now in
    let n = c.args.first in
    let at = λ (k : ℕ). ap (λ (l : List Bool). get_or l k false) held in
    let s0 : secret key n (bit n) ≡ sha256 c.secret_text.result =
    ap (secret key n) (sym (at 0)) ∙ c.secret_text.ensures in
    let s1 : secret key (n + 1) (bit (n + 1)) ≡ sha256 c.secret_text-2.result =
    ap (secret key (n + 1)) (sym (at 1)) ∙ c.secret_text-2.ensures in
    let s2 : secret key (n + 2) (bit (n + 2)) ≡ sha256 c.secret_text-3.result =
    ap (secret key (n + 2)) (sym (at 2)) ∙ c.secret_text-3.ensures in
    let s3 : secret key (n + 3) (bit (n + 3)) ≡ sha256 c.secret_text-4.result =
    ap (secret key (n + 3)) (sym (at 3)) ∙ c.secret_text-4.ensures in
    c.digest_4.ensures ∙ sym (λ i. s0 i ∷ s1 i ∷ s2 i ∷ s3 i ∷ [])
