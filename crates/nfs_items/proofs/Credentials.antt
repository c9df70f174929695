-- The caller that the body of an AUTH_SYS credential says, and the body that says a caller.
-- Serves: `credentials_say_callers`.
use Rattle.std.proofs.Common.{◌≡◌, ℕ, ◌<◌, ◌^◌, Bool, true, false, List, [], ◌∷◌, ◌++◌, length, Option, Some}
use Rattle.std.proofs.Common.{None, Ok, option_map, refl, sym, ap, ◌∙◌, append-nil, arith}
use Rattle.std.specs.Prelude.{◌==◌}
use Rattle.std.proofs.lemmas.Bool.{eqb-true}
use Rattle.xdr.specs.Item.{Value, Fits, IsBytes}
use Rattle.xdr.specs.Reading.{read_at}
use Rattle.xdr.specs.Texts.Text.{text_at}
use Rattle.xdr.proofs.Exact.{again}
use Rattle.xdr.proofs.OfTexts.WholeTexts.{is_text, text_more, text_end}
use Rattle.nfs_items.specs.Caller.{Caller}
use Rattle.nfs_items.specs.Credentials.{authsys_parms, credential_text, caller_of_parms, caller_in, body_of}
use Rattle.nfs_items.specs.Credentials.{caller_from, IsCaller}

-- the parameters that a body holds
parms_in : (body : List ℕ) (who : Caller) → caller_in body ≡ Some who
    → (v : Value authsys_parms) × (text_at credential_text body ≡ Some v) × (caller_of_parms v ≡ who)
parms_in body who h = by (text_at credential_text body) refl h
  where
    by : (o : Option (Value authsys_parms)) → text_at credential_text body ≡ o
        → option_map caller_of_parms o ≡ Some who
        → (v : Value authsys_parms) × (text_at credential_text body ≡ Some v) × (caller_of_parms v ≡ who)
    by None e h = absurd cc
    by (Some v) e h = (v, e, cc)

fits_is : (stamp : ℕ) (name : List ℕ) (uid gid : ℕ) (gids : List ℕ)
    → Fits authsys_parms (stamp, (name, (uid, (gid, gids)))) → (stamp < 2 ^ 32) × IsCaller name uid gid gids
fits_is stamp name uid gid gids f =
    (f.0, record { name = f.1.0.1; uid = f.1.1.0; gid = f.1.1.1.0; count = f.1.1.1.1.1; gids = f.1.1.1.1.2 })

is_fits : (stamp : ℕ) (name : List ℕ) (uid gid : ℕ) (gids : List ℕ) → stamp < 2 ^ 32
    → IsCaller name uid gid gids → Fits authsys_parms (stamp, (name, (uid, (gid, gids))))
is_fits stamp name uid gid gids s c =
    (s, ((omega (arith, c.name), c.name), (c.uid, (c.gid, (omega (arith, c.count), c.count, c.gids)))))

-- a body that says a caller is the spelling of its parts, within their bounds
pub said : (body : List ℕ) (who : Caller) → IsBytes body → caller_in body ≡ Some who
    → (stamp : ℕ) × (name : List ℕ) × (uid : ℕ) × (gid : ℕ) × (gids : List ℕ) × (stamp < 2 ^ 32)
    × IsCaller name uid gid gids × (who ≡ caller_from name uid gid gids)
    × (body ≡ body_of stamp name uid gid gids)
said body who bound h =
    let p = parms_in body who h in
    let v = p.0 in
    let t = (is_text credential_text v body bound).0 p.1 in
    let f = fits_is v.0 v.1.0 v.1.1.0 v.1.1.1.0 v.1.1.1.1 t.0 in
    (v.0, v.1.0, v.1.1.0, v.1.1.1.0, v.1.1.1.1, f.0, f.1, sym p.2, t.2)

-- such a spelling says the caller of these parts
pub spelled : (stamp : ℕ) (name : List ℕ) (uid gid : ℕ) (gids : List ℕ) → stamp < 2 ^ 32
    → IsCaller name uid gid gids
    → caller_in (body_of stamp name uid gid gids) ≡ Some (caller_from name uid gid gids)
spelled stamp name uid gid gids s c =
    ap (option_map caller_of_parms) (text_is stamp name uid gid gids (is_fits stamp name uid gid gids s c))
  where
    text_is : (stamp : ℕ) (name : List ℕ) (uid gid : ℕ) (gids : List ℕ)
        → Fits authsys_parms (stamp, (name, (uid, (gid, gids))))
        → text_at credential_text (body_of stamp name uid gid gids) ≡ Some (stamp, (name, (uid, (gid, gids))))
    text_is stamp name uid gid gids f =
        let body = body_of stamp name uid gid gids in
        text_end credential_text body (stamp, (name, (uid, (gid, gids)))) []
        (ap (read_at authsys_parms) (sym (append-nil body))
        ∙ again authsys_parms (stamp, (name, (uid, (gid, gids)))) [] f) refl

some_left : (byte : ℕ) (others : List ℕ) (b : Bool) → (length (byte ∷ others) == 0) ≡ b
    → (length (byte ∷ others) == 0) ≡ false
some_left byte others false e = e
some_left byte others true e = let zero_long : length (byte ∷ others) ≡ 0 = eqb-true _ _ e in
    absurd (omega arith)

-- and with a byte more it says none
pub more : (body : List ℕ) (who : Caller) (byte : ℕ) (others : List ℕ) → IsBytes body
    → caller_in body ≡ Some who → caller_in (body ++ byte ∷ others) ≡ None
more body who byte others bound h =
    let p = parms_in body who h in
    let t = (is_text credential_text p.0 body bound).0 p.1 in
    let read : read_at authsys_parms (body ++ byte ∷ others) ≡ Ok (p.0, byte ∷ others) =
    ap (λ (front : List ℕ). read_at authsys_parms (front ++ byte ∷ others)) t.2
    ∙ again authsys_parms p.0 (byte ∷ others) t.0 in
    ap (option_map caller_of_parms)
    (text_more credential_text (body ++ byte ∷ others) p.0 (byte ∷ others) read
    (some_left byte others (length (byte ∷ others) == 0) refl))
