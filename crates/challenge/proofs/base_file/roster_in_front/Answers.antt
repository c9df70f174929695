use Rattle.std.proofs.Common.{◌≡◌, ◌∙◌, ◌-◌, drop, length, List, Ok, Result, ℕ, ap, rules, subst, sym}
use Rattle.authenticator.proofs.Forms.{roster_passes}
use Rattle.authenticator.specs.Roster.{IsRoster, is_roster_value, listed_value, roster_item, roster_value}
use Rattle.std.specs.Prelude.{IsTrue}
use Rattle.xdr.specs.Item.{Value}
use Rattle.xdr.specs.Reading.{Read, read_at}
use Rattle.xdr.proofs.Exact.{takes}
use Rattle.challenge.proofs.CaseTexts.{one_read}
use Rattle.challenge.proofs.base_file.roster_in_front.Goals as goal

-- the roster that was read
pub returns-in-Some-clause-some : goal.returns-in-Some-clause-some
returns-in-Some-clause-some c =
    let front = rw c.in-Ok.is at c.front-front.ensures in
    let left = drop (length c.args.bytes.now - c.in-Ok.left) c.args.bytes.now in
    let roster : IsRoster c.in-Some.roster = search rules in
    let item : read_at roster_item c.args.bytes.now ≡ Ok (roster_value c.in-Some.roster, left) =
    front.1 ∙ ap (λ r. Ok (r, left)) (sym c.in-Some.ensures.some) in
    (front.0, record { item = item; passes = roster_passes c.in-Some.roster roster })

-- what was read is none
pub returns-in-None-clause-none : goal.returns-in-None-clause-none
returns-in-None-clause-none c = λ ms rest has.
    let front = rw c.in-Ok.is at c.front-front.ensures in
    let left = drop (length c.args.bytes.now - c.in-Ok.left) c.args.bytes.now in
    let both : ◌≡◌ {A = Read (Value roster_item)} (Ok (listed_value c.in-Ok.listed, left)) (Ok (roster_value ms, rest)) =
    sym front.1 ∙ has.item in
    let same : listed_value c.in-Ok.listed ≡ roster_value ms = one_read (listed_value c.in-Ok.listed) (roster_value ms) left rest both in
    let passes : IsTrue (is_roster_value (listed_value c.in-Ok.listed)) =
    subst (λ r. IsTrue (is_roster_value r)) (sym same) has.passes in
    c.in-None.ensures.none ((takes roster_item c.args.bytes.now (listed_value c.in-Ok.listed, left) c.are_bytes.ensures front.1).1, passes)
