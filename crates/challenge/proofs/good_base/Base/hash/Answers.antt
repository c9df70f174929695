use Rattle.std.proofs.Common.{◌≡◌, ◌∙◌, ℕ, List, None, Option, Some, ap, rules, subst, sym}
use Rattle.std.specs.Prelude.{option_map}
use Rattle.secure_log.specs.LogEntries.Chain.{IsAmong, no_entry}
use Rattle.secure_log.specs.Marks.{mark_in}
use Rattle.evidence_showings.specs.evidence_spec.Base.{base_marks}
use Rattle.challenge.specs.KnownBases.{IsSound, KnownBase, parts_of}
use Rattle.challenge.proofs.BaseStates.{check_hash, no_other_mark}
use Rattle.challenge.proofs.good_base.Base.hash.Goals as goal

-- it isn't a number that no entry has
pub unreachable-requires : goal.unreachable-requires
unreachable-requires c =
    let k = c.args.self.now in
    let sound : IsSound (parts_of k) k.state =
    subst (λ (x : KnownBase). IsSound (parts_of x) x.state) c.self.view_is c.self.invariant.1 in
    let number : c.get.result ≡ k.at = c.get.ensures.value ∙ ap (λ (x : KnownBase). x.at) c.self.view_is in
    let none : option_map mark_in c.mark_at.result ≡ Some no_entry = search rules in
    no_other_mark (parts_of k) k.state sound.state.check
    (subst (λ n. IsAmong (n, no_entry) (base_marks (parts_of k))) number ((c.mark_at.ensures no_entry).0 none))

-- and some hash is there
pub unreachable-requires-in-None : goal.unreachable-requires-in-None
unreachable-requires-in-None c =
    let k = c.args.self.now in
    let sound : IsSound (parts_of k) k.state =
    subst (λ (x : KnownBase). IsSound (parts_of x) x.state) c.self.view_is c.self.invariant.1 in
    let number : c.get.result ≡ k.at = c.get.ensures.value ∙ ap (λ (x : KnownBase). x.at) c.self.view_is in
    let has = check_hash (parts_of k) k.state sound.state.check in
    let there = (c.mark_at.ensures has.hash).1
    (subst (λ n. IsAmong (n, has.hash) (base_marks (parts_of k))) (sym number) has.there) in
    let both : ◌≡◌ {A = Option (List ℕ)} None (Some has.hash) =
    sym (ap (option_map mark_in) c.in-None.is) ∙ there in
    absurd cc

pub returns : goal.returns
returns c =
    let k = c.args.self.now in
    let number : c.get.result ≡ k.at = c.get.ensures.value ∙ ap (λ (x : KnownBase). x.at) c.self.view_is in
    let is : option_map mark_in c.mark_at.result ≡ Some c.in-Some-Hash.hash = search rules in
    subst (λ n. IsAmong (n, c.in-Some-Hash.hash) (base_marks (parts_of k))) number
    ((c.mark_at.ensures c.in-Some-Hash.hash).0 is)
