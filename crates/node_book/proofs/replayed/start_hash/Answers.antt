use Rattle.std.proofs.Common.{◌≡◌, ◌∙◌, Some, ap, subst, sym}
use Rattle.secure_log.specs.LogEntries.Chain.{IsAmong, zeros}
use Rattle.evidence_spec.specs.Base.{base_marks}
use Rattle.challenge.specs.KnownBases as bases
use Rattle.witness_spec.specs.Starting.{start_hash}
use Rattle.node_book.specs.Rows.{base_in, known_in}
use Rattle.node_book.proofs.Starts.{base_mark_is}
use Rattle.node_book.proofs.replayed.start_hash.Goals as goal

-- the base's hash at its number is the first of its marks there
pub returns-in-Some : goal.returns-in-Some
returns-in-Some c =
    let k = c.in-Some.base.value in
    let is : base_in c.args.base.now ≡ Some (known_in k) = ap base_in c.in-Some.is in
    let there = subst (λ (x : bases.KnownBase). IsAmong (x.at, c.hash.result) (base_marks (bases.parts_of x)))
    c.deref.ensures c.hash.ensures in
    base_mark_is (bases.parts_of k) k.at c.hash.result there ∙ sym (ap start_hash is)

-- without a base it is that before the first entry
pub returns-in-None : goal.returns-in-None
unfolding zeros
returns-in-None c = sym (ap start_hash (ap base_in c.in-None.is))
