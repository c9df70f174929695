use Rattle.std.proofs.Common.{◌≡◌, ◌∙◌, List, Some, ap, subst, sym, ℕ}
use Rattle.std.specs.Prelude.{◌↔◌, option_map}
use Rattle.secure_log.specs.LogEntries.Chain.{IsAmong}
use Rattle.secure_log.specs.Marks.{mark_in}
use Rattle.evidence_spec.specs.Base.{base_marks}
use Rattle.challenge.specs.KnownBases as bases
use Rattle.witness_book_laws.specs.LookUps.{base_mark_at}
use Rattle.node_book.specs.Rows.{base_in, known_in}
use Rattle.node_book.proofs.Starts.{is_first}
use Rattle.node_book.proofs.looking.base_mark.Goals as goal

-- the base's mark is the first of its marks there
pub returns-in-Some : goal.returns-in-Some
returns-in-Some c =
    let k = c.in-Some.base.value in
    let n = c.args.number in
    let is : base_in c.args.base.now ≡ Some (known_in k) = ap base_in c.in-Some.is in
    let exact : (mark : List ℕ) → (option_map mark_in c.mark_at.result ≡ Some mark)
    ↔ IsAmong (n, mark) (base_marks (bases.parts_of k)) =
    λ mark. subst (λ (x : bases.KnownBase). (option_map mark_in c.mark_at.result ≡ Some mark)
    ↔ IsAmong (n, mark) (base_marks (bases.parts_of x))) c.deref.ensures (c.mark_at.ensures mark) in
    is_first n (base_marks (bases.parts_of k)) (option_map mark_in c.mark_at.result) exact
    ∙ sym (ap (λ b. base_mark_at b n) is)
