-- What a book tells is what is owed to a question.
-- Serves: books_tell, one_book_is_enough.
use Rattle.std.proofs.Common.{◌≡◌, ◌↔◌, Bool, cond, List, sym, ap}
use Rattle.std.proofs.Common.{map, ap₂, subst, ◌∙◌}
use Rattle.std.specs.Prelude.{is_some}
use Rattle.witness_spec.specs.Events.{Question, ItsIndication, ItsChallenges, ItsEvidence}
use Rattle.witness_spec.specs.Events as events
use Rattle.witness_spec.specs.Replies.{Reply, OpenList, EvidenceIs, Exposed, Challenge}
use Rattle.witness_spec.specs.Replies as replies
use Rattle.witness_spec.specs.Starting.{Beginning}
use Rattle.witness_spec.specs.Watched.{Watched, IsInRoster, IsWatchedFrom}
use Rattle.witness_spec.specs.Steps.{Ask, Past}
use Rattle.witness_spec.specs.Whose.{step_of}
use Rattle.witness_spec.specs.Standing.{is_exposed, without_evidence}
use Rattle.witness_spec.specs.Exposing.{evidence}
use Rattle.witness_spec.specs.Owing.{ask}
use Rattle.witness_spec.specs.Histories.{History, IsOwed, IsHistory, BookParts, StandsFor, own_of}
use Rattle.witness_spec.specs.Contract.{told_by}
use Rattle.witness_laws.proofs.Checked.{own_checked}
use Rattle.witness_laws.proofs.OwnSteps.{own_owed, same_replies}
use Rattle.witness_laws.proofs.OfAnswers.Answering.{only_reply}
use Rattle.witness_laws.proofs.OfEvidence.Told.{Told, Without, With, told}

-- evidence is there exactly where the node is exposed
there : (w : Watched) (past : Past) → Told w past
    → is_some (evidence w past) ≡ is_exposed w past
there w past (Without none e a) = ap is_some none ∙ sym e
there w past (With g is e good) = ap is_some is ∙ sym e

-- what a book tells that stands for own steps is what they say
tells : (w : Watched) (past : Past) (b : BookParts) (q : Question) → Told w past
    → StandsFor w past b → told_by b q ≡ ask w past q
tells w past b ItsIndication t s =
    ap₂ (λ (exposed : Bool) (xs : List Challenge). replies.Told (cond exposed Exposed (without_evidence xs)))
    (ap is_some s.evidence ∙ there w past t) s.challenges
tells w past b ItsChallenges t s = ap OpenList s.challenges
tells w past b ItsEvidence t s = ap EvidenceIs s.evidence

-- to a question about a member, what its book tells is owed, and nothing else
pub book_tells : (g : Beginning) (w : Watched) (b : BookParts) (history : History) (q : Question)
    (reply : Reply) → IsInRoster w → IsWatchedFrom g w → IsHistory g history
    → StandsFor w (own_of w history) b
    → IsOwed g history (events.Ask w.member.node q) reply ↔ (reply ≡ told_by b q)
book_tells g w b history q reply is from h s =
    let past : Past = own_of w history in
    only_reply g w history (events.Ask w.member.node q) (Ask q) (told_by b q) from
    (ap (λ x. step_of x (Ask q)) is.is_member)
    (λ out. out)
    (tells w past b q (told w past is (own_owed g w is from history h) (own_checked g w is from history h)) s)
    reply

-- after histories with the same steps of a member, its own steps are the same with their replies
same_own : (g h : Beginning) (w : Watched) (one two : History) → IsInRoster w → IsWatchedFrom g w
    → IsWatchedFrom h w → IsHistory g one → IsHistory h two
    → map (λ p. p.0) (own_of w one) ≡ map (λ p. p.0) (own_of w two)
    → own_of w one ≡ own_of w two
same_own g h w one two is from other k l same =
    same_replies w (own_of w one) (own_of w two) (own_owed g w is from one k)
    (own_owed h w is other two l) same

-- after such histories the same book stands
pub same_book : (g h : Beginning) (w : Watched) (one two : History) (b : BookParts)
    → IsInRoster w → IsWatchedFrom g w → IsWatchedFrom h w → IsHistory g one → IsHistory h two
    → map (λ p. p.0) (own_of w one) ≡ map (λ p. p.0) (own_of w two)
    → StandsFor w (own_of w one) b ↔ StandsFor w (own_of w two) b
same_book g h w one two b is from other k l same =
    let e = same_own g h w one two is from other k l same in
    (subst (λ x. StandsFor w x b) e, subst (λ x. StandsFor w x b) (sym e))

-- and books tell the same
pub tell_same : (g h : Beginning) (w : Watched) (one two : History) (b other : BookParts) (q : Question)
    → IsInRoster w → IsWatchedFrom g w → IsWatchedFrom h w → IsHistory g one → IsHistory h two
    → map (λ p. p.0) (own_of w one) ≡ map (λ p. p.0) (own_of w two)
    → StandsFor w (own_of w one) b → StandsFor w (own_of w two) other
    → told_by b q ≡ told_by other q
tell_same g h w one two b other q is from from_h k l same s t =
    tells w (own_of w one) b q
    (told w (own_of w one) is (own_owed g w is from one k) (own_checked g w is from one k)) s
    ∙ (ap (λ x. ask w x q) (same_own g h w one two is from from_h k l same)
    ∙ sym (tells w (own_of w two) other q
    (told w (own_of w two) is (own_owed h w is from_h two l) (own_checked h w is from_h two l)) t))
