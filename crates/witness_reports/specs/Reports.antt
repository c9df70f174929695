-- What a witness says of each member in the end.
use Rattle.std.specs.Prelude.{◌≡◌, ℕ, List, [], ◌∷◌, length, map, take, drop, option_map}
use Rattle.std.specs.Arc.{arc_value}
use Rattle.authenticator.specs.declared.member.Member.{Member}
use Rattle.node_book.specs.Replies.{indication_in}
use Rattle.node_book.specs.witness_spec.Events.{Event, Ask, ItsIndication, ItsChallenges, ItsEvidence}
use Rattle.node_book.specs.witness_spec.Replies.{Reply, Challenge, Told, OpenList, EvidenceIs}
use Rattle.witness_reports.specs.declared.report.NodeReport.{NodeReport}

-- The places are the answers of which a report is made: the node's failure indication, its open challenges,
-- and the evidence against it.
pub record AreAnswers (r : NodeReport) (places : List (Event × Reply)) : Type 0 where
  pub listed : List Challenge
  pub count : length listed ≡ r.challenges
  pub are : places ≡ (Ask r.node ItsIndication, Told (indication_in r.indication))
      ∷ (Ask r.node ItsChallenges, OpenList listed)
      ∷ (Ask r.node ItsEvidence, EvidenceIs (option_map arc_value r.evidence)) ∷ []

-- The reply lists so many open challenges.
pub record ListsSoMany (n : ℕ) (reply : Reply) : Type 0 where
  pub listed : List Challenge
  pub count : length listed ≡ n
  pub is : reply ≡ OpenList listed

-- The places are the answers of which these reports are made, three places for each, and no others.
abbrev pub AreAnswersOf : List NodeReport → List (Event × Reply) → Type 0
AreAnswersOf [] places = places ≡ []
AreAnswersOf (r ∷ rs) places = AreAnswers r (take 3 places) × AreAnswersOf rs (drop 3 places)

-- The last places of a journal, from some place on, are the answers of which the reports are made, one report
-- for each member in the roster's order.
pub record EndsWith (ms : List Member) (places : List (Event × Reply)) (rs : List NodeReport) : Type 0 where
  pub start : ℕ
  pub answers : AreAnswersOf rs (drop start places)
  pub nodes : map (λ r. r.node) rs ≡ map (λ m. m.node) ms
