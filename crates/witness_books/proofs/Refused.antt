-- A refused step leaves the books.
-- Serves: Books::step, Books::noted_step.
use Rattle.std.proofs.Common.{◌≡◌, inl, inr, ℕ, true, true≢false, List}
use Rattle.std.proofs.Common.{Option, Some, None, refl, sym, ap, ◌∙◌}
use Rattle.authenticator.specs.declared.member.Member.{Member}
use Rattle.node_book.specs.witness_spec.Replies.{Reply, Noted, Already, Opened, Accepted, Closed, Asked, Job}
use Rattle.node_book.specs.witness_spec.Replies.{Filed}
use Rattle.node_book.specs.witness_spec.Replies.{Returned, Forwarded, Empty, Told, OpenList, EvidenceIs}
use Rattle.node_book.specs.witness_spec.Replies.{Refused, FileRefused, PutBackRefused}
use Rattle.node_book.specs.witness_spec.Steps as steps
use Rattle.node_book.specs.witness_book_laws.Books.{Book}
use Rattle.node_book.specs.witness_book_laws.Going.{book_after}
use Rattle.node_book.specs.witness_book_laws.Together.{with_book_at}
use Rattle.node_book.specs.witness_spec.Events.{JobParts}
use Rattle.node_book.specs.Replies.{reply_in}
use Rattle.node_book.specs.Stepping.{Steps, NotedSteps}
use Rattle.node_book.specs.declared.reply.ReplyOf.{ReplyOf}
use Rattle.witness_books.specs.Books.{is_refusal}
use Rattle.witness_books.specs.Places.{OneDoes}
use Rattle.witness_books.proofs.Stepping.{with_same}

-- a refused step leaves the book
refused_stays : (b : Book) (step : steps.Step) (reply : Reply) → is_refusal reply ≡ true
    → book_after b step reply ≡ b
refused_stays b (steps.Learn a) (Refused f) is = refl
refused_stays b (steps.Learn a) (FileRefused f x) is = refl
refused_stays b (steps.Learn a) (PutBackRefused f x) is = refl
refused_stays b (steps.SendChallenge e) (Refused f) is = refl
refused_stays b (steps.SendChallenge e) (FileRefused f x) is = refl
refused_stays b (steps.SendChallenge e) (PutBackRefused f x) is = refl
refused_stays b (steps.Answer c) (Refused f) is = refl
refused_stays b (steps.Answer c) (FileRefused f x) is = refl
refused_stays b (steps.Answer c) (PutBackRefused f x) is = refl
refused_stays b (steps.AckIn a) (Refused f) is = refl
refused_stays b (steps.AckIn a) (FileRefused f x) is = refl
refused_stays b (steps.AckIn a) (PutBackRefused f x) is = refl
refused_stays b steps.Audit (Refused f) is = refl
refused_stays b steps.Audit (FileRefused f x) is = refl
refused_stays b steps.Audit (PutBackRefused f x) is = refl
refused_stays b steps.Begin (Refused f) is = refl
refused_stays b steps.Begin (FileRefused f x) is = refl
refused_stays b steps.Begin (PutBackRefused f x) is = refl
refused_stays b (steps.File d) (Refused f) is = refl
refused_stays b (steps.File d) (FileRefused f x) is = refl
refused_stays b (steps.File d) (PutBackRefused f x) is = refl
refused_stays b (steps.PutBack j) (Refused f) is = refl
refused_stays b (steps.PutBack j) (FileRefused f x) is = refl
refused_stays b (steps.PutBack j) (PutBackRefused f x) is = refl
refused_stays b steps.Forward (Refused f) is = refl
refused_stays b steps.Forward (FileRefused f x) is = refl
refused_stays b steps.Forward (PutBackRefused f x) is = refl
refused_stays b (steps.Ask question) (Refused f) is = refl
refused_stays b (steps.Ask question) (FileRefused f x) is = refl
refused_stays b (steps.Ask question) (PutBackRefused f x) is = refl
refused_stays b step Noted is = absurd (true≢false (sym is))
refused_stays b step Already is = absurd (true≢false (sym is))
refused_stays b step Opened is = absurd (true≢false (sym is))
refused_stays b step Accepted is = absurd (true≢false (sym is))
refused_stays b step Closed is = absurd (true≢false (sym is))
refused_stays b step (Asked first last) is = absurd (true≢false (sym is))
refused_stays b step (Job j) is = absurd (true≢false (sym is))
refused_stays b step Filed is = absurd (true≢false (sym is))
refused_stays b step Returned is = absurd (true≢false (sym is))
refused_stays b step (Forwarded a) is = absurd (true≢false (sym is))
refused_stays b step Empty is = absurd (true≢false (sym is))
refused_stays b step (Told i) is = absurd (true≢false (sym is))
refused_stays b step (OpenList cs) is = absurd (true≢false (sym is))
refused_stays b step (EvidenceIs e) is = absurd (true≢false (sym is))

-- so does a step for which memory ran out
one_stays : (b after : Book) (step : steps.Step) (reply : Reply) → is_refusal reply ≡ true
    → Steps b step reply after → after ≡ b
one_stays b after step reply refused (inl made) = made.after ∙ refused_stays b step reply refused
one_stays b after step reply refused (inr out) = out.1.stays

-- so does a step of which notes were made
one_noted_stays : (b after : Book) (step : steps.Step) (reply : ReplyOf JobParts JobParts)
    (notes : Option (ReplyOf JobParts JobParts × ReplyOf JobParts JobParts))
    → is_refusal (reply_in reply) ≡ true
    → NotedSteps b step reply notes after → after ≡ b
one_noted_stays b after step reply None refused out = out.stays
one_noted_stays b after step reply (Some notes) refused made =
    made.2.after ∙ refused_stays b step (reply_in reply) refused

-- where one book stays, all books do
as_one : (ms : List Member) (node : ℕ) (old new : List Book) (Does : Book → Book → Type 0)
    → (one : OneDoes ms node old Does new) → one.after ≡ one.book → new ≡ old
as_one ms node old new Does one stays =
    one.are ∙ (ap (λ b. with_book_at ms node b old) stays ∙ with_same ms node old one.book one.there)

-- where one book makes a refused step, all books stay
pub all_stay : (ms : List Member) (node : ℕ) (old new : List Book) (step : steps.Step) (reply : Reply)
    → OneDoes ms node old (λ b after. Steps b step reply after) new → is_refusal reply ≡ true → new ≡ old
all_stay ms node old new step reply one refused =
    as_one ms node old new (λ b after. Steps b step reply after) one
    (one_stays one.book one.after step reply refused one.does)

-- the same where notes were made
pub all_stay_noted : (ms : List Member) (node : ℕ) (old new : List Book) (step : steps.Step)
    (reply : ReplyOf JobParts JobParts)
    (notes : Option (ReplyOf JobParts JobParts × ReplyOf JobParts JobParts))
    → OneDoes ms node old (λ b after. NotedSteps b step reply notes after) new
    → is_refusal (reply_in reply) ≡ true → new ≡ old
all_stay_noted ms node old new step reply notes one refused =
    as_one ms node old new (λ b after. NotedSteps b step reply notes after) one
    (one_noted_stays one.book one.after step reply notes refused one.does)
