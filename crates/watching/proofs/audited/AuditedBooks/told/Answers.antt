use Rattle.std.proofs.Common.{refl, rules, map, ap, ◌∙◌}
use Rattle.std.proofs.lemmas.List.{length-map}
use Rattle.witness_books.specs.node_book.Replies.{challenge_in}
use Rattle.witness_books.specs.Books.{BooksParts}
use Rattle.watching.specs.BaseGiving.{began_from}
use Rattle.watching.proofs.OfAsking.{asked_nothing, asked_more}
use Rattle.watching.proofs.OfTelling.{tells_is}
use Rattle.watching.proofs.audited.AuditedBooks.told.Goals as goal

pub returns-then-is_none-clause-asked : goal.returns-then-is_none-clause-asked
returns-then-is_none-clause-asked c = asked_nothing c.args.self.now c.args.self.now _ refl

pub returns-in_err-challenges-clause-asked : goal.returns-in_err-challenges-clause-asked
returns-in_err-challenges-clause-asked c =
    asked_more c.args.self.now c.indication.new.self c.challenges.new.self _
    c.in_ok-indication.ensures.beginning c.in_ok-indication.ensures.asked
    c.in_err-challenges.ensures.asked

pub returns-in-Some-clause-told : goal.returns-in-Some-clause-told
returns-in-Some-clause-told c =
    let told = c.in_ok-indication.ensures in
    let listed = c.in_ok-challenges.ensures in
    tells_is c.args.self.now c.indication.new.self c.challenges.new.self _
    (map challenge_in c.in_ok-challenges.field-0.items) c.end.result told.told
    told.beginning listed.lists listed.beginning (length-map _ _ ∙ search rules)
    (c.began_from-from.ensures ∙ ap (λ (b : BooksParts). began_from b c.args.node) c.books.ensures)
    c.end.ensures c.in-Some.is

pub returns-in-Some-clause-asked : goal.returns-in-Some-clause-asked
returns-in-Some-clause-asked c =
    asked_more c.args.self.now c.indication.new.self c.challenges.new.self _
    c.in_ok-indication.ensures.beginning c.in_ok-indication.ensures.asked
    c.in_ok-challenges.ensures.asked

pub returns-in-None-clause-asked : goal.returns-in-None-clause-asked
returns-in-None-clause-asked c =
    asked_more c.args.self.now c.indication.new.self c.challenges.new.self _
    c.in_ok-indication.ensures.beginning c.in_ok-indication.ensures.asked
    c.in_ok-challenges.ensures.asked
