use Rattle.std.proofs.Common.{◌≡◌, None, Some, ap, sym, ◌∙◌}
use Rattle.std.specs.Prelude.{option_map}
use Rattle.std.proofs.lemmas.Bool.{true≢false}
use Rattle.secure_log.specs.Marks.{mark_in}
use Rattle.witness_spec.specs.Pairs.{number_of}
use Rattle.witness_book_laws.specs.LookUps.{hash_shown}
use Rattle.node_book.specs.Rows.{book_in}
use Rattle.node_book.proofs.LookUps.{nothing_there, same_there, other_there}
use Rattle.node_book.proofs.rows.Rows.knows.Goals as goal

pub returns-in_default-clause-same : goal.returns-in_default-clause-same
returns-in_default-clause-same c =
    let a = c.args.authenticator.now in
    let b = book_in c.args.self.now in
    let shown : None ≡ hash_shown b (number_of b.log_version a) =
    ap (option_map mark_in) (sym c.in_default.is) ∙ c.mark_shown.ensures
    ∙ ap (hash_shown b) (c.get.ensures.value ∙ c.number-number.ensures) in
    (nothing_there b c.requires.ready c.requires.hidden (number_of b.log_version a) a.hash shown).0

pub returns-in_default-clause-another : goal.returns-in_default-clause-another
returns-in_default-clause-another c =
    let a = c.args.authenticator.now in
    let b = book_in c.args.self.now in
    let shown : None ≡ hash_shown b (number_of b.log_version a) =
    ap (option_map mark_in) (sym c.in_default.is) ∙ c.mark_shown.ensures
    ∙ ap (hash_shown b) (c.get.ensures.value ∙ c.number-number.ensures) in
    (nothing_there b c.requires.ready c.requires.hidden (number_of b.log_version a) a.hash shown).1

pub returns-then-is_same-clause-same : goal.returns-then-is_same-clause-same
returns-then-is_same-clause-same c =
    let a = c.args.authenticator.now in
    let b = book_in c.args.self.now in
    let shown : Some (mark_in c.in-Some.mark) ≡ hash_shown b (number_of b.log_version a) =
    ap (option_map mark_in) (sym c.in-Some.is) ∙ c.mark_shown.ensures
    ∙ ap (hash_shown b) (c.get.ensures.value ∙ c.number-number.ensures) in
    (same_there b c.requires.ready c.requires.hidden (number_of b.log_version a) a.hash (mark_in c.in-Some.mark) shown
    (sym (c.is_same.ensures.0 c.if-is_same.true))).0

pub returns-then-is_same-clause-another : goal.returns-then-is_same-clause-another
returns-then-is_same-clause-another c =
    let a = c.args.authenticator.now in
    let b = book_in c.args.self.now in
    let shown : Some (mark_in c.in-Some.mark) ≡ hash_shown b (number_of b.log_version a) =
    ap (option_map mark_in) (sym c.in-Some.is) ∙ c.mark_shown.ensures
    ∙ ap (hash_shown b) (c.get.ensures.value ∙ c.number-number.ensures) in
    (same_there b c.requires.ready c.requires.hidden (number_of b.log_version a) a.hash (mark_in c.in-Some.mark) shown
    (sym (c.is_same.ensures.0 c.if-is_same.true))).1

pub returns-else-is_same-clause-same : goal.returns-else-is_same-clause-same
returns-else-is_same-clause-same c =
    let a = c.args.authenticator.now in
    let b = book_in c.args.self.now in
    let shown : Some (mark_in c.in-Some.mark) ≡ hash_shown b (number_of b.log_version a) =
    ap (option_map mark_in) (sym c.in-Some.is) ∙ c.mark_shown.ensures
    ∙ ap (hash_shown b) (c.get.ensures.value ∙ c.number-number.ensures) in
    (other_there b c.requires.ready c.requires.hidden (number_of b.log_version a) a.hash (mark_in c.in-Some.mark) shown
    (λ same. true≢false (sym (c.is_same.ensures.1 (sym same)) ∙ c.if-is_same.false))).0

pub returns-else-is_same-clause-another : goal.returns-else-is_same-clause-another
returns-else-is_same-clause-another c =
    let a = c.args.authenticator.now in
    let b = book_in c.args.self.now in
    let shown : Some (mark_in c.in-Some.mark) ≡ hash_shown b (number_of b.log_version a) =
    ap (option_map mark_in) (sym c.in-Some.is) ∙ c.mark_shown.ensures
    ∙ ap (hash_shown b) (c.get.ensures.value ∙ c.number-number.ensures) in
    (other_there b c.requires.ready c.requires.hidden (number_of b.log_version a) a.hash (mark_in c.in-Some.mark) shown
    (λ same. true≢false (sym (c.is_same.ensures.1 (sym same)) ∙ c.if-is_same.false))).1
