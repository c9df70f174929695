use Rattle.std.proofs.Common.{[], sym, ◌∙◌, append-nil}
use Rattle.host_keys.specs.Beginnings.{begun_words}
use Rattle.host_keys.proofs.Steps.{none_some}
use Rattle.host_keys.proofs.begun.read_words.Goals as goal

pub returns-in_err-begun-clause-only : goal.returns-in_err-begun-clause-only
returns-in_err-begun-clause-only c b is e =
    let read = c.read_begun.ensures.only b [] is (e ∙ sym (append-nil (begun_words b))) in
    absurd (none_some c.in_err-begun.was read.0)
