use Rattle.assurance.proofs.Passing.{told}
use Rattle.assurance.proofs.replies.Replies.note_told.Goals as goal

pub returns : goal.returns
returns c = λ p s.
    told c.args.server p c.args.told.is_exposed c.args.told.end _ (c.tell.ensures _ (c.ask.ensures _ s.assurance))
    s.acknowledged
