use Rattle.file_tree.proofs.MissingDigests.{more_kept}
use Rattle.file_tree.proofs.tree.Tree.renew_digests.Goals as goal

pub returns-clause-stay : goal.returns-clause-stay
returns-clause-stay c =
    rw (← c.self.view_is) (more_kept c.self.inside.table c.self.inside.digests c.renew.new.self
    c.renew.ensures.stay)
