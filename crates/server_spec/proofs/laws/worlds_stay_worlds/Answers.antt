use Rattle.server_spec.proofs.Sizes.{fits_a_record}
use Rattle.server_spec.proofs.Staying.{stays}
use Rattle.server_spec.proofs.laws.worlds_stay_worlds.Goals as goal

pub returns-clause-stays : goal.returns-clause-stays
returns-clause-stays c =
    stays c.trees_stay_trees.ensures c.no_limit_is_passed.ensures c.answers_have_a_spelling.ensures.words
    c.calls_keep_the_files_they_do_not_name.ensures.node c.read_calls_are_bounded.ensures
    c.calls_are_bounded.ensures
    c.mounts_stay_mounts.ensures

pub returns-clause-short : goal.returns-clause-short
returns-clause-short c node w time bytes h = fits_a_record w h.tree h.mounts time bytes
