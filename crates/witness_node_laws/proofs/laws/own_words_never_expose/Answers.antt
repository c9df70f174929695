use Rattle.std.proofs.Common.{◌∷◌}
use Rattle.node_logs.specs.replay_spec.Opening.{opening_of}
use Rattle.witness_laws.specs.witness_spec.Histories.{own_of}
use Rattle.witness_laws.specs.witness_spec.Watched.{watched}
use Rattle.witness_node_laws.proofs.Own.{unforged, unlike_texts}
use Rattle.witness_node_laws.proofs.laws.own_words_never_expose.Goals as goal

-- all that was shown is of one log, which has one pair for each place
pub returns : goal.returns
returns c = λ plain g m history roster unbased listed member h all unlike.
    let n = c.args.node.now in
    let w = watched g m in
    let past = own_of w history in
    let each = c.a_log_has_one_pair_for_each_place.ensures.each in
    let of_log = c.what_a_sender_shows_is_of_its_log.ensures.authenticator in
    c.a_node_is_never_exposed.ensures plain g m history roster listed member h
    (unforged each of_log n w listed.key.version past unbased all)
    (λ log. unlike_texts each of_log n w (opening_of m ∷ log.states) past unbased all unlike)
