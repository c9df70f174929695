use Rattle.std.proofs.Common.{rules, ap, ℕ, ◌∙◌, ◌==◌}
use Rattle.std.specs.Prelude.{not}
use Rattle.std.proofs.lemmas.Fn.{filter_same}
use Rattle.remote_sharing.specs.Clients.{ClientParts, without}
use Rattle.remote_sharing.proofs.client.SharedClient.end.Goals as goal

pub returns-clause-ended : goal.returns-clause-ended
returns-clause-ended c =
    filter_same _ (λ (n : ℕ). not (n == c.args.call.pending.number)) _ (λ x b f' k. search rules) _ _
    c.retain.ensures.filtered
    ∙ ap (λ (x : ClientParts). without c.args.call.pending.number x.waiting) c.self.view_is
