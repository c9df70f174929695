use Rattle.std.proofs.Common.{◌≡◌, ◌++◌, List, ℕ, OnOk, ap, subst, ◌∙◌}
use Rattle.peer_calls.specs.Calls.{success_text}
use Rattle.peer_calls.specs.NodeRequests.{node_ask}
use Rattle.hosting.specs.Hosting.{Does}
use Rattle.hosting.proofs.Answered.{nothing_done, on_err}
use Rattle.hosting.proofs.host.add_answer.Goals as goal

pub returns-in_err-write_success-clause-refused : goal.returns-in_err-write_success-clause-refused
returns-in_err-write_success-clause-refused c =
    on_err c.from_residual.result
    (nothing_done c.args.server.now c.args.time (node_ask c.args.request.now))

-- the results stand after SUCCESS
pub returns-clause-done : goal.returns-clause-done
returns-clause-done c =
    let front : c.write_success.new.out.items ≡ success_text c.args.xid =
    c.in_ok-write_success.ensures ∙ ap (λ (xs : List ℕ). xs ++ success_text c.args.xid) c.requires.empty in
    subst (λ (xs : List ℕ). OnOk c.add_results.result ((results : List ℕ)
    × Does c.args.host.now c.args.server.now c.args.time (node_ask c.args.request.now) results c.add_results.new.server
    × (c.add_results.new.out.items ≡ xs ++ results)))
    front c.add_results.ensures.done
