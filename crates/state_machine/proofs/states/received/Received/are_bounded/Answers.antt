use Rattle.std.proofs.Common.{◌≡◌, List, map, Ok, sym, ap, subst, ◌∙◌, arith}
use Rattle.std.specs.FinMap.{keys}
use Rattle.xdr.specs.Item.{Fits, array}
use Rattle.state_spec.specs.Limits.{max_received}
use Rattle.state_spec.specs.State.{ReceivedMessage, received_cmp}
use Rattle.state_spec.specs.StateItems.{received_item, received_value}
use Rattle.state_spec.proofs.Forth.{keys_of_set}
use Rattle.state_spec.proofs.Worlds.{all_mapped}
use Rattle.file_texts.proofs.Arrays.{fits_counted}
use Rattle.state_machine.proofs.states.received.Received.are_bounded.Goals as goal

-- the count and each message are within their bounds
pub returns : goal.returns
returns c =
    let inside = c.self.inside.messages.keys in
    let seen : keys c.args.self.now ≡ inside = ap keys (sym c.self.view_is)
    ∙ keys_of_set received_cmp inside c.self.invariant.rising in
    subst (λ (ks : List ReceivedMessage). Fits (array max_received received_item) (map received_value ks))
    (sym seen)
    (fits_counted received_item received_value {E = Unit {0}} max_received inside (Ok tt)
    (omega arith) c.self.invariant.few
    (all_mapped received_value (Fits received_item) inside c.self.invariant.bounded))
