use Rattle.std.proofs.Common.{◌≡◌, ◌++◌, List, map, sym, subst, ap, ◌∙◌, arith}
use Rattle.std.specs.Prelude.{OnOk}
use Rattle.std.specs.FinMap.{keys}
use Rattle.xdr.specs.Item.{Fits, array, spelling, number_spelling}
use Rattle.xdr.specs.Writing.{Adds}
use Rattle.state_spec.specs.State.{ReceivedMessage, received_cmp}
use Rattle.state_spec.specs.StateItems.{received_item, received_value}
use Rattle.state_spec.proofs.Forth.{keys_of_set}
use Rattle.state_machine.specs.declared.states.received.TheConstants.{MAX_RECEIVED}
use Rattle.file_texts.proofs.Arrays.{adds_counted, fits_counted}
use Rattle.state_machine.proofs.states.received.Received.add_to.Goals as goal

pub returns-clause-fits : goal.returns-clause-fits
returns-clause-fits c =
    let seen : keys c.args.self.now ≡ c.self.inside.messages.keys =
    ap keys (sym c.self.view_is) ∙ keys_of_set received_cmp c.self.inside.messages.keys
    c.self.invariant.rising in
    subst (λ (ks : List ReceivedMessage). OnOk c.add_each.result
    (Fits (array MAX_RECEIVED received_item) (map received_value ks))) (sym seen)
    (fits_counted received_item received_value MAX_RECEIVED c.self.inside.messages.keys c.add_each.result
    (omega arith) c.self.invariant.few c.add_each.ensures.fits)

pub returns-clause-text : goal.returns-clause-text
returns-clause-text c =
    let seen : keys c.args.self.now ≡ c.self.inside.messages.keys =
    ap keys (sym c.self.view_is) ∙ keys_of_set received_cmp c.self.inside.messages.keys
    c.self.invariant.rising in
    subst (λ (ks : List ReceivedMessage). Adds
    (spelling (array MAX_RECEIVED received_item) (map received_value ks)) c.args.out.now.items
    c.add_each.result c.add_each.new.out.items) (sym seen)
    (adds_counted received_item received_value MAX_RECEIVED c.self.inside.messages.keys c.args.out.now.items _
    _ c.add_each.result (c.in_ok-put_u32.ensures.writes
    ∙ ap (λ n. c.args.out.now.items ++ number_spelling 4 n) c.len.ensures.len)
    c.add_each.ensures.text)
