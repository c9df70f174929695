use Rattle.std.proofs.Common.{◌≡◌, ◌≤◌, ℕ, List, length, map, Ok, sym, ap, subst, ◌∙◌, arith}
use Rattle.std.specs.FinMap.{entries}
use Rattle.std.specs.Ordering.{nat_cmp}
use Rattle.std.proofs.lemmas.Map.Entries.{length-keys_of}
use Rattle.xdr.specs.Item.{Fits, array}
use Rattle.state_spec.specs.Limits.{max_sends}
use Rattle.state_spec.specs.State.{SentMessage}
use Rattle.state_spec.specs.StateItems.{sent_item, sent_value}
use Rattle.state_spec.proofs.Forth.{entries_of_map}
use Rattle.state_spec.proofs.Worlds.{all_mapped}
use Rattle.file_texts.proofs.Arrays.{fits_counted}
use Rattle.state_machine.proofs.states.sends.Sends.are_bounded.Goals as goal

-- the count and each message are within their bounds
pub returns : goal.returns
returns c =
    let inside = c.self.inside.messages.entries in
    let seen : entries c.args.self.now ≡ inside =
    ap entries (sym c.self.view_is) ∙ entries_of_map nat_cmp inside c.self.invariant.rising in
    let few : length inside ≤ max_sends = omega (arith, length-keys_of inside, c.self.invariant.few) in
    subst (λ (es : List (ℕ × SentMessage)). Fits (array max_sends sent_item) (map sent_value es)) (sym seen)
    (fits_counted sent_item sent_value {E = Unit {0}} max_sends inside (Ok tt) (omega arith) few
    (all_mapped sent_value (Fits sent_item) inside c.self.invariant.bounded))
