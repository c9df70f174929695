use Rattle.std.proofs.Common.{◌≡◌, ◌≤◌, ◌++◌, ℕ, List, map, length, sym, subst, ap, ◌∙◌, arith}
use Rattle.std.specs.Prelude.{OnOk}
use Rattle.std.specs.FinMap.{entries}
use Rattle.std.specs.Ordering.{nat_cmp}
use Rattle.std.proofs.lemmas.Map.Entries.{length-keys_of}
use Rattle.xdr.specs.Item.{Fits, array, spelling, number_spelling}
use Rattle.xdr.specs.Writing.{Adds}
use Rattle.state_spec.specs.State.{SentMessage}
use Rattle.state_spec.specs.StateItems.{sent_item, sent_value}
use Rattle.state_spec.proofs.Forth.{entries_of_map}
use Rattle.state_machine.specs.declared.states.sends.TheConstants.{MAX_SENDS}
use Rattle.file_texts.proofs.Arrays.{adds_counted, fits_counted}
use Rattle.state_machine.proofs.states.sends.Sends.add_to.Goals as goal

pub returns-clause-fits : goal.returns-clause-fits
returns-clause-fits c =
    let inside = c.self.inside.messages.entries in
    let seen : entries c.args.self.now ≡ inside =
    ap entries (sym c.self.view_is) ∙ entries_of_map nat_cmp inside c.self.invariant.rising in
    let count = length-keys_of inside in
    let few : length inside ≤ MAX_SENDS = omega (arith, count, c.self.invariant.few) in
    subst (λ (es : List (ℕ × SentMessage)). OnOk c.add_each.result
    (Fits (array MAX_SENDS sent_item) (map sent_value es))) (sym seen)
    (fits_counted sent_item sent_value MAX_SENDS inside c.add_each.result
    (omega arith) few c.add_each.ensures.fits)

pub returns-clause-text : goal.returns-clause-text
returns-clause-text c =
    let inside = c.self.inside.messages.entries in
    let seen : entries c.args.self.now ≡ inside =
    ap entries (sym c.self.view_is) ∙ entries_of_map nat_cmp inside c.self.invariant.rising in
    subst (λ (es : List (ℕ × SentMessage)). Adds
    (spelling (array MAX_SENDS sent_item) (map sent_value es)) c.args.out.now.items c.add_each.result
    c.add_each.new.out.items) (sym seen)
    (adds_counted sent_item sent_value MAX_SENDS inside c.args.out.now.items _ _ c.add_each.result
    (c.in_ok-put_u32.ensures.writes ∙ ap (λ n. c.args.out.now.items ++ number_spelling 4 n)
    c.len.ensures.len) c.add_each.ensures.text)
