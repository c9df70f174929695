use Rattle.std.proofs.Common.{◌≡◌, ◌<◌, arith, length, ap, ◌∙◌, option_map}
use Rattle.std.specs.List.{position_or_len, before_first, after_first}
use Rattle.command_line.specs.Lists.{items_of, items_left, left_of}
use Rattle.command_line.proofs.Items.{is_comma, more_items, one_item}
use Rattle.command_line.proofs.lists.Items.next.Goals as goal

pub returns-in-Some : goal.returns-in-Some
returns-in-Some c =
    let at : (c.in-Some.item.now ≡ before_first is_comma c.in_ok-rest.rest.now)
    × (c.in-Some.more.now ≡ after_first is_comma c.in_ok-rest.rest.now)
    × (position_or_len is_comma c.in_ok-rest.rest.now < length c.in_ok-rest.rest.now) =
    c.in-Some.ensures.byte (omega arith) (λ w o f. f) in
    let first : left_of c.args.self.now
    ≡ items_of c.in_ok-rest.rest.now = ap (λ o. items_left (option_map
    (λ s. s.now) o)) c.in_ok-rest.was in
    let split = more_items c.in_ok-rest.rest.now at.2 in cc

pub returns-in-None : goal.returns-in-None
returns-in-None c =
    let at : position_or_len is_comma c.in_ok-rest.rest.now ≡ length c.in_ok-rest.rest.now =
    c.in-None.ensures.byte (omega arith) (λ w o f. f) in
    let first : left_of c.args.self.now
    ≡ items_of c.in_ok-rest.rest.now = ap (λ o. items_left (option_map
    (λ s. s.now) o)) c.in_ok-rest.was in
    first ∙ one_item c.in_ok-rest.rest.now at
